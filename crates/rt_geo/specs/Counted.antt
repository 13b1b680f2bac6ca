-- What contracts see of a geometry that counts its checks.
use Rattle.std.specs.Prelude.{ℕ}

-- a geometry, and the number of its checks
pub record Tally (G : Type 0) : Type 0 where
  pub geometry : G
  pub asked : ℕ
