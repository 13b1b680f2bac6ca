-- The sizes of the levels of a packed tree.
use Rattle.std.specs.Prelude.{ℕ, zero, suc, nat_le, if◌then◌else◌, List, [], ◌∷◌, ◌++◌, replicate}
use Rattle.std.specs.Int.{div_ceil}

-- the sizes of the levels above one of this size: each time the last size divided by the fanout and rounded up, at least
-- once, until this gives 1. The fuel is a bound on their number, and the size is enough of it
abbrev pub sizes_above : (fuel fanout size : ℕ) → List ℕ
sizes_above zero fanout size = []
sizes_above (suc fuel) fanout size =
    let above = div_ceil size fanout in above ∷ (if nat_le above 1 then [] else sizes_above fuel fanout above)

-- the sizes of the levels of a tree of `len` entries, from the entries up to the root
abbrev pub level_sizes : (len fanout : ℕ) → List ℕ
level_sizes zero fanout = 0 ∷ []
level_sizes (suc n) fanout = suc n ∷ sizes_above (suc n) fanout (suc n)

-- a level for each of its nodes, from one level on
abbrev pub level_by_level : (level : ℕ) → (sizes : List ℕ) → List ℕ
level_by_level level [] = []
level_by_level level (size ∷ sizes) = replicate size level ++ level_by_level (suc level) sizes
