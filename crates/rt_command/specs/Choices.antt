-- The settings of a run.
use Rattle.std.specs.Prelude.{ℕ, Bool}
use Rattle.std.specs.Int.{IsInRange}
use Rattle.rt_tree.specs.Entries.{most_entries}

-- whether the table's first record is a header, how many children a node may have, how many entries a table may have
pub record Choices : Type 0 where
  pub header : Bool
  pub fanout : ℕ
  pub max_entries : ℕ

-- the least and the greatest number of children that a node may have
abbrev pub least_fanout : ℕ
least_fanout = 2

abbrev pub greatest_fanout : ℕ
greatest_fanout = 64

-- the settings are in their ranges
pub record AreAllowed (choices : Choices) : Type 0 where
  pub fanout : IsInRange least_fanout greatest_fanout choices.fanout
  pub max_entries : IsInRange 1 most_entries choices.max_entries
