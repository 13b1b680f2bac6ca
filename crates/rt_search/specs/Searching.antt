-- A frontier and a search, as their callers see them.
use Rattle.std.specs.Prelude.{ℕ, Option, List}
use Rattle.rt_tree.specs.Packed.{Packed}
use Rattle.rt_search.specs.Answers.{Answer}
use Rattle.rt_search.specs.declared.item.Item.{Item}

-- what waits in a frontier, in the order in which it is taken out, how many items fit, and how many nodes were opened
-- by all searches and counts that worked in it, as far as 64 bits count
pub record Workspace : Type 0 where
  pub items : List Item
  pub capacity : ℕ
  pub opened : ℕ

-- what is searched and for what, how many answers are needed, if not all, those still to come, and how many were given;
-- the nodes opened and the checks made so far, the capacity of the frontier, and how many nodes were opened in it before
pub record Searching (G : Type 0) : Type 0 where
  pub tree : Packed
  pub geometry : G
  pub limit : Option ℕ
  pub to_come : List Answer
  pub given : ℕ
  pub opened : ℕ
  pub asked : ℕ
  pub capacity : ℕ
  pub opened_before : ℕ
