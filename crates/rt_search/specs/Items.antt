-- What waits in a queue, and in which order it is taken out. No public contract cites it.
use Rattle.std.specs.Prelude.{Bool, ℕ, Option, List}
use Rattle.std.specs.Ordering.{bool_cmp, int_cmp, nat_cmp, on, then_cmp}
use Rattle.std.specs.declared.cmp.Ordering.{Ordering}
use Rattle.std.specs.declared.cmp.Ordering.TheVariants.{Less, Greater}
use Rattle.rt_search.specs.Answers.{Answer}
use Rattle.rt_search.specs.declared.item.Item.{Item}
use Rattle.rt_search.specs.declared.item.Place.{Place}
use Rattle.rt_search.specs.declared.item.Place.TheVariants.{Node, Entry}
use Rattle.rt_search.specs.declared.item.WaitingNode.{WaitingNode}

abbrev pub item_at : (score : ℕ) → Place → Item
item_at score where_it_is = record { score = score; place = where_it_is }

-- an answer, as its entry
abbrev pub item_of : Answer → Item
item_of a = item_at a.1 (Entry a.0)

-- nodes by number
abbrev pub node_cmp : WaitingNode → WaitingNode → Ordering
node_cmp = then_cmp (on (λ n. n.number.number) nat_cmp) (on (λ n. n.is_full) bool_cmp)

-- nodes before entries, nodes by number and entries by id
abbrev pub place_cmp : Place → Place → Ordering
place_cmp (Node m) (Node n) = node_cmp m n
place_cmp (Node m) (Entry j) = Less
place_cmp (Entry i) (Node n) = Greater
place_cmp (Entry i) (Entry j) = int_cmp i j

-- the lowest score first; at equal score nodes before entries
abbrev pub item_cmp : Item → Item → Ordering
item_cmp = then_cmp (on (λ x. x.score) nat_cmp) (on (λ x. x.place) place_cmp)

-- what waits, in the order in which it is taken out, and how many items fit
pub record Waiting : Type 0 where
  pub items : List Item
  pub capacity : ℕ

-- and how many entries are still needed, if that is known: items behind that many entries needn't be kept
pub record Limited : Type 0 where
  pub items : List Item
  pub needed : Option ℕ
  pub capacity : ℕ

-- what was found, and whether it is in order already, so that nothing more may join
pub record Gathered : Type 0 where
  pub items : List Item
  pub is_sorted : Bool
  pub capacity : ℕ
