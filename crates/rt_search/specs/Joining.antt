-- What opening a node leaves in the queue. Nothing that a public call promises speaks of this.
use Rattle.std.specs.Prelude.{◌≡◌, ◌+◌, ◌-◌, ◌==◌, ℕ, zero, suc, pos, false, if◌then◌else◌, List, [], ◌∷◌}
use Rattle.std.specs.Prelude.{length, map}
use Rattle.rt_geo.specs.Laws.{extent_of_entry, Meaning}
use Rattle.rt_geo.specs.declared.entry.Entry.{Entry}
use Rattle.rt_geo.specs.declared.geometry.Info.{Info}
use Rattle.rt_geo.specs.declared.geometry.Verdict.{Verdict}
use Rattle.rt_tree.specs.Packed.{Packed, no_box, node_at, root_of}
use Rattle.rt_tree.specs.Sorting.{put}
use Rattle.rt_tree.specs.declared.tree.Node.{Node}
use Rattle.rt_search.specs.Answers.{Answer}
use Rattle.rt_search.specs.Items.{Gathered, item_at, item_cmp, item_of}
use Rattle.rt_search.specs.Remaining.{put_all, waiting_node}
use Rattle.rt_search.specs.Work.{info_of_node, info_under, is_kept}
use Rattle.rt_search.specs.declared.item.Item.{Item}
use Rattle.rt_search.specs.declared.item.Place.TheVariants as place
use Rattle.rt_search.specs.declared.item.WaitingNode.{WaitingNode}

-- the argument of the check of an entry whose parent has this verdict
abbrev pub info_of_child : Packed → (parent : Verdict) → Entry → Info
info_of_child t parent e = info_under (root_of t).level parent (extent_of_entry e) 0

-- the entries of answers join
abbrev pub join_answers : List Answer → List Item → List Item
join_answers answers items = put_all item_cmp (map item_of answers) items

-- the entry of an answer joined the hits
pub record KeepsHit (old : Gathered) (a : Answer) (new : Gathered) : Type 0 where
  pub items : new.items ≡ put item_cmp (item_of a) old.items
  pub sorted : new.is_sorted ≡ old.is_sorted
  pub capacity : new.capacity ≡ old.capacity

-- a node joins, unless it is NOT
abbrev pub join_node : Verdict → (number : ℕ) → List Item → List Item
join_node v number items =
    if is_kept v.within then put item_cmp (item_at v.score (place.Node (waiting_node number v.within))) items else items

-- an entry that no tree holds
abbrev pub no_entry : Entry
no_entry = record { id = pos 0; bounds = no_box; layer = 0 }

-- the first children, `so_many` of them, of a node above level 1 join
abbrev pub join_nodes : Meaning → Packed → Verdict → Node → (so_many : ℕ) → List Item → List Item
join_nodes meaning t of_node n zero items = items
join_nodes meaning t of_node n (suc i) items =
    join_node (meaning.verdict (info_of_node t of_node (node_at t (n.first + i)))) (n.first + i)
    (join_nodes meaning t of_node n i items)

-- ---- the root, which waits

-- the last of a number of nodes
abbrev pub root_node : (nodes : ℕ) → WaitingNode
root_node nodes = record { number = record { number = nodes - 1 }; is_full = false }

abbrev pub root_item : Packed → Item
root_item t = item_at 0 (place.Node (root_node (length t.nodes)))

-- what waits at first: the root, if there is one
abbrev pub root_items : Packed → List Item
root_items t = if length t.nodes == 0 then [] else root_item t ∷ []
