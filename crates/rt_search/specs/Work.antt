-- What a search and a count do: the nodes that they open, and the checks that they make.
use Rattle.std.specs.Prelude.{◌≡◌, ℕ, zero, suc, ◌+◌, ◌-◌, ◌%◌, ◌^◌, ◌==◌, nat_le, Bool, true, false, ◌&&◌, if◌then◌else◌}
use Rattle.std.specs.Prelude.{Option, Some, None, List, length, slice_get}
use Rattle.std.specs.List.{sum_by}
use Rattle.std.specs.Option.{option_and_then, option_map, option_map_or}
use Rattle.rt_geo.specs.Laws.{Extent, Meaning}
use Rattle.rt_geo.specs.declared.geometry.Info.{Info}
use Rattle.rt_geo.specs.declared.geometry.Verdict.{Verdict}
use Rattle.rt_geo.specs.declared.geometry.Within.{Within}
use Rattle.rt_geo.specs.declared.geometry.Within.TheVariants.{Not, Partly}
use Rattle.rt_tree.specs.Packed.{Packed, child_nodes, extent_of_node, height, root_of}
use Rattle.rt_tree.specs.declared.tree.Node.{Node}
use Rattle.rt_search.specs.Answers.{Answer, answers}

-- ---- what is checked

-- the root isn't checked: it counts as PARTLY, with the score 0
abbrev pub root_verdict : Verdict
root_verdict = record { within = Partly; score = 0 }

-- the argument of the check of a child of a node that has this verdict
abbrev pub info_under : (top : ℕ) → (parent : Verdict) → Extent → (level : ℕ) → Info
info_under top parent extent level = record {
  bounds = extent.bounds;
  layers = extent.layers;
  level = level;
  top = top;
  parent_within = parent.within;
  parent_score = parent.score;
}

-- about a node
abbrev pub info_of_node : Packed → (parent : Verdict) → Node → Info
info_of_node t parent n = info_under (root_of t).level parent (extent_of_node n) n.level

-- ---- the nodes that are opened

-- what is reached from an opened node with this verdict and `below` levels of nodes below it: its cost, plus the sum of
-- reached over the child nodes whose verdict passes the test. If each node costs one and the test is that of a search, that
-- is: one, plus the sum of reached over the child nodes whose verdict isn't NOT and whose score is at most the bound
abbrev pub reached : (opens : Verdict → Bool) → (cost : Node → ℕ) → Meaning → Packed → (below : ℕ) → Verdict → Node → ℕ
reached opens cost meaning t zero of_node n = cost n
reached opens cost meaning t (suc below) of_node n =
    cost n + sum_by (λ child. let of_child = meaning.verdict (info_of_node t of_node child) in
    if opens of_child then reached opens cost meaning t below of_child child else 0) (child_nodes t n)

-- the same from the root, which is opened where there is one
abbrev pub reached_from_root : (opens : Verdict → Bool) → (cost : Node → ℕ) → Meaning → Packed → ℕ
reached_from_root opens cost meaning t =
    if length t.nodes == 0 then 0 else reached opens cost meaning t (height t) root_verdict (root_of t)

-- what opening a node costs in nodes
abbrev pub one_node : Node → ℕ
one_node n = 1

-- what it costs in checks: each child is checked
abbrev pub its_children : Node → ℕ
its_children n = n.count

-- ---- by a search

-- a state other than NOT
abbrev pub is_kept : Within → Bool
is_kept Not = false
is_kept other = true

-- a search opens what isn't NOT and scores at most the bound, if there is one
abbrev pub is_reached : (bound : Option ℕ) → Verdict → Bool
is_reached bound v = is_kept v.within && option_map_or (nat_le v.score) bound true

-- the score of the last answer up to the limit: no bound if all are needed, or if fewer are found
abbrev pub last_score : List Answer → (limit : Option ℕ) → Option ℕ
last_score found limit = option_and_then (λ limit. option_map (λ a. a.1) (slice_get found (limit - 1))) limit

-- the sum of a cost over the nodes that a search up to a limit opens: those that score at most as the last answer, or all
-- if there is no limit. For no answer none is opened
abbrev pub search_work : (cost : Node → ℕ) → Meaning → Packed → (limit : Option ℕ) → ℕ
search_work cost meaning t (Some zero) = 0
search_work cost meaning t limit =
    reached_from_root (is_reached (last_score (answers t.entries meaning None) limit)) cost meaning t

-- the number of nodes that a search up to a limit opens
abbrev pub opened_by_search : Meaning → Packed → (limit : Option ℕ) → ℕ
opened_by_search = search_work one_node

-- as many nodes were opened and as many checks made as a search up to this limit needs
pub record HasWorked (meaning : Meaning) (t : Packed) (limit : Option ℕ) (opened asked : ℕ) : Type 0 where
  pub in_nodes : opened ≡ opened_by_search meaning t limit
  pub in_checks : asked ≡ search_work its_children meaning t limit

-- ---- by a count

-- the state PARTLY
abbrev pub is_partly : Within → Bool
is_partly Partly = true
is_partly other = false

-- a count opens what is PARTLY
abbrev pub is_divided : Verdict → Bool
is_divided v = is_partly v.within

-- how many nodes a count opens: the root, and each node that is PARTLY under an opened one
abbrev pub opened_by_count : Meaning → Packed → ℕ
opened_by_count = reached_from_root is_divided one_node

-- how many checks it makes
abbrev pub asked_by_count : Meaning → Packed → ℕ
asked_by_count = reached_from_root is_divided its_children

-- ---- by one search or count after the other

-- a 64-bit total rose by `so_many`; beyond its range it wrapped
abbrev pub CountsOn : (old : ℕ) → (so_many : ℕ) → (new : ℕ) → Type 0
CountsOn old so_many new = new % 2 ^ 64 ≡ (old + so_many) % 2 ^ 64
