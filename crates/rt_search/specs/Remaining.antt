-- What the items of a queue stand for. Nothing that a public call promises speaks of this.
use Rattle.std.specs.Prelude.{◌≡◌, ◌-◌, ◌<◌, ◌≤◌, ℕ, Bool, true, false, if◌then◌else◌, List, [], ◌∷◌, length}
use Rattle.std.specs.List.{AllByRecursion}
use Rattle.std.specs.declared.cmp.Ordering.{Ordering}
use Rattle.rt_geo.specs.Laws.{AllAccepted, Extent, IsBoxInside, Meaning}
use Rattle.rt_geo.specs.declared.geometry.Verdict.{Verdict}
use Rattle.rt_geo.specs.declared.geometry.Within.{Within}
use Rattle.rt_geo.specs.declared.geometry.Within.TheVariants.{Not, Partly, Fully}
use Rattle.rt_tree.specs.Packed.{Packed, IsLeafNode, IsSound, IsSubtree, entries_under, extent_of_node, node_at}
use Rattle.rt_tree.specs.declared.tree.Node.{Node}
use Rattle.rt_tree.specs.Sorting.{put}
use Rattle.rt_search.specs.Answers.{Answer, answer_cmp, scored}
use Rattle.rt_search.specs.declared.item.Item.{Item}
use Rattle.rt_search.specs.declared.item.Place.{Place}
use Rattle.rt_search.specs.declared.item.Place.TheVariants as place
use Rattle.rt_search.specs.declared.item.WaitingNode.{WaitingNode}

-- ---- nodes that wait

-- how many levels of nodes are below a node
abbrev pub height_at : Packed → (number : ℕ) → ℕ
height_at t number = (node_at t number).level - 1

-- the state FULLY
abbrev pub is_fully : Within → Bool
is_fully Not = false
is_fully Partly = false
is_fully Fully = true

-- the node with a number, waiting
abbrev pub waiting_node : (number : ℕ) → Within → WaitingNode
waiting_node number within = record { number = record { number = number }; is_full = is_fully within }

-- the verdict on a node that waits
abbrev pub verdict_on : (score : ℕ) → WaitingNode → Verdict
verdict_on score n = record { within = if n.is_full then Fully else Partly; score = score }

-- what is known under a verdict: where it is FULLY all are accepted, and each that is accepted has at least its score
pub record IsBelow (meaning : Meaning) (extent : Extent) (v : Verdict) : Type 0 where
  pub full : v.within ≡ Fully → AllAccepted meaning.accepts extent
  pub least : (b : Extent) → IsBoxInside b extent → meaning.accepts b ≡ true → v.score ≤ meaning.score b

-- what holds of a node that may be opened under a verdict
pub record IsOpenable (t : Packed) (meaning : Meaning) (number : ℕ) (v : Verdict) : Type 0
  where
    pub inside : number < length t.nodes
    pub tree : IsSubtree t (height_at t number) (node_at t number)
    pub low : (node_at t number).level ≤ 24
    pub below : IsBelow meaning (extent_of_node (node_at t number)) v

-- the same for a node of level 1
pub record IsOpenableLeaf (t : Packed) (meaning : Meaning) (n : Node) (v : Verdict) : Type 0
  where
    pub sound : IsSound t
    pub node : IsLeafNode t n
    pub below : IsBelow meaning (extent_of_node n) v

-- what holds of an item
abbrev pub IsSoundAt : Packed → Meaning → ℕ → Place → Type 0
IsSoundAt t meaning s (place.Node n) = IsOpenable t meaning n.number.number (verdict_on s n)
IsSoundAt t meaning s (place.Entry id) = Unit {0}

-- what holds of each item
abbrev pub AllSound : Packed → Meaning → List Item → Type 0
AllSound t meaning = AllByRecursion (λ x. IsSoundAt t meaning x.score x.place)

-- ---- the answers under them

-- each of xs in its place among zs
abbrev pub put_all : {X : Type 0} → (X → X → Ordering) → List X → List X → List X
put_all cmp [] zs = zs
put_all cmp (x ∷ xs) zs = put cmp x (put_all cmp xs zs)

-- the answers that an item stands for
abbrev pub answers_at : Packed → Meaning → ℕ → Place → List Answer
answers_at t meaning s (place.Node n) =
    scored (entries_under t (height_at t n.number.number) (node_at t n.number.number)) meaning
answers_at t meaning s (place.Entry id) = (id, s) ∷ []

-- the answers that are still to come, in order
abbrev pub remaining : Packed → Meaning → List Item → List Answer
remaining t meaning [] = []
remaining t meaning (x ∷ xs) = put_all answer_cmp (answers_at t meaning x.score x.place) (remaining t meaning xs)
