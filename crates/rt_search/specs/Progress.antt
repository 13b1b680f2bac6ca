-- What holds of a search between two answers. Nothing that a public call promises speaks of this.
use Rattle.std.specs.Prelude.{◌≡◌, ◌≢◌, ◌+◌, ◌-◌, ◌≤◌, ◌^◌, ◌==◌, ℕ, Bool, true, false, if◌then◌else◌, Option, Some, None}
use Rattle.std.specs.Prelude.{IfSome, List, [], ◌∷◌, drop, length}
use Rattle.std.specs.List.{AllByRecursion, sum_by}
use Rattle.std.specs.Option.{option_map}
use Rattle.std.specs.Ordering.{is_gt}
use Rattle.rt_geo.specs.Laws.{IsUnscored, Meaning, estimate_of}
use Rattle.rt_geo.specs.declared.geometry.Verdict.{Verdict}
use Rattle.rt_tree.specs.Packed.{Packed, IsSound, node_at}
use Rattle.rt_tree.specs.Sorting.{limited}
use Rattle.rt_tree.specs.declared.tree.Node.{Node}
use Rattle.rt_search.specs.Answers.{Answer, answers}
use Rattle.rt_search.specs.Items.{Gathered, Limited, item_at, item_cmp}
use Rattle.rt_search.specs.Joining.{join_answers, join_nodes}
use Rattle.rt_search.specs.Kept.{IsRising}
use Rattle.rt_search.specs.Limits.{IsEnough}
use Rattle.rt_search.specs.Remaining.{AllSound, height_at, remaining, verdict_on}
use Rattle.rt_search.specs.Walking.{answers_among}
use Rattle.rt_search.specs.Work.{HasWorked, is_reached, its_children, one_node, reached_from_root, reached}
use Rattle.rt_search.specs.declared.item.Item.{Item}
use Rattle.rt_search.specs.declared.item.Place.{Place}
use Rattle.rt_search.specs.declared.item.Place.TheVariants as place
use Rattle.rt_search.specs.declared.item.WaitingNode.{WaitingNode}

-- ---- what waits

-- the work that waits at a place
abbrev pub work_at : (opens : Verdict → Bool) → (cost : Node → ℕ) → Meaning → Packed → ℕ → Place → ℕ
work_at opens cost meaning t s (place.Node n) =
    if opens (verdict_on s n)
    then reached opens cost meaning t (height_at t n.number.number) (verdict_on s n) (node_at t n.number.number)
    else 0
work_at opens cost meaning t s (place.Entry id) = 0

-- the work that waits
abbrev pub work_left : (opens : Verdict → Bool) → (cost : Node → ℕ) → Meaning → Packed → List Item → ℕ
work_left opens cost meaning t = sum_by (λ x. work_at opens cost meaning t x.score x.place)

-- how many entries are under a place
abbrev pub size_at : Packed → Place → ℕ
size_at t (place.Node n) = (node_at t n.number.number).size
size_at t (place.Entry id) = 1

-- how many entries are under the items
abbrev pub held : Packed → List Item → ℕ
held t = sum_by (λ x. size_at t x.place)

-- ---- a search

-- the work done and the work to come, up to a bound, are the work of all
abbrev pub AddsUp : Meaning → (cost : Node → ℕ) → Packed → (done : ℕ) → List Item → (bound : Option ℕ) → Type 0
AddsUp meaning cost t done items bound =
    done + work_left (is_reached bound) cost meaning t items ≡ reached_from_root (is_reached bound) cost meaning t

-- without a bound, and up to the score of each answer to come
pub record IsOnCourse (meaning : Meaning) (cost : Node → ℕ) (t : Packed) (done : ℕ) (items : List Item) : Type 0 where
  pub in_all : AddsUp meaning cost t done items None
  pub at_each : AllByRecursion (λ a. AddsUp meaning cost t done items (Some a.1)) (remaining t meaning items)

-- what holds between two answers
pub record IsSearching (meaning : Meaning) (t : Packed) (opened asked : ℕ) (items : List Item) : Type 0 where
  pub tree : IsSound t
  pub sound : AllSound t meaning items
  pub space : held t items ≤ length t.entries
  pub opening : IsOnCourse meaning one_node t opened items
  pub asking : IsOnCourse meaning its_children t asked items

-- the children of a node join
abbrev pub join_children : Meaning → Packed → ℕ → WaitingNode → List Item → List Item
join_children meaning t s n items =
    let m = node_at t n.number.number in
    if m.level == 1
    then join_answers (answers_among t meaning m m.count) items
    else join_nodes meaning t (verdict_on s n) m m.count items

-- what holds after a node was opened
pub record IsNodeStep (meaning : Meaning) (t : Packed)
    (opened asked s : ℕ) (n : WaitingNode) (items new : List Item) : Type 0 where
  pub state : IsSearching meaning t opened asked new
  pub same : remaining t meaning new ≡ remaining t meaning (item_at s (place.Node n) ∷ items)

-- an item that was taken out stood before the others
pub record IsTaken (meaning : Meaning) (t : Packed) (opened asked : ℕ) (x : Item) (items : List Item) : Type 0 where
  pub least : AllByRecursion (λ y. is_gt (item_cmp x y) ≡ false) items
  pub state : IsSearching meaning t opened asked (x ∷ items)

-- a search that needn't keep more than its limit makes necessary: what waits is enough of what would wait without a
-- limit, and that stands for the answers to come
pub record IsUnderWay (meaning : Meaning) (t : Packed)
    (opened asked : ℕ) (needed : Option ℕ) (to_come : List Answer) (items : List Item) : Type 0 where
  pub all : List Item
  pub state : IsSearching meaning t opened asked all
  pub rising : IsRising all
  pub follows : remaining t meaning all ≡ to_come
  pub enough : IsEnough needed items all

-- an item was taken out of such a search, and these wait
pub record IsOut (meaning : Meaning) (t : Packed)
    (opened asked : ℕ) (needed : Option ℕ) (to_come : List Answer) (x : Item) (items : List Item) : Type 0 where
  pub others : List Item
  pub taken : IsTaken meaning t opened asked x others
  pub rising : IsRising others
  pub follows : remaining t meaning (x ∷ others) ≡ to_come
  pub enough : IsEnough needed items others

-- it opened as many nodes and made as many checks as a bound makes necessary
pub record HasReached (meaning : Meaning) (t : Packed) (bound : Option ℕ) (opened asked : ℕ) : Type 0 where
  pub nodes : opened ≡ reached_from_root (is_reached bound) one_node meaning t
  pub checks : asked ≡ reached_from_root (is_reached bound) its_children meaning t

-- an answer was found, the first of those to come
pub record IsFound (meaning : Meaning) (t : Packed)
    (opened asked : ℕ) (needed : Option ℕ) (to_come : List Answer) (a : Answer) (items : List Item) : Type 0
  where
    pub rest : List Answer
    pub first : to_come ≡ a ∷ rest
    pub state : IsUnderWay meaning t opened asked needed rest items
    pub reached : HasReached meaning t (Some a.1) opened asked

-- none is to come
pub record IsOver (meaning : Meaning) (t : Packed)
    (opened asked : ℕ) (needed : Option ℕ) (to_come : List Answer) (items : List Item) : Type 0 where
  pub none : to_come ≡ []
  pub state : IsUnderWay meaning t opened asked needed to_come items
  pub reached : HasReached meaning t None opened asked

-- no more answers were given than are needed
abbrev pub IsInLimit : (limit : Option ℕ) → (given : ℕ) → Type 0
IsInLimit None given = Unit {0}
IsInLimit (Some limit) given = given ≤ limit

-- what holds of a search that has a queue
pub record IsGiving (meaning : Meaning) (t : Packed)
    (limit : Option ℕ) (given opened asked capacity : ℕ) (needed : Option ℕ) (items : List Item) : Type 0 where
  pub state : IsUnderWay meaning t opened asked needed (drop given (answers t.entries meaning None)) items
  pub space : length t.entries ≤ capacity
  pub in_limit : IsInLimit limit given
  pub still : IfSome needed (λ n. limit ≡ Some (given + n))
  pub stopped : limit ≡ Some given → HasWorked meaning t limit opened asked

-- ---- all answers at once

-- how many answers are left up to the limit
abbrev pub left : (limit : Option ℕ) → (given : ℕ) → Option ℕ
left limit given = option_map (λ limit. limit - given) limit

-- all were found: the hits stand for the answers to come
pub record HasGathered (meaning : Meaning) (t : Packed)
    (limit : Option ℕ) (given opened asked : ℕ) (hits : List Item) : Type 0 where
  pub tree : IsSound t
  pub in_limit : IsInLimit limit given
  pub to_come : drop given (answers t.entries meaning limit) ≡ limited (left limit given) (remaining t meaning hits)
  pub reached : HasReached meaning t None opened asked

-- nothing was done yet
pub record IsFresh (given opened asked : ℕ) (hits : List Item) : Type 0 where
  pub none_given : given ≡ 0
  pub none_opened : opened ≡ 0
  pub none_asked : asked ≡ 0
  pub none_found : hits ≡ []

-- what holds of a search that finds all at once, since nodes have no scores: they are found, and in order, or nothing was
-- done yet
pub record IsGathering (meaning : Meaning) (t : Packed)
    (limit : Option ℕ) (given opened asked : ℕ) (items : List Item) (hits : Gathered) : Type 0 where
  pub unscored : IsUnscored (estimate_of meaning)
  pub some : limit ≢ Some 0
  pub space : length t.entries ≤ hits.capacity
  pub none_waits : items ≡ []
  pub before : hits.is_sorted ≡ false → IsFresh given opened asked hits.items
  pub after : hits.is_sorted ≡ true → HasGathered meaning t limit given opened asked hits.items

-- ---- in one of the two ways

-- what holds of a search: whether it gathers was decided as it started
pub record IsGoing (gathers : Bool) (meaning : Meaning) (t : Packed)
    (limit : Option ℕ) (given opened asked : ℕ) (queue : Limited) (hits : Gathered) : Type 0 where
  pub same_capacity : hits.capacity ≡ queue.capacity
  pub giving : gathers ≡ false
      → IsGiving meaning t limit given opened asked queue.capacity queue.needed queue.items
  pub gathering : gathers ≡ true → IsGathering meaning t limit given opened asked queue.items hits

-- an answer is given
pub record IsGiven (gathers : Bool) (meaning : Meaning) (t : Packed)
    (limit : Option ℕ) (given opened asked : ℕ) (a : Answer) (queue : Limited) (hits : Gathered) : Type 0 where
  pub going : IsGoing gathers meaning t limit (given + 1) opened asked queue hits
  pub answer : drop given (answers t.entries meaning limit) ≡ a ∷ drop (given + 1) (answers t.entries meaning limit)
  pub worked : HasWorked meaning t (Some (given + 1)) opened asked
  pub few : given + 1 ≤ 2 ^ 32

-- no answer is left
pub record HasEnded (gathers : Bool) (meaning : Meaning) (t : Packed)
    (limit : Option ℕ) (given opened asked : ℕ) (queue : Limited) (hits : Gathered) : Type 0 where
  pub going : IsGoing gathers meaning t limit given opened asked queue hits
  pub answer : drop given (answers t.entries meaning limit) ≡ []
  pub worked : HasWorked meaning t limit opened asked
