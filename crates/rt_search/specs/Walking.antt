-- What a walk over the nodes leaves with its visitor. Nothing that a public call promises speaks of this.
use Rattle.std.specs.Prelude.{◌≡◌, ◌+◌, ◌-◌, ◌≤◌, ◌==◌, ℕ, ℤ, Bool, if◌then◌else◌, List, [], ◌∷◌}
use Rattle.std.specs.Prelude.{length, take, zero, suc, ◌++◌, IsPermutation}
use Rattle.rt_geo.specs.Laws.{Meaning}
use Rattle.rt_geo.specs.declared.geometry.Verdict.{Verdict}
use Rattle.rt_geo.specs.declared.geometry.Within.{Within}
use Rattle.rt_geo.specs.declared.geometry.Within.TheVariants.{Not, Fully}
use Rattle.rt_tree.specs.Packed.{Packed, child_entries, entries_under, node_at}
use Rattle.rt_tree.specs.declared.tree.Node.{Node}
use Rattle.rt_search.specs.Answers.{Answer, scored}
use Rattle.rt_search.specs.Remaining.{height_at}
use Rattle.rt_search.specs.Work.{info_of_node, reached}

-- ---- answers

-- the answer that an entry is, where it is kept
abbrev pub answer_if : (is_accepted : Bool) → (id : ℤ) → (score : ℕ) → List Answer
answer_if is_accepted id score = if is_accepted then (id, score) ∷ [] else []

-- the answers under a node
abbrev pub answers_under : Packed → Meaning → (number : ℕ) → List Answer
answers_under t meaning number = scored (entries_under t (height_at t number) (node_at t number)) meaning

-- those among the first `so_many` children of a node of level 1
abbrev pub answers_among : Packed → Meaning → Node → (so_many : ℕ) → List Answer
answers_among t meaning n so_many = scored (take so_many (child_entries t n)) meaning

-- the verdict on a child of a node above level 1 that has this verdict
abbrev pub verdict_of_child : Meaning → Packed → Verdict → Node → (place : ℕ) → Verdict
verdict_of_child meaning t of_node n i = meaning.verdict (info_of_node t of_node (node_at t (n.first + i)))

-- the answers under those of its first `so_many` children whose verdicts pass the test
abbrev pub answers_where : (picks : Verdict → Bool) → Meaning → Packed → Verdict → Node → (so_many : ℕ) → List Answer
answers_where picks meaning t of_node n zero = []
answers_where picks meaning t of_node n (suc i) =
    answers_where picks meaning t of_node n i
    ++ (if picks (verdict_of_child meaning t of_node n i) then answers_under t meaning (n.first + i) else [])

-- those of a whole tree, as its nodes have them: the last node is the root
abbrev pub answers_in_tree : Packed → Meaning → List Answer
answers_in_tree t meaning = if length t.nodes == 0 then [] else answers_under t meaning (length t.nodes - 1)

-- what is known of the answers under a node of this state and size
pub record IsKnown (within : Within) (size : ℕ) (answers : List Answer) : Type 0 where
  pub none : within ≡ Not → answers ≡ []
  pub all : within ≡ Fully → length answers ≡ size

-- ---- what takes them

-- answers are taken one after the other
abbrev pub HasTaken : {S : Type 0} → (takes : S → Answer → S → Type 0) → (old : S) → List Answer → (new : S) → Type 0
HasTaken takes old [] new = new ≡ old
HasTaken {S} takes old (a ∷ answers) new = (s : S) × (takes old a s × HasTaken takes s answers new)

-- and so, in some order
abbrev pub HasTakenAll : {S : Type 0} → (takes : S → Answer → S → Type 0) → (old : S) → List Answer → (new : S) → Type 0
HasTakenAll takes old answers new =
    (taken : List Answer) × (IsPermutation taken answers × HasTaken takes old taken new)

-- each takes at most a place
abbrev pub IsFilling : {S : Type 0} → (takes : S → Answer → S → Type 0) → (space : S → ℕ) → Type 0
IsFilling {S} takes space = (old new : S) (a : Answer) → takes old a new → space old ≤ space new + 1

-- ---- the work

-- what the work under an opened node costs
abbrev pub work_under : (opens : Verdict → Bool) → (cost : Node → ℕ) → Meaning → Packed → Verdict → (number : ℕ) → ℕ
work_under opens cost meaning t v number = reached opens cost meaning t (height_at t number) v (node_at t number)

-- what it costs under a node that is opened where the test says so of its verdict
abbrev pub work_at_child : (opens : Verdict → Bool) → (cost : Node → ℕ) → Meaning → Packed → Verdict → (number : ℕ) → ℕ
work_at_child opens cost meaning t v number = if opens v then work_under opens cost meaning t v number else 0

-- what it costs under a child of a node with this verdict, with `below` levels of nodes below the child
abbrev pub work_of_child : (opens : Verdict → Bool) → (cost : Node → ℕ) → Meaning → Packed
    → Verdict → (below : ℕ) → Node → ℕ
work_of_child opens cost meaning t of_node below child =
    let of_child = meaning.verdict (info_of_node t of_node child) in
    if opens of_child then reached opens cost meaning t below of_child child else 0
