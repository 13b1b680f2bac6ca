-- Two meanings that open the same nodes of a tree, whatever was answered for their parents.
use Rattle.std.proofs.Common.{◌≡◌, ◌∙◌, ℕ, zero, suc, Bool, cond, List, [], ◌∷◌, Option, Some, None, refl, ap, arith}
use Rattle.std.proofs.lemmas.List.Sums.{sum_by-cons}
use Rattle.std.specs.{List.{AllByRecursion, sum_by}}
use Rattle.rt_geo.specs.{Layers.{HasSome}, Laws.{Meaning}, declared.geometry.Verdict.{Verdict}}
use Rattle.rt_tree.specs.{Packed.{IsSound, IsSubtree, Packed, child_nodes}, declared.tree.Node.{Node}}
use Rattle.rt_search.specs.{Answers.{answers}}
use Rattle.rt_search.specs.Work.{info_of_node, is_divided, is_reached, last_score, one_node, opened_by_count, opened_by_search}
use Rattle.rt_search.specs.Work.{reached, reached_from_root}
use Rattle.rt_search.proofs.Starting.{nat_eq_false}

-- a node that is on some layer passes the test by both verdicts or by neither
abbrev pub Agrees : (opens : Verdict → Bool) → Packed → (first second : Meaning) → Type 0
Agrees opens t first second = (v w : Verdict) (n : Node) → HasSome n.layers
    → opens (first.verdict (info_of_node t v n)) ≡ opens (second.verdict (info_of_node t w n))

-- a node of a tree is on some layer
on_some : (t : Packed) (h : ℕ) (n : Node) → IsSubtree t h n → HasSome n.layers
on_some t zero n sub = sub.layers
on_some t (suc h) n sub = sub.layers

module _ (opens : Verdict → Bool) (cost : Node → ℕ) (t : Packed) (first second : Meaning) (agrees : Agrees opens t first second) where
  abbrev below : Meaning → (h : ℕ) → Verdict → Node → ℕ
  below meaning h v k =
      let u = meaning.verdict (info_of_node t v k) in cond (opens u) (reached opens cost meaning t h u k) 0

  children_same : (h : ℕ) → ((v w : Verdict) (n : Node) → IsSubtree t h n
      → reached opens cost first t h v n ≡ reached opens cost second t h w n)
      → (v w : Verdict) (ks : List Node) → AllByRecursion (IsSubtree t h) ks
      → sum_by (below first h v) ks ≡ sum_by (below second h w) ks
  children_same h f v w [] sub = refl
  children_same h f v w (k ∷ ks) sub =
      let same = agrees v w k (on_some t h k sub.0) in
      let under = f (first.verdict (info_of_node t v k)) (second.verdict (info_of_node t w k)) k sub.0 in
      let here : below first h v k ≡ below second h w k =
      ap (λ o. cond o (reached opens cost first t h (first.verdict (info_of_node t v k)) k) 0) same
      ∙ ap (λ m. cond (opens (second.verdict (info_of_node t w k))) m 0) under in
      let sums = sum_by-cons (below first h v) k ks in
      omega (arith, sums, here, sum_by-cons (below second h w) k ks, children_same h f v w ks sub.1)

  pub reached_same : (h : ℕ) (v w : Verdict) (n : Node) → IsSubtree t h n
      → reached opens cost first t h v n ≡ reached opens cost second t h w n
  reached_same zero v w n sub = refl
  reached_same (suc h) v w n sub =
      grind (arith, children_same h (λ v w k. reached_same h v w k) v w (child_nodes t n) sub.below)

  pub whole_same : IsSound t → reached_from_root opens cost first t ≡ reached_from_root opens cost second t
  whole_same sound = grind (arith, reached_same, nat_eq_false)

-- so a count opens as many nodes by the one as by the other
pub counts_same : (t : Packed) (first second : Meaning) → IsSound t → Agrees is_divided t first second
    → opened_by_count first t ≡ opened_by_count second t
counts_same t first second sound agrees = whole_same is_divided one_node t first second agrees sound

-- and so does a search, where both give the same answers
pub searches_same : (t : Packed) (first second : Meaning) (limit : Option ℕ) → IsSound t
    → answers t.entries first None ≡ answers t.entries second None
    → ((bound : Option ℕ) → bound ≡ last_score (answers t.entries second None) limit → Agrees (is_reached bound) t first second)
    → opened_by_search first t limit ≡ opened_by_search second t limit
searches_same t first second None sound same agrees = whole_same (is_reached None) one_node t first second (agrees None refl) sound
searches_same t first second (Some zero) sound same agrees = refl
searches_same t first second (Some (suc n)) sound same agrees =
    let bound = last_score (answers t.entries second None) (Some (suc n)) in
    ap (λ found. reached_from_root (is_reached (last_score found (Some (suc n)))) one_node first t) same
    ∙ whole_same (is_reached bound) one_node t first second (agrees bound refl) sound
