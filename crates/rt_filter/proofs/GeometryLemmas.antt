-- Whichever geometry a query is searched by, its answers are the same, and a search and a count open as many nodes.
use Rattle.std.proofs.Common.{◌≡◌, ◌∙◌, ℕ, Bool, List, Option, Some, None, length, map, refl, ap, arith, sym}
use Rattle.rt_geo.specs.{Layers.{HasSome}, Laws.{Extent, Meaning, guided, unscored_meaning}, Discs.{MeansBoth, disc_meaning}}
use Rattle.rt_geo.specs.{OnLayers.{on_layers_accepts, on_layers_state}, Orders.{near, order_estimate, order_score}}
use Rattle.rt_geo.specs.Regions.{region_accepts, region_state}
use Rattle.rt_geo.specs.declared.geometry.{Info.{Info}, Verdict.{Verdict}, Within.{Within}}
use Rattle.rt_geo.specs.declared.{disc.Disc.{Disc}, layers.Layers.{Layers}, region.Region.{Region}, shapes.Circle.{Circle}}
use Rattle.rt_geo.specs.declared.order.Order.{Order, TheVariants.{ById, Near, Smallest}}
use Rattle.rt_geo.specs.declared.region.Region.TheVariants as region
use Rattle.rt_tree.specs.{Packed.{IsSound, Packed}, Sorting.{limited, sorted}, declared.tree.Node.{Node}}
use Rattle.rt_search.specs.Answers.{Answer, accepted, answer_cmp, answer_of, answers}
use Rattle.rt_search.specs.Work.{info_of_node, opened_by_count, opened_by_search}
use Rattle.rt_search.proofs.Agreeing.{counts_same, searches_same}
use Rattle.rt_filter.specs.{Geometries.{scored_up_to, searched_in_shape}, Replies.{meaning_of}}
use Rattle.rt_filter.proofs.LayerLemmas.{accepted-all, accepted_by, state_all, with_bits}

-- what is done by a geometry of this meaning
abbrev pub IsDone : Packed → Meaning → (limit : Option ℕ) → (does : List Answer → ℕ → ℕ → ℕ → Type 0) → Type 0
IsDone t meaning limit does = does (answers t.entries meaning limit) (opened_by_search meaning t limit)
    (length (accepted t.entries meaning)) (opened_by_count meaning t)

-- it is done as well by another one that finds the same
done_by : (t : Packed) (first second : Meaning) (limit : Option ℕ) → answers t.entries first limit ≡ answers t.entries second limit
    → opened_by_search first t limit ≡ opened_by_search second t limit
    → length (accepted t.entries first) ≡ length (accepted t.entries second)
    → opened_by_count first t ≡ opened_by_count second t
    → (does : List Answer → ℕ → ℕ → ℕ → Type 0) → IsDone t first limit does → IsDone t second limit does
done_by t first second limit found opened many counted does done = rw (← found, ← opened, ← many, ← counted) done

-- ---- the states and scores that nodes are answered don't rest on those of their parents

region_alike : (region : Region) (t : Packed) (v w : Verdict) (n : Node)
    → region_state region (info_of_node t v n) ≡ region_state region (info_of_node t w n)
region_alike (region.All shape) t v w n = refl
region_alike (region.Window shape) t v w n = refl
region_alike (region.Inside shape) t v w n = refl
region_alike (region.Covers shape) t v w n = refl
region_alike (region.Circle shape) t v w n = refl
region_alike (region.Polygon shape) t v w n = refl

order_alike : (order : Order) (t : Packed) (v w : Verdict) (n : Node)
    → order_estimate order (info_of_node t v n) ≡ order_estimate order (info_of_node t w n)
order_alike (ById rank) t v w n = refl
order_alike (Near rank) t v w n = refl
order_alike (Smallest rank) t v w n = refl

-- ---- shapes that accept the same entries, and answer the same states

module _ (t : Packed) (sound : IsSound t) (accepts accepts' : Extent → Bool) (state state' : Info → Within) (same : accepted_by accepts t.entries ≡ accepted_by accepts' t.entries) (alike : (v w : Verdict) (n : Node) → HasSome n.layers → state (info_of_node t v n) ≡ state' (info_of_node t w n)) where
  abbrev by : Order → Meaning
  by order = guided accepts state (order_score order) (order_estimate order)

  abbrev requested : Order → Meaning
  requested order = guided accepts' state' (order_score order) (order_estimate order)

  same_answers : (order : Order) (limit : Option ℕ) → answers t.entries (by order) limit ≡ answers t.entries (requested order) limit
  same_answers order limit = ap (λ found. limited limit (sorted answer_cmp (map (answer_of (requested order)) found))) same

  with_scores : (order : Order) (limit : Option ℕ) (does : List Answer → ℕ → ℕ → ℕ → Type 0)
      → IsDone t (by order) limit does → IsDone t (requested order) limit does
  with_scores order limit = done_by t (by order) (requested order) limit (same_answers order limit)
      (searches_same t (by order) (requested order) limit sound (same_answers order None)
      (λ bound is v w n some. grind (arith, alike v w n some, order_alike order t v w n)))
      (ap length same)
      (counts_same t (by order) (requested order) sound (λ v w n some. grind (arith, alike v w n some)))

  -- without a limit no node needs a score
  without_scores : (order : Order) (does : List Answer → ℕ → ℕ → ℕ → Type 0)
      → IsDone t (unscored_meaning (by order)) None does → IsDone t (requested order) None does
  without_scores order = done_by t (unscored_meaning (by order)) (requested order) None (same_answers order None)
      (searches_same t (unscored_meaning (by order)) (requested order) None sound (same_answers order None)
      (λ bound none v w n some. rw none (grind (arith, alike v w n some))))
      (ap length same)
      (counts_same t (unscored_meaning (by order)) (requested order) sound (λ v w n some. grind (arith, alike v w n some)))

  done_alike : (order : Order) (limit : Option ℕ) (does : List Answer → ℕ → ℕ → ℕ → Type 0)
      → IsDone t (searched_in_shape accepts state order limit) limit does → IsDone t (requested order) limit does
  done_alike (ById rank) limit = with_scores (ById rank) limit
  done_alike (Near rank) None = without_scores (Near rank)
  done_alike (Near rank) (Some limit) = with_scores (Near rank) (Some limit)
  done_alike (Smallest rank) limit = with_scores (Smallest rank) limit

-- ---- regions

module _ (t : Packed) (sound : IsSound t) (requested : Region) (layers : Layers) (order : Order) (limit : Option ℕ) (does : List Answer → ℕ → ℕ → ℕ → Type 0) where
  abbrev on_accepts : Extent → Bool
  on_accepts = on_layers_accepts (region_accepts requested) layers

  abbrev on_state : Info → Within
  on_state = on_layers_state (region_state requested) layers

  -- on some layers
  pub done_on_layers : IsDone t (searched_in_shape on_accepts on_state order limit) limit does
      → IsDone t (meaning_of requested layers order) limit does
  done_on_layers = done_alike t sound on_accepts on_accepts on_state on_state refl
      (λ v w n some. grind (arith, region_alike requested t v w n)) order limit does

  -- on all layers none is checked
  pub done_on_all : layers.bits ≡ 18446744073709551615
      → IsDone t (searched_in_shape (region_accepts requested) (region_state requested) order limit) limit does
      → IsDone t (meaning_of requested layers order) limit does
  done_on_all bits =
      let all = ap with_bits bits in
      done_alike t sound (region_accepts requested) on_accepts (region_state requested) on_state
      (accepted-all (region_accepts requested) t.entries sound.table.layers layers all)
      (λ v w n some. region_alike requested t v w n ∙ sym (state_all (region_state requested) layers all (info_of_node t w n) some)) order limit does

-- a disc means what its circle and the order do
pub disc_searched : (disc : Disc) (circle : Circle) (order : Order) (limit : Option ℕ) → order ≡ near circle.centre
    → MeansBoth disc circle order
    → scored_up_to limit (disc_meaning disc)
    ≡ searched_in_shape (region_accepts (region.Circle circle)) (region_state (region.Circle circle)) order limit
disc_searched disc circle order limit is means = ap (scored_up_to limit) means ∙ rw is refl
