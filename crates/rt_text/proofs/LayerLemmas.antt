-- The parts of a LIST of layers, one after the other.
use Rattle.std.proofs.Common.{◌≡◌, ◌∙◌, ◌+◌, ◌<◌, ℕ, Bool, false, List, Option, Some, None, arith, drop, get_or, length, refl}
use Rattle.std.specs.Fn.{CalledAt}
use Rattle.std.specs.Iterator.{Yields}
use Rattle.std.specs.List.{slice_split}
use Rattle.std.specs.Prelude.{Ok, Err}
use Rattle.std.specs.Slice.Iter as slice
use denote.Param.Members.{Mut}
use denote.Ref.{Bor}
use Rattle.std.proofs.lemmas.Iterator.{YieldsList}
use Rattle.std.proofs.lemmas.Iterator.Consumers.{YieldsList-end, YieldsList-turn}
use Rattle.std.proofs.lemmas.Iterator.Splits.{YieldsList-from_slice_split}
use Rattle.std.proofs.lemmas.List.{at_drop_all, at_drop_more}
use Rattle.rt_geo.specs.Layers.{most_layer, only, union}
use Rattle.rt_geo.specs.declared.layers.Layers.{Layers}
use Rattle.rt_text.specs.Queries.{layers_from, natural}
use Rattle.rt_text.specs.declared.query.QueryFault.{QueryFault}

module _ (so_far : Layers) (parts : List (List ℕ)) (place : ℕ) (part : List ℕ) where
  -- a part that is a layer
  pub layers_from-more : (layer : ℕ) → place < length parts → part ≡ get_or parts place part → natural most_layer part ≡ Ok layer
      → layers_from so_far (drop place parts) ≡ layers_from (union so_far (only layer)) (drop (place + 1) parts)
  layers_from-more layer there is e = at_drop_more (layers_from so_far) parts place part there ∙ rw (← is, e) refl

  -- a part that is none
  pub layers_from-fault : (cause : QueryFault) → place < length parts → part ≡ get_or parts place part → natural most_layer part ≡ Err cause
      → layers_from so_far (drop place parts) ≡ Err cause
  layers_from-fault cause there is e = at_drop_more (layers_from so_far) parts place part there ∙ rw (← is, e) refl

-- all parts were read
pub layers_from-all : (so_far : Layers) (parts : List (List ℕ)) (place : ℕ) → place ≡ length parts
    → layers_from so_far (drop place parts) ≡ Ok so_far
layers_from-all so_far parts place e = at_drop_all (layers_from so_far) parts place (omega (arith, e))

-- ---- cutting a LIST

-- an iterator cuts a list at each byte that passes the test p
module _ {F : Type 0} {g : Mut F (Bor ℕ × Unit {0}) Bool} {f : F} (p : ℕ → Bool) (list : List ℕ) (s : _) (cut : List (Bor (List ℕ))) (t u : _) (so_far : Yields (slice.split_steps g) s cut t)
    (r : Option (Bor (List ℕ))) (step : slice.split_steps g t r u) (rest : slice.split_rest s ≡ list) (begun : slice.split_done s ≡ false) (closure : slice.split_callee s ≡ f)
    (tests : (c : ℕ) (b : Bool) (q : F) → CalledAt g f c b q → (q ≡ f) × (b ≡ p c)) where
  all_parts : YieldsList (slice.split_steps g) (λ part. part.now) s (slice_split p list)
  all_parts = YieldsList-from_slice_split g p list rest begun closure tests

  -- one part more is cut off
  pub part_is : (part : Bor (List ℕ)) → r ≡ Some part
      → (length cut < length (slice_split p list)) × (part.now ≡ get_or (slice_split p list) (length cut) part.now)
  part_is part is = YieldsList-turn all_parts cut t so_far r u part is step

  -- all parts are
  pub parts_end : r ≡ None → length cut ≡ length (slice_split p list)
  parts_end none = (YieldsList-end all_parts cut t so_far r u none step).1
