-- A shape on some layers keeps the laws of a shape.
use Rattle.std.proofs.Common.{◌≡◌, ◌↔◌, ◌<◌, ◌&&◌, refl, sym, ◌∙◌, Bool, true, false, not, if◌then◌else◌}
use Rattle.std.proofs.lemmas.Bool.{and_from, and_parts, false_from_ne_true, not-true, not_from_false, true≢false}
use Rattle.rt_geo.specs.Layers.{disjoint, subset}
use Rattle.rt_geo.specs.Laws.{AllAccepted, Extent, IsFaithful, IsHonest, IsQuestion, NoneAccepted, extent_of}
use Rattle.rt_geo.specs.Lemmas.Layers.{disjoint-one, disjoint-part, subset-trans}
use Rattle.rt_geo.specs.Lemmas.Shapes.{contrapositive}
use Rattle.rt_geo.specs.OnLayers.{at_most_partly, on_layers_accepts, on_layers_state}
use Rattle.rt_geo.specs.declared.geometry.Info.{Info}
use Rattle.rt_geo.specs.declared.geometry.Within.{Within}
use Rattle.rt_geo.specs.declared.geometry.Within.TheVariants.{Not, Partly, Fully}
use Rattle.rt_geo.specs.declared.layers.Layers.{Layers}

-- ---- what a shape on layers accepts, the shape accepts

pub AllAccepted-shape : (accepts : Extent → Bool) (selected : Layers) (extent : Extent)
    → AllAccepted (on_layers_accepts accepts selected) extent → AllAccepted accepts extent
AllAccepted-shape accepts selected extent all b h = (and_parts _ _ (all b h)).0

-- so the caller's condition for the one is that for the other
pub IsHonest-shape : (accepts : Extent → Bool) (selected : Layers) (i : Info)
    → IsHonest (on_layers_accepts accepts selected) i → IsHonest accepts i
IsHonest-shape accepts selected i honest full = AllAccepted-shape accepts selected (extent_of i) (honest full)

pub IsQuestion-shape : (accepts : Extent → Bool) (selected : Layers) (i : Info)
    → IsQuestion (on_layers_accepts accepts selected) i → IsQuestion accepts i
IsQuestion-shape accepts selected i question =
    record { well_formed = question.well_formed; honest = IsHonest-shape accepts selected i question.honest }

-- ---- the state, by what the sets of layers have in common

abbrev state_with : (apart part : Bool) → Within → Within
state_with apart part state = if apart then Not else (if part then state else at_most_partly state)

at_most_partly-Not : (state : Within) → (at_most_partly state ≡ Not) ↔ (state ≡ Not)
at_most_partly-Not Not = (λ e. refl, λ e. refl)
at_most_partly-Not Partly = (λ e. cc, λ e. cc)
at_most_partly-Not Fully = (λ e. cc, λ e. cc)

-- it is NOT exactly where the shape is, or none of the layers is selected
state_with-Not : (apart part : Bool) (state : Within) (shape : Bool) → (state ≡ Not) ↔ (shape ≡ false)
    → (state_with apart part state ≡ Not) ↔ ((shape && not apart) ≡ false)
state_with-Not true part state true leaf = (λ e. refl, λ e. refl)
state_with-Not true part state false leaf = (λ e. refl, λ e. refl)
state_with-Not false true state true leaf = (λ e. leaf.0 e, λ e. leaf.1 e)
state_with-Not false true state false leaf = (λ e. refl, λ e. leaf.1 e)
state_with-Not false false state true leaf =
    (λ e. leaf.0 ((at_most_partly-Not state).0 e), λ e. (at_most_partly-Not state).1 (leaf.1 e))
state_with-Not false false state false leaf = (λ e. refl, λ e. (at_most_partly-Not state).1 (leaf.1 e))

-- it is FULLY only where the shape is, and each of the layers is selected
state_with-Fully : (apart part : Bool) (state : Within) → state_with apart part state ≡ Fully
    → (state ≡ Fully) × (part ≡ true)
state_with-Fully true part state e = cc
state_with-Fully false true state e = (e, refl)
state_with-Fully false false Not e = cc
state_with-Fully false false Partly e = cc
state_with-Fully false false Fully e = cc

-- where nothing is left out by layers, NOT comes from the shape
state_with-kept : (apart part : Bool) (state : Within) → state_with apart part state ≡ Not → apart ≡ false
    → state ≡ Not
state_with-kept true part state e kept = cc
state_with-kept false true state e kept = e
state_with-kept false false state e kept = (at_most_partly-Not state).0 e

-- ---- the laws

module _ (accepts : Extent → Bool) (state : Info → Within) (selected : Layers) (shape : IsFaithful accepts state) where
  leaf : (i : Info) → IsQuestion (on_layers_accepts accepts selected) i → i.level ≡ 0
      → (on_layers_state state selected i ≡ Not) ↔ (on_layers_accepts accepts selected (extent_of i) ≡ false)
  leaf i question entry =
      state_with-Not (disjoint i.layers selected) (subset i.layers selected) (state i) (accepts (extent_of i))
      (shape.leaf i (IsQuestion-shape accepts selected i question) entry)

  pruning : (i : Info) → IsQuestion (on_layers_accepts accepts selected) i → 0 < i.level
      → on_layers_state state selected i ≡ Not → NoneAccepted (on_layers_accepts accepts selected) (extent_of i)
  pruning i question node is b h = false_from_ne_true _ (λ accepted.
      let both = and_parts _ _ accepted in
      let kept = not-true (disjoint b.layers selected) both.1 in
      let together = contrapositive _ _ (disjoint-part b.layers i.layers selected h.among) kept in
      let none = state_with-kept (disjoint i.layers selected) (subset i.layers selected) (state i) is together in
      true≢false (sym both.0 ∙ shape.pruning i (IsQuestion-shape accepts selected i question) node none b h))

  fullness : (i : Info) → IsQuestion (on_layers_accepts accepts selected) i → 0 < i.level
      → on_layers_state state selected i ≡ Fully → AllAccepted (on_layers_accepts accepts selected) (extent_of i)
  fullness i question node is b h =
      let both = state_with-Fully (disjoint i.layers selected) (subset i.layers selected) (state i) is in
      let all = shape.fullness i (IsQuestion-shape accepts selected i question) node both.0 in
      let among = subset-trans b.layers i.layers selected h.among both.1 in
      and_from _ _ (all b h) (not_from_false _ (disjoint-one b.layers selected h.one among))

  pub on_layers-faithful : IsFaithful (on_layers_accepts accepts selected) (on_layers_state state selected)
  on_layers-faithful = record { leaf = leaf; pruning = pruning; fullness = fullness }
