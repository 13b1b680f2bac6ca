-- Each shape keeps its laws.
use Rattle.std.specs.Prelude.{nat_le, nat_lt}
use Rattle.std.proofs.Common.{◌≡◌, ◌≢◌, ◌↔◌, ◌<◌, ◌≤◌, refl, sym, ◌∙◌, arith, ℕ, Bool, true, false, not}
use Rattle.std.proofs.lemmas.Bool.{false_from_ne_true, true≢false}
use Rattle.std.proofs.lemmas.Bool.Decides.{nat_tests}
use Rattle.rt_geo.specs.Boxes.{inside, overlaps}
use Rattle.rt_geo.specs.Distances.{far2, near2}
use Rattle.rt_geo.specs.Laws.{AllAccepted, IsFaithful, NoneAccepted, extent_of}
use Rattle.rt_geo.specs.Lemmas.Boxes.{inside-overlaps, inside-trans, overlaps-part}
use Rattle.rt_geo.specs.Lemmas.Distances.{near2-far2, near2-part}
use Rattle.rt_geo.specs.Regions.{disc_accepts, disc_state, region_accepts, region_state, state_by}
use Rattle.rt_geo.specs.declared.disc.Disc.{Disc}
use Rattle.rt_geo.specs.declared.geometry.Info.{Info}
use Rattle.rt_geo.specs.declared.geometry.Within.TheVariants.{Not, Fully}
use Rattle.rt_geo.specs.declared.region.Region.TheVariants as region
use Rattle.rt_geo.specs.declared.shapes.All.{All}
use Rattle.rt_geo.specs.declared.shapes.Covers.{Covers}
use Rattle.rt_geo.specs.declared.shapes.Inside.{Inside}
use Rattle.rt_geo.specs.declared.shapes.Window.{Window}

-- ---- tests, and what they tell

-- a state that is NOT exactly where a test fails
pub state_by-leaf : (a f : Bool) → (state_by (not a) f ≡ Not) ↔ (a ≡ false)
state_by-leaf true true = (λ e. cc, λ e. cc)
state_by-leaf true false = (λ e. cc, λ e. cc)
state_by-leaf false f = (λ e. refl, λ e. refl)

pub state_by-Not : (a f : Bool) → state_by (not a) f ≡ Not → a ≡ false
state_by-Not a f e = (state_by-leaf a f).0 e

pub state_by-Fully : (n f : Bool) → state_by n f ≡ Fully → f ≡ true
state_by-Fully true f e = cc
state_by-Fully false true e = refl
state_by-Fully false false e = cc

-- a test fails where another does that holds wherever the first one holds
pub contrapositive : (p q : Bool) → (p ≡ true → q ≡ true) → q ≡ false → p ≡ false
contrapositive p q f e = false_from_ne_true p (λ h. true≢false (sym (f h) ∙ e))

-- ---- all

pub all-faithful : (a : All) → IsFaithful (region_accepts (region.All a)) (region_state (region.All a))
all-faithful a = record {
  leaf = λ i question entry. (λ e. cc, λ e. cc);
  pruning = λ i question node e. cc;
  fullness = λ i question node e b h. refl;
}

-- ---- window

window-pruning : (w : Window) (i : Info)
    → region_state (region.Window w) i ≡ Not → NoneAccepted (region_accepts (region.Window w)) (extent_of i)
window-pruning w i e b h =
    contrapositive _ _ (overlaps-part b.bounds i.bounds w.0 h.inside)
    (state_by-Not (overlaps i.bounds w.0) (inside i.bounds w.0) e)

window-fullness : (w : Window) (i : Info)
    → region_state (region.Window w) i ≡ Fully → AllAccepted (region_accepts (region.Window w)) (extent_of i)
window-fullness w i e b h =
    let lies_in = state_by-Fully (not (overlaps i.bounds w.0)) (inside i.bounds w.0) e in
    inside-overlaps b.bounds w.0 h.box (inside-trans b.bounds i.bounds w.0 h.inside lies_in)

pub window-faithful : (w : Window) → IsFaithful (region_accepts (region.Window w)) (region_state (region.Window w))
window-faithful w = record {
  leaf = λ i question entry. state_by-leaf (overlaps i.bounds w.0) (inside i.bounds w.0);
  pruning = λ i question node. window-pruning w i;
  fullness = λ i question node. window-fullness w i;
}

-- ---- inside

inside-leaf : (w : Inside) (i : Info) → i.level ≡ 0
    → (region_state (region.Inside w) i ≡ Not) ↔ (region_accepts (region.Inside w) (extent_of i) ≡ false)
inside-leaf w i entry = rw entry (state_by-leaf (inside i.bounds w.0) true)

-- above the entries the states are those of the window
inside_state-above : (w : Inside) (i : Info) → 0 < i.level
    → region_state (region.Inside w) i ≡ region_state (region.Window (record { 0 = w.0 })) i
inside_state-above w i node = grind (arith, nat_tests)

inside-pruning : (w : Inside) (i : Info) → 0 < i.level
    → region_state (region.Inside w) i ≡ Not → NoneAccepted (region_accepts (region.Inside w)) (extent_of i)
inside-pruning w i node e b h =
    contrapositive _ _ (inside-overlaps b.bounds w.0 h.box)
    (window-pruning (record { 0 = w.0 }) i (sym (inside_state-above w i node) ∙ e) b h)

inside-fullness : (w : Inside) (i : Info) → 0 < i.level
    → region_state (region.Inside w) i ≡ Fully → AllAccepted (region_accepts (region.Inside w)) (extent_of i)
inside-fullness w i node e b h =
    inside-trans b.bounds i.bounds w.0 h.inside
    (state_by-Fully (not (overlaps i.bounds w.0)) (inside i.bounds w.0) (sym (inside_state-above w i node) ∙ e))

pub inside-faithful : (w : Inside) → IsFaithful (region_accepts (region.Inside w)) (region_state (region.Inside w))
inside-faithful w = record {
  leaf = λ i question entry. inside-leaf w i entry;
  pruning = λ i question node. inside-pruning w i node;
  fullness = λ i question node. inside-fullness w i node;
}

-- ---- covers

covers-pruning : (w : Covers) (i : Info)
    → region_state (region.Covers w) i ≡ Not → NoneAccepted (region_accepts (region.Covers w)) (extent_of i)
covers-pruning w i e b h =
    contrapositive _ _ (λ covered. inside-trans w.0 b.bounds i.bounds covered h.inside)
    (state_by-Not (inside w.0 i.bounds) false e)

covers-fullness : (w : Covers) (i : Info) → region_state (region.Covers w) i ≢ Fully
covers-fullness w i e = cc (state_by-Fully (not (inside w.0 i.bounds)) false e)

pub covers-faithful : (w : Covers) → IsFaithful (region_accepts (region.Covers w)) (region_state (region.Covers w))
covers-faithful w = record {
  leaf = λ i question entry. state_by-leaf (inside w.0 i.bounds) false;
  pruning = λ i question node. covers-pruning w i;
  fullness = λ i question node e. absurd (covers-fullness w i e);
}

-- ---- disc

-- one number is above another exactly where it isn't at most the other
nat_lt-not_at_most : (m n : ℕ) → nat_lt n m ≡ not (nat_le m n)
nat_lt-not_at_most m n = grind (arith, nat_tests)

at_most-trans : (l m n : ℕ) → l ≤ m → nat_le m n ≡ true → nat_le l n ≡ true
at_most-trans l m n h e = grind (arith, nat_tests)

disc-leaf : (d : Disc) (i : Info) → (disc_state d i ≡ Not) ↔ (disc_accepts d (extent_of i) ≡ false)
disc-leaf d i =
    rw nat_lt-not_at_most
    (state_by-leaf (nat_le (near2 d.centre i.bounds) d.radius2) (nat_le (far2 d.centre i.bounds) d.radius2))

disc-pruning : (d : Disc) (i : Info) → disc_state d i ≡ Not → NoneAccepted (disc_accepts d) (extent_of i)
disc-pruning d i e b h =
    let no_nearer = near2-part d.centre b.bounds i.bounds h.inside in
    contrapositive _ _ (at_most-trans (near2 d.centre i.bounds) (near2 d.centre b.bounds) d.radius2 no_nearer)
    ((disc-leaf d i).0 e)

disc-fullness : (d : Disc) (i : Info) → disc_state d i ≡ Fully → AllAccepted (disc_accepts d) (extent_of i)
disc-fullness d i e b h =
    let no_farther = near2-far2 d.centre b.bounds i.bounds h.box h.inside in
    at_most-trans (near2 d.centre b.bounds) (far2 d.centre i.bounds) d.radius2 no_farther
    (state_by-Fully (nat_lt d.radius2 (near2 d.centre i.bounds)) (nat_le (far2 d.centre i.bounds) d.radius2) e)

pub disc-faithful : (d : Disc) → IsFaithful (disc_accepts d) (disc_state d)
disc-faithful d = record {
  leaf = λ i question entry. disc-leaf d i;
  pruning = λ i question node. disc-pruning d i;
  fullness = λ i question node. disc-fullness d i;
}
