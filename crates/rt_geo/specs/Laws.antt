-- What a query function means, and the laws by which a search may skip a whole subtree.
use Rattle.std.specs.Prelude.{◌≡◌, ◌↔◌, ◌<◌, ◌≤◌, ◌==◌, ◌^◌, ℕ, Bool, true, false, if◌then◌else◌}
use Rattle.rt_geo.specs.Boxes.{Rect, IsRect, inside, plane}
use Rattle.rt_geo.specs.Layers.{HasSome, IsOneLayer, only, subset}
use Rattle.rt_geo.specs.declared.entry.Entry.{Entry}
use Rattle.rt_geo.specs.declared.geometry.Info.{Info}
use Rattle.rt_geo.specs.declared.geometry.Verdict.{Verdict}
use Rattle.rt_geo.specs.declared.geometry.Within.{Within}
use Rattle.rt_geo.specs.declared.geometry.Within.TheVariants.{Not, Fully}
use Rattle.rt_geo.specs.declared.layers.Layers.{Layers}

-- ---- what a query function is shown

-- all that it is shown of an entry, or of the entries under a node
pub record Extent : Type 0 where
  pub bounds : Rect
  pub layers : Layers

-- the extent of an entry: one box, of one layer
abbrev pub extent_of_entry : Entry → Extent
extent_of_entry entry = record { bounds = entry.bounds; layers = only entry.layer }

-- the extent that an info shows
abbrev pub extent_of : Info → Extent
extent_of info = record { bounds = info.bounds; layers = info.layers }

-- the one extent is part of the other: its bounds lie in the other's, and its layers are among the other's
pub record IsPart (part whole : Extent) : Type 0 where
  pub bounds : inside part.bounds whole.bounds ≡ true
  pub layers : subset part.layers whole.layers ≡ true

-- the extent `b` is one box of one layer, inside the other extent
pub record IsBoxInside (b extent : Extent) : Type 0 where
  pub box : IsRect b.bounds
  pub one : IsOneLayer b.layers
  pub inside : inside b.bounds extent.bounds ≡ true
  pub among : subset b.layers extent.layers ≡ true

-- each box inside the extent is accepted
abbrev pub AllAccepted : (Extent → Bool) → Extent → Type 0
AllAccepted accepts extent = (b : Extent) → IsBoxInside b extent → accepts b ≡ true

-- no box inside the extent is accepted
abbrev pub NoneAccepted : (Extent → Bool) → Extent → Type 0
NoneAccepted accepts extent = (b : Extent) → IsBoxInside b extent → accepts b ≡ false

-- ---- what it means

-- which boxes are accepted, the score of each of them, and the verdict on each argument
pub record Meaning : Type 0 where
  pub accepts : Extent → Bool
  pub score : Extent → ℕ
  pub verdict : Info → Verdict

-- the score that is answered
abbrev pub estimate_of : Meaning → Info → ℕ
estimate_of meaning info = (meaning.verdict info).score

-- the same boxes and scores, and 0 for each node
abbrev pub unscored_meaning : Meaning → Meaning
unscored_meaning meaning = record meaning {
  verdict = λ info. let verdict = meaning.verdict info in
      record verdict { score = if info.level == 0 then verdict.score else 0 };
}

-- that of a shape and a rank: what the one accepts and the states that it answers, the scores of the other and its
-- estimates of them
abbrev pub guided : (accepts : Extent → Bool) → (state : Info → Within) → (score : Extent → ℕ) → (estimate : Info → ℕ)
    → Meaning
guided accepts state score estimate = record {
  accepts = accepts;
  score = score;
  verdict = λ info. record { within = state info; score = estimate info };
}

-- ---- what it may be called with

-- some layer is shown, and of an entry exactly one
pub record ShowsLayers (info : Info) : Type 0 where
  pub some : HasSome info.layers
  pub one : info.level ≡ 0 → IsOneLayer info.layers

-- an info that shows an entry or a node: its bounds are a box of the plane, as each `Bounds` is, it shows layers, and its
-- numbers have the ranges of their types
pub record IsWellFormed (info : Info) : Type 0 where
  pub box : IsRect info.bounds
  pub coordinates : inside info.bounds plane ≡ true
  pub layers : ShowsLayers info
  pub level : info.level < 2 ^ 8
  pub top : info.top < 2 ^ 8
  pub parent_score : info.parent_score < 2 ^ 128

-- the caller's condition: the parent was FULLY only where each box of the extent is accepted
abbrev pub IsHonest : (Extent → Bool) → Info → Type 0
IsHonest accepts info = info.parent_within ≡ Fully → AllAccepted accepts (extent_of info)

-- an info that a caller may ask about
pub record IsQuestion (accepts : Extent → Bool) (info : Info) : Type 0 where
  pub well_formed : IsWellFormed info
  pub honest : IsHonest accepts info

-- ---- the laws

-- the laws of a shape: what it accepts, and the states that it answers
pub record IsFaithful (accepts : Extent → Bool) (state : Info → Within) : Type 0 where
  -- an entry is NOT exactly where it isn't accepted
  pub leaf : (i : Info) → IsQuestion accepts i → i.level ≡ 0
      → (state i ≡ Not) ↔ (accepts (extent_of i) ≡ false)
  -- a node is NOT only where no box inside is accepted
  pub pruning : (i : Info) → IsQuestion accepts i → 0 < i.level
      → state i ≡ Not → NoneAccepted accepts (extent_of i)
  -- a node is FULLY only where each box inside is accepted
  pub fullness : (i : Info) → IsQuestion accepts i → 0 < i.level
      → state i ≡ Fully → AllAccepted accepts (extent_of i)

-- the laws of a rank: the scores of boxes, and the scores that it answers
pub record IsAdmissible (score : Extent → ℕ) (estimate : Info → ℕ) : Type 0 where
  -- an entry has the score of its box
  pub exact : (i : Info) → IsWellFormed i → i.level ≡ 0
      → estimate i ≡ score (extent_of i)
  -- a node has at most the score of each box inside
  pub admissibility : (i : Info) → IsWellFormed i → 0 < i.level
      → (b : Extent) → IsBoxInside b (extent_of i) → estimate i ≤ score b

-- each node scores 0, as in the orders by id and by area
abbrev pub IsUnscored : (score : Info → ℕ) → Type 0
IsUnscored score = (i : Info) → 0 < i.level → score i ≡ 0

-- the laws of a geometry
pub record IsLawful (meaning : Meaning) : Type 0 where
  -- its states keep the leaf law, the pruning law and the fullness law
  pub faithful : IsFaithful meaning.accepts (λ i. (meaning.verdict i).within)
  -- an entry that is accepted has the score of its box
  pub exact : (i : Info) → IsQuestion meaning.accepts i → i.level ≡ 0
      → meaning.accepts (extent_of i) ≡ true → (meaning.verdict i).score ≡ meaning.score (extent_of i)
  -- a node has at most the score of each accepted box inside
  pub admissibility : (i : Info) → IsQuestion meaning.accepts i → 0 < i.level
      → (b : Extent) → IsBoxInside b (extent_of i) → meaning.accepts b ≡ true
      → (meaning.verdict i).score ≤ meaning.score b
