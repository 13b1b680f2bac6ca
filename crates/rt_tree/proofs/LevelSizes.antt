-- What the sizes of levels are, without the recursion that computes them.
use Rattle.std.proofs.Common.{◌≡◌, ◌<◌, ◌≤◌, ◌+◌, ◌↔◌, ℕ, zero, suc, List, [], ◌∷◌, length, slice_get, Some, refl}
use Rattle.std.proofs.{Common.{sym, ap, subst, arith, inl, inr}, lemmas.{Bool.{cases_lt}, Option.{none-some}}}
use Rattle.std.specs.Int.{div_ceil}
use Rattle.rt_tree.specs.Levels.{level_sizes, sizes_above}
use Rattle.rt_tree.proofs.LevelLemmas.{div_ceil-halves, div_ceil-positive, sizes_above-step, sizes_from}
use Rattle.rt_tree.proofs.LevelLemmas.{sizes_from-step}

-- a level of one is the last, and the last has one; each follows from the one below it
record AreLevels (fanout : ℕ) (sizes : List ℕ) : Type 0 where
  last : (level size : ℕ) → slice_get sizes level ≡ Some size → (size ≡ 1) ↔ (suc level ≡ length sizes)
  above : (level below above : ℕ) → slice_get sizes level ≡ Some below → slice_get sizes (suc level) ≡ Some above
      → above ≡ div_ceil below fanout

one_level : (fanout : ℕ) → AreLevels fanout (1 ∷ [])
one_level fanout = record { last = last; above = λ level below above e f. absurd (none-some above f) }
  where
    last : (level size : ℕ) → slice_get (1 ∷ []) level ≡ Some size → (size ≡ 1) ↔ (suc level ≡ 1)
    last zero size e = ((λ _. refl), (λ _. cc))
    last (suc level) size e = absurd (none-some size e)

-- with one more level below the others
module _ (fanout size : ℕ) (rest : List ℕ) (levels : AreLevels fanout rest)
    (next : slice_get rest 0 ≡ Some (div_ceil size fanout)) where
  above_more : (level below above : ℕ) → slice_get (size ∷ rest) level ≡ Some below → slice_get rest level ≡ Some above
      → above ≡ div_ceil below fanout
  above_more zero below above e f = cc
  above_more (suc level) below above e f = levels.above level below above e f

  last_more : 1 < size → 0 < length rest → (level s : ℕ) → slice_get (size ∷ rest) level ≡ Some s
      → (s ≡ 1) ↔ (suc level ≡ length (size ∷ rest))
  last_more more some zero s e =
      let same : size ≡ s = cc in ((λ one. absurd (omega arith)), (λ top. absurd (omega arith)))
  last_more more some (suc level) s e =
      let known = levels.last level s e in ((λ one. ap suc (known.0 one)), (λ top. known.1 (omega arith)))

are_levels : (most fanout size : ℕ) → 2 ≤ fanout → 0 < size → size ≤ most → AreLevels fanout (sizes_from fanout size)
are_levels zero fanout size several some few = absurd (omega arith)
are_levels (suc most) fanout size several some few = elim (cases_lt 1 size) [
  | inl more ↦
      let next = div_ceil size fanout in
      let rest = sizes_from fanout next in
      let levels = are_levels most fanout next several (div_ceil-positive size fanout several some)
      (omega (arith, div_ceil-halves size fanout several)) in
      subst (AreLevels fanout) (sym (sizes_from-step fanout size several more)) (record {
        last = last_more fanout size rest levels refl more (omega arith);
        above = above_more fanout size rest levels refl;
      })
  | inr one ↦ subst (λ n. AreLevels fanout (sizes_from fanout n)) {x = 1} (omega arith) (one_level fanout)
]

-- those above so many entries
above_entries : (fanout len : ℕ) → 2 ≤ fanout → 0 < len → AreLevels fanout (sizes_above len fanout len)
above_entries fanout len several some = subst (AreLevels fanout) (sym (sizes_above-step fanout len several some))
    (are_levels (div_ceil len fanout) fanout (div_ceil len fanout) several (div_ceil-positive len fanout several some)
    (omega arith))

-- each from the one below it
pub level_above : (len fanout level next below above : ℕ) → 2 ≤ fanout → next ≡ level + 1
    → slice_get (level_sizes len fanout) level ≡ Some below → slice_get (level_sizes len fanout) next ≡ Some above
    → above ≡ div_ceil below fanout
level_above len fanout level zero below above several is e f = absurd (omega arith)
level_above zero fanout level (suc next) below above several is e f = absurd (none-some above f)
level_above (suc n) fanout level (suc next) below above several is e f =
    let same : level ≡ next = omega arith in
    above_more fanout (suc n) _ (above_entries fanout (suc n) several (omega arith)) refl next below above
    (rw (← same) e) f

-- above the entries a level of one is the last, and the last has one
pub level_last : (len fanout level size count : ℕ) → 2 ≤ fanout → 0 < level
    → slice_get (level_sizes len fanout) level ≡ Some size → count ≡ length (level_sizes len fanout)
    → (size ≡ 1) ↔ (level + 1 ≡ count)
level_last len fanout zero size count several some e is = absurd (omega arith)
level_last zero fanout (suc level) size count several some e is = absurd (none-some size e)
level_last (suc n) fanout (suc level) size count several some e is =
    let known = (above_entries fanout (suc n) several (omega arith)).last level size e in
    ((λ one. let last = known.0 one in omega arith), (λ last. known.1 (omega arith)))
