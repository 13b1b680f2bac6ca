-- The lines of the levels, from the top down.
use Rattle.std.specs.Io.KnownBytes.{Appends}
use Rattle.std.proofs.Common.{◌≡◌, ◌∙◌, ◌+◌, ◌-◌, ◌<◌, ◌≤◌, ℕ, List, ◌∷◌, ◌++◌, length, drop, get_or, Option, Some, ap}
use Rattle.std.proofs.{Common.{zero-add, arith, append_assoc, rules}, lemmas.List.{drop_all, drop_more, get_or-reverse}}
use Rattle.std.proofs.lemmas.List.{length-reverse, Concat.{flat_map-cons}, FromFn.{get_or-enumerate_from}}
use Rattle.std.proofs.lemmas.{List.FromFn.{length-enumerate_from}, Option.{get_or_from_slice_get}}
use Rattle.std.specs.{List.{enumerate_from}, Prelude.{flat_map, reverse, slice_get}}
use Rattle.rt_text.specs.ReplyLines.{level_line, ok_line}
use Rattle.rt_filter.specs.Pushes.{WasCut}
use Rattle.rt_filter.proofs.PushLemmas.{AllBut, pushed_cut, pushed_next}

abbrev pub level_lines : List (ℕ × ℕ) → List ℕ
level_lines levels = flat_map (λ level. level_line level.0 level.1) levels

-- the levels from the top down, each its number with its size
abbrev pub downwards : List ℕ → List (ℕ × ℕ)
downwards sizes = reverse (enumerate_from 0 sizes)

length-downwards : (sizes : List ℕ) → length (downwards sizes) ≡ length sizes
length-downwards sizes = length-reverse (enumerate_from 0 sizes) ∙ length-enumerate_from 0 sizes

-- so many levels below the top
at_downwards : (sizes : List ℕ) (k size : ℕ) → k < length sizes → slice_get sizes (length sizes - 1 - k) ≡ Some size
    → get_or (downwards sizes) k (0, size) ≡ (length sizes - 1 - k, size)
at_downwards sizes k size h at = search (rules, length-enumerate_from, get_or-reverse, get_or-enumerate_from, zero-add, get_or_from_slice_get)

-- ---- what is left of a reply

-- the lines of the levels after so many, and their number
abbrev pub levels_left : (line : ℕ) → (sizes : List ℕ) → ℕ → List ℕ
levels_left line sizes k = level_lines (drop k (downwards sizes)) ++ ok_line line (length sizes)

levels_left-next : (line : ℕ) (sizes : List ℕ) (k size : ℕ) → k < length sizes → slice_get sizes (length sizes - 1 - k) ≡ Some size
    → levels_left line sizes k ≡ level_line (length sizes - 1 - k) size ++ levels_left line sizes (k + 1)
levels_left-next line sizes k size h at =
    let inside : k < length (downwards sizes) = omega (arith, length-downwards sizes) in
    let more = drop_more (downwards sizes) k (0, size) inside ∙ ap (λ x. x ∷ drop (k + 1) (downwards sizes)) (at_downwards sizes k size h at) in
    let text = ap level_lines more
    ∙ flat_map-cons (λ (level : ℕ × ℕ). level_line level.0 level.1) (length sizes - 1 - k, size) (drop (k + 1) (downwards sizes)) in
    ap (λ x. x ++ ok_line line (length sizes)) text
    ∙ append_assoc (level_line (length sizes - 1 - k) size) (level_lines (drop (k + 1) (downwards sizes))) (ok_line line (length sizes))

levels_left-end : (line : ℕ) (sizes : List ℕ) (k : ℕ) → length sizes ≤ k → levels_left line sizes k ≡ ok_line line (length sizes)
levels_left-end line sizes k h = search (rules, length-downwards, drop_all)

module _ (line : ℕ) (sizes all : List ℕ) (old mid new : Option (List ℕ)) (k : ℕ) (text : List ℕ) (left : AllBut all old mid (levels_left line sizes k)) where
  module _ (size : ℕ) (h : k < length sizes) (at : slice_get sizes (length sizes - 1 - k) ≡ Some size) (is : text ≡ level_line (length sizes - 1 - k) size) where
    next : AllBut all old mid (text ++ levels_left line sizes (k + 1))
    next = rw is (rw (levels_left-next line sizes k size h at) at left)

    -- the line of the next level was pushed
    pub level_pushed : Appends mid new text → AllBut all old new (levels_left line sizes (k + 1))
    level_pushed h = pushed_next all text (levels_left line sizes (k + 1)) old mid new next h

    -- it was cut short
    pub level_cut : WasCut mid new text → WasCut old new all
    level_cut h = pushed_cut all text (levels_left line sizes (k + 1)) old mid new next h

  -- their number alone is left
  pub levels_end : length sizes ≤ k → text ≡ ok_line line (length sizes) → AllBut all old mid text
  levels_end end is = rw is (rw (levels_left-end line sizes k end) at left)
