-- The words of a line, one after the other. A blank is any byte that passes the test p.
use Rattle.std.proofs.Common.{◌≡◌, ◌≢◌, ◌∙◌, ℕ, Bool, true, false, not, List, [], ◌∷◌, length, take, drop, filter, refl, sym, ap, arith, Option, unwrap_or, nat_lt, one-add}
use Rattle.std.proofs.lemmas.List.Sums.{prefix_len-le-length}
use borrow.Author.Tests.{ltb-false}
use Rattle.std.specs.List.{position, position_or_len, slice_split}
use Rattle.std.specs.Borrow.{Bor}
use Rattle.std.specs.Prelude.{◌==◌, MatchOption, None, Some, option_map, slice_get}
use Rattle.rt_text.specs.Words.{is_blank, is_empty}

-- the parts that aren't empty
abbrev pub full_parts : List (List ℕ) → List (List ℕ)
full_parts parts = filter (λ part. not (is_empty part)) parts

-- the parts that stand after the first one
abbrev pub later_parts : (ℕ → Bool) → List ℕ → List (List ℕ)
later_parts p [] = []
later_parts p (c ∷ xs) = slice_split p xs

-- the place of the first element that passes, or the length where there is none
pub first_place : (p : ℕ → Bool) (xs : List ℕ) {place : Option ℕ} {n : ℕ} → place ≡ position p xs → n ≡ unwrap_or place (length xs) → n ≡ position_or_len p xs
first_place p xs is e = e ∙ rw is (by (nat_lt (position_or_len p xs) (length xs)) refl)
  where
    by : (b : Bool) → nat_lt (position_or_len p xs) (length xs) ≡ b → unwrap_or (position p xs) (length xs) ≡ position_or_len p xs
    by true t = rw t refl
    by false t = rw t (omega (arith, prefix_len-le-length (λ x. not (p x)) xs, ltb-false))

module _ (p : ℕ → Bool) where
  abbrev not_p : ℕ → Bool
  not_p c = not (p c)

  -- blanks in front change no word
  pub words_skip : (xs : List ℕ) → full_parts (slice_split p xs) ≡ full_parts (slice_split p (drop (position_or_len not_p xs) xs))
  words_skip [] = refl
  words_skip (c ∷ xs) = by (p c) refl (words_skip xs)
    where
      by : (b : Bool) → p c ≡ b → full_parts (slice_split p xs) ≡ full_parts (slice_split p (drop (position_or_len not_p xs) xs))
          → full_parts (slice_split p (c ∷ xs)) ≡ full_parts (slice_split p (drop (position_or_len not_p (c ∷ xs)) (c ∷ xs)))
      by true e h = rw (e, one-add) h
      by false e h = rw (e, e) refl

  -- the first part, and the later ones
  pub parts_are : (xs : List ℕ) → slice_split p xs ≡ take (position_or_len p xs) xs ∷ later_parts p (drop (position_or_len p xs) xs)
  parts_are [] = refl
  parts_are (c ∷ xs) = by (p c) refl (parts_are xs)
    where
      by : (b : Bool) → p c ≡ b → slice_split p xs ≡ take (position_or_len p xs) xs ∷ later_parts p (drop (position_or_len p xs) xs)
          → slice_split p (c ∷ xs) ≡ take (position_or_len p (c ∷ xs)) (c ∷ xs) ∷ later_parts p (drop (position_or_len p (c ∷ xs)) (c ∷ xs))
      by true e h = rw e refl
      by false e h = rw (e, h, one-add) refl

  -- what stands after the first part begins with a blank, which changes no word
  later_words : (xs : List ℕ) → full_parts (later_parts p (drop (position_or_len p xs) xs)) ≡ full_parts (slice_split p (drop (position_or_len p xs) xs))
  later_words [] = refl
  later_words (c ∷ xs) = by (p c) refl (later_words xs)
    where
      by : (b : Bool) → p c ≡ b → full_parts (later_parts p (drop (position_or_len p xs) xs)) ≡ full_parts (slice_split p (drop (position_or_len p xs) xs))
          → full_parts (later_parts p (drop (position_or_len p (c ∷ xs)) (c ∷ xs))) ≡ full_parts (slice_split p (drop (position_or_len p (c ∷ xs)) (c ∷ xs)))
      by true e h = rw (e, e) refl
      by false e h = rw (e, one-add) h

  -- where no blank stands in front, the first word does
  pub words_first : (c : ℕ) (xs : List ℕ) → p c ≡ false
      → full_parts (slice_split p (c ∷ xs)) ≡ take (position_or_len p (c ∷ xs)) (c ∷ xs) ∷ full_parts (slice_split p (drop (position_or_len p (c ∷ xs)) (c ∷ xs)))
  words_first c xs e = ap full_parts (parts_are (c ∷ xs)) ∙ rw (e, one-add) (ap (λ rest. (c ∷ take (position_or_len p xs) xs) ∷ rest) (later_words xs))

  -- what stands after all blanks in front begins with none
  no_blank_in_front : (xs : List ℕ) (c : ℕ) (ys : List ℕ) → drop (position_or_len not_p xs) xs ≡ c ∷ ys → p c ≡ false
  no_blank_in_front [] c ys e = cc
  no_blank_in_front (x ∷ xs) c ys e = by (p x) refl (no_blank_in_front xs c ys) e
    where
      by : (b : Bool) → p x ≡ b → (drop (position_or_len not_p xs) xs ≡ c ∷ ys → p c ≡ false) → drop (position_or_len not_p (x ∷ xs)) (x ∷ xs) ≡ c ∷ ys → p c ≡ false
      by true t more h = more (rw (t, one-add) at h)
      by false t more h = let same : x ∷ xs ≡ c ∷ ys = rw t at h in let head : x ≡ c = cc in rw (← head) t

  -- where only blanks are left, no word is
  pub words_none : (xs rest : List ℕ) → rest ≡ drop (position_or_len not_p xs) xs → length rest ≡ 0 → full_parts (slice_split p xs) ≡ []
  words_none xs [] e h = words_skip xs ∙ rw (← e) refl
  words_none xs (c ∷ rest) e h = absurd (omega (arith, h))

  -- the first word stands after the blanks in front, up to the next blank
  pub words_next : (xs rest word after : List ℕ) → rest ≡ drop (position_or_len not_p xs) xs → length rest ≢ 0
      → word ≡ take (position_or_len p rest) rest → after ≡ drop (position_or_len p rest) rest
      → full_parts (slice_split p xs) ≡ word ∷ full_parts (slice_split p after)
  words_next xs [] word after e n w a = absurd (n refl)
  words_next xs (c ∷ rest) word after e n w a = words_skip xs ∙ rw (← e, w, a) (words_first c rest (no_blank_in_front xs c rest (sym e)))

-- where a number stands, a word ends: a blank follows, or nothing
pub ends_word : (N : Type 0) (S : Bor ℕ → Type 0) (rest : List ℕ) (first : Option (Bor ℕ)) → option_map (λ x. x.now) first ≡ slice_get rest 0
    → MatchOption first N S → ((x : Bor ℕ) → S x → is_blank x.now ≡ true) → (position_or_len is_blank rest == 0) ≡ true
ends_word N S [] first e h k = refl
ends_word N S (x ∷ rest) None e h k = cc
ends_word N S (x ∷ rest) (Some y) e h k = let blank = k y h in grind (arith, e, blank)
