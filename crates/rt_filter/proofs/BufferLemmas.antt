-- Bytes in a buffer, by their places.
use Rattle.std.proofs.Common.{◌≡◌, ◌∙◌, ◌+◌, ◌-◌, ◌<◌, ◌≤◌, ℕ, List, ◌++◌, [], ◌∷◌, length, take, drop, set, Some, ap, refl, sym, arith}
use Rattle.std.proofs.Math.Seq.{drop-append_seam, take-add, take-append-add, take-append_seam}
use Rattle.std.proofs.lemmas.{List.{drop-drop, length-append, length-drop, length-take-le, take-append-drop, take-take, take_more_set}, Slice.{take-put_mid, take-put_mid_below}}
use borrow.Rule.Slice.PartMut.{put_mid, same_len_mid}
use Rattle.memchr.specs.Find.{IsFirstByte, is_byte}
use Rattle.rt_filter.specs.{Lines.{longest_line}, Stages.{line_feed}}

-- the bytes from `start` to `searched`, in which no line feed stands, and those from there on
module _ (bytes : List ℕ) (start searched : ℕ) (order : start ≤ searched) where
  abbrev pub begun_at : List ℕ
  begun_at = take (searched - start) (drop start bytes)

  behind : drop (searched - start) (drop start bytes) ≡ drop searched bytes
  behind =
      let there : start + (searched - start) ≡ searched = omega (arith, order) in
      drop-drop (searched - start) start bytes ∙ ap (λ n. drop n bytes) there

  pub all_begun : drop start bytes ≡ begun_at ++ drop searched bytes
  all_begun = sym (take-append-drop (searched - start) (drop start bytes)) ∙ ap (λ zs. begun_at ++ zs) behind

  -- a line that ends at a place from `searched` on
  pub line_at : (n : ℕ) → take (searched + n - start) (drop start bytes) ≡ begun_at ++ take n (drop searched bytes)
  line_at n =
      let long : searched + n - start ≡ searched - start + n = omega (arith, order) in
      ap (λ k. take k (drop start bytes)) long ∙ take-add (searched - start) n (drop start bytes)
      ∙ ap (λ zs. begun_at ++ take n zs) behind

  -- it is no longer than a line may be where the buffer has capacity for no more and its line feed
  pub line_fits : (n : ℕ) → IsFirstByte (is_byte line_feed) (drop searched bytes) (Some n) → length bytes ≤ longest_line + 1
      → length (take (searched + n - start) (drop start bytes)) ≤ longest_line
  line_fits n at most =
      let below : searched + n < length bytes = omega (arith, at.0.high, length-drop searched bytes) in
      let long = length-take-le (searched + n - start) (drop start bytes) (omega (arith, order, below, length-drop start bytes)) in
      omega (arith, long, below, most)

-- the bytes behind a line feed
pub behind_line : (bytes : List ℕ) (searched n : ℕ) → drop (searched + n + 1) bytes ≡ drop (n + 1) (drop searched bytes)
behind_line bytes searched n =
    let there : searched + (n + 1) ≡ searched + n + 1 = omega arith in
    sym (drop-drop (n + 1) searched bytes ∙ ap (λ k. drop k bytes) there)

pub none_begun : (bytes : List ℕ) (n : ℕ) → take (n - n) (drop n bytes) ≡ take 0 (drop n bytes)
none_begun bytes n =
    let none : n - n ≡ 0 = omega arith in
    ap (λ k. take k (drop n bytes)) none

pub from_front : (bytes : List ℕ) (n : ℕ) → take (n - 0) bytes ≡ take n bytes
from_front bytes n =
    let all : n - 0 ≡ n = omega arith in
    ap (λ k. take k bytes) all

-- ---- what stands behind the bytes that are kept

module _ (buffer filled tail : List ℕ) (kept : ℕ) (fits : kept ≤ length buffer) (is : filled ≡ take kept buffer ++ tail) where
  long : length (take kept buffer) ≡ kept
  long = length-take-le kept buffer fits

  pub front_of : take kept filled ≡ take kept buffer
  front_of = ap (take kept) is ∙ ap (λ m. take m (take kept buffer ++ tail)) (sym long) ∙ take-append_seam (take kept buffer) tail

  pub rest_of : drop kept filled ≡ tail
  rest_of = ap (drop kept) is ∙ ap (λ m. drop m (take kept buffer ++ tail)) (sym long) ∙ drop-append_seam (take kept buffer) tail

-- what a pull gave
pub pulled : (buffer piece : List ℕ) (kept k n : ℕ) → kept ≤ length buffer → n ≤ length piece
    → take (kept + n) (put_mid kept k buffer piece) ≡ take kept buffer ++ take n piece
pulled buffer piece kept k n fits few =
    let all : take (kept + length piece) (put_mid kept k buffer piece) ≡ take kept buffer ++ piece =
    take-put_mid kept k buffer piece (kept + length piece) refl fits in
    let front : take (kept + n) (take (kept + length piece) (put_mid kept k buffer piece)) ≡ take (kept + n) (put_mid kept k buffer piece) =
    take-take (kept + n) (kept + length piece) (put_mid kept k buffer piece) (omega (arith, few)) in
    sym front ∙ ap (take (kept + n)) all ∙ ap (λ m. take (m + n) (take kept buffer ++ piece)) (sym (length-take-le kept buffer fits))
    ∙ take-append-add (take kept buffer) piece n

pub length_pulled : (buffer piece : List ℕ) (kept k n : ℕ) → kept ≤ length buffer → n ≤ length piece
    → length (take (kept + n) (put_mid kept k buffer piece)) ≡ kept + n
length_pulled buffer piece kept k n fits few =
    ap length (pulled buffer piece kept k n fits few) ∙ length-append (take kept buffer) (take n piece)
    ∙ omega (arith, length-take-le kept buffer fits, length-take-le n piece few)

-- a line feed, which is put there when no more bytes come
pub ended : (buffer piece : List ℕ) (kept k : ℕ) → kept < length buffer → kept + k ≡ length buffer → length piece ≡ k
    → take (kept + 1) (set (put_mid kept k buffer piece) kept line_feed) ≡ take kept buffer ++ line_feed ∷ []
ended buffer piece kept k fits parts many =
    let part = length-take-le k (drop kept buffer) (omega (arith, parts, length-drop kept buffer)) in
    let all = same_len_mid kept k buffer piece (many ∙ sym part) in
    take_more_set (put_mid kept k buffer piece) kept line_feed (omega (arith, fits, all))
    ∙ ap (λ front. front ++ line_feed ∷ []) (take-put_mid_below kept k buffer piece kept (omega arith) (omega (arith, fits)))
