-- Children that wait: sets of places in a word, and what waits after each step.
use Rattle.std.proofs.Common.{◌≡◌, ◌≢◌, ◌<◌, ◌≤◌, ◌+◌, ◌*◌, ◌%◌, ◌^◌, ◌==◌, ◌∙◌, ℕ, Bool, true, false, inl, inr}
use Rattle.std.proofs.{Common.{refl, sym, ap, arith, w64, if◌then◌else◌, get_or, List}, lemmas.Bool.{cases_eq, cases_lt}}
use Rattle.std.proofs.lemmas.Nat.{and_le_l}
use Rattle.std.proofs.lemmas.Nat.Bits.{bit_at-zero, bit_at_above, bit_at_clear_other, bit_at_clear_same, bit_at_set_other}
use Rattle.std.proofs.lemmas.Nat.Bits.{bit_at_or, bit_at_set_same}
use Rattle.std.specs.{Int.{bit_at, bit_not, from_bool}, Prelude.{bit_and, bit_or}}
use Rattle.rt_geo.specs.declared.geometry.Verdict.{Verdict}
use Rattle.rt_geo.specs.declared.geometry.Within.TheVariants.{Fully, Not, Partly}
use Rattle.rt_search.specs.Pending.{HasKept, HasPut, HasTakenOut, HasWaiting, Waiting, is_among, verdict_at}

-- ---- a set of places

pub none_among : (i : ℕ) → is_among 0 i ≡ false
none_among i = ap (λ m. m == 1) (bit_at-zero i)

module _ (n k : ℕ) (within : k < 64) where
  pub set_here : is_among (bit_or n (1 * 2 ^ k % 2 ^ 64)) k ≡ true
  set_here = ap (λ m. m == 1) (bit_at_set_same w64 n k within)

  pub set_other : (i : ℕ) → i ≢ k → is_among (bit_or n (1 * 2 ^ k % 2 ^ 64)) i ≡ is_among n i
  set_other i apart = ap (λ m. m == 1) (bit_at_set_other w64 n k within i apart)

  -- where a test holds
  nothing_more : (i : ℕ) → bit_at (bit_or n (0 * 2 ^ k % 2 ^ 64)) i ≡ bit_at n i
  nothing_more i =
      let zero_is : 0 * 2 ^ k % 2 ^ 64 ≡ 0 = omega arith in
      ap (λ m. bit_at (bit_or n m) i) zero_is ∙ omega (arith, bit_at_or n 0 i, bit_at-zero i)

  pub flag_here : (b : Bool) → is_among n k ≡ false → is_among (bit_or n (from_bool b * 2 ^ k % 2 ^ 64)) k ≡ b
  flag_here true none = set_here
  flag_here false none = ap (λ m. m == 1) (nothing_more k) ∙ none

  pub flag_other : (b : Bool) (i : ℕ) → i ≢ k → is_among (bit_or n (from_bool b * 2 ^ k % 2 ^ 64)) i ≡ is_among n i
  flag_other true i apart = set_other i apart
  flag_other false i apart = ap (λ m. m == 1) (nothing_more i)

  abbrev left : ℕ
  left = bit_and n (bit_not w64 (1 * 2 ^ k % 2 ^ 64))

  pub clear_here : is_among left k ≡ false
  clear_here = ap (λ m. m == 1) (bit_at_clear_same w64 n k within)

  pub clear_other : n < 2 ^ 64 → (i : ℕ) → i ≢ k → is_among left i ≡ is_among n i
  clear_other fits i apart =
      elim (cases_lt i 64) [
        | inl low ↦ ap (λ m. m == 1) (bit_at_clear_other w64 n k within i low apart)
        | inr high ↦
            let less = and_le_l n (bit_not w64 (1 * 2 ^ k % 2 ^ 64)) in
            ap (λ m. m == 1) (bit_at_above left 64 i (omega (arith, less)) high ∙ sym (bit_at_above n 64 i fits high))
      ]

  pub clear_less : bit_at n k ≡ 1 → left < n
  clear_less set =
      elim (cases_eq left n) [
        | inl same ↦ absurd (omega (arith, ap (λ x. bit_at x k) same, bit_at_clear_same w64 n k within))
        | inr other ↦ omega (arith, and_le_l n (bit_not w64 (1 * 2 ^ k % 2 ^ 64)))
      ]

-- ---- what waits

module _ (has : Bool) (opens : Verdict → Bool) (verdict : ℕ → Verdict) where
  pub none_waits : (w : Waiting) → w.places ≡ 0 → w.full ≡ 0 → HasWaiting has opens verdict 0 0 w
  none_waits w places full =
      record {
        places = λ i from lt. absurd (omega arith);
        before = λ i lt. absurd (omega arith);
        behind = λ i le. rw places (none_among i);
        clear = λ i le. rw full (none_among i);
        verdicts = λ i lt. absurd (omega arith);
      }

  module _ {i : ℕ} {v : Verdict} (is : v ≡ verdict i) {old kept : Waiting} (waits : HasWaiting has opens verdict 0 i old)
      (keeps : HasKept has i v old kept) where
    -- a child that isn't opened
    pub one_closed : opens v ≡ false → HasWaiting has opens verdict 0 (i + 1) kept
    one_closed closed =
        record {
          places = λ j from lt. elim (cases_eq j i) [
            | inl same ↦ rw (same, keeps.same) (waits.behind i (omega arith) ∙ sym closed ∙ ap opens is)
            | inr other ↦ rw keeps.same (waits.places j from (omega (arith, other)))
          ];
          before = λ j lt. absurd (omega arith);
          behind = λ j le. rw keeps.same (waits.behind j (omega arith));
          clear = λ j le. keeps.clear j (λ e. absurd (omega arith)) ∙ waits.clear j (omega arith);
          verdicts = λ j lt is_open. elim (cases_eq j i) [
            | inl same ↦ absurd (grind arith)
            | inr other ↦ keeps.others j other ∙ waits.verdicts j (omega (arith, other)) is_open
          ];
        }

    -- one that is opened
    pub one_waits : v.within ≢ Not → opens v ≡ true → {new : Waiting} → HasPut i kept new
        → HasWaiting has opens verdict 0 (i + 1) new
    one_waits some opened {new} put =
        let at : (j : ℕ) → verdict_at has new j ≡ verdict_at has kept j = λ j. rw put.same refl in
        let full : new.full ≡ kept.full = ap (λ w. w.full) put.same in
        record {
          places = λ j from lt. elim (cases_eq j i) [
            | inl same ↦ rw same (put.here ∙ sym opened ∙ ap opens is)
            | inr other ↦ put.others j other ∙ ap (λ p. is_among p j) keeps.same ∙ waits.places j from (omega (arith, other))
          ];
          before = λ j lt. absurd (omega arith);
          behind = λ j le. put.others j (λ e. absurd (omega arith)) ∙ ap (λ p. is_among p j) keeps.same ∙ waits.behind j (omega arith);
          clear = λ j le. ap (λ p. is_among p j) full ∙ keeps.clear j (λ e. absurd (omega arith)) ∙ waits.clear j (omega arith);
          verdicts = λ j lt is_open. at j ∙ elim (cases_eq j i) [
            | inl same ↦ rw same (keeps.kept some ∙ is)
            | inr other ↦ keeps.others j other ∙ waits.verdicts j (omega (arith, other)) is_open
          ];
        }

  -- one that is dropped at once
  pub one_dropped : {i : ℕ} {v : Verdict} → v ≡ verdict i → {w : Waiting} → HasWaiting has opens verdict 0 i w
      → v.within ≡ Not → opens v ≡ false → HasWaiting has opens verdict 0 (i + 1) w
  one_dropped {i} {v} is {w} waits dropped =
      let same : HasKept has i v w w =
      record { same = refl; kept = λ some. absurd (some dropped); others = λ j apart. refl; clear = λ j apart. refl } in
      one_closed is waits same

  -- ---- one is taken out

  -- the first that is opened from a place on
  pub record IsNext (from to place : ℕ) (v : Verdict) (new : Waiting) : Type 0 where
    pub low : from ≤ place
    pub high : place < to
    pub opened : opens (verdict place) ≡ true
    pub reported : v ≡ verdict place
    pub closed : (i : ℕ) → from ≤ i → i < place → opens (verdict i) ≡ false
    pub rest : HasWaiting has opens verdict (place + 1) to new

  module _ {from to : ℕ} {w : Waiting} (waits : HasWaiting has opens verdict from to w) where
    pub next_out : {place : ℕ} {v : Verdict} {new : Waiting} → HasTakenOut has place v w new → IsNext from to place v new
    next_out {place} {v} {new} out =
        let low : from ≤ place = elim (cases_lt place from) [
          | inl less ↦ absurd (grind (arith, waits.before place less, out.first))
          | inr le ↦ le
        ] in
        let high : place < to = elim (cases_lt place to) [
          | inl less ↦ less
          | inr le ↦ absurd (grind (arith, waits.behind place le, out.first))
        ] in
        let opened = sym (waits.places place low high) ∙ out.first in
        let at : (j : ℕ) → verdict_at has new j ≡ verdict_at has w j = λ j. rw out.same refl in
        record {
          low = low;
          high = high;
          opened = opened;
          reported = out.verdict ∙ waits.verdicts place high opened;
          closed = λ i le lt. sym (waits.places i le (omega (arith, high))) ∙ out.before i lt;
          rest = record {
            places = λ i le lt. out.others i (λ e. absurd (omega arith)) ∙ waits.places i (omega (arith, low)) lt;
            before = λ i lt. elim (cases_eq i place) [
              | inl same ↦ rw same out.out
              | inr other ↦ out.others i other ∙ out.before i (omega (arith, other))
            ];
            behind = λ i le. out.others i (λ e. absurd (omega (arith, high))) ∙ waits.behind i le;
            clear = λ i le. ap (λ w. is_among w.full i) out.same ∙ waits.clear i le;
            verdicts = λ i lt is_open. at i ∙ waits.verdicts i lt is_open;
          };
        }

    pub none_left : ((i : ℕ) → is_among w.places i ≡ false) → (i : ℕ) → from ≤ i → i < to → opens (verdict i) ≡ false
    none_left none i le lt = sym (waits.places i le lt) ∙ none i

-- ---- a verdict that is kept

whole : (v : Verdict) (b : Bool) → (v.within ≡ Fully → b ≡ true) → (v.within ≡ Partly → b ≡ false) → v.within ≢ Not
    → v ≡ record { within = if b then Fully else Partly; score = v.score }
whole v b full partly some = grind arith

pub has_kept : (places full full' : ℕ) (has : Bool) (scores scores' : List ℕ) (place : ℕ) (v : Verdict) (b : Bool)
    → is_among full' place ≡ b → ((i : ℕ) → i ≢ place → is_among full' i ≡ is_among full i)
    → (v.within ≡ Fully → b ≡ true) → (v.within ≡ Partly → b ≡ false)
    → (if has then get_or scores' place 0 else 0) ≡ v.score
    → ((i : ℕ) → i ≢ place → get_or scores' i 0 ≡ get_or scores i 0)
    → HasKept has place v (record { places = places; full = full; scores = scores })
    (record { places = places; full = full'; scores = scores' })
has_kept places full full' has scores scores' place v b flag flags fully partly score others =
    record {
      same = refl;
      kept = λ some. rw (flag, score) (sym (whole v b fully partly some));
      others = λ i apart. rw (flags i apart, others i apart) refl;
      clear = flags;
    }
