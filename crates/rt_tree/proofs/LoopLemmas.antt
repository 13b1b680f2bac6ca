-- One more step of a loop over a list.
use Rattle.std.proofs.Common.{◌≡◌, ◌<◌, ◌≤◌, ◌+◌, ◌-◌, ℕ, List, [], ◌∷◌, ◌++◌, length, map, take, drop, set, get_or, min, refl}
use Rattle.std.proofs.{Common.{sym, ◌∙◌, ap, arith, append_assoc, ℤ, ◌+ℤ◌, FitsSigned, of_z, to_z, w32}, lemmas.Int.{to_z-of_z}}
use Rattle.std.proofs.lemmas.{Grind.{drop_more_same, take-set_at}, Slice.{drop-put_mid, take-put_mid}}
use Rattle.std.proofs.lemmas.List.{map_more, drop-set-lt, get_or-drop, length-set, drop-drop, length-append}
use Rattle.std.proofs.lemmas.List.{drop_min, take_min, length-drop, length-take, map-append, take_all, take_more}
use borrow.Rule.Slice.PartMut.{post_of, put_mid}
use Rattle.std.specs.List.{enumerate_from}
use Rattle.rt_tree.specs.Packing.{chunks}
use Rattle.rt_tree.proofs.ChunkLemmas.{chunks-step}

-- ---- each element gets a key

-- the sum of two coordinates, as they are read
pub sum_read : (low high a b : ℤ) → FitsSigned w32 low → FitsSigned w32 high → low ≡ a → high ≡ b
    → to_z w32 (of_z w32 low) +ℤ to_z w32 (of_z w32 high) ≡ a +ℤ b
sum_read low high a b p q e f = rw (to_z-of_z w32 low p, to_z-of_z w32 high q, e, f) refl

enumerate_from-push : {X : Type 0} (n : ℕ) (xs : List X) (x : X)
    → enumerate_from n (xs ++ x ∷ []) ≡ enumerate_from n xs ++ (n + length xs, x) ∷ []
enumerate_from-push n [] x = ap (λ m. (m, x) ∷ []) (omega arith)
enumerate_from-push n (y ∷ xs) x = ap (λ l. (n, y) ∷ l) (enumerate_from-push (n + 1) xs x
    ∙ ap (λ m. enumerate_from (n + 1) xs ++ (m, x) ∷ []) (omega arith))

pub keys_more : {X : Type 0} (key : ℕ × X → ℕ) (items : List X) (i k : ℕ) (x : X) (keys : List ℕ)
    → i < length items → x ≡ get_or items i x → k ≡ key (i, x)
    → keys ≡ map key (enumerate_from 0 (take i items)) → keys ++ k ∷ [] ≡ map key (enumerate_from 0 (take
    (i + 1) items))
keys_more key items i k x keys there e k_is is =
    let long : 0 + length (take i items) ≡ i = omega (arith, length-take i items) in
    let more : take (i + 1) items ≡ take i items ++ x ∷ [] = take_more items i x there
    ∙ ap (λ y. take i items ++ y ∷ []) (sym e) in
    rw (is, k_is, more, enumerate_from-push 0 (take i items) x, long)
    (sym (map-append key (enumerate_from 0 (take i items)) ((i, x) ∷ [])))

-- ---- each element is changed in its place

-- the elements from a place on, where they are the same from there on
pub unchanged : (start : ℕ) (old keys : List ℕ) → drop start keys ≡ drop start old → (i : ℕ) → start ≤ i
    → get_or keys i 0 ≡ get_or old i 0
unchanged start old keys later i h =
    let at : start + (i - start) ≡ i = omega arith in
    ap (λ j. get_or keys j 0) (sym at) ∙ sym (get_or-drop start keys (i - start) 0)
    ∙ ap (λ l. get_or l (i - start) 0) later ∙ get_or-drop start old (i - start) 0 ∙ ap (λ j. get_or old j 0) at

-- up to a place the elements are mapped, and from there on they are as they were
pub record IsMappedTo (f : ℕ → ℕ) (place : ℕ) (old new : List ℕ) : Type 0 where
  pub long : length new ≡ length old
  pub done : take place new ≡ map f (take place old)
  pub later : drop place new ≡ drop place old

pub mapped_more : (f : ℕ → ℕ) (old new : List ℕ) (i x : ℕ) → i < length old → IsMappedTo f i old new → x ≡ f (get_or new i 0)
    → IsMappedTo f (i + 1) old (set new i x)
mapped_more f old new i x there m is =
    record {
      long = length-set new i x ∙ m.long;
      done = take-set_at new i (i + 1) x refl (omega (arith, m.long)) ∙ ap (λ l. l ++ x ∷ []) m.done
          ∙ ap (λ y. map f (take i old) ++ y ∷ []) (is ∙ ap f (unchanged i old new m.later i (omega arith)))
          ∙ sym (map_more f old i 0 there);
      later = drop-set-lt (i + 1) new i x (omega arith) ∙ drop_more_same new old i m.later;
    }

-- all of them are mapped
pub mapped_all : (f : ℕ → ℕ) (old new : List ℕ) (i : ℕ) → length old ≤ i → IsMappedTo f i old new → new ≡ map f old
mapped_all f old new i all m = sym (take_all i new (omega (arith, m.long))) ∙ m.done ∙ ap (map f) (take_all i old all)

-- ---- parts of a list are changed in their places, one after the other

-- up to a place the list is what F makes of it, and from there on it is as it was
pub record IsChangedTo (F : List ℕ → List ℕ) (place : ℕ) (old new : List ℕ) : Type 0 where
  pub inside : place ≤ length new
  pub later : drop place new ≡ drop place old
  pub changed : take place new ++ F (drop place old) ≡ F old

-- the next part is changed by G, and with that begins what F makes of the rest
pub changed_more : (F G : List ℕ → List ℕ) (start end : ℕ) (old new part : List ℕ) → IsChangedTo F start old new
    → start ≤ end → end ≤ length new → length part ≡ length (take (end - start) (drop start new))
    → part ≡ G (take (end - start) (drop start new))
    → F (drop start old) ≡ G (take (end - start) (drop start old)) ++ F (drop end old)
    → IsChangedTo F end old (put_mid start (end - start) new part)
changed_more F G start end old new part so_far up there same is next =
    let n = end - start in
    let at : start + n ≡ end = omega arith in
    let behind = post_of start n new in
    let long : length part ≡ n = omega (arith, length-take n (drop start new), length-drop start new) in
    let begun : part ++ F (drop end old) ≡ F (drop start old) =
    ap (λ l. l ++ F (drop end old)) (is ∙ ap (λ l. G (take n l)) so_far.later) ∙ sym next in
    record {
      inside = omega (
        arith,
        length-append (take start new) (part ++ behind),
        length-append part behind,
        length-take start new,
      );
      later = drop-put_mid start n new part end (omega arith) so_far.inside long
          ∙ ap (λ k. drop k new) (sym at) ∙ sym (drop-drop n start new) ∙ ap (drop n) so_far.later
          ∙ drop-drop n start old ∙ ap (λ k. drop k old) at;
      changed = ap (λ l. l ++ F (drop end old)) (take-put_mid start n new part end (omega arith) so_far.inside)
          ∙ append_assoc (take start new) part (F (drop end old)) ∙ ap (λ l. take start new ++ l) begun ∙ so_far.changed;
    }

-- the chunk that begins at a place, and those behind it
pub chunks-at : {X : Type 0} (size start n : ℕ) (xs : List X) → 0 < size → start < length xs
    → n ≡ min size (length xs - start)
    → chunks size (drop start xs) ≡ take (start + n - start) (drop start xs) ∷ chunks size (drop (start + n) xs)
chunks-at size start n xs some there e =
    let rest = drop start xs in
    let left = length-drop start xs in
    let size_is : min size (length rest) ≡ n = omega arith in
    let taken : n ≡ start + n - start = omega arith in
    chunks-step size rest some (omega arith)
    ∙ ap (λ l. l ∷ chunks size (drop size rest)) (sym (take_min size rest) ∙ ap (λ k. take k rest) (size_is ∙ taken))
    ∙ ap (λ l. take (start + n - start) rest ∷ chunks size l) (sym (drop_min size rest) ∙ ap (λ k. drop k rest) size_is
    ∙ drop-drop n start xs)
