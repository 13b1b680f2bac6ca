-- A list is strictly convex by the count of the vertices to the left of its edges exactly where it is so vertex by vertex.
use Rattle.std.specs.Bool.{Decides}
use Rattle.std.specs.List.{count_by, list_all}
use Rattle.std.specs.Prelude.{int_le, int_lt, ◌==◌, ◌-ℤ◌, ◌*ℤ◌, cond, if◌then◌else◌, not, reverse, Result, Ok, Err}
use Rattle.std.proofs.Common.{◌⊎◌}
use Rattle.std.proofs.Common.{◌≡◌, ◌≢◌, ◌∙◌, sym, refl, ap, subst, arith, ℕ, zero, suc, ◌+◌, ◌<◌, ◌≤◌, Bool, true, false}
use Rattle.std.proofs.Common.{List, [], ◌∷◌, ◌++◌, length, get_or, add-one, inl, inr, ℤ, pos}
use Rattle.std.proofs.Math.IntN.{*ℤ-zero, *ℤ_comm}
use Rattle.std.proofs.lemmas.Bool.{cases_lt, eqb-true, true_from_ne_false, true≢false}
use Rattle.std.proofs.lemmas.Bool.Decides.{Decides-eqb, nat_tests}
use Rattle.std.proofs.lemmas.Grind.{common_steps}
use Rattle.std.proofs.lemmas.Int.{ints}
use Rattle.std.proofs.lemmas.List.{length-reverse}
use Rattle.std.proofs.lemmas.List.Elements.{All-from_get_or}
use Rattle.std.proofs.lemmas.List.Folds.{list_all_at}
use Rattle.std.proofs.lemmas.List.Sums.{count_by-le-length, list_all-from_AllPass, sum_by-cons}
use Rattle.std.proofs.lemmas.Option.{get_or_from_slice_get, slice_get-get_or, slice_get_within}
use Rattle.rt_geo.specs.Polygons.{IsPolygonOf, IsStrictlyConvex, edges, has_polygon_count, cross, is_in_half_plane, is_left}
use Rattle.rt_geo.specs.Polygons.{is_strictly_convex, next_place, path_from, polygon_of}
use Rattle.rt_geo.specs.declared.distance.Point.{Point}
use Rattle.rt_geo.specs.declared.polygon.Edge.{Edge}
use Rattle.rt_geo.specs.declared.polygon.PolygonFault.{PolygonFault}
use Rattle.rt_geo.specs.declared.polygon.PolygonFault.TheVariants.{Count, NotConvex}

-- ---- elements that fail a test aren't counted

count_by-cons : {X : Type 0} (f : X → Bool) (x : X) (xs : List X)
    → f x ≡ false → count_by f (x ∷ xs) ≡ count_by f xs
count_by-cons f x xs e = omega (arith, sum_by-cons (λ y. cond (f y) 1 0) x xs, ap {B = ℕ} (λ b. cond b 1 0) e)

at_most_one : (b : Bool) → cond b 1 0 ≤ 1
at_most_one true = omega arith
at_most_one false = omega arith

count_by-cons_le : {X : Type 0} (f : X → Bool) (x : X) (xs : List X) → count_by f (x ∷ xs) ≤ count_by f xs + 1
count_by-cons_le f x xs = omega (arith, sum_by-cons (λ y. cond (f y) 1 0) x xs, at_most_one (f x))

one_fails : {X : Type 0} (f : X → Bool) (xs : List X) (i : ℕ) (d : X)
    → i < length xs → f (get_or xs i d) ≡ false → count_by f xs + 1 ≤ length xs
one_fails f [] i d h e = absurd (omega (arith, h))
one_fails f (x ∷ xs) zero d h e = omega (arith, count_by-cons f x xs e, count_by-le-length f xs)
one_fails f (x ∷ xs) (suc i) d h e =
    let more = one_fails f xs i d (omega (arith, h)) e in
    omega (arith, count_by-cons_le f x xs, more)

two_fail : {X : Type 0} (f : X → Bool) (xs : List X) (i j : ℕ) (d : X) → i < j → j < length xs
    → f (get_or xs i d) ≡ false → f (get_or xs j d) ≡ false → count_by f xs + 2 ≤ length xs
two_fail f [] i j d l h e g = absurd (omega (arith, h))
two_fail f (x ∷ xs) i zero d l h e g = absurd (omega (arith, l))
two_fail f (x ∷ xs) zero (suc j) d l h e g =
    let more = one_fails f xs j d (omega (arith, h)) g in
    omega (arith, count_by-cons f x xs e, more)
two_fail f (x ∷ xs) (suc i) (suc j) d l h e g =
    let more = two_fail f xs i j d (omega (arith, l)) (omega (arith, h)) e g in
    omega (arith, count_by-cons_le f x xs, more)

three_fail : {X : Type 0} (f : X → Bool) (xs : List X) (i j k : ℕ) (d : X) → i < j → j < k → k < length xs
    → f (get_or xs i d) ≡ false → f (get_or xs j d) ≡ false → f (get_or xs k d) ≡ false
    → count_by f xs + 3 ≤ length xs
three_fail f [] i j k d l m h e g t = absurd (omega (arith, h))
three_fail f (x ∷ xs) i j zero d l m h e g t = absurd (omega (arith, m))
three_fail f (x ∷ xs) i zero (suc k) d l m h e g t = absurd (omega (arith, l))
three_fail f (x ∷ xs) zero (suc j) (suc k) d l m h e g t =
    let more = two_fail f xs j k d (omega (arith, m)) (omega (arith, h)) g t in
    omega (arith, count_by-cons f x xs e, more)
three_fail f (x ∷ xs) (suc i) (suc j) (suc k) d l m h e g t =
    let more = three_fail f xs i j k d (omega (arith, l)) (omega (arith, m)) (omega (arith, h)) e g t in
    omega (arith, count_by-cons_le f x xs, more)

-- ---- all but a few elements pass a test

count_by-cons_yes : {X : Type 0} (f : X → Bool) (x : X) (xs : List X)
    → f x ≡ true → count_by f (x ∷ xs) ≡ count_by f xs + 1
count_by-cons_yes f x xs e =
    omega (arith, sum_by-cons (λ y. cond (f y) 1 0) x xs, ap {B = ℕ} (λ b. cond b 1 0) e)

count_by-cons_ge : {X : Type 0} (f : X → Bool) (x : X) (xs : List X) → count_by f xs ≤ count_by f (x ∷ xs)
count_by-cons_ge f x xs = omega (arith, sum_by-cons (λ y. cond (f y) 1 0) x xs)

all_pass : {X : Type 0} (f : X → Bool) (xs : List X) (d : X)
    → ((j : ℕ) → j < length xs → f (get_or xs j d) ≡ true) → length xs ≤ count_by f xs
all_pass f [] d h = omega arith
all_pass f (x ∷ xs) d h =
    let more = all_pass f xs d (λ j k. h (suc j) (omega (arith, k))) in
    omega (arith, count_by-cons_yes f x xs (h 0 (omega arith)), more)

all_but_one : {X : Type 0} (f : X → Bool) (xs : List X) (i : ℕ) (d : X)
    → ((j : ℕ) → j < length xs → j ≢ i → f (get_or xs j d) ≡ true) → length xs ≤ count_by f xs + 1
all_but_one f [] i d h = omega arith
all_but_one f (x ∷ xs) zero d h =
    let more = all_pass f xs d (λ j k. h (suc j) (omega (arith, k)) (omega arith)) in
    omega (arith, count_by-cons_ge f x xs, more)
all_but_one f (x ∷ xs) (suc i) d h =
    let more = all_but_one f xs i d (λ j k m. h (suc j) (omega (arith, k)) (omega (arith, m))) in
    omega (arith, count_by-cons_yes f x xs (h 0 (omega arith) (omega arith)), more)

all_but_two : {X : Type 0} (f : X → Bool) (xs : List X) (i k : ℕ) (d : X) → i < k
    → ((j : ℕ) → j < length xs → j ≢ i → j ≢ k → f (get_or xs j d) ≡ true) → length xs ≤ count_by f xs + 2
all_but_two f [] i k d l h = omega arith
all_but_two f (x ∷ xs) i zero d l h = absurd (omega (arith, l))
all_but_two f (x ∷ xs) zero (suc k) d l h =
    let more = all_but_one f xs k d (λ j m n. h (suc j) (omega (arith, m)) (omega arith) (omega (arith, n))) in
    omega (arith, count_by-cons_ge f x xs, more)
all_but_two f (x ∷ xs) (suc i) (suc k) d l h =
    let more =
    all_but_two f xs i k d (omega (arith, l))
    (λ j m n o. h (suc j) (omega (arith, m)) (omega (arith, n)) (omega (arith, o))) in
    omega (arith, count_by-cons_yes f x xs (h 0 (omega arith) (omega arith) (omega arith)), more)

-- ---- an edge by its place

length-path_from : (from : Point) (xs : List Point) → length (path_from from xs) ≡ length xs
length-path_from from [] = refl
length-path_from from (to ∷ xs) = ap suc (length-path_from to xs)

get_or-path_from : (from : Point) (xs : List Point) (i : ℕ) (d : Point) (e : Edge) → i < length xs
    → get_or (path_from from xs) i e ≡ record { from = get_or (from ∷ xs) i d; to = get_or xs i d }
get_or-path_from from [] i d e h = absurd (omega (arith, h))
get_or-path_from from (to ∷ xs) zero d e h = refl
get_or-path_from from (to ∷ xs) (suc i) d e h = get_or-path_from to xs i d e (omega (arith, h))

length-edges : (vertices : List Point) → length (edges vertices) ≡ length vertices
length-edges [] = refl
length-edges (x ∷ xs) = length-path_from x (xs ++ x ∷ []) ∙ grind (arith, common_steps)

get_or-append_within : (xs : List Point) (y : Point) (i : ℕ) (d : Point)
    → i < length xs → get_or (xs ++ y ∷ []) i d ≡ get_or xs i d
get_or-append_within xs y i d h = grind (arith, common_steps)

get_or-append_at_end : (xs : List Point) (y : Point) (i : ℕ) (d : Point)
    → i ≡ length xs → get_or (xs ++ y ∷ []) i d ≡ y
get_or-append_at_end xs y i d h = grind (arith, common_steps)

next_place-last : (vertices : List Point) (i : ℕ) → i + 1 ≡ length vertices → next_place vertices i ≡ 0
next_place-last vertices i h = grind (arith, nat_tests)

next_place-inner : (vertices : List Point) (i : ℕ) → i + 1 < length vertices → next_place vertices i ≡ i + 1
next_place-inner vertices i h = grind (arith, nat_tests)

get_or-next_place : (x : Point) (xs : List Point) (i : ℕ) (d : Point) → i < length (x ∷ xs)
    → get_or (xs ++ x ∷ []) i d ≡ get_or (x ∷ xs) (next_place (x ∷ xs) i) d
get_or-next_place x xs i d h = elim (cases_lt i (length xs)) [
  | inl inner ↦
      let e : next_place (x ∷ xs) i ≡ suc i = next_place-inner (x ∷ xs) i (omega arith) ∙ add-one i in
      rw e (get_or-append_within xs x i d inner)
  | inr last ↦
      let e : next_place (x ∷ xs) i ≡ 0 = next_place-last (x ∷ xs) i (omega arith) in
      rw e (get_or-append_at_end xs x i d (omega (arith, h)))
]

-- the edge at a place leads from the vertex there to the next
get_or-edges : (vertices : List Point) (i : ℕ) (d : Point) (e : Edge) → i < length vertices
    → get_or (edges vertices) i e
    ≡ record { from = get_or vertices i d; to = get_or vertices (next_place vertices i) d }
get_or-edges [] i d e h = absurd (omega (arith, h))
get_or-edges (x ∷ xs) i d e h =
    let long : length (xs ++ x ∷ []) ≡ length (x ∷ xs) = grind (arith, common_steps) in
    let from_is = get_or-append_within (x ∷ xs) x i d h in
    let to_is = get_or-next_place x xs i d h in
    get_or-path_from x (xs ++ x ∷ []) i d e (omega (arith, long)) ∙ rw (from_is, to_is) refl

-- a test of all edges holds of the edge at a place
list_all-edge : (f : Edge → Bool) (vertices : List Point) (i : ℕ) (d : Point) → i < length vertices
    → list_all f (edges vertices) ≡ true
    → f (record { from = get_or vertices i d; to = get_or vertices (next_place vertices i) d }) ≡ true
list_all-edge f vertices i d h e =
    let edge : Edge = record { from = get_or vertices i d; to = get_or vertices (next_place vertices i) d } in
    true_from_ne_false _ (λ fails.
    true≢false (sym e ∙ list_all_at f (edges vertices) i edge (omega (arith, length-edges vertices))
    (ap f (get_or-edges vertices i d edge h) ∙ fails)))

-- ---- the ends of an edge aren't to its left

no_difference : (z : ℤ) → z -ℤ z ≡ pos 0
no_difference z = omega (arith, ints)

-- (the second factors are 0)
is_left-from : (edge : Edge) → is_left edge edge.from ≡ false
is_left-from edge =
    let along_x = edge.to.x -ℤ edge.from.x in
    let along_y = edge.to.y -ℤ edge.from.y in
    rw (no_difference edge.from.x, no_difference edge.from.y, *ℤ-zero along_x, *ℤ-zero along_y) refl

-- (the two products are the same)
is_left-to : (edge : Edge) → is_left edge edge.to ≡ false
is_left-to edge =
    let along_x = edge.to.x -ℤ edge.from.x in
    let along_y = edge.to.y -ℤ edge.from.y in
    rw (*ℤ_comm along_y along_x, no_difference (along_x *ℤ along_y)) refl

-- two vertices that follow each other and a third that fail a test
three_places_fail : (f : Point → Bool) (vertices : List Point) (i j : ℕ) (d : Point)
    → i < length vertices → j < length vertices → j ≢ i → j ≢ next_place vertices i
    → f (get_or vertices i d) ≡ false → f (get_or vertices (next_place vertices i) d) ≡ false
    → f (get_or vertices j d) ≡ false → count_by f vertices + 3 ≤ length vertices
three_places_fail f vertices i j d h k other not_next e g t = elim (cases_lt (i + 1) (length vertices)) [
  | inl inner ↦
      let next = next_place-inner vertices i inner in
      let g' : f (get_or vertices (i + 1) d) ≡ false = rw (← next) g in
      elim (cases_lt j i) [
        | inl before ↦ three_fail f vertices j i (i + 1) d before (omega arith) inner t e g'
        | inr after ↦ three_fail f vertices i (i + 1) j d (omega arith) (omega (arith, other, not_next, next)) k e g' t
      ]
  | inr last ↦
      let next = next_place-last vertices i (omega arith) in
      let g' : f (get_or vertices 0 d) ≡ false = rw (← next) g in
      three_fail f vertices 0 j i d (omega (arith, not_next, next)) (omega (arith, other)) h g' t e
]

-- two vertices that follow each other fail a test, and all the others pass it
two_places_fail : (f : Point → Bool) (vertices : List Point) (i : ℕ) (d : Point)
    → 2 ≤ length vertices → i < length vertices
    → f (get_or vertices i d) ≡ false → f (get_or vertices (next_place vertices i) d) ≡ false
    → ((j : ℕ) → j < length vertices → j ≢ i → j ≢ next_place vertices i → f (get_or vertices j d) ≡ true)
    → count_by f vertices + 2 ≡ length vertices
two_places_fail f vertices i d two h e g others = elim (cases_lt (i + 1) (length vertices)) [
  | inl inner ↦
      let next = next_place-inner vertices i inner in
      let g' : f (get_or vertices (i + 1) d) ≡ false = rw (← next) g in
      let most = two_fail f vertices i (i + 1) d (omega arith) inner e g' in
      let least =
      all_but_two f vertices i (i + 1) d (omega arith)
      (λ j k not_from not_to. others j k not_from (omega (arith, not_to, next))) in
      omega (arith, most, least)
  | inr last ↦
      let next = next_place-last vertices i (omega arith) in
      let g' : f (get_or vertices 0 d) ≡ false = rw (← next) g in
      let most = two_fail f vertices 0 i d (omega (arith, two)) h g' e in
      let least =
      all_but_two f vertices 0 i d (omega (arith, two))
      (λ j k not_to not_from. others j k not_from (omega (arith, not_to, next))) in
      omega (arith, most, least)
]

-- ---- by the count, and vertex by vertex

-- so each vertex but the two ends of an edge lies strictly to its left
pub strictly_convex : (vertices : List Point) → is_strictly_convex vertices ≡ true → IsStrictlyConvex vertices
strictly_convex vertices h i j from to other e f g not_from not_to =
    let edge : Edge = record { from = from; to = to } in
    let from_is = get_or_from_slice_get vertices i from other e in
    let to_is = get_or_from_slice_get vertices (next_place vertices i) to other f in
    let other_is = get_or_from_slice_get vertices j other other g in
    let within = slice_get_within vertices i from e in
    let all_but_two = λ (edge : Edge). count_by (is_left edge) vertices + 2 == length vertices in
    let test = list_all-edge all_but_two vertices i other within h in
    let count : count_by (is_left edge) vertices + 2 ≡ length vertices = eqb-true _ _ (rw (from_is, to_is) at test) in
    true_from_ne_false _ (λ fails.
    let three =
    three_places_fail (is_left edge) vertices i j other within (slice_get_within vertices j other g) not_from not_to
    (ap (is_left edge) from_is ∙ is_left-from edge) (ap (is_left edge) to_is ∙ is_left-to edge)
    (ap (is_left edge) other_is ∙ fails) in
    omega (arith, count, three))

next_place-within : (vertices : List Point) (i : ℕ) → i < length vertices → next_place vertices i < length vertices
next_place-within vertices i h = grind (arith, nat_tests)

-- the vertices to the left of the edge at a place are all but two
all_but_its_ends : (vertices : List Point) (i : ℕ) (d : Point) (edge : Edge)
    → 2 ≤ length vertices → IsStrictlyConvex vertices → i < length vertices
    → edge ≡ record { from = get_or vertices i d; to = get_or vertices (next_place vertices i) d }
    → count_by (is_left edge) vertices + 2 ≡ length vertices
all_but_its_ends vertices i d edge two convex h e =
    let from = get_or vertices i d in
    let to = get_or vertices (next_place vertices i) d in
    rw e (two_places_fail (is_left (record { from = from; to = to })) vertices i d two h
    (is_left-from (record { from = from; to = to })) (is_left-to (record { from = from; to = to }))
    (λ j k not_from not_to. convex i j from to (get_or vertices j d) (slice_get-get_or vertices i d h)
    (slice_get-get_or vertices (next_place vertices i) d (next_place-within vertices i h))
    (slice_get-get_or vertices j d k) not_from not_to))

-- so all edges pass the test that counts
pub counted_convex : (vertices : List Point) → 2 ≤ length vertices
    → IsStrictlyConvex vertices → is_strictly_convex vertices ≡ true
counted_convex [] two convex = absurd (omega (arith, two))
counted_convex (x ∷ xs) two convex =
    let all_but_two = λ (edge : Edge). count_by (is_left edge) (x ∷ xs) + 2 == length (x ∷ xs) in
    let edge : Edge = record { from = x; to = x } in
    list_all-from_AllPass all_but_two (edges (x ∷ xs)) (All-from_get_or (λ e. all_but_two e ≡ true) (edges (x ∷ xs)) edge
    (λ i k.
    let h : i < length (x ∷ xs) = omega (arith, k, length-edges (x ∷ xs)) in
    (Decides-eqb _ _).1
    (all_but_its_ends (x ∷ xs) i x (get_or (edges (x ∷ xs)) i edge) two convex h
    (get_or-edges (x ∷ xs) i x edge h))))

pub is_strictly_convex-Decides : (vertices : List Point) → 2 ≤ length vertices
    → Decides (is_strictly_convex vertices) (IsStrictlyConvex vertices)
is_strictly_convex-Decides vertices two = (strictly_convex vertices, counted_convex vertices two)

-- ---- the polygon of a list

polygon_by : (points : List Point) (count convex turned : Bool)
    → count ≡ has_polygon_count points
    → (count ≡ true → Decides convex (IsStrictlyConvex points))
    → (count ≡ true → Decides turned (IsStrictlyConvex (reverse points)))
    → IsPolygonOf points (if not count then Err Count
    else (if convex then Ok points else (if turned then Ok (reverse points) else Err NotConvex)))
polygon_by points false convex turned c as_it_stands reversed = sym c
polygon_by points true true turned c as_it_stands reversed = (sym c, (inl refl, (as_it_stands refl).0 refl))
polygon_by points true false true c as_it_stands reversed = (sym c, (inr refl, (reversed refl).0 refl))
polygon_by points true false false c as_it_stands reversed =
    (sym c, (λ h. true≢false (sym ((as_it_stands refl).1 h)), λ h. true≢false (sym ((reversed refl).1 h))))

at_least_two : (points : List Point) → has_polygon_count points ≡ true → 2 ≤ length points
at_least_two points h = grind (arith, nat_tests)

polygon_of-is : (points : List Point) → IsPolygonOf points (polygon_of points)
polygon_of-is points =
    polygon_by points (has_polygon_count points) (is_strictly_convex points) (is_strictly_convex (reverse points)) refl
    (λ c. is_strictly_convex-Decides points (at_least_two points c))
    (λ c. is_strictly_convex-Decides (reverse points) (omega (arith, at_least_two points c, length-reverse points)))

-- what a contract that tells `polygon_of` tells of the vertices
pub polygon_is : (points : List Point) (r : Result (List Point) PolygonFault)
    → r ≡ polygon_of points → IsPolygonOf points r
polygon_is points r e = subst (IsPolygonOf points) (sym e) (polygon_of-is points)

-- ---- all vertices are in the half-plane of each edge

ends_in_half_plane : (edge : Edge)
    → (is_in_half_plane edge edge.from ≡ true) × (is_in_half_plane edge edge.to ≡ true)
ends_in_half_plane edge =
    let along_x = edge.to.x -ℤ edge.from.x in
    let along_y = edge.to.y -ℤ edge.from.y in (
      rw (no_difference edge.from.x, no_difference edge.from.y, *ℤ-zero along_x, *ℤ-zero along_y) refl,
      rw (*ℤ_comm along_y along_x, no_difference (along_x *ℤ along_y)) refl,
    )

at_least_above : (m n : ℤ) → int_lt m n ≡ true → int_le m n ≡ true
at_least_above m n h = grind (arith, ints)

left_in_half_plane : (edge : Edge) (p : Point) → is_left edge p ≡ true → is_in_half_plane edge p ≡ true
left_in_half_plane edge p h = at_least_above (pos 0) (cross edge p) h

in_each : (vertices : List Point) (i j : ℕ) (d : Point) → is_strictly_convex vertices ≡ true
    → i < length vertices → j < length vertices
    → is_in_half_plane (record { from = get_or vertices i d; to = get_or vertices (next_place vertices i) d })
    (get_or vertices j d) ≡ true
in_each vertices i j d convex h k =
    let next = next_place vertices i in
    let from = get_or vertices i d in
    let to = get_or vertices next d in
    let edge : Edge = record { from = from; to = to } in
    elim (same_or_other j i) [
      | inl e ↦ ap (λ n. is_in_half_plane edge (get_or vertices n d)) e ∙ (ends_in_half_plane edge).0
      | inr not_from ↦ elim (same_or_other j next) [
        | inl e ↦ ap (λ n. is_in_half_plane edge (get_or vertices n d)) e ∙ (ends_in_half_plane edge).1
        | inr not_to ↦ left_in_half_plane edge (get_or vertices j d)
            (strictly_convex vertices convex i j from to (get_or vertices j d) (slice_get-get_or vertices i d h)
            (slice_get-get_or vertices next d (next_place-within vertices i h)) (slice_get-get_or vertices j d k)
            not_from not_to)
      ]
    ]
  where
    same_or_other : (m n : ℕ) → (m ≡ n) ⊎ (m ≢ n)
    same_or_other m n = grind (arith, nat_tests)

pub vertex_in_half_planes : (vertices : List Point) (j : ℕ) (d : Point) → is_strictly_convex vertices ≡ true
    → j < length vertices → list_all (λ edge. is_in_half_plane edge (get_or vertices j d)) (edges vertices) ≡ true
vertex_in_half_planes vertices j d convex k =
    let edge : Edge = record { from = d; to = d } in
    let test = λ (e : Edge). is_in_half_plane e (get_or vertices j d) in
    list_all-from_AllPass test (edges vertices) (All-from_get_or (λ e. test e ≡ true) (edges vertices) edge
    (λ i h.
    let within : i < length vertices = omega (arith, h, length-edges vertices) in
    ap test (get_or-edges vertices i d edge within) ∙ in_each vertices i j d convex within k))
