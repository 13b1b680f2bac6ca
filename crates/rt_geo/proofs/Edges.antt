-- The edges of a list of vertices, one after the other from the one that ends in the first vertex.
use Rattle.std.specs.List.{list_all}
use Rattle.std.proofs.Common.{◌≡◌, ◌∙◌, refl, ap, arith, ◌-◌, ◌≤◌}
use Rattle.std.proofs.Common.{Bool, true, false, List, [], ◌∷◌, ◌++◌, length, get_or}
use Rattle.std.specs.Prelude.{◌&&◌}
use Rattle.std.proofs.lemmas.List.Folds.{list_all-append}
use Rattle.rt_geo.specs.HalfPlanes.{edges_from_last, last}
use Rattle.rt_geo.specs.Polygons.{edges, path_from}
use Rattle.rt_geo.specs.declared.distance.Point.{Point}
use Rattle.rt_geo.specs.declared.polygon.Edge.{Edge}

path_from-more : (from : Point) (xs : List Point) (p : Point)
    → path_from from (xs ++ p ∷ []) ≡ path_from from xs ++ record { from = last from xs; to = p } ∷ []
path_from-more from [] p = refl
path_from-more from (to ∷ xs) p = ap (λ path. record { from = from; to = to } ∷ path) (path_from-more to xs p)

last_is : (from : Point) (xs : List Point) (d : Point) → get_or (from ∷ xs) (length xs) d ≡ last from xs
last_is from [] d = refl
last_is from (to ∷ xs) d = last_is to xs d

turned : (p q : Bool) → (p && (q && true)) ≡ (q && p)
turned true true = refl
turned true false = refl
turned false true = refl
turned false false = refl

round : (from : Point) (xs : List Point) (f : Edge → Bool)
    → list_all f (path_from from (xs ++ from ∷ [])) ≡ list_all f (path_from (last from xs) (from ∷ xs))
round from xs f =
    ap (list_all f) (path_from-more from xs from) ∙ list_all-append f (path_from from xs) _
    ∙ turned (list_all f (path_from from xs)) (f (record { from = last from xs; to = from }))

-- so a test of all edges may begin with the one that closes the round
pub list_all-edges_from_last : (f : Edge → Bool) (xs : List Point)
    → list_all f (edges xs) ≡ list_all f (edges_from_last xs)
list_all-edges_from_last f [] = refl
list_all-edges_from_last f (x ∷ xs) = round x xs f

-- the point from which it comes is the last one
pub edges_from_last-is : (xs : List Point) (from : Point)
    → 1 ≤ length xs → from ≡ get_or xs (length xs - 1) from → edges_from_last xs ≡ path_from from xs
edges_from_last-is [] from h e = absurd (omega (arith, h))
edges_from_last-is (x ∷ xs) from h e =
    let at : length (x ∷ xs) - 1 ≡ length xs = omega arith in
    let is_last : from ≡ last x xs = e ∙ rw at (last_is x xs from) in
    rw is_last refl

pub list_all-edges : (f : Edge → Bool) (xs : List Point) (from : Point)
    → 1 ≤ length xs → from ≡ get_or xs (length xs - 1) from
    → list_all f (edges xs) ≡ list_all f (path_from from xs)
list_all-edges f xs from h e = list_all-edges_from_last f xs ∙ ap (list_all f) (edges_from_last-is xs from h e)
