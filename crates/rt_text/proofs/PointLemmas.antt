-- Points that are read one after the other.
use Rattle.std.proofs.Common.{◌≡◌, ◌∙◌, ℕ, suc, List, [], ◌∷◌, ◌++◌, refl, ap, sym, append_assoc}
use Rattle.std.specs.Prelude.{Result, Ok, Err}
use Rattle.rt_geo.specs.declared.distance.Point.{Point}
use Rattle.rt_text.specs.Queries.{Taken, point, points}
use Rattle.rt_text.specs.Steps.{◌>>=◌}
use Rattle.rt_text.specs.declared.query.QueryFault.{QueryFault}

-- a reading of a point, and of a list of points
abbrev PointRead : Type 0
PointRead = Result (Taken Point) QueryFault

abbrev PointsRead : Type 0
PointsRead = Result (Taken (List Point)) QueryFault

-- others after a first point
abbrev after_first : Point → Taken (List Point) → PointsRead
after_first first others = Ok (first ∷ others.0, others.1)

-- so many points after a first one
abbrev then_points : ℕ → Taken Point → PointsRead
then_points n first = points n first.1 >>= after_first first.0

-- more points after those so far
abbrev after_all : List Point → Taken (List Point) → PointsRead
after_all so_far more = Ok (so_far ++ more.0, more.1)

-- so many points more, after those so far
abbrev pub points_after : List Point → ℕ → List (List ℕ) → PointsRead
points_after so_far n words = points n words >>= after_all so_far

-- one point more was read
after_one : (so_far : List Point) (p : Point) (read : PointsRead)
    → ((read >>= after_first p) >>= after_all so_far) ≡ (read >>= after_all (so_far ++ p ∷ []))
after_one so_far p (Ok others) =
    let read : List Point → PointsRead = λ ps. Ok (ps, others.1) in ap read (sym (append_assoc so_far (p ∷ []) others.0))
after_one so_far p (Err cause) = refl

pub points_after-more : (so_far : List Point) (n : ℕ) (words left : List (List ℕ)) (p : Point) → point words ≡ Ok (p, left)
    → points_after so_far (suc n) words ≡ points_after (so_far ++ p ∷ []) n left
points_after-more so_far n words left p e =
    let read : PointRead → PointsRead = λ first. (first >>= then_points n) >>= after_all so_far in
    ap read e ∙ after_one so_far p (points n left)

-- the next point is faulty
pub points_after-fault : (so_far : List Point) (n : ℕ) (words : List (List ℕ)) (cause : QueryFault) → point words ≡ Err cause
    → points_after so_far (suc n) words ≡ Err cause
points_after-fault so_far n words cause e =
    let read : PointRead → PointsRead = λ first. (first >>= then_points n) >>= after_all so_far in ap read e
