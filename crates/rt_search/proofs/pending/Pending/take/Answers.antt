use Rattle.std.proofs.Common.{arith, ap, refl, rules, w64, ◌≡◌, ◌==◌, if◌then◌else◌, get_or}
use Rattle.std.proofs.lemmas.Nat.Bits.{bit_at-trailing_zeros, shr_and_one}
use Rattle.rt_geo.specs.declared.geometry.Within.TheVariants.{Fully, Partly}
use Rattle.std.specs.Int.{trailing_zeros}
use Rattle.rt_search.specs.Pending.{is_among}
use Rattle.rt_search.proofs.Pendings.{clear_here, clear_less, clear_other}
use Rattle.rt_search.proofs.pending.Pending.take.Goals.{else-has_scores, else-self-place-eq1, then-has_scores, then-self-place-eq1}
use Rattle.rt_search.proofs.pending.Pending.take.Goals as goal

pub returns-clause-taken : goal.returns-clause-taken
returns-clause-taken c =
    let places = c.self.inside.places in
    let lowest = bit_at-trailing_zeros w64 places (omega (arith, c.if-self-eq0.false)) (search rules) in
    let place = trailing_zeros w64 places in
    let state : c.if-self-place-eq1.within ≡ if is_among c.self.inside.full place then Fully else Partly =
    elim c.if-self-place-eq1.branch [
      | then-self-place-eq1 w ↦ grind (arith, shr_and_one)
      | else-self-place-eq1 w ↦ grind (arith, shr_and_one)
    ] in
    let score : c.if-has_scores.score ≡ if c.args.has_scores then get_or c.self.inside.scores place 0 else 0 =
    elim c.if-has_scores.branch [
      | then-has_scores w ↦ grind arith
      | else-has_scores w ↦ grind arith
    ] in
    rw (← c.self.view_is) (record {
      first = ap (λ m. m == 1) lowest.1;
      before = λ i lt. ap (λ m. m == 1) (lowest.2 i lt);
      out = clear_here places _ lowest.0;
      others = clear_other places _ lowest.0 (search rules);
      verdict = rw (state, score) refl;
      same = refl;
    })

pub returns-clause-fewer : goal.returns-clause-fewer
returns-clause-fewer c =
    let places = c.self.inside.places in
    let lowest = bit_at-trailing_zeros w64 places (omega (arith, c.if-self-eq0.false)) (search rules) in
    rw (← c.self.view_is) (clear_less places _ lowest.0 lowest.1)
