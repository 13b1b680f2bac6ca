use Rattle.std.proofs.Common.{arith, get_or-set_other, get_or-set_same, refl, set, sym}
use Rattle.rt_search.proofs.Pendings.{flag_here, flag_other, has_kept}
use Rattle.rt_search.proofs.pending.Pending.keep.Goals as goal

pub returns-then-has_scores : goal.returns-then-has_scores
returns-then-has_scores c =
    let inside = c.self.inside in
    let place = c.args.place in
    let score = c.args.verdict.score in
    let is_full = c.eq-is_full.result in
    let here = flag_here inside.full place c.requires.place is_full (rw (← c.self.view_is) at c.requires.clear) in
    let other = flag_other inside.full place c.requires.place is_full in
    let told = c.self.told in
    rw (← c.self.view_is, c.from.ensures)
    (has_kept inside.places inside.full _ c.args.has_scores inside.scores (set inside.scores place score) place
    c.args.verdict is_full here other (λ e. rw e at c.eq-is_full.ensures) (λ e. rw e at c.eq-is_full.ensures)
    (rw c.if-has_scores.true (get_or-set_same inside.scores place score 0 (omega (arith, c.requires.place))))
    (λ i apart. get_or-set_other inside.scores place i score 0 apart))

pub returns-else-has_scores : goal.returns-else-has_scores
returns-else-has_scores c =
    let inside = c.self.inside in
    let place = c.args.place in
    let is_full = c.eq-is_full.result in
    let here = flag_here inside.full place c.requires.place is_full (rw (← c.self.view_is) at c.requires.clear) in
    let other = flag_other inside.full place c.requires.place is_full in
    rw (← c.self.view_is, c.from.ensures)
    (has_kept inside.places inside.full _ c.args.has_scores inside.scores inside.scores place
    c.args.verdict is_full here other (λ e. rw e at c.eq-is_full.ensures) (λ e. rw e at c.eq-is_full.ensures)
    (rw c.if-has_scores.false (sym (c.requires.scores c.if-has_scores.false))) (λ i apart. refl))
