use Rattle.std.proofs.Common.{◌≡◌, ◌<◌, ◌≤◌, ◌^◌, ◌-◌, ◌+◌, ◌++◌, ◌∷◌, [], length, arith, length-append, subst, sym, refl, ap}
use Rattle.std.proofs.{Common.{◌∙◌}, lemmas.Grind.{common_steps}}
use Rattle.std.specs.Int.{div_ceil}
use Rattle.rt_tree.proofs.LevelLemmas.{course_more, div_ceil-halves, div_ceil-positive, power_left, power_more}
use Rattle.rt_tree.proofs.LevelSizes.{level_above, level_last}
use Rattle.rt_tree.proofs.levels.Levels.new.Goals as goal

pub returns-then-size-eq1-clause-few : goal.returns-then-size-eq1-clause-few
returns-then-size-eq1-clause-few c = grind (arith, common_steps)

pub returns-then-size-eq1-clause-entries : goal.returns-then-size-eq1-clause-entries
returns-then-size-eq1-clause-entries c = grind arith

pub returns-then-size-eq1-clause-nodes : goal.returns-then-size-eq1-clause-nodes
returns-then-size-eq1-clause-nodes c = grind arith

pub loop-size-preserved : goal.loop-size-preserved
loop-size-preserved c =
    let before = c.loop-size.invariant in
    let size = c.loop-size.size in
    let fanout = c.args.fanout in
    let above = div_ceil size fanout in
    let more : above ≡ 1 → ⊥ = λ e. c.if-size-eq1.false (c.div_ceil-size.ensures ∙ e) in
    let some = div_ceil-positive size fanout c.requires.several before.some in
    let longer : length (c.loop-size.levels ++ above ∷ []) ≡ length c.loop-size.levels + 1 = omega
    (arith, length-append c.loop-size.levels (above ∷ [])) in
    let count = length c.loop-size.levels in
    let bound : above ≤ 2 ^ (25 - (count + 1)) = subst (λ n. above ≤ 2 ^ n) (omega arith) (power_more (25 - count) size above
    before.bound (omega (arith, before.few)) (div_ceil-halves size fanout c.requires.several)) in
    let several : 1 < above = omega arith in
    rw (c.push-in-loop-size.ensures, c.div_ceil-size.ensures) (record {
      course = course_more c.loop-size.levels fanout size _ c.requires.several before.some more before.course;
      some = some;
      bound = subst (λ n. above ≤ 2 ^ (25 - n)) (sym longer) bound;
      few = omega (arith, power_left (25 - (count + 1)) above bound several);
    })

pub returns-then-size-eq1-clause-sizes : goal.returns-then-size-eq1-clause-sizes
returns-then-size-eq1-clause-sizes c = grind (arith, common_steps)

pub returns-then-size-eq1-clause-above : goal.returns-then-size-eq1-clause-above
returns-then-size-eq1-clause-above c level below above e f =
    let sizes = returns-then-size-eq1-clause-sizes c in
    level_above c.args.len c.args.fanout level (level + 1) below above c.requires.several refl (rw (← sizes) e)
    (rw (← sizes) f)

pub returns-then-size-eq1-clause-last : goal.returns-then-size-eq1-clause-last
returns-then-size-eq1-clause-last c level size e =
    let sizes = returns-then-size-eq1-clause-sizes c in
    let reported = level_last c.args.len c.args.fanout (level + 1) size (length c.push-in-loop-size.new.self) c.requires.several
    (omega arith) (rw (← sizes) e) (ap length sizes) in
    ((λ one. omega (arith, reported.0 one)), (λ last. reported.1 (omega arith)))
