use Rattle.std.proofs.Common.{All, Err, ◌≡◌, ◌++◌, ◌∷◌, [], ap, arith, length, rules, subst, sym}
use Rattle.std.proofs.lemmas.{List.{length-append}, List.Elements.{All-push}}
use Rattle.rt_geo.specs.Entries.{HasLayer}
use Rattle.rt_embed.specs.GivenBoxes.{entries_upto}
use Rattle.rt_embed.proofs.BoxLemmas.{upto_err, upto_more}
use Rattle.rt_embed.proofs.boxes.entries_of.Goals as goal

pub returns-in_err-entry-clause-fault : goal.returns-in_err-entry-clause-fault
returns-in_err-entry-clause-fault g c =
    let given = g.B.Boxes.given c.args.boxes.now in
    let bad : entries_upto given given.len ≡ Err c.in_err-entry.field-0.0 =
    upto_err given c.loop-place.place given.len c.loop-place.entries c.in_err-entry.field-0.0
    (rw c.len-place-end.ensures at c.loop-place-test.true)
    c.loop-place.invariant.entries (search rules) in
    rw bad (search rules)

pub loop-place-preserved : goal.loop-place-preserved
loop-place-preserved g c =
    let pushed : c.push.new.self ≡ c.loop-place.entries ++ c.in_ok-entry.entry ∷ [] = search rules in
    record {
      entries = rw pushed (upto_more (g.B.Boxes.given c.args.boxes.now) c.loop-place.place c.loop-place.entries c.in_ok-entry.entry
          c.loop-place.invariant.entries (search rules));
      len = omega (arith, ap length pushed, length-append c.loop-place.entries (c.in_ok-entry.entry ∷ []), c.loop-place.invariant.len);
      layers = subst (All HasLayer) (sym pushed)
          (All-push HasLayer c.loop-place.entries c.in_ok-entry.entry c.loop-place.invariant.layers (search rules));
    }
