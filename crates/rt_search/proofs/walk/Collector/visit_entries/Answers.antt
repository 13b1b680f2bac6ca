use Rattle.std.proofs.lemmas.Grind.{common_steps}
use Rattle.std.proofs.{Common.{◌≡◌, FitsSigned, IfSome, arith, not, rules, subst, w64}, lemmas.Int.{to_z-of_z}}
use Rattle.rt_geo.specs.Laws.{extent_of_entry}
use Rattle.rt_search.specs.{Walking.{HasTaken, answers_among}, Work.{is_kept}}
use Rattle.rt_search.proofs.Children.{entries_count, entry_question, leaf_read}
use Rattle.rt_search.proofs.Walks.{few_entries, one_entry, taken-append, taken_space}
use Rattle.rt_search.proofs.walk.Collector.visit_entries.Goals.{in-Not, in_default}
use Rattle.rt_search.proofs.walk.Collector.visit_entries.Goals as goal

pub overflow_cast-i : goal.overflow_cast-i
overflow_cast-i g c = grind (arith, common_steps)

pub overflow_add-first : goal.overflow_add-first
overflow_add-first g c = grind (arith, common_steps)

pub layers_at-layers-requires : goal.layers_at-layers-requires
layers_at-layers-requires g c = grind (arith, common_steps)

pub check-verdict-requires-clause-honest : goal.check-verdict-requires-clause-honest
check-verdict-requires-clause-honest g c =
    let k = leaf_read c.args.tree.now c.args.node c.loop-i.i c.index-entries-i.result
    c.child_entries-entries.result.now c.requires.leaf.sound.table c.requires.leaf.node c.child_entries-entries.ensures
    c.loop-i-test.true c.index-entries-i.is in
    let layers = subst (λ o. IfSome o (λ e. c.layers_at-layers.result ≡ (extent_of_entry e).layers)) k.at.found
    c.layers_at-layers.ensures in
    rw (c.loop-i.invariant.geometry, c.info_under-info.ensures, k.is, layers)
    (entry_question (g.G.Geometry.meaning c.args.counted.now.geometry) c.args.tree.now c.requires.leaf.sound
    c.args.parent (search rules) c.args.node _ c.loop-i.i c.requires.leaf.below k.at).honest

pub check-verdict-requires-clause-layers : goal.check-verdict-requires-clause-layers
check-verdict-requires-clause-layers g c =
    let k = leaf_read c.args.tree.now c.args.node c.loop-i.i c.index-entries-i.result
    c.child_entries-entries.result.now c.requires.leaf.sound.table c.requires.leaf.node c.child_entries-entries.ensures
    c.loop-i-test.true c.index-entries-i.is in
    let layers = subst (λ o. IfSome o (λ e. c.layers_at-layers.result ≡ (extent_of_entry e).layers)) k.at.found
    c.layers_at-layers.ensures in
    rw (c.info_under-info.ensures, k.is, layers)
    (entry_question (g.G.Geometry.meaning c.args.counted.now.geometry) c.args.tree.now c.requires.leaf.sound
    c.args.parent (search rules) c.args.node _ c.loop-i.i c.requires.leaf.below k.at).well_formed.layers

pub check-verdict-requires-clause-count : goal.check-verdict-requires-clause-count
check-verdict-requires-clause-count g c = grind (arith, entries_count)

pub visit_entry-requires : goal.visit_entry-requires
visit_entry-requires g c =
    search (
      rules,
      entries_count,
      taken_space g.Self.Collector.takes g.Self.Collector.space g.met.Self.Collector.fills,
      few_entries (g.G.Geometry.meaning c.args.counted.now.geometry),
    )

pub loop-i-preserved : goal.loop-i-preserved
loop-i-preserved g c =
    let geometry = c.args.counted.now.geometry in
    let tree = c.args.tree.now in
    let i = c.loop-i.i in
    let count = entries_count tree c.args.node c.child_entries-entries.result.now c.requires.leaf.node
    c.child_entries-entries.ensures in
    let lt = c.loop-i-test.true in
    let k = leaf_read tree c.args.node i c.index-entries-i.result c.child_entries-entries.result.now
    c.requires.leaf.sound.table c.requires.leaf.node c.child_entries-entries.ensures lt c.index-entries-i.is in
    let layers = subst (λ o. IfSome o (λ e. c.layers_at-layers.result ≡ (extent_of_entry e).layers)) k.at.found
    c.layers_at-layers.ensures in
    let inv = c.loop-i.invariant in
    let e = rw inv.geometry at c.check-verdict.ensures in
    let fits : FitsSigned w64 c.index-entries-i.result.id = search rules in
    let verdict_is = rw (k.is, layers) at (rw c.info_under-info.ensures at e.verdict) in
    let kept : not c.match-matches.matches ≡ is_kept c.check-verdict.result.within = elim c.match-matches.branch [
      | in-Not w ↦ grind arith
      | in_default w ↦ grind arith
    ] in
    let one = rw k.is at (rw verdict_is at (rw kept at (simp (to_z-of_z, fits) at c.visit_entry.ensures))) in
    let more = one_entry (g.met.G.Geometry.lawful geometry) c.requires.leaf.sound (search rules) c.requires.leaf.node
    c.requires.leaf.below i (omega arith) in
    let both = taken-append g.Self.Collector.takes c.args.self.now c.loop-i.self c.visit_entry.new.self
    (answers_among tree (g.G.Geometry.meaning geometry) c.args.node i) _ inv.taken one in
    record {
      taken = subst (λ l. HasTaken g.Self.Collector.takes c.args.self.now l c.visit_entry.new.self) more both;
      geometry = e.geometry;
      asked = (let asked = e.asked in omega arith);
    }

pub returns-clause-taken : goal.returns-clause-taken
returns-clause-taken g c = grind (arith, common_steps)

pub returns-clause-asked : goal.returns-clause-asked
returns-clause-asked g c = grind (arith, common_steps)
