use Rattle.std.proofs.Common.{◌∙◌, ap, arith}
use Rattle.rt_search.specs.{Kept.{node_or, taken_entry}, Limits.{needed_after}}
use Rattle.rt_search.proofs.UnderWay.{ended, node_out, opened_upto, still_more}
use Rattle.rt_search.proofs.search.pull.Goals as goal

pub open-requires : goal.open-requires
open-requires g c =
    let v = c.loop-node.invariant in
    let e = c.take-node.ensures in
    let law = g.met.G.Geometry.lawful c.args.counted.now.geometry in
    let out = node_out law c.args.tree.now c.take-node.result c.in-Some.node v.needed c.requires.more c.in-Some.is
    e.taken (v.state _ c.requires.state.1) in
    let same = e.needed
    ∙ ap (λ o. needed_after (node_or o (taken_entry c.take-node.result.1)) c.loop-node.queue.needed) c.in-Some.is in
    rw v.geometry (record {
      capacity = rw (e.capacity, v.capacity) c.requires.capacity;
      state = (c.requires.state.0, rw same out);
    })

pub loop-node-smaller : goal.loop-node-smaller
loop-node-smaller g c =
    let v = c.loop-node.invariant in
    let law = g.met.G.Geometry.lawful c.args.counted.now.geometry in
    let t = c.args.tree.now in
    let out = node_out law t c.take-node.result c.in-Some.node v.needed c.requires.more c.in-Some.is
    c.take-node.ensures.taken (v.state _ c.requires.state.1) in
    let o = rw v.geometry at c.«open».ensures in
    let more = o.more in
    let same = c.take-node.ensures.needed
    ∙ ap (λ o. needed_after (node_or o (taken_entry c.take-node.result.1)) c.loop-node.queue.needed) c.in-Some.is in
    let all = opened_upto law t (o.state c.requires.state.0 (rw same out)) in
    omega arith

pub loop-node-preserved : goal.loop-node-preserved
loop-node-preserved g c =
    let v = c.loop-node.invariant in
    let e = c.take-node.ensures in
    let law = g.met.G.Geometry.lawful c.args.counted.now.geometry in
    let o = rw v.geometry at c.«open».ensures in
    let same = e.needed
    ∙ ap (λ o. needed_after (node_or o (taken_entry c.take-node.result.1)) c.loop-node.queue.needed) c.in-Some.is in
    record {
      state = λ to_come u.
          let out = node_out law c.args.tree.now c.take-node.result c.in-Some.node v.needed c.requires.more c.in-Some.is
          e.taken (v.state to_come u) in
          o.state to_come (rw same out);
      needed = o.needed ∙ same ∙ v.needed;
      capacity = o.capacity ∙ e.capacity ∙ v.capacity;
      geometry = o.geometry;
    }

pub returns-in_default-clause-step : goal.returns-in_default-clause-step
returns-in_default-clause-step g c = λ to_come u.
    let v = c.loop-node.invariant in
    let t = rw c.in_default.is at c.take-node.ensures in
    ended (g.met.G.Geometry.lawful c.args.counted.now.geometry) c.args.tree.now c.take-node.result.1
    c.take-node.new.self.items (still_more _ _ v.needed c.requires.more) t.taken t.needed (v.state to_come u)
