use Rattle.rt_tree.specs.SortKeys.{box_of}
use Rattle.std.proofs.Common.{◌≡◌, ◌∙◌, ap, arith, length, min}
use Rattle.std.specs.Slice.Iter.{chunks_rest, chunks_size}
use Rattle.std.proofs.lemmas.{Grind.{common_steps}, List.{take_at}}
use Rattle.rt_tree.proofs.TileLoops.{level_done, level_first, level_more, next_tile}
use Rattle.rt_tree.proofs.packing.pack_level.Goals as goal

pub loop-tile-init : goal.loop-tile-init
loop-tile-init g c =
    let keys = c.arrange.new.keys in
    let given = c.into_iter-tile-iterator.ensures.into_iter_gives in
    let rest : chunks_rest c.into_iter-tile-iterator.result ≡ keys = ap chunks_rest given
    ∙ c.chunks-tile-items.ensures.rest ∙ c.deref.ensures.value
    ∙ take_at keys _ _ (c.arrange.auto.keys ∙ c.deref_mut.ensures.len) in
    record {
      size = ap chunks_size given ∙ c.chunks-tile-items.ensures.size;
      part = rw (rest, c.in_ok-nodes.ensures) (level_first (g.T.Items.list c.args.items.now) g.T.Items.extent g.T.Items.size
          c.args.level c.args.fanout (box_of g.T.Items.extent) g.T.Items.has_layers
          (g.T.Items.key_order (g.T.Items.list c.args.items.now)) (g.T.Items.in_order (g.T.Items.list c.args.items.now))
          (g.T.Items.list c.args.packed.now) keys c.requires.packable c.requires.several c.arrange.ensures.arranged
          c.arrange.ensures.places c.requires.numbers);
    }

pub pack_tile-requires-clause-places : goal.pack_tile-requires-clause-places
pack_tile-requires-clause-places g c = (next_tile (g.T.Items.list c.args.items.now) g.T.Items.extent g.T.Items.size
    c.args.level c.args.fanout _ _ _ _ _ c.in-Some.tile.now _ c.loop-tile.invariant.part c.in-Some.ensures.steps.1.0).0

pub pack_tile-requires-clause-weight : goal.pack_tile-requires-clause-weight
pack_tile-requires-clause-weight g c = (next_tile (g.T.Items.list c.args.items.now) g.T.Items.extent g.T.Items.size
    c.args.level c.args.fanout _ _ _ _ _ c.in-Some.tile.now _ c.loop-tile.invariant.part c.in-Some.ensures.steps.1.0).1

pub loop-tile-preserved : goal.loop-tile-preserved
loop-tile-preserved g c =
    let steps = c.in-Some.ensures.steps in
    let rest = chunks_rest c.loop-tile.tile-iterator in
    record {
      size = steps.0 ∙ c.loop-tile.invariant.size;
      part = level_more (g.T.Items.list c.args.items.now) g.T.Items.extent g.T.Items.size c.args.level c.args.fanout
          _ _ _ _ _ _ _ c.in-Some.tile.now _ c.in_ok-pack_tile.field-0 (omega (arith, c.requires.several))
          c.loop-tile.invariant.part steps.1.0 (steps.1.1 ∙ ap (λ n. min n (length rest)) c.loop-tile.invariant.size)
          steps.1.2 c.in_ok-pack_tile.ensures.packed c.in_ok-pack_tile.ensures.node c.in_ok-push.ensures;
    }

pub returns-clause-nodes : goal.returns-clause-nodes
returns-clause-nodes g c =
    level_done (g.T.Items.list c.args.items.now) g.T.Items.extent g.T.Items.size c.args.level c.args.fanout
    _ _ _ c.loop-tile.nodes _ c.in-None.ensures.steps.1.0 c.loop-tile.invariant.part

pub returns-clause-packed : goal.returns-clause-packed
returns-clause-packed g c = grind (arith, common_steps)
