use Rattle.std.proofs.{Common.{◌+◌, ◌∙◌, ap, arith, refl, slice_get, subst, sym}, lemmas.Grind.{common_steps}}
use Rattle.std.proofs.lemmas.Option.{get_or_from_slice_get, slice_get_within}
use Rattle.rt_tree.proofs.TileLoops.{next_fits, over_tile, tile_more}
use Rattle.rt_tree.proofs.packing.pack_tile.Goals as goal

pub with_child-node-requires-clause-size : goal.with_child-node-requires-clause-size
with_child-node-requires-clause-size g c = omega (
  arith,
  next_fits g.T.Items.extent g.T.Items.size (g.T.Items.list c.args.items.now) c.args.tile.now c.loop-key.key-index
      c.in_ok-item.item _ c.loop-key.node c.loop-key-test.true c.in_ok-item.ensures.item refl c.loop-key.invariant.node,
  c.requires.weight,
)

pub loop-key-preserved : goal.loop-key-preserved
loop-key-preserved g c =
    let more = tile_more g.T.Items.extent g.T.Items.size (g.T.Items.list c.args.items.now) c.args.tile.now
    c.loop-key.key-index c.in_ok-item.item _ c.loop-key.node _ _ c.loop-key-test.true c.in_ok-item.ensures.item
    c.loop-key.invariant.node c.loop-key.invariant.packed in
    record {
      count = ap (λ n. n.count) c.with_child-node.ensures ∙ ap (λ n. n + 1) c.loop-key.invariant.count;
      node = c.with_child-node.ensures ∙ more.0;
      packed = c.in_ok-item.ensures.packed ∙ more.1;
    }

pub returns-clause-packed : goal.returns-clause-packed
returns-clause-packed g c = grind (arith, common_steps)

pub returns-clause-node : goal.returns-clause-node
returns-clause-node g c =
    let items = g.T.Items.list c.args.items.now in
    let at = ap (slice_get items) (sym c.place_of.ensures) ∙ c.item.ensures in
    c.loop-key.invariant.node ∙ over_tile g.T.Items.extent g.T.Items.size items c.args.tile.now c.loop-key.key-index
    c.args.level c.count.result _ c.item.result c.new.result c.bounds.result c.requires.some c.loop-key-test.false at
    (ap (λ b. record { bits = b }) c.new.ensures) c.bounds.ensures c.count.ensures

pub with_child-node-requires-clause-layers : goal.with_child-node-requires-clause-layers
with_child-node-requires-clause-layers g c =
    let items = g.T.Items.list c.args.items.now in
    let item = c.in_ok-item.item in
    let at = c.in_ok-item.ensures.item in
    subst g.T.Items.has_layers (get_or_from_slice_get items _ item item at) (c.requires.layers _ item (slice_get_within items _ item at))
