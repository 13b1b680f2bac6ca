use Rattle.std.proofs.Common.{◌<◌, ◌*◌, ◌∙◌, ap, sym}
use Rattle.rt_tree.proofs.{LevelLemmas.{div_ceil-positive}, SquareLemmas.{ceil_sqrt-from_isqrt}}
use Rattle.rt_tree.specs.Packing.{ceil_sqrt}
use Rattle.rt_tree.proofs.packing.slice_size.Goals as goal

pub returns-clause-value : goal.returns-clause-value
returns-clause-value c some =
    let tiles = c.div_ceil-tiles.result in
    let there : 0 < tiles = rw c.div_ceil-tiles.ensures (div_ceil-positive c.args.items c.args.fanout c.requires some) in
    ap (λ side. side * c.args.fanout) (sym (ceil_sqrt-from_isqrt tiles c.saturating_sub.result c.isqrt.result there
    c.saturating_sub.ensures c.isqrt.ensures.square_le c.isqrt.ensures.next_square_gt) ∙ ap ceil_sqrt c.div_ceil-tiles.ensures)
