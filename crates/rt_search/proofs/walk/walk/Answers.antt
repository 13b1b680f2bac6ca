use Rattle.std.proofs.Common.{arith}
use Rattle.rt_search.proofs.WalkWhole.{whole}
use Rattle.rt_search.proofs.walk.walk.Goals as goal

pub walk_under-requires : goal.walk_under-requires
walk_under-requires g c =
    let geometry = c.args.counted.now.geometry in
    let k = whole (g.G.Geometry.meaning geometry)
    c.args.tree.now c.in-Some.ensures.sound g.V.Visitor.opens c.in-Some.number.number c.in-Some.ensures.number in
    record {
      sound = c.in-Some.ensures.sound;
      node = k.node;
      space = omega (arith, c.requires.space c.in-Some.ensures.sound);
      opened = omega arith;
      asked = omega arith;
    }
