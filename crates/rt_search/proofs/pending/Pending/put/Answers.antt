use Rattle.std.proofs.Common.{refl}
use Rattle.rt_search.proofs.Pendings.{set_here, set_other}
use Rattle.rt_search.proofs.pending.Pending.put.Goals as goal

pub returns : goal.returns
returns c =
    rw (← c.self.view_is) (record {
      here = set_here c.self.inside.places c.args.place c.requires;
      others = set_other c.self.inside.places c.args.place c.requires;
      same = refl;
    })
