use Rattle.std.proofs.Common.{◌≤◌, arith, length, refl, rules}
use Rattle.rt_search.proofs.Starting.{started}
use Rattle.rt_search.proofs.search.begin.Goals as goal

pub returns-then-gathers-clause-going : goal.returns-then-gathers-clause-going
returns-then-gathers-clause-going g c geometry =
    let same = c.requires.same_capacity in
    let space = c.requires.capacity in
    let cleared = c.clear.ensures in
    let hits = c.clear-then-gathers.ensures in
    record {
      same_capacity = grind arith;
      giving = λ h. absurd (grind arith);
      gathering = λ h. record {
        unscored = c.gathers.ensures.unscored (search rules) geometry;
        some = c.gathers.ensures.some (search rules);
        space = grind arith;
        none_waits = cleared.items;
        before = λ h. record { none_given = refl; none_opened = refl; none_asked = refl; none_found = hits.items };
        after = λ h. absurd (grind arith);
      };
    }

pub returns-clause-going : goal.returns-clause-going
returns-clause-going g c geometry =
    let put = c.put_root.ensures in
    let cleared = c.clear.ensures in
    let same = c.requires.same_capacity in
    let space : length c.args.tree.now.entries ≤ c.put_root.new.queue.capacity = grind arith in
    record {
      same_capacity = grind arith;
      giving = λ h. started (g.G.Geometry.meaning geometry) c.args.tree.now put.sound c.args.limit
          c.put_root.new.queue.capacity c.put_root.new.queue.needed c.put_root.new.queue.items space
          (rw put.root.needed cleared.needed) (rw put.root.needed put.root.items);
      gathering = λ h. absurd (grind arith);
    }
