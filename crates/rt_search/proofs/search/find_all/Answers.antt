use Rattle.std.proofs.Common.{rules}
use Rattle.rt_search.proofs.{Collectors.{hits_join_all}, Gathering.{all_found}}
use Rattle.rt_search.proofs.search.find_all.Goals as goal

pub returns-in-None : goal.returns-in-None
returns-in-None g c =
    let geometry = c.args.counted.now.geometry in
    let e = c.walk-opened.ensures in
    let joined = hits_join_all c.args.hits.now c.walk-opened.new.visitor _ e.taken in
    let found = all_found (g.met.G.Geometry.lawful geometry) c.args.tree.now e.sound c.walk-opened.new.visitor.items (rw c.requires.none at joined.0) in
    search rules

pub returns-in-Some : goal.returns-in-Some
returns-in-Some g c =
    let geometry = c.args.counted.now.geometry in
    let e = c.walk-opened.ensures in
    let joined = hits_join_all c.args.hits.now c.walk-opened.new.visitor _ e.taken in
    let found = all_found (g.met.G.Geometry.lawful geometry) c.args.tree.now e.sound c.walk-opened.new.visitor.items (rw c.requires.none at joined.0) in
    search rules
