use Rattle.std.proofs.{Common.{◌≡◌, ◌∙◌, option_map, rules}, lemmas.Grind.{common_steps}}
use Rattle.rt_filter.specs.Endings.{run_fault_of}
use Rattle.rt_filter.proofs.RunLemmas.{ends_early, ends_served, ends_whole}
use Rattle.rt_filter.proofs.filter.run.Goals as goal

pub returns-in-Ok-clause-ending : goal.returns-in-Ok-clause-ending
returns-in-Ok-clause-ending g c table is_table =
    let mapped : c.map.result ≡ option_map run_fault_of c.serve-served.result.fault = search rules in
    ends_served c.args.settings.now table (g.S.Source.coming c.args.source.now) (g.S.Source.coming c.serve-served.new.source)
    (g.K.Sink.written c.args.sink.now) (g.K.Sink.written c.serve-served.new.sink) c.in-Ok.tree c.serve-served.result (c.in-Ok.ensures.loaded table is_table)
    c.serve-served.ensures.ending c.new.result (c.new.ensures.fault ∙ mapped) (search rules)

pub returns-in-Ok-clause-headline : goal.returns-in-Ok-clause-headline
returns-in-Ok-clause-headline g c table queries before is_table is_queries is_before =
    ends_whole c.args.settings.now table queries before (g.S.Source.coming c.args.source.now) (g.S.Source.coming c.serve-served.new.source)
    (g.K.Sink.written c.args.sink.now) (g.K.Sink.written c.serve-served.new.sink) c.new.result c.args.turns
    (g.S.Source.failed c.args.source.now) (g.S.Source.failed c.serve-served.new.source) (g.K.Sink.failed c.args.sink.now) (g.K.Sink.failed c.serve-served.new.sink)
    (returns-in-Ok-clause-ending g c table is_table) is_queries is_before (search rules) (search rules)

pub returns-in-Err-clause-ending : goal.returns-in-Err-clause-ending
returns-in-Err-clause-ending g c table is_table =
    ends_early c.args.settings.now table (g.S.Source.coming c.args.source.now) (g.K.Sink.written c.args.sink.now)
    c.new-in-Err.result c.in-Err.fault (c.in-Err.ensures.stops table is_table) c.in-Err.ensures.of_load c.in-Err.ensures.memory
    c.new-in-Err.ensures.fault c.new-in-Err.ensures.status

pub returns-in-Err-clause-headline : goal.returns-in-Err-clause-headline
returns-in-Err-clause-headline g c table queries before is_table is_queries is_before =
    search (rules, ends_whole, returns-in-Err-clause-ending, common_steps)
