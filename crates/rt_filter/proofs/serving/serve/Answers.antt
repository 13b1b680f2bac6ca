use Rattle.rt_filter.specs.Stages.{loaded_tree}
use Rattle.rt_filter.proofs.{ServingLemmas.{serves_same}, TreeLemmas.{output_same}}
use Rattle.rt_filter.proofs.serving.serve.Goals as goal

pub returns-clause-ending : goal.returns-clause-ending
returns-clause-ending g c loaded packed =
    serves_same (loaded_tree c.args.tree.now) loaded (output_same c.args.tree.now loaded c.len.ensures.sound packed)
    (g.S.Source.coming c.args.source.now) (g.S.Source.coming c.serve_from.new.source)
    (g.K.Sink.written c.args.sink.now) (g.K.Sink.written c.serve_from.new.sink) c.serve_from.result c.serve_from.ensures.ending
