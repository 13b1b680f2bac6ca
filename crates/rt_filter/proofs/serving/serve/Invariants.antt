use Rattle.rt_filter.specs.{Accounts.{connection_of}, Stages.{loaded_tree}}
use Rattle.rt_filter.proofs.serving.serve.Given as goal

-- what is known before the first pull
abbrev pub ghosts-serve_from : goal.ghosts-serve_from
ghosts-serve_from g a = record {
  at_start = record {
    loaded = loaded_tree a.tree.now;
    devices = connection_of g.S.Source.coming g.S.Source.failed g.S.Source.pulled g.K.Sink.written g.K.Sink.failed g.K.Sink.waits
        a.source.now a.sink.now;
  };
}
