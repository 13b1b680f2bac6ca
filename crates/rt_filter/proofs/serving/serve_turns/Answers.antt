use Rattle.std.proofs.{Common.{◌≡◌, ◌∙◌, ◌+◌, ◌-◌, ◌≤◌, [], ◌∷◌, take, length, ap, sym, arith, rules}, lemmas.List.{length-take-le}}
use Rattle.rt_filter.specs.Stages.{line_feed, loaded_tree, most_pulled}
use Rattle.rt_filter.proofs.ProgressLemmas.{ended-fault, ended-output}
use Rattle.rt_filter.proofs.{BufferLemmas.{ended, front_of, length_pulled, pulled, rest_of}, PushLemmas.{kept_same}, ServingLemmas.{consumed_more}}
use Rattle.rt_filter.proofs.ServingLemmas.{pulled_more, pulled_within, serves_all, serves_cut, serves_cut_at_end}
use Rattle.rt_filter.proofs.ServingLemmas.{serves_read, serving_more}
use Rattle.rt_filter.proofs.serving.serve_turns.Goals as goal

pub returns-in_default : goal.returns-in_default
returns-in_default g c = rw (c.requires.loaded, c.requires.devices) (record {
  ending = serves_read (loaded_tree c.args.tree.now) _ _ _ _ _ _ c.loop-turn.invariant.serving (g.S.Exchange.coming c.pull_next.new.self) c.ended.result
      c.in_default.ensures.bytes c.ended.ensures.bad c.ended.ensures.fault;
  accounts = record {
    pushes = search rules;
    pulls = search rules;
    turns = search rules;
    most = pulled_within _ _ _ _ _ c.loop-turn.invariant.pulled c.in_default.ensures.counted c.loop-turn-test.true;
    used_up = search rules;
    flushed = search rules;
  };
})

pub returns-in_default-answer_lines : goal.returns-in_default-answer_lines
returns-in_default-answer_lines g c =
    let s = c.loop-turn.invariant.serving in
    let kept = c.loop-turn.kept in
    let buffer = c.loop-turn.buffer in
    let piece = c.pull_next.new.buffer in
    let long : length buffer ≡ most_pulled = search rules in
    let fits : kept ≤ length buffer = omega (arith, long, c.loop-turn.invariant.bound) in
    let given : length piece ≡ most_pulled - kept = search rules in
    let filled = ended buffer piece kept (most_pulled - kept) (omega (arith, long, c.loop-turn.invariant.bound)) (omega (arith, long, c.loop-turn.invariant.bound)) given in
    let front = front_of buffer _ (line_feed ∷ []) kept fits filled in
    let rest = rest_of buffer _ (line_feed ∷ []) kept fits filled in
    let pushed = (rw (front, rest, ended-output (loaded_tree c.args.tree.now) s.pulled) at (c.in_default-answer_lines.ensures.pushed s.pulled)) s.so in
    let bad = (rw (front, rest, ended-fault s.pulled) at (c.in_default-answer_lines.ensures.progress s.pulled)) s.so in
    let count : g.K.Sink.failed c.answer_lines.new.sink ≡ g.K.Sink.failed c.args.sink.now + 1 = pushed.1 ∙ ap (λ n. n + 1) c.loop-turn.invariant.sink_count in
    rw (c.requires.loaded, c.requires.devices) (record {
      ending = serves_cut_at_end (loaded_tree c.args.tree.now) _ _ _ _ _ _ s (g.S.Exchange.coming c.pull_next.new.self) (g.K.Sink.written c.answer_lines.new.sink)
          c.ended-in_default-answer_lines.result (rw c.if-n-eq0.true at c.in-Ok.ensures.bytes.0) (c.in-Ok.ensures.bytes.1 (search rules)) pushed.0
          (λ e. bad (sym c.ended-in_default-answer_lines.ensures.bad ∙ e)) c.ended-in_default-answer_lines.ensures.fault;
      accounts = record {
        pushes = search rules;
        pulls = search rules;
        turns = search rules;
        most = pulled_within _ _ _ _ _ c.loop-turn.invariant.pulled c.in-Ok.ensures.counted c.loop-turn-test.true;
        used_up = search rules;
        flushed = search rules;
      };
    })

pub returns-then-n-eq0 : goal.returns-then-n-eq0
returns-then-n-eq0 g c =
    let s = c.loop-turn.invariant.serving in
    let kept = c.loop-turn.kept in
    let buffer = c.loop-turn.buffer in
    let piece = c.pull_next.new.buffer in
    let long : length buffer ≡ most_pulled = search rules in
    let fits : kept ≤ length buffer = omega (arith, long, c.loop-turn.invariant.bound) in
    let given : length piece ≡ most_pulled - kept = search rules in
    let filled = ended buffer piece kept (most_pulled - kept) (omega (arith, long, c.loop-turn.invariant.bound)) (omega (arith, long, c.loop-turn.invariant.bound)) given in
    let front = front_of buffer _ (line_feed ∷ []) kept fits filled in
    let rest = rest_of buffer _ (line_feed ∷ []) kept fits filled in
    let pushed = (rw (front, rest, ended-output (loaded_tree c.args.tree.now) s.pulled) at (c.in-Ok-answer_lines.ensures.pushed s.pulled)) s.so in
    let left = (rw (front, rest) at (c.in-Ok-answer_lines.ensures.progress s.pulled)) s.so in
    let count : g.K.Sink.failed c.answer_lines.new.sink ≡ g.K.Sink.failed c.args.sink.now = pushed.1 ∙ c.loop-turn.invariant.sink_count in
    rw (c.requires.loaded, c.requires.devices) (record {
      ending = serves_all (loaded_tree c.args.tree.now) _ _ _ _ _ _ s (g.S.Exchange.coming c.pull_next.new.self) (g.K.Sink.written c.answer_lines.new.sink)
          c.ended-then-n-eq0.result (rw c.if-n-eq0.true at c.in-Ok.ensures.bytes.0) (c.in-Ok.ensures.bytes.1 (search rules)) pushed.0
          (c.ended-then-n-eq0.ensures.bad ∙ left.bad ∙ ended-fault s.pulled) c.ended-then-n-eq0.ensures.fault;
      accounts = record {
        pushes = search rules;
        pulls = search rules;
        turns = search rules;
        most = pulled_within _ _ _ _ _ c.loop-turn.invariant.pulled c.in-Ok.ensures.counted c.loop-turn-test.true;
        used_up = search rules;
        flushed = search rules;
      };
    })

pub returns-in_default-answered : goal.returns-in_default-answered
returns-in_default-answered g c =
    let s = c.loop-turn.invariant.serving in
    let kept = c.loop-turn.kept in
    let buffer = c.loop-turn.buffer in
    let piece = c.pull_next.new.buffer in
    let long : length buffer ≡ most_pulled = search rules in
    let fits : kept ≤ length buffer = omega (arith, long, c.loop-turn.invariant.bound) in
    let given : length piece ≡ most_pulled - kept = search rules in
    let n = c.in-Ok.n in
    let filled = pulled buffer piece kept (most_pulled - kept) n fits c.in-Ok.ensures.bound in
    let front = front_of buffer _ (take n piece) kept fits filled in
    let rest = rest_of buffer _ (take n piece) kept fits filled in
    let pushed = (rw (front, rest) at (c.in_default-answered.ensures.pushed s.pulled)) s.so in
    let bad = (rw (front, rest) at (c.in_default-answered.ensures.progress s.pulled)) s.so in
    let count : g.K.Sink.failed c.answer_lines-answered.new.sink ≡ g.K.Sink.failed c.args.sink.now + 1 = pushed.1 ∙ ap (λ n. n + 1) c.loop-turn.invariant.sink_count in
    rw (c.requires.loaded, c.requires.devices) (record {
      ending = serves_cut (loaded_tree c.args.tree.now) _ _ _ _ _ _ s (g.S.Exchange.coming c.pull_next.new.self) (g.K.Sink.written c.answer_lines-answered.new.sink)
          c.ended-in_default-answered.result (take n c.pull_next.new.buffer) c.in-Ok.ensures.bytes.0
          (omega (arith, length-take-le n piece c.in-Ok.ensures.bound, c.in-Ok.ensures.bound, given)) pushed.0
          (λ e. bad (sym c.ended-in_default-answered.ensures.bad ∙ e)) c.ended-in_default-answered.ensures.fault;
      accounts = record {
        pushes = search rules;
        pulls = search rules;
        turns = search rules;
        most = pulled_within _ _ _ _ _ c.loop-turn.invariant.pulled c.in-Ok.ensures.counted c.loop-turn-test.true;
        used_up = search rules;
        flushed = search rules;
      };
    })

pub loop-turn-preserved : goal.loop-turn-preserved
loop-turn-preserved g c =
    let s = c.loop-turn.invariant.serving in
    let kept = c.loop-turn.kept in
    let buffer = c.loop-turn.buffer in
    let piece = c.pull_next.new.buffer in
    let long : length buffer ≡ most_pulled = search rules in
    let fits : kept ≤ length buffer = omega (arith, long, c.loop-turn.invariant.bound) in
    let given : length piece ≡ most_pulled - kept = search rules in
    let n = c.in-Ok.n in
    let filled = pulled buffer piece kept (most_pulled - kept) n fits c.in-Ok.ensures.bound in
    let front = front_of buffer _ (take n piece) kept fits filled in
    let rest = rest_of buffer _ (take n piece) kept fits filled in
    let pushed = (rw (front, rest) at (c.in-Ok-answered.ensures.pushed s.pulled)) s.so in
    let left = (rw (front, rest) at (c.in-Ok-answered.ensures.progress s.pulled)) s.so in
    record {
      capacity = rw c.in-Ok-answered.ensures.capacity c.loop-turn.invariant.capacity;
      source_count = c.in-Ok.ensures.went ∙ c.loop-turn.invariant.source_count;
      sink_count = pushed.1 ∙ c.loop-turn.invariant.sink_count;
      few =
          let many = length_pulled buffer piece kept (most_pulled - kept) n fits c.in-Ok.ensures.bound in
          omega (arith, c.in-Ok-answered.ensures.few, many, c.keep-kept.ensures.few, c.loop-turn.invariant.few, c.loop-turn.invariant.bound, c.in-Ok.ensures.bound, given);
      bound = c.keep-kept.ensures.bound;
      pulled = pulled_more c.loop-turn._turn _ _ _ c.loop-turn.invariant.pulled c.in-Ok.ensures.counted;
      given = consumed_more c.loop-turn._turn n c.pull_next.new.buffer _ _ _ c.loop-turn.invariant.given (omega (arith, c.if-n-eq0.false))
          c.in-Ok.ensures.bound c.in-Ok.ensures.bytes.0;
      serving = serving_more (loaded_tree c.args.tree.now) _ _ _ _ _ _ s (g.S.Exchange.coming c.pull_next.new.self) (g.K.Sink.written c.answer_lines-answered.new.sink)
          c.keep-kept.new.self _ (take n c.pull_next.new.buffer) c.in-Ok.ensures.bytes.0 (c.keep-kept.ensures.kept _ left) pushed.0;
      flushed = λ e. c.in-Ok-answered.ensures.flushed (c.loop-turn.invariant.flushed e);
    }

pub returns : goal.returns
returns g c = rw (c.requires.loaded, c.requires.devices) (record {
  ending = search (rules, serves_read, kept_same);
  accounts = record {
    pushes = search rules;
    pulls = search rules;
    turns = search rules;
    most = search rules;
    used_up = search rules;
    flushed = search rules;
  };
})
