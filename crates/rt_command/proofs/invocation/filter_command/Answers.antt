use Rattle.std.proofs.Common.{ap₂, sym, codes, ◌≡◌, ◌∙◌}
use Rattle.std.proofs.lemmas.Result.{IfOk-weaker}
use Rattle.clap.specs.Words.{rule_of, with_rule}
use Rattle.rt_command.specs.Invocations.{number_rule}
use Rattle.rt_command.proofs.CommandLemmas.{filter_app-built}
use Rattle.rt_command.proofs.invocation.filter_command.Goals as goal

pub returns : goal.returns
returns c =
    let fanout_is : rule_of c.number_arg.result ≡ number_rule (codes "fanout") 2 64 (codes "16") = c.number_arg.ensures.rule 2 64 c.fanout_parser.ensures in
    let entries_is : rule_of c.number_arg-2.result ≡ number_rule (codes "max-entries") 1 16777216 (codes "16777216") = c.number_arg-2.ensures.rule 1 16777216 c.entries_parser.ensures in
    IfOk-weaker c.arg-5.result _ _ (λ command h. h.shape c.word_arg-2.ensures.local ∙ ap₂ with_rule
    (c.in_ok-arg-4.ensures.shape c.word_arg.ensures.local ∙ ap₂ with_rule
    (c.in_ok-arg-3.ensures.shape c.number_arg-2.ensures.local ∙ ap₂ with_rule
    (c.in_ok-arg-2.ensures.shape c.number_arg.ensures.local ∙ ap₂ with_rule
    (c.in_ok-arg.ensures.shape c.header_arg.ensures.local ∙ ap₂ with_rule c.new.ensures.app c.header_arg.ensures.rule) fanout_is) entries_is) c.word_arg.ensures.rule) c.word_arg-2.ensures.rule
    ∙ sym filter_app-built) c.arg-5.ensures
