use Rattle.std.proofs.Common.{ap₂, ◌∙◌}
use Rattle.std.proofs.lemmas.Result.{IfOk-weaker}
use Rattle.clap.specs.Words.{with_rule}
use Rattle.cg_command.specs.Matches.{words_app}
use Rattle.cg_command.proofs.arguments.words_command.Goals as goal

pub returns : goal.returns
unfolding words_app
returns c =
    IfOk-weaker c.arg-2.result _ _ (λ r h. h.shape c.flag_named-2.ensures.local
    ∙ ap₂ with_rule (c.in_ok-arg.ensures.shape c.flag_named.ensures.local
    ∙ ap₂ with_rule c.in_ok-command_with_options.ensures c.flag_named.ensures.rule) c.flag_named-2.ensures.rule) c.arg-2.ensures
