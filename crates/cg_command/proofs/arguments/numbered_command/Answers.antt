use Rattle.std.proofs.Common.{true, codes, ap, ap₂, ◌≡◌, ◌∙◌}
use Rattle.std.proofs.lemmas.Result.{IfOk-weaker}
use Rattle.clap.specs.Words.{app_of, new_app, with_rule}
use Rattle.clap.specs.Simple.{app_of_fields, on_top}
use Rattle.cg_command.proofs.arguments.numbered_command.Goals as goal

pub returns : goal.returns
returns c =
    let bare : app_of c.disable_help_flag.result ≡ on_top (λ s. record s { no_binary_name = true; disable_help_flag = true }) (new_app (codes "cgra")) =
    ap app_of_fields c.disable_help_flag.ensures ∙ ap (on_top (λ s. record s { disable_help_flag = true })) (ap app_of_fields c.no_binary_name.ensures ∙ ap (on_top (λ s. record s { no_binary_name = true })) c.new.ensures.app) in
    IfOk-weaker c.arg-3.result _ _ (λ r h. h.shape c.option_named-2.ensures.local
    ∙ ap₂ with_rule (c.in_ok-arg-2.ensures.shape c.option_named.ensures.local
    ∙ ap₂ with_rule (c.in_ok-arg.ensures.shape c.plain_words.ensures.local ∙ ap₂ with_rule bare c.plain_words.ensures.rule) c.option_named.ensures.rule) c.option_named-2.ensures.rule) c.arg-3.ensures
