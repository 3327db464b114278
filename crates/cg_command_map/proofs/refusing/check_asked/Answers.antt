use Rattle.std.proofs.Common.{◌≡◌, true, sym, ap, ◌∙◌}
use Rattle.cg_effects.specs.Outcome.{file_of}
use Rattle.cg_effects.specs.Refusals.{malformed_of}
use Rattle.cg_cause.specs.Cause.{interval_fault_text}
use Rattle.cg_cause.proofs.Allowed.{ends_weaker}
use Rattle.cg_command_map.specs.Searches.{is_above, above_contexts}
use Rattle.cg_command_map.proofs.refusing.check_asked.Goals as goal

pub returns-then-asks_above-clause-above : goal.returns-then-asks_above-clause-above
returns-then-asks_above-clause-above c =
    let A = c.args.arch.now in
    let asked = c.args.request.ii in
    let name = (file_of c.args.file.now).name in
    ends_weaker (λ o. o ≡ malformed_of name (interval_fault_text c.contexts-contexts.result)) (λ o. (is_above asked A ≡ true) × (o ≡ above_contexts name A)) c.refused.result
    (λ o e. (sym c.asks_above.ensures ∙ c.if-asks_above.true, e ∙ ap (λ n. malformed_of name (interval_fault_text n)) c.contexts-contexts.ensures.contexts))
    c.refused.ensures
