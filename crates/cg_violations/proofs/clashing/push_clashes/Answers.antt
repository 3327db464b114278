use Rattle.std.proofs.Common.{◌++◌, sym, ap, ◌∙◌}
use Rattle.cg_violations.proofs.Steps.{judged}
use Rattle.cg_violations.proofs.clashing.push_clashes.Goals as goal

pub returns : goal.returns
returns c =
    c.in_ok-push_all.ensures
    ∙ ap (λ vs. c.args.found.now.items ++ vs) (judged c.args.sharing c.args.mapped.arch.now c.args.mapped.kernel.now c.args.mapped.mapping.now (sym c.is_interval.ensures ∙ c.if-not-is_interval.false))
