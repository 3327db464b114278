use Rattle.std.proofs.Common.{length, ap, ◌∙◌}
use Rattle.cg_violations.proofs.Steps.{from_table}
use Rattle.cg_violations.proofs.clashing.push_all.Goals as goal

pub returns : goal.returns
returns c =
    from_table c.args.sharing c.args.mapped.arch.now c.args.mapped.kernel.now c.args.mapped.mapping.now c.deref.result.now c.ii.result (length c.resources-resources.result.now) c.rule_of.result
    c.args.found.now.items c.push_table.new.found.items c.requires (c.deref.ensures.value ∙ c.in_ok-table.ensures.value) c.ii.ensures c.rule_of.ensures
    (ap length c.resources-resources.ensures.resources) c.in_ok-push_table.ensures
