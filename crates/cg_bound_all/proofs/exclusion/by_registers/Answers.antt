use Rattle.cg_bound_all.proofs.Reasons.{open_found}
use Rattle.cg_bound_all.proofs.exclusion.by_registers.Goals as goal

pub returns : goal.returns
returns c = open_found c.args.arch.now c.args.kernel.now c.args.numbers.now c.deref.result.now c.args.ii c.in_ok-pressure.field-0 c.in-Open.field-0 c.nodes-nodes.ensures.valid c.deref.ensures.value c.in-Open.is c.in_ok-pressure.ensures
