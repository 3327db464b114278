use Rattle.cg_model.specs.declared.array.Resource.{Resource}
use Rattle.cg_gates.specs.Numbers.{by_name}
use Rattle.cg_gates.proofs.Places.{first_along}
use Rattle.cg_gates_run.proofs.selects.selects_of.Goals as goal

pub selects_by-requires-clause-resources : goal.selects_by-requires-clause-resources
selects_by-requires-clause-resources c = first_along c.in_ok-resources.resources (by_name (λ (r : Resource). r.name)) c.resources.result.now c.args.arch.now.resources c.resources.ensures.resources c.in_ok-resources.ensures
