use Rattle.cg_model.specs.declared.array.Resource.{Resource}
use Rattle.cg_model.specs.declared.array.Unit.{Unit}
use Rattle.cg_gates.specs.Numbers.{by_name}
use Rattle.cg_gates.proofs.Places.{first_along}
use Rattle.cg_gates.proofs.instances.unknown_instance.Goals as goal

pub first_unknown-requires-clause-resources : goal.first_unknown-requires-clause-resources
first_unknown-requires-clause-resources c = first_along c.in_ok-resources.resources (by_name (λ (r : Resource). r.name)) c.resources.result.now c.args.arch.now.resources c.resources.ensures.resources c.in_ok-resources.ensures

pub first_unknown-requires-clause-units : goal.first_unknown-requires-clause-units
first_unknown-requires-clause-units c = first_along c.in_ok-units.units (by_name (λ (u : Unit). u.name)) c.units.result.now c.args.arch.now.units c.units.ensures.units c.in_ok-units.ensures
