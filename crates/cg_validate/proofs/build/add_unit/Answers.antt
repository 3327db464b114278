use Rattle.std.proofs.Common.{◌∙◌, ap, arith, length}
use Rattle.cg_parts.specs.Parts.{entries_of}
use Rattle.cg_validate.proofs.Roles.{unit_long}
use Rattle.cg_validate.proofs.build.add_unit.Goals as goal

pub overflow_cast-out : goal.overflow_cast-out
overflow_cast-out c =
    let long = ap (λ e. length (entries_of e)) c.in-Unit.is ∙ unit_long c.in-Unit.name c.in-Unit.ops c.in-Unit.latency c.in-Unit.ports in
    let ports = ap length c.as_slice.ensures in
    let few = c.requires in
    omega (arith, long, ports, few)

pub overflow_add-out : goal.overflow_add-out
overflow_add-out c =
    let long = ap (λ e. length (entries_of e)) c.in-Unit.is ∙ unit_long c.in-Unit.name c.in-Unit.ops c.in-Unit.latency c.in-Unit.ports in
    let ports = ap length c.as_slice.ensures in
    let few = c.requires in
    omega (arith, long, ports, few)

pub overflow_add-result : goal.overflow_add-result
overflow_add-result c =
    let long = ap (λ e. length (entries_of e)) c.in-Unit.is ∙ unit_long c.in-Unit.name c.in-Unit.ops c.in-Unit.latency c.in-Unit.ports in
    let ports = ap length c.as_slice.ensures in
    let few = c.requires in
    omega (arith, long, ports, few)

pub returns-in_ok-push-in-Unit-clause-next : goal.returns-in_ok-push-in-Unit-clause-next
returns-in_ok-push-in-Unit-clause-next c =
    let long = ap (λ e. length (entries_of e)) c.in-Unit.is ∙ unit_long c.in-Unit.name c.in-Unit.ops c.in-Unit.latency c.in-Unit.ports in
    let ports = ap length c.as_slice.ensures in
    omega (arith, long, ports)
