use Rattle.std.proofs.Common.{ap, arith, length, bytes_eq}
use Rattle.cg_netlist.specs.declared.parts.Net.{Net}
use Rattle.cg_gates.proofs.Places.{place_most}
use Rattle.cg_gates_run.proofs.nets.Nets.number.Goals as goal

pub overflow_cast-result : goal.overflow_cast-result
overflow_cast-result c =
    let most = place_most (λ (n : Net). bytes_eq n.name c.args.name.now) c.nets.result.now in
    let same = ap length c.nets.ensures.nets in
    let few = c.self.invariant.few in
    let is = c.number_or_all.ensures in
    omega (arith, most, same, few, is)
