use Rattle.std.proofs.Common.{ap, arith, length, map}
use Rattle.cg_netlist.specs.declared.parts.Net.{Net}
use Rattle.cg_gates.specs.Shape.{shape_of}
use Rattle.cg_gates.specs.Numbers.{by_name, by_net}
use Rattle.cg_gates.proofs.Places.{first_along}
use Rattle.cg_gates_run.proofs.nets.Nets.new.Goals as goal

pub invariant_of-result : goal.invariant_of-result
invariant_of-result c =
    let same = ap length c.nets.ensures.nets in
    let few = c.if-nets-ge4294967296.false in
    record {
      valid = c.nets.ensures.valid;
      few = omega (arith, same, few);
      named = first_along c.in_ok-numbers.numbers (by_name (λ (n : Net). n.name)) c.nets-2.result.now c.args.netlist.now.nets c.nets-2.ensures.nets c.in_ok-numbers.ensures;
      driven = first_along c.in_ok-drivers.drivers by_net (map shape_of c.cells.result.now) (map shape_of c.args.netlist.now.cells) (ap (map shape_of) c.cells.ensures.cells) c.in_ok-drivers.ensures;
    }
