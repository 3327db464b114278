use Rattle.std.proofs.Common.{ap, sym, ◌∙◌}
use Rattle.cg_gates.specs.Accepts.{HasNoMuxLoop, late, fault_after_loops}
use Rattle.cg_gates.proofs.Graph.{no_ring}
use Rattle.cg_gates_run.proofs.build.judged.Goals as goal

pub returns-in-Some-clause-answer : goal.returns-in-Some-clause-answer
returns-in-Some-clause-answer c = λ _.
    let A = c.args.arch.now in
    let N = c.args.nets.now in
    let none : HasNoMuxLoop N = no_ring N c.requires.early c.netlist.ensures.valid c.args.order.now c.requires.order in
    late c.requires.early none (ap (fault_after_loops A) (sym c.netlist.ensures.netlist) ∙ sym c.in_ok-fault.ensures ∙ c.in-Some.is)

pub kept-requires-clause-accepted : goal.kept-requires-clause-accepted
kept-requires-clause-accepted c =
    let A = c.args.arch.now in
    let N = c.args.nets.now in
    record {
      early = c.requires.early;
      no_loop = no_ring N c.requires.early c.netlist.ensures.valid c.args.order.now c.requires.order;
      late = ap (fault_after_loops A) (sym c.netlist.ensures.netlist) ∙ sym c.in_ok-fault.ensures ∙ c.in_default.is;
    }
