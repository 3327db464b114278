use Rattle.std.proofs.Common.{sym, subst}
use Rattle.cg_gates.specs.declared.fault.GateFault.{GateFault}
use Rattle.cg_gates.specs.Accepts.{IsFault, a_loop}
use Rattle.cg_gates_run.proofs.build.ordered.Goals as goal

pub returns-in-Err-clause-answer : goal.returns-in-Err-clause-answer
returns-in-Err-clause-answer c = λ other.
    let (loop, is, same) = c.in-Err.ensures.ring other in
    let P : GateFault → Type 0 = λ f. IsFault c.args.arch.now c.args.nets.now f in
    subst P (sym same) (a_loop c.requires is)
