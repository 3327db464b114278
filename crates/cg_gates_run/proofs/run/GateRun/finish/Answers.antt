use Rattle.std.proofs.Common.{◌≡◌, ◌≤◌, ◌+◌, ◌-◌, ℕ, subst, arith}
use Rattle.cg_gates_run.specs.Run.{Run, all_cycles}
use Rattle.cg_gates_run.proofs.run.GateRun.finish.Goals as goal

pub returns : goal.returns
returns g c =
    let R : Run = c.args.self.now in
    let a : c.left-cycle-end.result ≡ all_cycles R - R.done = c.left-cycle-end.ensures.left in
    let b : R.done ≤ all_cycles R = c.left-cycle-end.ensures.within in
    let last : R.done + c.loop-cycle._cycle ≡ all_cycles R = omega arith in
    subst (λ (d : ℕ). let r : Run = record R { done = d } in c.loop-cycle.self ≡ r) last c.loop-cycle.invariant
