use Rattle.std.proofs.Common.{◌*◌, ◌+◌}
use Rattle.cg_bound_registers.specs.Pressure.{pulls, ties, lost, along}
use Rattle.cg_bound_registers.specs.Sums.{table}
use Rattle.cg_bound_registers.proofs.Summed.{sides}
use Rattle.cg_bound_registers.proofs.check.exceeds.Goals as goal

pub returns : goal.returns
returns c =
    let A = c.args.arch.now in
    let K = c.args.kernel.now in
    let p = c.args.p.now in
    let ii = c.args.ii in
    sides ii c.count_registers.result _ c.against.result (ii * (pulls K p (λ a. a.distance) + ties K p (λ a. a.distance))) (lost A K p) c.along-need.result (along A K (table c.args.hops.now) ii p)
    c.count_registers.ensures.value c.against.ensures.value c.along-need.ensures.value
