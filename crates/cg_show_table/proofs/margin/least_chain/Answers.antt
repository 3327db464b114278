use Rattle.std.proofs.Common.{◌≤◌, ◌+◌, arith}
use Rattle.cg_show_table.proofs.Halving.{longest}
use Rattle.cg_show_table.proofs.margin.least_chain.Goals as goal

pub returns : goal.returns
returns c =
    let test = c.loop-high-test.false in
    let between = c.loop-high.invariant in
    let order = between.order in
    let last : c.loop-high.high ≤ c.loop-high.low + 1 = omega arith in
    longest c.args.arch.now c.args.kernel.now c.loop-high.low (record { least = c.loop-high.high; edges = c.loop-high.chain }) between last
