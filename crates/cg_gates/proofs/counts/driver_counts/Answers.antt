use Rattle.std.proofs.Common.{arith, ap, ◌∙◌, ◌+◌, cond, bytes_eq}
use Rattle.cg_gates.specs.Numbers.{counted}
use Rattle.cg_gates.proofs.Counting.{counts_more, few_counted}
use Rattle.cg_gates.proofs.counts.driver_counts.Goals as goal

pub add_one-requires : goal.add_one-requires
add_one-requires c =
    let few = few_counted c.loop-cell.counts c.args.cells.now c.loop-cell.cell-index c.driven_net.result.now (omega arith) c.loop-cell.invariant in
    omega (arith, few)

pub loop-cell-preserved : goal.loop-cell-preserved
loop-cell-preserved c =
    counts_more c.loop-cell.counts c.add_one.new.counts c.args.cells.now c.loop-cell.cell-index c.cell-item.result c.cell-item.is c.loop-cell-test.true c.loop-cell.invariant
    (λ other. c.in_ok-add_one.ensures other ∙ ap (λ q. counted c.loop-cell.counts other + cond (bytes_eq q other) 1 0) c.driven_net.ensures)
