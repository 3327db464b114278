use Rattle.cg_testbench.specs.Unit.{word_line}
use Rattle.cg_testbench.proofs.Grown.{one_more_op}
use Rattle.cg_testbench.proofs.unit.word_lines.Goals as goal

pub loop-op-preserved : goal.loop-op-preserved
loop-op-preserved c = one_more_op (word_line c.args.operations) c.loop-op.op-index _ _ _ c.as_str.result.now c.loop-op-test.true c.loop-op.invariant c.in_ok-line.ensures c.as_str.ensures.value c.in_ok-push_str.ensures.bytes
