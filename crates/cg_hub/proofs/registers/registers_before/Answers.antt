use Rattle.std.proofs.Common.{◌≡◌, ◌≤◌, ap, ◌∙◌, arith, add-one}
use Rattle.cg_hub.specs.Hub.{most, registers}
use Rattle.cg_hub.proofs.Owned.{registers_small}
use Rattle.cg_hub.proofs.registers.registers_before.Goals as goal

read : (c : goal.After-most-sum) → c.most-sum.result ≡ registers c.args.kernel.now c.loop-earlier.earlier
read c = c.most-sum.ensures ∙ ap (most c.loop-earlier.earlier) c.nodes-nodes.ensures.nodes

few : (c : goal.After-most-sum) → c.most-sum.result ≤ 5
few c = omega (arith, read c, registers_small c.args.kernel.now c.loop-earlier.earlier c.nodes-nodes.ensures.valid)

pub overflow_add-sum : goal.overflow_add-sum
overflow_add-sum c = omega (arith, few c, c.loop-earlier.invariant.1)

pub loop-earlier-preserved : goal.loop-earlier-preserved
loop-earlier-preserved c = (
  rw (add-one c.loop-earlier.earlier) (omega (arith, read c, c.loop-earlier.invariant.0)),
  omega (arith, few c, c.loop-earlier.invariant.1),
)
