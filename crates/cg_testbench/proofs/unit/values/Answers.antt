use Rattle.cg_testbench.proofs.unit.values.Goals as goal

pub returns : goal.returns
returns c = rw c.in_ok-lines.ensures at c.format.ensures.ok
