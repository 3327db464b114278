use Rattle.cg_testbench.proofs.unit.arguments.Goals as goal

pub returns : goal.returns
returns c = rw c.in_ok-words.ensures at c.format.ensures.ok
