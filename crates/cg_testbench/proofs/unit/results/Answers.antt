use Rattle.cg_testbench.proofs.unit.results.Goals as goal

pub returns : goal.returns
returns c = rw (c.in_ok-registers.ensures, c.in_ok-steps.ensures) at c.format.ensures.ok
