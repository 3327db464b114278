use Rattle.cg_testbench.proofs.unit.unit_pins.Goals as goal

pub returns : goal.returns
returns c = rw c.in_ok-inputs.ensures at c.format.ensures.ok
