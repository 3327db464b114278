use Rattle.cg_testbench.proofs.unit.unit_ports.Goals as goal

pub returns : goal.returns
returns c = rw c.in_ok-names.ensures at c.format.ensures.ok
