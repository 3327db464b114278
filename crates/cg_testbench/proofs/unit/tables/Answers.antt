use Rattle.cg_testbench.proofs.unit.tables.Goals as goal

pub returns : goal.returns
returns c = rw (c.in_ok-tables.ensures, c.in_ok-zeros.ensures, c.in_ok-words.ensures) at c.format.ensures.ok
