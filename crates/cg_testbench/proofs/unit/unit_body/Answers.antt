use Rattle.cg_testbench.proofs.unit.unit_body.Goals as goal

pub returns : goal.returns
returns c = rw (c.in_ok-pins.ensures, c.in_ok-tables.ensures, c.in_ok-arguments.ensures, c.in_ok-effects.ensures, c.in_ok-values.ensures, c.in_ok-results.ensures) at c.format.ensures.ok
