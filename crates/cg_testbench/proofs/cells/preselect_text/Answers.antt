use Rattle.cg_testbench.proofs.cells.preselect_text.Goals as goal

pub returns : goal.returns
returns c = rw (c.as_str.ensures.value, c.in_ok-body.ensures) at c.module_text.ensures
