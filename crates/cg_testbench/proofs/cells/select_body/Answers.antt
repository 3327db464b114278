use Rattle.cg_testbench.proofs.cells.select_body.Goals as goal

pub returns : goal.returns
returns c = rw c.saturating_sub-top.ensures at c.format.ensures.ok
