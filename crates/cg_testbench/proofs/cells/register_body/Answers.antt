use Rattle.cg_testbench.proofs.cells.register_body.Goals as goal

pub returns : goal.returns
returns c = rw (c.top_bit-top.ensures, c.in_ok-inputs.ensures, c.in_ok-choices.ensures) at c.format.ensures.ok
