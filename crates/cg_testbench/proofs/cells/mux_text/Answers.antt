use Rattle.cg_testbench.proofs.cells.mux_text.Goals as goal

pub returns : goal.returns
returns c = rw (c.as_str.ensures.value, c.in_ok-ports.ensures.ok, c.in_ok-names.ensures, c.as_str-2.ensures.value, c.in_ok-body.ensures) at c.module_text.ensures
