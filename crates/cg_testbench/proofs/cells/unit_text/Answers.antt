use Rattle.cg_testbench.proofs.cells.unit_text.Goals as goal

pub returns : goal.returns
returns c = rw (c.as_str.ensures.value, c.in_ok-note.ensures, c.as_str-2.ensures.value, c.in_ok-list.ensures, c.as_str-3.ensures.value, c.in_ok-body.ensures) at c.module_text.ensures
