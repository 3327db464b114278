use Rattle.cg_testbench.proofs.unit.effects.Goals as goal

pub returns : goal.returns
returns c = rw (c.taken-taken.ensures, c.in_ok-words.ensures, c.loaded-loaded.ensures) at c.format.ensures.ok
