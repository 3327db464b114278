use Rattle.cg_gates_run.proofs.Muxes.{AreMuxes}
use Rattle.cg_gates_run.proofs.choices.muxes_of.Given as goal

abbrev pub invariant-loop-number : goal.invariant-loop-number
invariant-loop-number l = AreMuxes l.nets l.order l.number-index l.choices.heard.items l.choices.entries.items
