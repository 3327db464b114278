use Rattle.cg_run_rows.specs.Alike.{SameSlots}
use Rattle.cg_run_rows.proofs.alike.same_slots.Given as goal

abbrev pub invariant-loop-slot : goal.invariant-loop-slot
invariant-loop-slot l = SameSlots l.arch l.tables l.view l.slot
