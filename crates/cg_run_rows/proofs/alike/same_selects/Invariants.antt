use Rattle.cg_run_rows.specs.Alike.{SameSelects}
use Rattle.cg_run_rows.proofs.alike.same_selects.Given as goal

abbrev pub invariant-loop-r : goal.invariant-loop-r
invariant-loop-r l = SameSelects l.tables l.view l.r l.slot
