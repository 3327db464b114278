use Rattle.cg_run_rows.specs.Alike.{SameFields}
use Rattle.cg_run_rows.proofs.alike.same_fields.Given as goal

abbrev pub invariant-loop-x : goal.invariant-loop-x
invariant-loop-x l = SameFields l.tables l.view l.x l.slot
