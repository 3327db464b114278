use Rattle.std.proofs.Common.{◌≡◌, take, true}
use Rattle.std.specs.Prelude.{Contains}
use Rattle.cg_gates.specs.Shape.{shapes}
use Rattle.cg_gates_run.specs.Kept.{is_given}
use Rattle.cg_gates.specs.Tables.{IsSelect}
use Rattle.cg_gates_run.proofs.Listed.{AreEntries}
use Rattle.cg_gates_run.proofs.selects.selects_by.Given as goal

abbrev pub invariant-loop-cell : goal.invariant-loop-cell
invariant-loop-cell l = AreEntries (IsSelect l.arch l.nets (is_given l.given)) (λ c. is_given l.given c.form ≡ true) (Contains (take l.cell-index (shapes l.nets))) (record { net = 0; resource = 0 }) l.list.items
