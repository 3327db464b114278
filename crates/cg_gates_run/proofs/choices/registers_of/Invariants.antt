use Rattle.std.proofs.Common.{◌≡◌, take, true}
use Rattle.std.specs.Prelude.{Contains}
use Rattle.cg_gates.specs.Shape.{is_register, shapes}
use Rattle.cg_gates.specs.Tables.{IsChoice}
use Rattle.cg_gates_run.proofs.Listed.{AreEntries}
use Rattle.cg_gates_run.proofs.choices.registers_of.Given as goal

abbrev pub invariant-loop-cell : goal.invariant-loop-cell
invariant-loop-cell l =
    AreEntries (IsChoice l.nets is_register l.choices.heard.items) (λ c. is_register c.form ≡ true) (Contains (take l.cell-index (shapes l.nets))) (record { net = 0; select = 0; first = 0; count = 0 }) l.choices.entries.items
