use Rattle.std.proofs.Common.{◌≡◌, ℕ, ◌<◌, length}
use Rattle.cg_gates.specs.Tables.{IsTerminals, terminals}
use Rattle.cg_gates_run.proofs.terminals.terminals_by.Given as goal

abbrev pub invariant-loop-unit : goal.invariant-loop-unit
invariant-loop-unit l = record {
  long : length l.list.items ≡ l.unit-index;
  each : (x : ℕ) → x < l.unit-index → IsTerminals l.arch l.nets x (terminals l.list.items x);
}
