use Rattle.std.proofs.Common.{◌≡◌, ℕ, ◌<◌, length}
use Rattle.std.specs.Prelude.{◌||◌, eqb}
use Rattle.cg_c_order.specs.Marks.{entry, has}
use Rattle.cg_c_order.proofs.marks.nodes_before.Given as goal

abbrev pub invariant-loop-source : goal.invariant-loop-source
invariant-loop-source l = record {
  long : length l.cells.items ≡ l.source;
  cells : (x : ℕ) → x < l.source → has l.cells.items x ≡ (eqb x l.node || entry l.rows x l.node);
}
