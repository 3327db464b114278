use Rattle.std.proofs.Common.{◌≡◌, ℕ, ◌<◌, ◌≤◌}
use Rattle.std.specs.Prelude.{◌||◌}
use Rattle.cg_c_order.specs.Marks.{has}
use Rattle.cg_c_order.proofs.marks.join_cells.Given as goal

-- the marks before the node are joined, and the others are as they were
abbrev pub invariant-loop-node : goal.invariant-loop-node
invariant-loop-node l = record {
  done : (y : ℕ) → y < l.node → has l.cells y ≡ (has l.fn.cells y || has l.others y);
  rest : (y : ℕ) → l.node ≤ y → has l.cells y ≡ has l.fn.cells y;
}
