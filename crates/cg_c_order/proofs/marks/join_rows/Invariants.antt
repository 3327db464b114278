use Rattle.std.proofs.Common.{◌≡◌, ℕ, ◌<◌, ◌≤◌}
use Rattle.cg_c_order.specs.Marks.{IsJoined, has, row, takes}
use Rattle.cg_c_order.proofs.marks.join_rows.Given as goal

-- the rows before the source are joined, and the others are as they were
abbrev pub invariant-loop-source : goal.invariant-loop-source
invariant-loop-source l = record {
  done : (x : ℕ) → x < l.source → IsJoined (takes (has l.sources x) l.to (row l.fn.rows x)) l.targets (row l.fn.rows x) (row l.rows x);
  rest : (x : ℕ) → l.source ≤ x → row l.rows x ≡ row l.fn.rows x;
}
