use Rattle.std.proofs.Common.{◌≡◌, ℕ, ◌<◌, true}
use Rattle.cg_c_values.specs.Listed.{listed}
use Rattle.cg_c_values.specs.Values.{value_at}
use Rattle.cg_c_kernel.specs.Live.{has_mark, parts_marked}
use Rattle.cg_c_kernel.proofs.live.is_closed.Given as goal

abbrev pub invariant-loop-v : goal.invariant-loop-v
invariant-loop-v l = (v : ℕ) → v < l.v → has_mark l.marks v ≡ true → parts_marked l.marks l.finals (value_at (listed l.values) v) ≡ true
