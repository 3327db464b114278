use Rattle.std.proofs.Common.{◌≡◌, ℕ, ◌<◌, true}
use Rattle.cg_c_kernel.specs.Live.{act_at, needs_marked}
use Rattle.cg_c_kernel.proofs.live.are_all_marked.Given as goal

abbrev pub invariant-loop-act : goal.invariant-loop-act
invariant-loop-act l = (i : ℕ) → i < l.act-index → needs_marked l.marks (act_at l.acts i) ≡ true
