use Rattle.std.proofs.Common.{ℕ, ◌<◌, ◌≤◌}
use Rattle.std.specs.Prelude.{slice_index}
use Rattle.cg_simplify_facts.proofs.operands.greatest.Given as goal

abbrev pub invariant-loop-each : goal.invariant-loop-each
invariant-loop-each l = (l.fn.least ≤ l.most) × ((j : ℕ) → j < l.each-index → slice_index l.words j ≤ l.most)
