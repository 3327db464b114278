use Rattle.std.proofs.Common.{◌≡◌, ℕ, ◌<◌}
use Rattle.std.specs.Prelude.{slice_index}
use Rattle.cg_simplify_facts.proofs.operands.are_all.Given as goal

abbrev pub invariant-loop-each : goal.invariant-loop-each
invariant-loop-each l = (j : ℕ) → j < l.each-index → slice_index l.words j ≡ l.fn.word
