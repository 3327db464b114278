use Rattle.std.proofs.Common.{◌≡◌}
use Rattle.std.specs.Prelude.{replicate}
use Rattle.cg_turns.specs.Trace.{nothing_kept}
use Rattle.cg_turns.proofs.watch.no_accesses.Given as goal

abbrev pub invariant-loop-word : goal.invariant-loop-word
invariant-loop-word l = l.words.items ≡ replicate l._word nothing_kept
