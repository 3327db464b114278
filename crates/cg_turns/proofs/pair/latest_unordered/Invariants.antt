use Rattle.std.proofs.Common.{take}
use Rattle.cg_turns.specs.Trace.{IsLatest}
use Rattle.cg_turns.proofs.pair.latest_unordered.Given as goal

abbrev pub invariant-loop-place : goal.invariant-loop-place
invariant-loop-place l = IsLatest l.table l.later l.fn.store (take l.place l.loads) l.latest
