use Rattle.std.proofs.Common.{◌≡◌, ◌+◌, ◌<◌, length}
use Rattle.std.specs.Prelude.{slice_index}
use Rattle.cg_recur.specs.Log.{step}
use Rattle.cg_recur.specs.Path.{IsPath}
use Rattle.cg_recur.proofs.closed.trace.Given as goal

abbrev pub invariant-loop-k : goal.invariant-loop-k
invariant-loop-k l =
    IsPath l.edges l.ii (length l.last) l.log l.path.items × (length l.path.items ≡ l.k + 1) × (slice_index l.path.items l.k ≡ l.at) × (l.at < length l.log) × ((step l.log l.at).depth + l.k ≡ length l.last)
