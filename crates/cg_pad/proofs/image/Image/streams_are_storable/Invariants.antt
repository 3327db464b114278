use Rattle.std.proofs.Common.{ℕ, ◌<◌, ◌≤◌, [], length}
use Rattle.std.specs.Prelude.{slice_index_or}
use Rattle.cg_model.specs.Limits.{most_stream}
use Rattle.cg_pad.proofs.image.Image.streams_are_storable.Given as goal

abbrev pub invariant-loop-stream : goal.invariant-loop-stream
invariant-loop-stream l = (port : ℕ) → port < l.stream-index → length (slice_index_or l.self.streams port []) ≤ most_stream
