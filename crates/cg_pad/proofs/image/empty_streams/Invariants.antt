use Rattle.std.proofs.Common.{◌≡◌, [], replicate}
use Rattle.cg_pad.proofs.image.empty_streams.Given as goal

abbrev pub invariant-loop-port : goal.invariant-loop-port
invariant-loop-port l = l.streams.items ≡ replicate l._port []
