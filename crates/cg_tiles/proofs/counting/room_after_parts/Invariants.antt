use Rattle.std.proofs.Common.{◌≡◌, ◌+◌, take, sum_by}
use Rattle.cg_tiles.specs.Counts.{resources_of}
use Rattle.cg_tiles.proofs.counting.room_after_parts.Given as goal

abbrev pub invariant-loop-part : goal.invariant-loop-part
invariant-loop-part l = l.room + sum_by (λ p. resources_of p.part) (take l.part-index l.parts) ≡ l.fn.room
