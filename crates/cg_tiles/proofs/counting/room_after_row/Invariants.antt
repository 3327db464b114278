use Rattle.std.proofs.Common.{◌≡◌, ◌+◌, take, sum_by}
use Rattle.cg_tiles.specs.Counts.{part_resources}
use Rattle.cg_tiles.specs.Elements.{parts_for}
use Rattle.cg_tiles.proofs.counting.room_after_row.Given as goal

abbrev pub invariant-loop-letter : goal.invariant-loop-letter
invariant-loop-letter l = l.room + sum_by (λ letter. part_resources (parts_for l.tiles letter)) (take l.letter-index l.cells) ≡ l.fn.room
