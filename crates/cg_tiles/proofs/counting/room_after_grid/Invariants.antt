use Rattle.std.proofs.Common.{◌≡◌, ◌+◌, take, sum_by}
use Rattle.cg_tiles.specs.Counts.{row_resources}
use Rattle.cg_tiles.proofs.counting.room_after_grid.Given as goal

abbrev pub invariant-loop-cells : goal.invariant-loop-cells
invariant-loop-cells l = l.room + sum_by (row_resources l.tiles) (take l.cells-index l.grid) ≡ l.fn.room
