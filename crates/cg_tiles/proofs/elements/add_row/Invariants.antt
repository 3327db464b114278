use Rattle.std.proofs.Common.{◌≡◌, ◌+◌, ◌++◌, drop}
use Rattle.cg_tiles.specs.Counts.{row_links}
use Rattle.cg_tiles.specs.Elements.{row_elements}
use Rattle.cg_tiles.proofs.elements.add_row.Given as goal

abbrev pub invariant-loop-column : goal.invariant-loop-column
invariant-loop-column l = record {
  elements : l.made.elements.items ++ row_elements l.tiling.written.now l.tiling.grid l.row l.column (drop l.column l.cells) ≡ l.fn.made.elements.items ++ row_elements l.tiling.written.now l.tiling.grid l.row 0 l.cells;
  room : l.fn.made.room.links + row_links l.tiling.written.now l.tiling.grid l.row l.column (drop l.column l.cells) ≡ l.made.room.links + row_links l.tiling.written.now l.tiling.grid l.row 0 l.cells;
}
