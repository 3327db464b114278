use Rattle.std.proofs.Common.{◌≡◌, ◌+◌, ◌++◌, drop}
use Rattle.cg_model.specs.Limits.{most_links}
use Rattle.cg_tiles.specs.Counts.{grid_links}
use Rattle.cg_tiles.specs.Elements.{grid_elements, grid_of}
use Rattle.cg_tiles.proofs.elements.elements_of.Given as goal

abbrev pub invariant-loop-row : goal.invariant-loop-row
invariant-loop-row l = record {
  elements : l.made.elements.items ++ grid_elements l.written (grid_of l.written) l.row (drop l.row l.written.header.grid) ≡ grid_elements l.written (grid_of l.written) 0 l.written.header.grid;
  room : most_links + grid_links l.written (grid_of l.written) l.row (drop l.row l.written.header.grid) ≡ l.made.room.links + grid_links l.written (grid_of l.written) 0 l.written.header.grid;
}
