use Rattle.std.proofs.Common.{◌≡◌, ◌+◌, map, take, sum_by}
use Rattle.cg_tiles.specs.Counts.{list_links}
use Rattle.cg_tiles.specs.Elements.{drivers_of}
use Rattle.cg_tiles.proofs.elements.ports_of.Given as goal

abbrev pub invariant-loop-references : goal.invariant-loop-references
invariant-loop-references l = record {
  ports : l.list.items ≡ map (drivers_of l.site.grid l.site.cell) (take l.references-index l.ports);
  room : l.room.links + sum_by (list_links l.site.grid l.site.cell) (take l.references-index l.ports) ≡ l.fn.room.links;
}
