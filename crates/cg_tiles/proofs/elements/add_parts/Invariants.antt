use Rattle.std.proofs.Common.{◌≡◌, ◌+◌, ◌++◌, drop, take, map, sum_by}
use Rattle.cg_tiles.specs.Counts.{links_of}
use Rattle.cg_tiles.specs.Elements.{element_of}
use Rattle.cg_tiles.proofs.elements.add_parts.Given as goal

abbrev pub invariant-loop-part : goal.invariant-loop-part
invariant-loop-part l = record {
  elements : l.made.elements.items ++ map (λ p. element_of l.site.grid l.site.cell p.part) (drop l.part-index l.parts) ≡ l.fn.made.elements.items ++ map (λ p. element_of l.site.grid l.site.cell p.part) l.parts;
  room : l.made.room.links + sum_by (λ p. links_of l.site.grid l.site.cell p.part) (take l.part-index l.parts) ≡ l.fn.made.room.links;
}
