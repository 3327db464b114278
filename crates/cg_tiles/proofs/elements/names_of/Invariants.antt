use Rattle.std.proofs.Common.{◌≡◌, drop, filter_map, fold, map, string_bytes}
use Rattle.cg_parts.specs.Parts.{with_name}
use Rattle.cg_tiles.specs.Elements.{driver_of, drivers_of}
use Rattle.cg_tiles.proofs.elements.names_of.Given as goal

abbrev pub invariant-loop-reference : goal.invariant-loop-reference
invariant-loop-reference l = record {
  seen : map string_bytes l.kept.seen.keys ≡ l.kept.names.items;
  names : fold with_name l.kept.names.items (filter_map (driver_of l.site.grid l.site.cell) (drop l.reference-index l.references)) ≡ drivers_of l.site.grid l.site.cell l.fn.references;
  links : l.room.links ≡ l.fn.room.links;
}
