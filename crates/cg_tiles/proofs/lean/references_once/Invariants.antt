use Rattle.std.proofs.Common.{◌≡◌, fold, map, string_bytes}
use Rattle.std.specs.Vec.Iter.{into_iter_items}
use Rattle.cg_tiles.specs.Lean.{key_of, with_reference, references_once}
use Rattle.cg_tiles.proofs.lean.references_once.Given as goal

abbrev pub invariant-loop-reference : goal.invariant-loop-reference
invariant-loop-reference l = record {
  seen : map string_bytes l.seen.keys ≡ map key_of l.kept.items;
  kept : fold with_reference l.kept.items (into_iter_items l.reference-iterator) ≡ references_once l.fn.references;
}
