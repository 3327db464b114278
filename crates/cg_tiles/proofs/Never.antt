-- No bytes are refused as out of memory.
use Rattle.std.proofs.Common.{◌≡◌, ℕ, List, Bool, true, false, Option, Some, None, Result, Ok, Err, cond, ap, sym, ◌∙◌}
use Rattle.std.specs.Option.{option_map, option_or}
use Rattle.toml.specs.Data.{Data}
use Rattle.cg_parts.specs.declared.parts.Parts.{Parts}
use Rattle.cg_parts.specs.declared.fault.ArchFault.TheVariants as arch
use Rattle.cg_parts.specs.declared.fault.TooLargePlace.TheVariants as large
use Rattle.cg_toml.specs.Bytes.{table_of}
use Rattle.cg_grid.specs.declared.fault.PartPlace.{PartPlace}
use Rattle.cg_grid.specs.declared.fault.TilesPlace.{TilesPlace}
use Rattle.cg_grid.specs.declared.written.WrittenArch.{WrittenArch}
use Rattle.cg_grid.specs.Written.{written_of}
use Rattle.cg_grid.specs.declared.fault.TilesFault.{TilesFault}
use Rattle.cg_grid.specs.declared.grid.Cell.{Cell}
use Rattle.cg_grid.specs.Rules.{first_fault, unknown_key, unknown_tile, ragged_row, first_part, applies, has_large_grid}
use Rattle.cg_grid.specs.declared.rules.PartRule.TheVariants.{UnknownOp}
use Rattle.cg_grid.specs.declared.fault.TilesFault.TheVariants as fault
use Rattle.cg_tiles.specs.Elements.{parts_of}
use Rattle.cg_tiles.specs.Answer.{unless, judged, parts_written, parts_in, parts_spelled, IsRefused}

lowest : (key : Option TilesPlace) (cell : Option Cell) (row : Option ℕ) (op : Option PartPlace) (large_one : Bool)
    → option_or (option_map fault.UnknownKey key) (option_or (option_map fault.UnknownTile cell) (option_or (option_map fault.RaggedGrid row) (option_or (option_map fault.UnknownOp op)
    (cond large_one (Some (fault.Parts (arch.TooLarge large.Grid))) None)))) ≡ Some (fault.Parts arch.Memory) → ⊥
lowest (Some p) cell row op b e = let bad : Some (fault.UnknownKey p) ≡ Some (fault.Parts arch.Memory) = e in cc
lowest None (Some p) row op b e = let bad : Some (fault.UnknownTile p) ≡ Some (fault.Parts arch.Memory) = e in cc
lowest None None (Some p) op b e = let bad : Some (fault.RaggedGrid p) ≡ Some (fault.Parts arch.Memory) = e in cc
lowest None None None (Some p) b e = let bad : Some (fault.UnknownOp p) ≡ Some (fault.Parts arch.Memory) = e in cc
lowest None None None None true e = let bad : Some (fault.Parts (arch.TooLarge large.Grid)) ≡ Some (fault.Parts arch.Memory) = e in cc
lowest None None None None false e = let bad : None ≡ Some (fault.Parts arch.Memory) = e in cc

no_first_fault : (w : WrittenArch) → first_fault w ≡ Some (fault.Parts arch.Memory) → ⊥
unfolding first_fault
no_first_fault w e = lowest (unknown_key w) (unknown_tile w.tiles 0 w.header.grid) (ragged_row w.header.grid) (first_part (applies UnknownOp) w.tiles) (has_large_grid w.header.grid) e

no_unless : (o : Option TilesFault) (parts : Parts) → (o ≡ Some (fault.Parts arch.Memory) → ⊥) → unless o parts ≡ Err (fault.Parts arch.Memory) → ⊥
no_unless None parts h e = let bad : Ok parts ≡ Err (fault.Parts arch.Memory) = e in cc
no_unless (Some f) parts h e = h (let same : Err f ≡ Err (fault.Parts arch.Memory) = e in cc)

no_written : (r : Result WrittenArch TilesPlace) → parts_written r ≡ Err (fault.Parts arch.Memory) → ⊥
unfolding judged
no_written (Err p) e = let bad : Err (fault.WrongShape p) ≡ Err (fault.Parts arch.Memory) = e in cc
no_written (Ok w) e = no_unless (first_fault w) (parts_of w) (no_first_fault w) e

no_table : (o : Option Data) → parts_in o ≡ Err (fault.Parts arch.Memory) → ⊥
no_table None e = let bad : Err fault.NotToml ≡ Err (fault.Parts arch.Memory) = e in cc
no_table (Some d) e = no_written (written_of d) e

never_spelled : (bytes : List ℕ) → parts_spelled bytes ≡ Err (fault.Parts arch.Memory) → ⊥
unfolding parts_spelled
never_spelled bytes e = no_table (table_of bytes) e

never : (r : Result Parts TilesFault) (f : TilesFault) → (r ≡ Err (fault.Parts arch.Memory) → ⊥) → IsRefused r f → f ≡ fault.Parts arch.Memory → ⊥
never (Err e) f h is m = h (ap Err (sym is ∙ m))
never (Ok parts) f h is m = is.2 (let same : fault.Parts is.0 ≡ fault.Parts arch.Memory = sym is.1 ∙ m in cc)

pub never_memory : (bytes : List ℕ) (f : TilesFault) → IsRefused (parts_spelled bytes) f → f ≡ fault.Parts arch.Memory → ⊥
never_memory bytes f = never (parts_spelled bytes) f (never_spelled bytes)
