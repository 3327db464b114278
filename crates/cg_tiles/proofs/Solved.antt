-- Bytes give an architecture, or have a fault.
use Rattle.std.proofs.Common.{◌≡◌, ◌≢◌, ℕ, List, Bool, true, false, Option, Some, None, Result, Ok, Err, cond, refl, ap, sym, ◌∙◌, subst}
use Rattle.std.specs.Option.{option_map, option_or}
use Rattle.toml.specs.Data.{Data}
use Rattle.cg_model.specs.Array.{Arch}
use Rattle.cg_parts.specs.declared.parts.Parts.{Parts}
use Rattle.cg_parts.specs.declared.fault.ArchFault.{ArchFault}
use Rattle.cg_parts.specs.declared.fault.ArchFault.TheVariants as arch
use Rattle.cg_parts.specs.declared.fault.TooLargePlace.TheVariants as large
use Rattle.cg_validate.specs.Answer as parts_answer
use Rattle.cg_validate.proofs.Solved as parts_solved
use Rattle.cg_toml.specs.Bytes.{table_of}
use Rattle.cg_grid.specs.declared.fault.PartPlace.{PartPlace}
use Rattle.cg_grid.specs.declared.fault.TilesPlace.{TilesPlace}
use Rattle.cg_grid.specs.declared.written.WrittenArch.{WrittenArch}
use Rattle.cg_grid.specs.Written.{written_of}
use Rattle.cg_grid.specs.declared.fault.TilesFault.{TilesFault}
use Rattle.cg_grid.specs.declared.grid.Cell.{Cell}
use Rattle.cg_grid.specs.Rules.{first_fault, unknown_key, unknown_tile, ragged_row, first_part, applies, has_large_grid}
use Rattle.cg_grid.specs.declared.rules.PartRule.TheVariants.{UnknownOp}
use Rattle.cg_grid.specs.declared.fault.TilesFault.TheVariants as fault
use Rattle.cg_tiles.specs.Elements.{parts_of}
use Rattle.cg_tiles.specs.Answer.{unless, judged, parts_written, parts_in, parts_spelled, IsRefused, IsAnswer}

-- ---- bytes that stand for no parts have another fault than out of memory

lowest : (key : Option TilesPlace) (cell : Option Cell) (row : Option ℕ) (op : Option PartPlace) (large_one : Bool)
    → option_or (option_map fault.UnknownKey key) (option_or (option_map fault.UnknownTile cell) (option_or (option_map fault.RaggedGrid row) (option_or (option_map fault.UnknownOp op)
    (cond large_one (Some (fault.Parts (arch.TooLarge large.Grid))) None)))) ≡ Some fault.Memory → ⊥
lowest (Some p) cell row op b e = let bad : Some (fault.UnknownKey p) ≡ Some fault.Memory = e in cc
lowest None (Some p) row op b e = let bad : Some (fault.UnknownTile p) ≡ Some fault.Memory = e in cc
lowest None None (Some p) op b e = let bad : Some (fault.RaggedGrid p) ≡ Some fault.Memory = e in cc
lowest None None None (Some p) b e = let bad : Some (fault.UnknownOp p) ≡ Some fault.Memory = e in cc
lowest None None None None true e = let bad : Some (fault.Parts (arch.TooLarge large.Grid)) ≡ Some fault.Memory = e in cc
lowest None None None None false e = let bad : None ≡ Some fault.Memory = e in cc

first_never : (w : WrittenArch) → first_fault w ≡ Some fault.Memory → ⊥
unfolding first_fault
first_never w e = lowest (unknown_key w) (unknown_tile w.tiles 0 w.header.grid) (ragged_row w.header.grid) (first_part (applies UnknownOp) w.tiles) (has_large_grid w.header.grid) e

unless_never : (o : Option TilesFault) (parts : Parts) → (o ≡ Some fault.Memory → ⊥) → unless o parts ≡ Err fault.Memory → ⊥
unless_never None parts never e = let bad : Ok parts ≡ Err fault.Memory = e in cc
unless_never (Some f) parts never e = never (let same : Err f ≡ Err fault.Memory = e in cc)

written_never : (r : Result WrittenArch TilesPlace) → parts_written r ≡ Err fault.Memory → ⊥
unfolding judged
written_never (Err p) e = let bad : Err (fault.WrongShape p) ≡ Err fault.Memory = e in cc
written_never (Ok w) e = unless_never (first_fault w) (parts_of w) (first_never w) e

table_never : (o : Option Data) → parts_in o ≡ Err fault.Memory → ⊥
table_never None e = let bad : Err fault.NotToml ≡ Err fault.Memory = e in cc
table_never (Some d) e = written_never (written_of d) e

spelled_never : (bytes : List ℕ) → parts_spelled bytes ≡ Err fault.Memory → ⊥
unfolding parts_spelled
spelled_never bytes e = table_never (table_of bytes) e

-- ---- answers

-- an answer of these bytes that isn't out of memory
abbrev pub SomeAnswer : List ℕ → Type 0
SomeAnswer bytes = (r : Result Arch TilesFault) × (r ≢ Err fault.Memory) × IsAnswer bytes r

refused : (bytes : List ℕ) (f : TilesFault) → f ≢ fault.Memory → IsRefused (parts_spelled bytes) f → SomeAnswer bytes
refused bytes f other is = (Err f, (λ e. let same : f ≡ fault.Memory = cc in other same), λ m. is)

of_parts : (bytes : List ℕ) (parts : Parts) → parts_spelled bytes ≡ Ok parts → (r : Result Arch ArchFault) → r ≢ Err arch.Memory → parts_answer.IsAnswer parts r → SomeAnswer bytes
of_parts bytes parts e (Ok A) other is = (Ok A, (λ bad. cc), record { parts = parts; spelled = e; valid = is })
of_parts bytes parts e (Err g) other is =
    let differs : g ≢ arch.Memory = λ m. other (ap Err m) in
    refused bytes (fault.Parts g) (λ m. cc) (subst (λ s. IsRefused s (fault.Parts g)) (sym e) (g, refl, differs, is differs))

spelled_answer : (bytes : List ℕ) (r : Result Parts TilesFault) → parts_spelled bytes ≡ r → SomeAnswer bytes
spelled_answer bytes (Err f) e = refused bytes f (λ m. spelled_never bytes (e ∙ ap Err m)) (subst (λ s. IsRefused s f) (sym e) refl)
spelled_answer bytes (Ok parts) e = let a = parts_solved.some_answer parts in of_parts bytes parts e a.0 a.1 a.2

-- any bytes have an answer
pub some_answer : (bytes : List ℕ) → SomeAnswer bytes
some_answer bytes = spelled_answer bytes (parts_spelled bytes) refl
