-- The architecture that bytes describe, or why they describe none.
use Rattle.std.specs.Prelude.{◌≡◌, ◌≢◌, ℕ, List, Option, Some, None, Result, Ok, Err}
use Rattle.toml.specs.Data.{Data}
use Rattle.cg_model.specs.Array.{Arch}
use Rattle.cg_parts.specs.declared.parts.Parts.{Parts}
use Rattle.cg_parts.specs.declared.fault.ArchFault.{ArchFault}
use Rattle.cg_parts.specs.declared.fault.ArchFault.TheVariants as arch
use Rattle.cg_validate.specs.Answer.{IsFault, AreValid}
use Rattle.cg_toml.specs.Bytes.{table_of}
use Rattle.cg_grid.specs.declared.written.WrittenArch.{WrittenArch}
use Rattle.cg_grid.specs.declared.fault.TilesPlace.{TilesPlace}
use Rattle.cg_grid.specs.Written.{written_of}
use Rattle.cg_grid.specs.declared.fault.TilesFault.{TilesFault}
use Rattle.cg_grid.specs.Rules.{first_fault}
use Rattle.cg_tiles.specs.Elements.{parts_of}
use Rattle.cg_grid.specs.declared.fault.TilesFault.TheVariants as fault

abbrev pub unless : Option TilesFault → Parts → Result Parts TilesFault
unless None parts = Ok parts
unless (Some f) parts = Err f

-- the lowest of M3 to M6 and the grid's size that applies to the description, at its first place, or the parts
unfoldable pub judged : WrittenArch → Result Parts TilesFault
judged w = unless (first_fault w) (parts_of w)

-- M2, checked before them
abbrev pub parts_written : Result WrittenArch TilesPlace → Result Parts TilesFault
parts_written (Err p) = Err (fault.WrongShape p)
parts_written (Ok w) = judged w

-- M1, checked before M2
abbrev pub parts_in : Option Data → Result Parts TilesFault
parts_in None = Err fault.NotToml
parts_in (Some d) = parts_written (written_of d)

-- the parts that the bytes describe; or the lowest of M1 to M6 that applies, at its first place; or else that the grid
-- is too large
unfoldable pub parts_spelled : List ℕ → Result Parts TilesFault
parts_spelled bytes = parts_in (table_of bytes)

-- why there is a fault: the bytes describe no parts, or their parts have the fault
abbrev pub IsRefused : Result Parts TilesFault → TilesFault → Type 0
IsRefused (Err e) f = f ≡ e
IsRefused (Ok parts) f = (g : ArchFault) × (f ≡ fault.Parts g) × (g ≢ arch.Memory) × IsFault parts g

-- the bytes describe parts that have no fault and define that architecture
pub record AreValidBytes (bytes : List ℕ) (A : Arch) : Type 0 where
  pub parts : Parts
  pub spelled : parts_spelled bytes ≡ Ok parts
  pub valid : AreValid parts A

-- the result, unless memory ran out
abbrev pub IsAnswer : List ℕ → Result Arch TilesFault → Type 0
IsAnswer bytes (Ok A) = AreValidBytes bytes A
IsAnswer bytes (Err f) = f ≢ fault.Memory → IsRefused (parts_spelled bytes) f
