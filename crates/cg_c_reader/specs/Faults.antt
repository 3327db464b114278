-- Faults of bytes that are no source, at lines and columns.
use Rattle.std.specs.Prelude.{◌≡◌, ℕ, List}
use Rattle.cg_c_syntax.specs.Places.{line_of, column_of}
use Rattle.cg_c_syntax.specs.Source.{IsTextFault, IsDepthFault}
use Rattle.cg_c_reader.specs.declared.places.Position.{Position}
use Rattle.cg_c_reader.specs.declared.read.CFault.{CFault}
use Rattle.cg_c_reader.specs.declared.read.CFault.TheVariants.{Memory, Text, TooDeep}

-- the position is that of the byte at a place at which something holds
pub record At (bytes : List ℕ) (P : ℕ → Type 0) (p : Position) : Type 0 where
  pub place : ℕ
  pub holds : P place
  pub line : p.line ≡ line_of bytes place
  pub column : p.column ≡ column_of bytes place

abbrev pub IsCFault : List ℕ → CFault → Type 0
IsCFault bytes Memory = Unit {0}
IsCFault bytes (Text p) = At bytes (IsTextFault bytes) p
IsCFault bytes (TooDeep p) = At bytes (IsDepthFault bytes) p
