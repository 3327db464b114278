-- The requirements of readers and writers of single fields.
use Rattle.std.specs.Prelude.{ℕ, ◌<◌, ◌≤◌, ◌^◌, List, slice_index}
use Rattle.cg_model.specs.declared.config.UnitFields.{UnitFields}
use Rattle.cg_model.specs.Config.{arg}
use Rattle.cg_bits.specs.declared.format.Format.{Format}
use Rattle.cg_bits.specs.Format.{code_of}

-- numbers below 256
abbrev pub IsBytes : List ℕ → Type 0
IsBytes bytes = (i : ℕ) → slice_index bytes i < 256

-- a format's codes fit their bits, and each is the code of an operation
pub record IsFormat (F : Format) : Type 0 where
  pub narrow : F.op_bits ≤ 6
  pub codes_fit : F.greatest < 2 ^ F.op_bits
  pub known : F.greatest ≤ 25

-- each field fits its bits, and there are no more ports than arguments
pub record HasRanges (F : Format) (n : ℕ) (f : UnitFields) : Type 0 where
  pub few : n ≤ 3
  pub width : F.op_bits ≤ 6
  pub code : code_of f.op < 2 ^ F.op_bits
  pub stage : f.stage < 2 ^ 16
  pub port : f.port < 2 ^ 4
  pub counts : (p : ℕ) → p < n → (arg f p).count < 8
