-- Guarded operations, and selections by an `eq` with 0.
use Rattle.std.specs.Prelude.{◌≡◌, ℕ, ◌<◌, List, Option, None, Some}
use Rattle.cg_word.specs.declared.op.Op.{Op}
use Rattle.cg_word.specs.declared.op.Op.TheVariants.{Eq, Load, LoadIf, Output, OutputIf, Store, StoreIf}
use Rattle.cg_model.specs.declared.kernel.Operand.{Operand}
use Rattle.cg_model.specs.declared.kernel.Operand.TheVariants.{Edge}
use Rattle.cg_model.specs.Kernel.{Kernel, node, size}
use Rattle.cg_simplify.specs.Operands.{ComparesWithZero}

-- the operation that a guarded operation is where its guard isn't 0
abbrev pub unguarded : Op → Option Op
unguarded LoadIf = Some Load
unguarded StoreIf = Some Store
unguarded OutputIf = Some Output
unguarded _ = None

-- node w of D is an `eq` that compares x with 0
pub record IsEqNode (tops : List ℕ) (D : Kernel) (w : ℕ) (x : Operand) : Type 0 where
  pub inside : w < size D
  pub op : (node D w).op ≡ Eq
  pub compares : ComparesWithZero D.nodes tops (node D w) x

-- o is the value, in the same turn, of an `eq` of D that compares x with 0
pub record IsEqOf (tops : List ℕ) (D : Kernel) (o x : Operand) : Type 0 where
  pub from : ℕ
  pub init : List ℕ
  pub is : o ≡ Edge from 0 init
  pub node : IsEqNode tops D from x
