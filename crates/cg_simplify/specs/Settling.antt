-- What is done next with an operand of a node.
use Rattle.std.specs.Prelude.{◌≡◌, ℕ, false, List}
use Rattle.cg_model.specs.Kernel.{Kernel, IsKernel}
use Rattle.cg_simplify_facts.specs.Suits.{AreTops}
use Rattle.cg_simplify.specs.declared.settle.Next.{Next}
use Rattle.cg_simplify.specs.declared.settle.Next.TheVariants.{Leave, Pass, First, Exchange}
use Rattle.cg_simplify.specs.declared.settle.Walk.{Walk}
use Rattle.cg_simplify_draft.specs.Restates.{Restates}
use Rattle.cg_simplify.specs.Operands.{MayReplace}

-- an operand that is to be exchanged for operand p of node v of D may take its place
abbrev pub IsNext : List ℕ → Kernel → ℕ → ℕ → Next → Type 0
IsNext tops D v p Leave = Unit {0}
IsNext tops D v p (Pass after) = Unit {0}
IsNext tops D v p (First w) = Unit {0}
IsNext tops D v p (Exchange o) = MayReplace tops D v p o

-- if by then no operand was exchanged, none was before, and the draft is the same
abbrev pub SameIfUnchanged : Walk → Walk → Type 0
SameIfUnchanged old new = new.changed ≡ false → (old.changed ≡ false) × (new.draft ≡ old.draft)

-- the walk is one over K: it has K's tops, and its draft restates K
pub record IsOver (K : Kernel) (w : Walk) : Type 0 where
  pub tops : AreTops K w.tops.items
  pub restates : Restates K w.draft

-- a walk stays one over whatever kernel it is over
abbrev pub Keeps : Walk → Walk → Type 0
Keeps old new = (K : Kernel) → IsKernel K → IsOver K old → IsOver K new
