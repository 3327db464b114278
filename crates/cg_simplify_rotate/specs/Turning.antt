-- A kernel of which two nodes are turned round.
use Rattle.std.specs.Prelude.{◌≡◌, ℕ, ◌<◌, Bool, false, List, [], length}
use Rattle.cg_model.specs.declared.kernel.Node.{Node}
use Rattle.cg_model.specs.declared.kernel.Operand.TheVariants.{Edge}
use Rattle.cg_model.specs.Kernel.{Kernel, HasOperand, IsKernel, node, size}
use Rattle.cg_simplify_draft.specs.Rewritten.{IsRewritten}
use Rattle.cg_simplify_draft.specs.Settings.{with_text}
use Rattle.cg_simplify_rotate.specs.declared.turning.Turn.{Turn}
use Rattle.cg_simplify_rotate.specs.Rows.{AreAlike}
use Rattle.cg_simplify_rotate.specs.Texts.{first_text, second_text}

-- the kernel of these nodes, without order edges
abbrev pub kernel_of : List Node → Kernel
kernel_of nodes = record { nodes = nodes; order = [] }

-- the only data edge from node u is operand number `place` of node v
abbrev pub IsOnlyUse : Kernel → ℕ → ℕ → ℕ → Type 0
IsOnlyUse K u v place = (w q d : ℕ) (init : List ℕ) → w < size K → HasOperand K w q (Edge u d init) → (w ≡ v) × (q ≡ place)

-- node v takes node u, in the same turn, as its operand number `place`, and this is the only use of u
pub record IsTaken (K : Kernel) (u v place : ℕ) : Type 0 where
  pub known_v : v < size K
  pub two : place < 2
  pub init : List ℕ
  pub taken : HasOperand K v place (Edge u 0 init)
  pub only : IsOnlyUse K u v place

-- nodes u and v of K can be turned round as t says: v takes u as operand i, and its row joins the same words
pub record IsTurn (K : Kernel) (t : Turn) : Type 0 where
  pub known_u : t.u < size K
  pub place_j : t.j < 2
  pub is_taken : IsTaken K t.u t.v t.i
  pub row : AreAlike (node K t.v).op t.i (node K t.u).op t.j t.row

-- K, but that both nodes of t have their new texts
abbrev pub turned : Kernel → Turn → Kernel
turned K t =
    with_text (with_text K t.u (first_text K t).op 0 (first_text K t).operands)
    t.v (second_text K t).op 0 (second_text K t).operands

-- valid nodes `old` are rewritten into valid nodes `new`, as many, which are the same if nothing changed
pub record IsRotated (old new : List Node) (changed : Bool) : Type 0 where
  pub valid : IsKernel (kernel_of new)
  pub rewritten : IsRewritten (kernel_of old) (kernel_of new)
  pub sized : length new ≡ length old
  pub unchanged : changed ≡ false → new ≡ old
