-- The new texts of two nodes that are turned round.
use Rattle.std.specs.Prelude.{ℕ, zero, suc, ◌-◌, List, [], ◌∷◌, slice_index_or}
use Rattle.cg_word.specs.declared.op.Op.{Op}
use Rattle.cg_word.specs.declared.op.Op.TheVariants.{Const}
use Rattle.cg_model.specs.declared.kernel.Node.{Node}
use Rattle.cg_model.specs.declared.kernel.Operand.{Operand}
use Rattle.cg_model.specs.declared.kernel.Operand.TheVariants.{Const as Constant, Edge}
use Rattle.cg_model.specs.Kernel.{Kernel, node}
use Rattle.cg_simplify_rotate.specs.declared.rows.Row.{Row}
use Rattle.cg_simplify_rotate.specs.declared.texts.Text.{Text}
use Rattle.cg_simplify_rotate.specs.declared.turning.Turn.{Turn}
use Rattle.cg_simplify_rotate.specs.Rows.{joined}

-- operand number `place`
abbrev pub operand_at : Node → ℕ → Operand
operand_at N place = slice_index_or N.operands place (Constant 0)

-- two operands, of which x is at that place, 0 or 1
abbrev pub paired : ℕ → Operand → Operand → List Operand
paired zero x y = x ∷ y ∷ []
paired (suc place) x y = y ∷ x ∷ []

-- the node that joins a and b: a `const` if both are constants
abbrev pub first_op : Row → Operand → Operand → Op
first_op r (Constant x) (Constant y) = Const
first_op r (Constant x) (Edge s d init) = r.first
first_op r (Edge s d init) b = r.first

abbrev pub first_operands : Row → Operand → Operand → List Operand
first_operands r (Constant x) (Constant y) = Constant (joined r.first r.place_of_a x y) ∷ []
first_operands r (Constant x) (Edge s d init) = paired r.place_of_a (Constant x) (Edge s d init)
first_operands r (Edge s d init) b = paired r.place_of_a (Edge s d init) b

-- the operands of the two nodes: p and a, and the edge between them and b
abbrev pub the_p : Kernel → Turn → Operand
the_p K t = operand_at (node K t.u) t.j

abbrev pub the_a : Kernel → Turn → Operand
the_a K t = operand_at (node K t.u) (1 - t.j)

abbrev pub the_edge : Kernel → Turn → Operand
the_edge K t = operand_at (node K t.v) t.i

abbrev pub the_b : Kernel → Turn → Operand
the_b K t = operand_at (node K t.v) (1 - t.i)

-- their new texts
abbrev pub first_text : Kernel → Turn → Text
first_text K t = record { op = first_op t.row (the_a K t) (the_b K t); operands = first_operands t.row (the_a K t) (the_b K t) }

abbrev pub second_text : Kernel → Turn → Text
second_text K t = record { op = t.row.second; operands = paired t.row.place_of_p (the_p K t) (the_edge K t) }
