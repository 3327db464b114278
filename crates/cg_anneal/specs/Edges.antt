-- Edge operands by their lists.
use Rattle.std.specs.Prelude.{ℕ, eqb, Bool, ◌||◌, List, [], ◌∷◌, length, filter, slice_index_or}
use Rattle.std.specs.List.{range_with_len}
use Rattle.cg_model.specs.declared.kernel.Operand.{Operand}
use Rattle.cg_model.specs.declared.kernel.Operand.TheVariants.{Const as Constant, Edge}
use Rattle.cg_walk_spec.specs.declared.edge.EdgeOperand.{EdgeOperand}

-- operand number p of node v, where it is an edge
abbrev pub operand_edge : ℕ → ℕ → Operand → List EdgeOperand
operand_edge v p (Constant w) = []
operand_edge v p (Edge u d init) = record { node = v; arg = p; source = u; distance = d } ∷ []

-- edge operand i of a list is one of node v, or has v as its source
abbrev pub touches_in : List EdgeOperand → ℕ → ℕ → Bool
touches_in es v i =
    let e = slice_index_or es i (record { node = 0; arg = 0; source = 0; distance = 0 }) in eqb e.node v || eqb e.source v

-- the numbers of those edge operands
abbrev pub touching_of : List EdgeOperand → ℕ → List ℕ
touching_of es v = filter (touches_in es v) (range_with_len 0 (length es))
