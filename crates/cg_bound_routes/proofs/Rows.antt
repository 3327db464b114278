-- The rows of a table.
use Rattle.std.proofs.Common.{◌≡◌, ℕ, ◌+◌, ◌<◌, List, [], ◌∷◌, ◌++◌, length, get_or, refl, sym, ap, ◌∙◌, subst, arith, ⊎_elim, Contains}
use Rattle.std.specs.Prelude.{Option, Some, None, slice_get}
use Rattle.std.proofs.lemmas.Bool.{cases_eq, cases_lt}
use Rattle.std.proofs.lemmas.List.{get_or_push, get_or_append_left, get_or_past, length_push, get_or_default}
use Rattle.std.proofs.lemmas.Option.{slice_get_within, slice_get_read}
use Rattle.cg_model.specs.declared.kernel.Node.{Node}
use Rattle.cg_model.specs.declared.kernel.Operand.{Operand}
use Rattle.cg_model.specs.declared.kernel.Operand.TheVariants.{Const as Constant, Edge}
use Rattle.cg_model.specs.Kernel.{Kernel, HasOperand, node, no_node, size}
use Rattle.cg_model.specs.Array.{Arch, unit}
use Rattle.cg_model.proofs.Mappings.{operand_within}
use Rattle.cg_bound_routes.specs.declared.question.Question.{Question}
use Rattle.cg_bound_routes.specs.Ways.{HasWay, hops_of, AreWays, AreSmall}
use Rattle.cg_bound_routes.specs.Question.{IsAskedWay, IsAnswer, IsQuestionOf, IsNoEdge, AreFoundHops, IsRowTo, IsRow, AreRowsTo}
use Rattle.cg_bound_routes.proofs.Least.{found_same, found_none}

-- a node that is read, and its operands
pub node_read : (K : Kernel) (nodes : List Node) (v : ℕ) (n : Node) → nodes ≡ K.nodes → v < size K → n ≡ get_or nodes v n → n ≡ node K v
node_read K nodes v n e l is = is ∙ ap (λ z. get_or z v n) e ∙ get_or_default K.nodes v n no_node l

pub operands_read : (K : Kernel) (v : ℕ) (n : Node) (operands : List Operand) → n ≡ node K v → operands ≡ n.operands → operands ≡ (node K v).operands
operands_read K v n operands is e = e ∙ ap (λ z. z.operands) is

pub operand_read : (K : Kernel) (v p : ℕ) (operands : List Operand) (o o' : Operand) → operands ≡ (node K v).operands → p < length operands → o ≡ get_or operands p o → o ≡ o' → HasOperand K v p o'
operand_read K v p operands o o' e l is same =
    subst (HasOperand K v p) same (subst (λ z. slice_get z p ≡ Some o) e (slice_get_read operands (length operands) p o refl l is))

-- a constant is no edge
pub constant_no_edge : (K : Kernel) (v p w : ℕ) → HasOperand K v p (Constant w) → IsNoEdge K v p
constant_no_edge K v p w h = λ u d init h'. absurd (cc)

module _ (A : Arch) (K : Kernel) (ii : ℕ) where
  -- what is no edge has no way
  pub no_hops : (v p : ℕ) → IsNoEdge K v p → AreFoundHops A K ii v p None
  no_hops v p none = found_none A (HasWay A K ii v p) (λ n (u, d, init, h, x, y, may, way). none u d init h)

  -- the answer to an edge's question
  pub edge_hops : (v p : ℕ) (q : Question) → IsQuestionOf K ii v p q → (o : Option ℕ) → IsAnswer A q o → AreFoundHops A K ii v p o
  edge_hops v p q is o h = found_same A (IsAskedWay A q) (HasWay A K ii v p) to from o h
    where
      to : (n : ℕ) → IsAskedWay A q n → HasWay A K ii v p n
      to n (x, y, (lx, ox), (ly, oy), ends, (port, at, w)) =
          let may = (is.ends x y).0 ends in (
            is.source,
            is.distance,
            is.init,
            is.operand,
            x,
            y,
            record {
              source = (lx, subst (Contains (unit A x).ops) is.from ox);
              target = (ly, subst (Contains (unit A y).ops) is.to oy);
              one = may.0;
              apart = may.1;
            },
            (port, subst (λ z. slice_get (unit A y).ports z ≡ Some port) is.arg at, w),
          )

      from : (n : ℕ) → HasWay A K ii v p n → IsAskedWay A q n
      from n (u, d, init, h, x, y, may, (port, at, w)) =
          let same : u ≡ is.source = let k = is.operand in cc in (
            x,
            y,
            (may.source.0, subst (Contains (unit A x).ops) (ap (λ z. (node K z).op) same ∙ sym is.from) may.source.1),
            (may.target.0, subst (Contains (unit A y).ops) (sym is.to) may.target.1),
            (is.ends x y).1 (λ e. may.one (same ∙ e), λ one e. sym same ∙ may.apart one e),
            (port, subst (λ z. slice_get (unit A y).ports z ≡ Some port) (sym is.arg) at, w),
          )

  -- one operand more
  pub row_more : (v p : ℕ) (row : List (Option ℕ)) (hops : Option ℕ) → IsRowTo A K ii v p row → AreFoundHops A K ii v p hops → IsRowTo A K ii v (p + 1) (row ++ hops ∷ [])
  row_more v p row hops h is = record {
    each = let e = length_push row hops in let f = h.each in omega arith;
    tables = λ i l.
        ⊎_elim {C = AreFoundHops A K ii v i (get_or (row ++ hops ∷ []) i None)}
        (λ e. let at : get_or (row ++ hops ∷ []) i None ≡ hops = get_or_push row hops None i (let f = h.each in omega arith) in
        subst (AreFoundHops A K ii v i) (sym at) (subst (λ z. AreFoundHops A K ii v z hops) (sym e) is))
        (λ ne. let at : get_or (row ++ hops ∷ []) i None ≡ get_or row i None = get_or_append_left row (hops ∷ []) None i (let f = h.each in omega arith) in
        subst (AreFoundHops A K ii v i) (sym at) (h.tables i (omega arith)))
        (cases_eq i p);
  }

  -- all operands
  pub row_whole : (v p : ℕ) (row : List (Option ℕ)) → IsRowTo A K ii v p row → p ≡ length (node K v).operands → IsRow A K ii v row
  row_whole v p row h e = λ i.
      ⊎_elim {C = AreFoundHops A K ii v i (get_or row i None)} (λ l. h.tables i l)
      (λ l. subst (AreFoundHops A K ii v i) (sym (get_or_past row i None (let f = h.each in omega arith)))
      (no_hops v i (λ u d init o. let k = slice_get_within (node K v).operands i (Edge u d init) o in omega arith)))
      (cases_lt i p)

  -- one node more
  pub rows_more : (v : ℕ) (rows : List (List (Option ℕ))) (row : List (Option ℕ)) → AreRowsTo A K ii v rows → IsRow A K ii v row → AreRowsTo A K ii (v + 1) (rows ++ row ∷ [])
  rows_more v rows row h is = record {
    each = let e = length_push rows row in let f = h.each in omega arith;
    right = λ w l.
        ⊎_elim {C = IsRow A K ii w (get_or (rows ++ row ∷ []) w [])}
        (λ e. let at : get_or (rows ++ row ∷ []) w [] ≡ row = get_or_push rows row [] w (let f = h.each in omega arith) in
        subst (IsRow A K ii w) (sym at) (subst (λ z. IsRow A K ii z row) (sym e) is))
        (λ ne. let at : get_or (rows ++ row ∷ []) w [] ≡ get_or rows w [] = get_or_append_left rows (row ∷ []) [] w (let f = h.each in omega arith) in
        subst (IsRow A K ii w) (sym at) (h.right w (omega arith)))
        (cases_eq w v);
  }

  -- all nodes
  pub rows_whole : (v : ℕ) (rows : List (List (Option ℕ))) → AreRowsTo A K ii v rows → v ≡ size K → (w p : ℕ) → AreFoundHops A K ii w p (hops_of rows w p)
  rows_whole v rows h e w p =
      ⊎_elim {C = AreFoundHops A K ii w p (hops_of rows w p)} (λ l. h.right w l p)
      (λ l. let past : hops_of rows w p ≡ None = ap (λ z. get_or z p None) (get_or_past rows w [] (let f = h.each in omega arith)) in
      subst (AreFoundHops A K ii w p) (sym past) (no_hops w p (λ u d init o. let k = operand_within K w p (Edge u d init) o in omega arith)))
      (cases_lt w v)

  pub rows_ways : (v : ℕ) (rows : List (List (Option ℕ))) → AreRowsTo A K ii v rows → v ≡ size K → AreWays A K ii rows
  rows_ways v rows h e = λ w p. (rows_whole v rows h e w p).least

  pub rows_small : (v : ℕ) (rows : List (List (Option ℕ))) → AreRowsTo A K ii v rows → v ≡ size K → AreSmall (length A.resources) rows
  rows_small v rows h e = λ w p. (rows_whole v rows h e w p).small
