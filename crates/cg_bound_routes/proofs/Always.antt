-- For each kernel, valid architecture and interval there is a table of the least numbers of registers: by definitions alone.
use Rattle.std.proofs.Common.{◌≡◌, ◌≢◌, ℕ, zero, suc, ◌+◌, ◌<◌, ◌≤◌, ◌⊎◌, inl, inr, List, [], ◌∷◌, ◌++◌, length, refl, sym, ◌∙◌, subst, arith, ⊎_elim, Contains, Bool, true, false}
use Rattle.std.specs.Prelude.{◌↔◌, Option, Some, None, slice_get}
use Rattle.std.proofs.lemmas.Bool.{cases_eq, false≢true}
use Rattle.cg_word.specs.declared.op.Op.{Op}
use Rattle.cg_word.specs.Sets.{among}
use Rattle.cg_word.proofs.Marks.{among_from, among_it}
use Rattle.cg_model.specs.declared.kernel.Operand.{Operand}
use Rattle.cg_model.specs.declared.kernel.Operand.TheVariants.{Const as Constant, Edge}
use Rattle.cg_model.specs.Kernel.{Kernel, node, size}
use Rattle.cg_model.specs.Array.{Arch, IsArch, unit}
use Rattle.cg_model.proofs.Lookups.{Contains-nil}
use Rattle.cg_bound_routes.specs.declared.question.Ends.{Ends}
use Rattle.cg_bound_routes.specs.declared.question.Ends.TheVariants.{Any, One, Apart}
use Rattle.cg_bound_routes.specs.declared.question.Question.{Question}
use Rattle.cg_bound_routes.specs.Ways.{AreWays, AreSmall}
use Rattle.cg_bound_routes.specs.Search.{IsFound}
use Rattle.cg_bound_routes.specs.Question.{AreEnds, MayBeEnds, AreOuts, IsAskedWayTo, HasAskedWay, IsAnswer, AreFoundHops, IsRowTo, IsRow, AreRowsTo, lesser}
use Rattle.cg_bound_routes.proofs.Least.{found_none}
use Rattle.cg_bound_routes.proofs.Offering.{outs_with, outs_without, port_known, one_below, unit_ways, ways_more, ways_whole}
use Rattle.cg_bound_routes.proofs.Rows.{constant_no_edge, no_hops, edge_hops, row_more, row_whole, rows_more, rows_ways, rows_small}
use Rattle.cg_bound_routes.proofs.Looks.{looked}

-- an operation is among others or not
offers_or_not : (ops : List Op) (op : Op) (b : Bool) → among ops op ≡ b → Contains ops op ⊎ (Contains ops op → ⊥)
offers_or_not ops op true e = inl (among_from ops op e)
offers_or_not ops op false e = inr (λ c. false≢true (sym e ∙ among_it ops op c))

-- two units are such ends or not
ends_or_not : (ends : Ends) (x y : ℕ) → AreEnds ends x y ⊎ (AreEnds ends x y → ⊥)
ends_or_not Any x y = inl tt
ends_or_not One x y = cases_eq x y
ends_or_not Apart x y = ⊎_elim {C = x ≢ y ⊎ (x ≢ y → ⊥)} (λ e. inr (λ ne. ne e)) (λ ne. inl ne) (cases_eq x y)

-- which ends a question has
ends_of : (ii u v : ℕ) → (ends : Ends) × ((x y : ℕ) → AreEnds ends x y ↔ MayBeEnds ii u v x y)
ends_of ii u v =
    ⊎_elim {C = (ends : Ends) × ((x y : ℕ) → AreEnds ends x y ↔ MayBeEnds ii u v x y)}
    (λ e. (One, λ x y. (λ same. (λ f. same, λ one f. e), λ may. may.0 e)))
    (λ ne. ⊎_elim {C = (ends : Ends) × ((x y : ℕ) → AreEnds ends x y ↔ MayBeEnds ii u v x y)}
    (λ one. (Apart, λ x y. (λ apart. (λ f. absurd (ne f), λ g f. absurd (apart f)), λ may f. ne (may.1 one f))))
    (λ more. (Any, λ x y. (λ any. (λ f. absurd (ne f), λ one f. absurd (more one)), λ may. tt)))
    (cases_eq ii 1))
    (cases_eq u v)

module _ (A : Arch) (valid : IsArch A) where
  -- the outs of units
  outs_to : (op : Op) (ends : Ends) (y count : ℕ) → (list : List ℕ) × AreOuts A op ends y count list
  outs_to op ends y zero = ([], record { all = λ x l. absurd (omega arith); only = λ r c. absurd (Contains-nil r c) })
  outs_to op ends y (suc count) =
      let (list, h) = outs_to op ends y count in
      let e : count + 1 ≡ suc count = omega arith in
      subst (λ z. (list : List ℕ) × AreOuts A op ends y z list) e
      (⊎_elim {C = (list : List ℕ) × AreOuts A op ends y (count + 1) list}
      (λ has.
      ⊎_elim {C = (list : List ℕ) × AreOuts A op ends y (count + 1) list}
      (λ fit. (list ++ (unit A count).out ∷ [], outs_with A op ends y count list h (unit A count).out has fit refl))
      (λ not. (list, outs_without A op ends y count list h (λ there fit. not fit)))
      (ends_or_not ends count y))
      (λ not. (list, outs_without A op ends y count list h (λ there fit. not there)))
      (offers_or_not (unit A count).ops op (among (unit A count).ops op) refl))

  -- the least number to the port of a unit
  to_port : (q : Question) (y : ℕ) → y < length A.units → Contains (unit A y).ops q.to → (o : Option ℕ) → slice_get (unit A y).ports q.arg ≡ o → (hops : Option ℕ) × IsFound A (IsAskedWayTo A q y) hops
  to_port q y l there None e = (None, found_none A (IsAskedWayTo A q y) (λ n (t, (x, a, ends, (port, at, w))). absurd (cc)))
  to_port q y l there (Some port) e =
      let (outs, h) = outs_to q.from q.ends y (length A.units) in
      let (hops, is) = looked A valid (port ∷ []) outs (one_below (length A.resources) port (port_known A valid y q.arg port l e)) in
      (hops, unit_ways A q y port outs there e h hops is)

  to_unit : (q : Question) (y : ℕ) → y < length A.units → (hops : Option ℕ) × IsFound A (IsAskedWayTo A q y) hops
  to_unit q y l =
      ⊎_elim {C = (hops : Option ℕ) × IsFound A (IsAskedWayTo A q y) hops} (λ there. to_port q y l there (slice_get (unit A y).ports q.arg) refl)
      (λ not. (None, found_none A (IsAskedWayTo A q y) (λ n (t, w). not t)))
      (offers_or_not (unit A y).ops q.to (among (unit A y).ops q.to) refl)

  to_units : (q : Question) (count : ℕ) → count ≤ length A.units → (hops : Option ℕ) × IsFound A (HasAskedWay A q count) hops
  to_units q zero l = (None, found_none A (HasAskedWay A q 0) (λ n (y, k, w). absurd (omega arith)))
  to_units q (suc count) l =
      let (best, f) = to_units q count (omega arith) in
      let (hops, g) = to_unit q count (omega arith) in
      let e : count + 1 ≡ suc count = omega arith in
      (lesser best hops, subst (λ z. IsFound A (HasAskedWay A q z) (lesser best hops)) e (ways_more A q count best hops f g))

  -- each question has an answer
  answer : (q : Question) → (hops : Option ℕ) × IsAnswer A q hops
  answer q = let (hops, h) = to_units q (length A.units) (omega arith) in (hops, ways_whole A q hops h)

  module _ (K : Kernel) (ii : ℕ) where
    hops_at : (v p : ℕ) (o : Option Operand) → slice_get (node K v).operands p ≡ o → (hops : Option ℕ) × AreFoundHops A K ii v p hops
    hops_at v p None e = (None, no_hops A K ii v p (λ u d init h. absurd (cc)))
    hops_at v p (Some (Constant w)) e = (None, no_hops A K ii v p (constant_no_edge K v p w e))
    hops_at v p (Some (Edge u d init)) e =
        let (ends, fit) = ends_of ii u v in
        let q : Question = record { from = (node K u).op; to = (node K v).op; arg = p; ends = ends } in
        let (hops, h) = answer q in
        (hops, edge_hops A K ii v p q (record { source = u; distance = d; init = init; operand = e; from = refl; to = refl; arg = refl; ends = fit }) hops h)

    row_to : (v p : ℕ) → (row : List (Option ℕ)) × IsRowTo A K ii v p row
    row_to v zero = ([], record { each = refl; tables = λ i l. absurd (omega arith) })
    row_to v (suc p) =
        let (row, h) = row_to v p in
        let (hops, is) = hops_at v p (slice_get (node K v).operands p) refl in
        let e : p + 1 ≡ suc p = omega arith in
        (row ++ hops ∷ [], subst (λ z. IsRowTo A K ii v z (row ++ hops ∷ [])) e (row_more A K ii v p row hops h is))

    row_at : (v : ℕ) → (row : List (Option ℕ)) × IsRow A K ii v row
    row_at v = let (row, h) = row_to v (length (node K v).operands) in (row, row_whole A K ii v (length (node K v).operands) row h refl)

    rows_to : (v : ℕ) → (rows : List (List (Option ℕ))) × AreRowsTo A K ii v rows
    rows_to zero = ([], record { each = refl; right = λ w l. absurd (omega arith) })
    rows_to (suc v) =
        let (rows, h) = rows_to v in
        let (row, is) = row_at v in
        let e : v + 1 ≡ suc v = omega arith in
        (rows ++ row ∷ [], subst (λ z. AreRowsTo A K ii z (rows ++ row ∷ [])) e (rows_more A K ii v rows row h is))

    pub some_table : (rows : List (List (Option ℕ))) × AreWays A K ii rows × AreSmall (length A.resources) rows
    some_table = let (rows, h) = rows_to (size K) in (rows, rows_ways A K ii (size K) rows h refl, rows_small A K ii (size K) rows h refl)
