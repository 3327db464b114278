-- Nodes that move to make room.
use Rattle.std.proofs.Common.{◌≡◌, ◌≢◌, ℕ, ◌+◌, ◌<◌, ◌≤◌, List, [], ◌∷◌, ◌++◌, length, set, eqb, true, sym, ap, ◌∙◌, subst, arith, inl, inr, ⊎_elim, eqb-true, eq-eqb, length-set, get_or-set_other, get_or-set_same}
use Rattle.std.specs.Prelude.{slice_index}
use Rattle.std.proofs.lemmas.Bool.{cases_eq, cases_lt, cases_Bool, cond-true, cond-false}
use Rattle.std.proofs.lemmas.List.{get_or_append_left, get_or_push, length_push}
use Rattle.std.proofs.lemmas.List.Sums.{sum_by-set, sum_by_push}
use Rattle.cg_word.specs.Sets.{among}
use Rattle.cg_model.specs.declared.kernel.Node.{Node}
use Rattle.cg_model.specs.declared.array.Unit.{Unit}
use Rattle.cg_class.specs.declared.search.Move.{Move}
use Rattle.cg_class.specs.Class.{load}
use Rattle.cg_class.specs.Search.{op_at, ops_at, move, IsPlaced, IsMove, HasMoves}
use Rattle.cg_class.proofs.Balance.{one_if}

counts_one : (x y : ℕ) → x ≡ y → one_if (eqb x y) ≡ 1
counts_one x y e = cond-true (eqb x y) 1 0 (eq-eqb x y e)

counts_none : (x y : ℕ) → x ≢ y → one_if (eqb x y) ≡ 0
counts_none x y ne = ⊎_elim (λ t. absurd (ne (eqb-true x y t))) (λ t. cond-false (eqb x y) 1 0 t) (cases_Bool (eqb x y))

counts_most : (x y : ℕ) → one_if (eqb x y) ≤ 1
counts_most x y = ⊎_elim (λ e. let a = counts_one x y e in omega arith) (λ e. let a = counts_none x y e in omega arith) (cases_eq x y)

load_set : (places : List ℕ) (v x z : ℕ) → v < length places → load (set places v x) z + one_if (eqb (slice_index places v) z) ≡ load places z + one_if (eqb x z)
load_set places v x z l = sum_by-set (λ y. one_if (eqb y z)) places v x 0 l

load_push : (places : List ℕ) (x z : ℕ) → load (places ++ x ∷ []) z ≡ load places z + one_if (eqb x z)
load_push places x z = sum_by_push (λ y. one_if (eqb y z)) places x

module _ (nodes : List Node) (units : List Unit) (ii : ℕ) (log : List Move) where
  pub IsApart : Type 0
  IsApart = (i j : ℕ) → i < j → j < length log → (move log i).unit ≡ (move log j).unit → ⊥

  -- before move `at`: its unit has room, and it and the moves before it still stand
  pub record IsShifting (places : List ℕ) (at : ℕ) : Type 0 where
    pub placed : IsPlaced nodes units ii places
    pub inside : at < length log
    pub room : load places (move log at).unit < ii
    pub stands : (j : ℕ) → j ≤ at → IsMove nodes units places log j (move log j)
    pub apart : (i j : ℕ) → i < j → j < length log → (move log i).unit ≡ (move log j).unit → ⊥

  pub shift_begun : (places : List ℕ) (h : ℕ) → IsPlaced nodes units ii places → HasMoves nodes units ii places log h → IsShifting places h
  shift_begun places h p (seen, good, l, room) = record { placed = p; inside = l; room = room; stands = λ j k. good.moves j (omega arith); apart = good.apart }

  goes_on : (places : List ℕ) (at : ℕ) → IsShifting places at → (move log at).before < at → ((move log at).node < length places) × (slice_index places (move log at).node ≡ (move log (move log at).before).unit)
  goes_on places at s l = ⊎_elim (λ a. absurd (let b = a.0 in omega arith)) (λ a. (a.1, a.2)) (s.stands at (omega arith)).from

  pub shift_more : (places : List ℕ) (at : ℕ) → IsShifting places at → (move log at).before < at → IsShifting (set places (move log at).node (move log at).unit) (move log at).before
  shift_more places at s l =
      let m = move log at in
      let p = s.placed in
      let in' = s.inside in
      let (ln, stood) = goes_on places at s l in
      let places' = set places m.node m.unit in
      let len : length places' ≡ length places = length-set places m.node m.unit in
      let at_node : slice_index places' m.node ≡ m.unit = get_or-set_same places m.node m.unit 0 ln in
      let other : (v : ℕ) → v ≢ m.node → slice_index places' v ≡ slice_index places v = λ v ne. get_or-set_other places m.node v m.unit 0 ne in
      let differ : m.unit ≢ (move log m.before).unit = λ e. s.apart m.before at l in' (sym e) in
      let this = s.stands at (omega arith) in
      record {
        placed = record {
          some = let a = p.some in omega arith;
          known = λ v k. ⊎_elim (λ (e : v ≡ m.node). let a = ap (slice_index places') e in let b = this.unit in omega arith) (λ ne. let a = other v ne in let b = p.known v (omega arith) in omega arith) (cases_eq v m.node);
          offered = λ v k. ⊎_elim
              (λ (e : v ≡ m.node). subst (λ z. among (ops_at units z) (op_at nodes v) ≡ true) (sym (ap (slice_index places') e ∙ at_node)) (subst (λ z. among (ops_at units m.unit) (op_at nodes z) ≡ true) (sym e) this.offered))
              (λ ne. subst (λ z. among (ops_at units z) (op_at nodes v) ≡ true) (sym (other v ne)) (p.offered v (omega arith)))
              (cases_eq v m.node);
          room = λ x k.
              let a = load_set places m.node m.unit x ln in
              let b = p.room x k in
              ⊎_elim
              (λ (e : m.unit ≡ x). let c = s.room in let d = ap (load places) e in let f = counts_most m.unit x in omega arith)
              (λ ne. let f = counts_none m.unit x ne in omega arith)
              (cases_eq m.unit x);
        };
        inside = omega arith;
        room =
            let y = (move log m.before).unit in
            let a = load_set places m.node m.unit y ln in
            let b = counts_one (slice_index places m.node) y stood in
            let c = counts_none m.unit y differ in
            let d = p.room y (s.stands m.before (omega arith)).unit in
            omega arith;
        stands = λ j k.
            let t = s.stands j (omega arith) in
            record {
              unit = t.unit;
              offered = t.offered;
              from = ⊎_elim (λ a. inl (a.0, a.1 ∙ sym len))
                  (λ (b, c, d). inr (b, omega arith, other (move log j).node (λ e. one_unit j k b (sym d ∙ ap (slice_index places) e ∙ stood)) ∙ d))
                  t.from;
            };
        apart = s.apart;
      }
    where
      one_unit : (j : ℕ) → j ≤ (move log at).before → (move log j).before < j → (move log (move log j).before).unit ≡ (move log (move log at).before).unit → ⊥
      one_unit j k b e = s.apart (move log j).before (move log at).before (omega arith) (let a = s.inside in omega arith) e

  -- the new node comes to the unit that was left
  pub shift_over : (places : List ℕ) (at : ℕ) → IsShifting places at → length places < length nodes → at ≤ (move log at).before → IsPlaced nodes units ii (places ++ (move log at).unit ∷ [])
  shift_over places at s next l =
      let m = move log at in
      let p = s.placed in
      let this = s.stands at (omega arith) in
      let len = length_push places m.unit in
      let new : m.node ≡ length places = ⊎_elim (λ a. a.1) (λ a. absurd (let b = a.0 in omega arith)) this.from in
      let places' = places ++ m.unit ∷ [] in
      let old : (v : ℕ) → v < length places → slice_index places' v ≡ slice_index places v = λ v k. get_or_append_left places (m.unit ∷ []) 0 v k in
      let end : (v : ℕ) → length places ≡ v → slice_index places' v ≡ m.unit = λ v e. get_or_push places m.unit 0 v e in
      record {
        some = omega arith;
        known = λ v k. ⊎_elim (λ h. let a = old v h in let b = p.known v h in omega arith) (λ h. let a = end v (omega arith) in let b = this.unit in omega arith) (cases_lt v (length places));
        offered = λ v k. ⊎_elim
            (λ h. subst (λ z. among (ops_at units z) (op_at nodes v) ≡ true) (sym (old v h)) (p.offered v h))
            (λ h. let e : m.node ≡ v = omega arith in subst (λ z. among (ops_at units z) (op_at nodes v) ≡ true) (sym (end v (omega arith))) (subst (λ z. among (ops_at units m.unit) (op_at nodes z) ≡ true) e this.offered))
            (cases_lt v (length places));
        room = λ x k.
            let a = load_push places m.unit x in
            let b = p.room x k in
            ⊎_elim
            (λ (e : m.unit ≡ x). let c = s.room in let d = ap (load places) e in let f = counts_most m.unit x in omega arith)
            (λ ne. let f = counts_none m.unit x ne in omega arith)
            (cases_eq m.unit x);
      }
