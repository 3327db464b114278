-- The search for a unit with room.
use Rattle.std.proofs.Common.{◌≡◌, ℕ, suc, ◌+◌, ◌*◌, ◌<◌, ◌≤◌, List, [], ◌∷◌, ◌++◌, length, get_or, take, eqb, Bool, true, false, refl, sym, ap, ◌∙◌, subst, arith, ⊎_elim}
use Rattle.std.specs.Prelude.{◌⊎◌, slice_index, map, replicate}
use Rattle.std.proofs.lemmas.Bool.{cases_lt, cases_Bool, false≢true, cond-true, cond-false}
use Rattle.std.proofs.lemmas.List.{get_or-map, get_or-replicate, length-replicate}
use Rattle.std.proofs.Math.ListN.{length-map}
use Rattle.cg_word.specs.declared.op.Op.{Op}
use Rattle.cg_word.specs.Sets.{among}
use Rattle.cg_model.specs.declared.kernel.Node.{Node}
use Rattle.cg_model.specs.Kernel.{no_node}
use Rattle.cg_model.specs.declared.array.Unit.{Unit}
use Rattle.cg_class.specs.declared.search.Move.{Move}
use Rattle.cg_class.specs.Class.{load, offers_one, units_for}
use Rattle.cg_class.specs.Search.{op_at, ops_at, no_unit, no_move, move, is_seen, IsPlaced, IsLogged, IsSpread, IsSearch, IsVisit, IsFullSet, IsWith}
use Rattle.cg_class.proofs.Totals.{total_le, total_more, sum_by_total}
use Rattle.cg_class.proofs.Balance.{one_if, at_least}
use Rattle.cg_class.proofs.Sets.{offers_to, cases_op, with_new, with_other}
use Rattle.cg_model.proofs.Sums.{total}
use Rattle.cg_model.proofs.Ranges.{pigeons}

-- what a slice of a whole vector leaves of it
pub written : {X : Type 0} (n : ℕ) (a b : List X) → length a ≡ n → take n (a ++ b) ≡ a
written n a b e = subst (λ z. take z (a ++ b) ≡ a) e (front a b)
  where
    front : {X : Type 0} (a b : List X) → take (length a) (a ++ b) ≡ a
    front [] b = refl
    front (x ∷ a) b = ap (λ z. x ∷ z) (front a b)

module _ (nodes : List Node) (units : List Unit) (ii : ℕ) (places : List ℕ) where
  pub few_moves : (log : List Move) (seen : List Bool) → IsLogged nodes units places log seen → length log ≤ length units
  few_moves log seen good =
      let us : List ℕ = map (λ (m : Move). m.unit) log in
      let same : length us ≡ length log = length-map log (λ (m : Move). m.unit) in
      let at : (i : ℕ) → i < length log → slice_index us i ≡ (move log i).unit = λ i l. get_or-map (λ (m : Move). m.unit) log i no_move 0 l in
      let h = pigeons (length units) us (λ i l. let a = at i (omega arith) in let b = (good.moves i (omega arith)).unit in omega arith)
      (λ i j l m e. good.apart i j l (omega arith) (sym (at i (omega arith)) ∙ e ∙ at j (omega arith))) in
      omega arith

  pub nothing_seen : IsLogged nodes units places [] (replicate (length units) false)
  nothing_seen =
      record {
        moves = λ i l. absurd (omega arith);
        apart = λ i j l m e. absurd (omega arith);
        each = length-replicate (length units) false;
        marked = λ x l h. absurd (false≢true (sym (get_or-replicate (length units) x false false l) ∙ h));
        marks = λ i l. absurd (omega arith);
      }

  -- after the new node's kind
  pub search_begun : (log : List Move) (seen : List Bool) (log' : List Move) (seen' : List Bool) (done : List Op) → length places < length nodes → IsSpread nodes units places log seen log' seen' (op_at nodes (length places)) →
      IsWith [] (op_at nodes (length places)) done → IsSearch nodes units ii places log' seen' done 0
  search_begun log seen log' seen' done next s with' =
      let k0 = op_at nodes (length places) in
      let one : (k : Op) → among done k ≡ true → k ≡ k0 = λ k h. ⊎_elim (λ e. e) (λ ne. absurd (false≢true (sym (with_other [] k0 done with' k ne) ∙ h))) (cases_op k k0) in
      record {
        logged = s.good;
        closed = λ k h x m o. s.covers x m (subst (λ z. among (ops_at units x) z ≡ true) (one k h) o);
        first = with_new [] k0 done with';
        own = λ k h. (length places, next, sym (one k h));
        within = omega arith;
        full = λ i l. absurd (omega arith);
        passed = λ i w l. absurd (omega arith);
      }

  pub visit_begun : (log : List Move) (seen : List Bool) (done : List Op) (h x : ℕ) → IsSearch nodes units ii places log seen done h → h < length log → (move log h).unit ≡ x → ii ≤ load places x → IsVisit nodes units ii places log seen done h x 0
  visit_begun log seen done h x s l e m = record { searched = s; inside = l; here = e; loaded = m; kept = λ v k. absurd (omega arith) }

  pub visit_same : (log : List Move) (seen : List Bool) (done : List Op) (h x w : ℕ) → IsVisit nodes units ii places log seen done h x w → (slice_index places w ≡ x → among done (op_at nodes w) ≡ true) → IsVisit nodes units ii places log seen done h x (w + 1)
  visit_same log seen done h x w s k =
      record {
        searched = s.searched;
        inside = s.inside;
        here = s.here;
        loaded = s.loaded;
        kept = λ v l e. ⊎_elim (λ m. s.kept v m e) (λ m. let q : w ≡ v = omega arith in subst (λ z. among done (op_at nodes z) ≡ true) q (k (ap (slice_index places) q ∙ e))) (cases_lt v w);
      }

  still_has : (done done' : List Op) (kind k : Op) → IsWith done kind done' → among done k ≡ true → among done' k ≡ true
  still_has done done' kind k w h = ⊎_elim (λ (e : k ≡ kind). ap (among done') e ∙ with_new done kind done' w) (λ ne. with_other done kind done' w k ne ∙ h) (cases_op k kind)

  pub visit_more : (log log' : List Move) (seen seen' : List Bool) (done done' : List Op) (h x w : ℕ) → w < length nodes → IsVisit nodes units ii places log seen done h x w → IsSpread nodes units places log seen log' seen' (op_at nodes w) → IsWith done (op_at nodes w) done' → IsVisit nodes units ii places log' seen' done' h x (w + 1)
  visit_more log log' seen seen' done done' h x w lw s sp with' =
      let kind = op_at nodes w in
      let t = s.searched in
      let in' = s.inside in
      let long = sp.longer in
      record {
        searched = record {
          logged = sp.good;
          closed = λ k d y m o. ⊎_elim
              (λ (e : k ≡ kind). sp.covers y m (subst (λ z. among (ops_at units y) z ≡ true) e o))
              (λ ne. sp.still y (t.closed k (sym (with_other done kind done' with' k ne) ∙ d) y m o))
              (cases_op k kind);
          first = still_has done done' kind (op_at nodes (length places)) with' t.first;
          own = λ k d. ⊎_elim (λ (e : k ≡ kind). (w, lw, sym e)) (λ ne. t.own k (sym (with_other done kind done' with' k ne) ∙ d)) (cases_op k kind);
          within = let a = t.within in omega arith;
          full = λ i l. let a = t.full i l in let b = ap (λ z. load places z.unit) (sp.kept i (omega arith)) in omega arith;
          passed = λ i v l m e. still_has done done' kind (op_at nodes v) with' (t.passed i v l m (e ∙ ap (λ z. z.unit) (sp.kept i (omega arith))));
        };
        inside = omega arith;
        here = ap (λ z. z.unit) (sp.kept h in') ∙ s.here;
        loaded = s.loaded;
        kept = λ v l e. ⊎_elim (λ m. still_has done done' kind (op_at nodes v) with' (s.kept v m e)) (λ m. let q : v ≡ w = omega arith in ap (λ z. among done' (op_at nodes z)) q ∙ with_new done kind done' with') (cases_lt v w);
      }

  pub visit_to : (log l : List Move) (seen m : List Bool) (done d : List Op) (h x w : ℕ) → IsVisit nodes units ii places log seen done h x w → l ≡ log → m ≡ seen → d ≡ done → IsVisit nodes units ii places l m d h x w
  visit_to log l seen m done d h x w s e f g = subst (λ z. IsVisit nodes units ii places z m d h x w) (sym e) (subst (λ z. IsVisit nodes units ii places log z d h x w) (sym f) (subst (λ z. IsVisit nodes units ii places log seen z h x w) (sym g) s))

  -- as the code has it
  pub visit_spread : (log log' l : List Move) (seen seen0 seen' m : List Bool) (done done' d : List Op) (h x w : ℕ) → w < length nodes → IsVisit nodes units ii places log seen done h x w → IsSpread nodes units places log seen0 log' seen' (op_at nodes w) → seen0 ≡ seen → IsWith done (op_at nodes w) done' →
      l ≡ log' → m ≡ seen' → d ≡ done' → IsVisit nodes units ii places l m d h x (w + 1)
  visit_spread log log' l seen seen0 seen' m done done' d h x w lw s sp e0 with' e f g =
      visit_to log' l seen' m done' d h x (w + 1) (visit_more log log' seen seen' done done' h x w lw s (subst (λ z. IsSpread nodes units places log z log' seen' (op_at nodes w)) e0 sp) with') e f g

  pub visit_over : (log : List Move) (seen : List Bool) (done : List Op) (h x w : ℕ) → IsVisit nodes units ii places log seen done h x w → length places ≤ w → IsSearch nodes units ii places log seen done (h + 1)
  visit_over log seen done h x w s l =
      let t = s.searched in
      record {
        logged = t.logged;
        closed = t.closed;
        first = t.first;
        own = t.own;
        within = let a = s.inside in omega arith;
        full = λ i m. ⊎_elim (λ n. t.full i n) (λ n. let e : i ≡ h = omega arith in let a = s.loaded in let b = ap (λ z. load places (move log z).unit) e ∙ ap (load places) s.here in omega arith) (cases_lt i h);
        passed = λ i v m n e. ⊎_elim (λ o. t.passed i v o n e) (λ o. let q : i ≡ h = omega arith in s.kept v (omega arith) (e ∙ ap (λ z. (move log z).unit) q ∙ s.here)) (cases_lt i h);
      }

  -- the nodes reached, where no unit that offers one has room
  pub overfull : IsPlaced nodes units ii places → length places < length nodes → (log : List Move) (seen : List Bool) (done : List Op) (h : ℕ) → IsSearch nodes units ii places log seen done h → length log ≤ h → IsFullSet nodes units ii done
  overfull placed next log seen done h s end = (
    let p = length places in
        let chosen : ℕ → Bool = λ v. among done (op_at nodes v) in
        let a = at_least p (length units) ii (slice_index places) chosen (is_seen seen) placed.known
        (λ x l t. let (i, m, e) = s.logged.marked x l t in let b = s.full i (omega arith) in let c = ap (load places) e in let d = sum_by_total (λ y. one_if (eqb y x)) places 0 in omega arith)
        (λ w l t. let (i, m, e) = s.logged.marked (slice_index places w) (placed.known w l) t in s.passed i w (omega arith) l (sym e))
        in
        let b : total (suc p) (λ v. one_if (chosen v)) ≤ total (length nodes) (λ v. one_if (chosen v)) = total_more (suc p) (length nodes) (λ v. one_if (chosen v)) next in
        let c : one_if (chosen p) ≡ 1 = cond-true (chosen p) 1 0 s.first in
        let d = sum_by_total (λ n. one_if (among done n.op)) nodes no_node in
        let e = sum_by_total (λ u. one_if (offers_one done u.ops)) units no_unit in
        let f : total (length units) (λ x. one_if (offers_one done (ops_at units x))) ≤ total (length units) (λ x. one_if (is_seen seen x)) =
        total_le (length units) _ _ (λ x l. seen_if x l (cases_Bool (offers_one done (ops_at units x))))
        in
        let g : ii * units_for units done ≤ ii * total (length units) (λ x. one_if (is_seen seen x)) = grind arith in
        omega arith,
    s.own,
  )
    where
      seen_if : (x : ℕ) → x < length units → (offers_one done (ops_at units x) ≡ true) ⊎ (offers_one done (ops_at units x) ≡ false) → one_if (offers_one done (ops_at units x)) ≤ one_if (is_seen seen x)
      seen_if x l c =
          ⊎_elim
          (λ t. let (k, d, o) = offers_to done (ops_at units x) t in let e : one_if (is_seen seen x) ≡ 1 = cond-true (is_seen seen x) 1 0 (s.closed k d x l o) in let f : one_if (offers_one done (ops_at units x)) ≡ 1 = cond-true (offers_one done (ops_at units x)) 1 0 t in omega arith)
          (λ t. let f : one_if (offers_one done (ops_at units x)) ≡ 0 = cond-false (offers_one done (ops_at units x)) 1 0 t in omega arith)
          c
