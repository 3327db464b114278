-- Tables of chains, and those with one edge more.
use Rattle.std.proofs.Common.{◌≡◌, ℕ, ◌+◌, ◌<◌, ◌⊎◌, inl, inr, Bool, true, false, List, [], ◌∷◌, ◌++◌, length, refl, ap, sym, ◌∙◌, subst, arith, ⊎_elim, take, drop, get_or}
use Rattle.std.specs.Prelude.{◌||◌, eqb, replicate}
use Rattle.std.proofs.lemmas.Bool.{eq-eqb, eqb-true}
use Rattle.std.proofs.lemmas.Option.{slice_get-get_or}
use Rattle.std.proofs.Math.Seq.{take-append_seam}
use Rattle.std.proofs.lemmas.List.{get_or-replicate, take_more}
use Rattle.std.proofs.Math.ListN.{length-replicate}
use Rattle.cg_model.specs.declared.kernel.OrderEdge.{OrderEdge}
use Rattle.cg_c_order.specs.Accesses.{edge}
use Rattle.cg_c_order.specs.Chains.{HasEdge, IsAhead, JoinBelow, Leads, LeadsOver, Turns, at_once, by}
use Rattle.cg_c_order.specs.Marks.{AreAfter, AreBefore, AreJoined, IsSquare, IsTable, entry, has}
use Rattle.cg_c_order.proofs.Paths.{ByWay, leads_ahead, leads_join, leads_less, leads_more, leads_split, over_ahead, over_join, over_less, over_more, over_split}
use Rattle.cg_c_order.proofs.Tables.{join_table, or_cases, retable}

or_left : (a b : Bool) → a ≡ true → (a || b) ≡ true
or_left true b e = refl
or_left false b e = absurd (cc)

or_right : (a b : Bool) → b ≡ true → (a || b) ≡ true
or_right true b e = refl
or_right false b e = e

-- the marks of the nodes before one and after one are exact
module _ (n : ℕ) (R : ℕ → ℕ → Type 0) (rows : List (List Bool)) (table : IsTable n R rows) (u : ℕ) (lu : u < n) (marks : List Bool) where
  before_sound : AreBefore rows u marks → (x : ℕ) → x < n → has marks x ≡ true → (x ≡ u) ⊎ R x u
  before_sound b x l e =
      ⊎_elim (λ h. inl (eqb-true x u h)) (λ h. inr (table.sound x u l lu h))
      (or_cases (eqb x u) (entry rows x u) (sym (b.cells x (let s = table.square.long in omega arith)) ∙ e))

  before_complete : AreBefore rows u marks → (x : ℕ) → x < n → (x ≡ u) ⊎ R x u → has marks x ≡ true
  before_complete b x l h =
      b.cells x (let s = table.square.long in omega arith)
      ∙ ⊎_elim (λ e. or_left (eqb x u) (entry rows x u) (eq-eqb x u e)) (λ r. or_right (eqb x u) (entry rows x u) (table.complete x u l lu r)) h

  after_sound : AreAfter rows u marks → (y : ℕ) → y < n → has marks y ≡ true → (u ≡ y) ⊎ R u y
  after_sound b y l e =
      ⊎_elim (λ h. inl (sym (eqb-true y u h))) (λ h. inr (table.sound u y lu l h))
      (or_cases (eqb y u) (entry rows u y) (sym (b.cells y (let s = table.square.wide u lu in omega arith)) ∙ e))

  after_complete : AreAfter rows u marks → (y : ℕ) → y < n → (u ≡ y) ⊎ R u y → has marks y ≡ true
  after_complete b y l h =
      b.cells y (let s = table.square.wide u lu in omega arith)
      ∙ ⊎_elim (λ e. or_left (eqb y u) (entry rows u y) (eq-eqb y u (sym e))) (λ r. or_right (eqb y u) (entry rows u y) (table.complete u y lu l r)) h

-- an edge over a known number of turns
edge_is : (e : OrderEdge) (d : ℕ) → e.distance ≡ d → edge e.from e.to d ≡ e
edge_is e d h = ap (edge e.from e.to) (sym h)

-- ---- chains within a turn

pub near_none : (n : ℕ) → IsTable n (Leads []) (replicate n (replicate n false))
near_none n = record {
  square = record { long = length-replicate n (replicate n false); wide = λ x l. ap length (get_or-replicate n x (replicate n false) [] l) ∙ length-replicate n false };
  sound = λ x y lx ly e. let no_mark : entry (replicate n (replicate n false)) x y ≡ false = unset n x y lx ly in absurd (cc);
  complete = λ x y lx ly c. absurd (no_chain x y c);
} where
  unset : (n x y : ℕ) → x < n → y < n → entry (replicate n (replicate n false)) x y ≡ false
  unset n x y lx ly = ap (λ r. has r y) (get_or-replicate n x (replicate n false) [] lx) ∙ get_or-replicate n y false false ly

  no_edge : (u v d : ℕ) → HasEdge [] u v d → ⊥
  no_edge u v d h = let e = h.1 in cc

  no_chain : (x y : ℕ) → Leads [] x y → ⊥
  no_chain u v (at_once h) = no_edge u v 0 h
  no_chain u w (by v h c) = no_edge u v 0 h

module _ (n : ℕ) (es : List OrderEdge) (e : OrderEdge) (lf : e.from < n) (lt : e.to < n) (near : List (List Bool)) (table : IsTable n (Leads es) near) where
  pub near_same : (e.distance ≡ 0 → ⊥) → IsTable n (Leads (es ++ e ∷ [])) near
  near_same differs = retable n (Leads es) (Leads (es ++ e ∷ [])) near (leads_more es e) (leads_less es e differs) table

  pub near_joined : e.distance ≡ 0 → (sources targets : List Bool) → AreBefore near e.from sources → AreAfter near e.to targets → (near' : List (List Bool)) → AreJoined sources e.to targets near near' → IsTable n (Leads (es ++ e ∷ [])) near'
  near_joined z sources targets b a near' j =
      subst (λ w. IsTable n (Leads (es ++ w ∷ [])) near') (edge_is e 0 z)
      (retable n (λ x y. Leads es x y ⊎ ByWay es e.from e.to x y) (Leads (es ++ edge e.from e.to 0 ∷ [])) near' (leads_join es e.from e.to) (leads_split es e.from e.to)
      (join_table n (Leads es) (λ x. IsAhead es x e.from) (λ y. IsAhead es e.to y) sources e.to targets near near' table j lt
      (before_sound n (Leads es) near table e.from lf sources b) (before_complete n (Leads es) near table e.from lf sources b)
      (after_sound n (Leads es) near table e.to lt targets a) (after_complete n (Leads es) near table e.to lt targets a)
      (λ x y c d. leads_ahead es x e.to y c d)))

-- ---- chains over at most one turn

pub next_none : (n : ℕ) (es : List OrderEdge) (near : List (List Bool)) → IsTable n (Leads es) near → IsTable n (LeadsOver es []) near
next_none n es near table = retable n (Leads es) (LeadsOver es []) near (λ x y c. inl c) (λ x y c. ⊎_elim {C = Leads es x y} (λ h. h) (λ t. absurd (no_turn x y t)) c) table where
  no_turn : (x y : ℕ) → Turns es [] x y → ⊥
  no_turn x y t = let e = t.turn.1 in cc

module _ (n : ℕ) (es turning : List OrderEdge) (e : OrderEdge) (lf : e.from < n) (lt : e.to < n) (near next : List (List Bool)) (table : IsTable n (Leads es) near) (over : IsTable n (LeadsOver es turning) next) where
  pub next_same : (e.distance ≡ 1 → ⊥) → IsTable n (LeadsOver es (turning ++ e ∷ [])) next
  next_same differs = retable n (LeadsOver es turning) (LeadsOver es (turning ++ e ∷ [])) next (over_more es turning e) (over_less es turning e differs) over

  pub next_joined : e.distance ≡ 1 → (sources targets : List Bool) → AreBefore near e.from sources → AreAfter near e.to targets → (next' : List (List Bool)) → AreJoined sources e.to targets next next' → IsTable n (LeadsOver es (turning ++ e ∷ [])) next'
  next_joined z sources targets b a next' j =
      subst (λ w. IsTable n (LeadsOver es (turning ++ w ∷ [])) next') (edge_is e 1 z)
      (retable n (λ x y. LeadsOver es turning x y ⊎ ByWay es e.from e.to x y) (LeadsOver es (turning ++ edge e.from e.to 1 ∷ [])) next' (over_join es turning e.from e.to) (over_split es turning e.from e.to)
      (join_table n (LeadsOver es turning) (λ x. IsAhead es x e.from) (λ y. IsAhead es e.to y) sources e.to targets next next' over j lt
      (before_sound n (Leads es) near table e.from lf sources b) (before_complete n (Leads es) near table e.from lf sources b)
      (after_sound n (Leads es) near table e.to lt targets a) (after_complete n (Leads es) near table e.to lt targets a)
      (λ x y c d. over_ahead es turning x e.to y c d)))

-- ---- edge by edge

-- rows as they are written back into the `Vec` that was lent
pub written_back : (len : ℕ) (rows new : List (List Bool)) → len ≡ length rows → length new ≡ length rows → take len (new ++ drop (length new) rows) ≡ new
written_back len rows new e long = let m : len ≡ length new = omega arith in rw m (take-append_seam new (drop (length new) rows))

module _ (es : List OrderEdge) (k : ℕ) (d : OrderEdge) (lk : k < length es) (len : ℕ) (rows lent new : List (List Bool)) (el : lent ≡ rows) (en : len ≡ length rows) (long : length new ≡ length lent) where
  all_written : take len (new ++ drop (length new) rows) ≡ new
  all_written = written_back len rows new en (long ∙ ap length el)

  pub square_step : (n : ℕ) → IsSquare n new → IsSquare n (take len (new ++ drop (length new) rows))
  square_step n s = subst (IsSquare n) (sym all_written) s

  pub near_step : (n : ℕ) → IsTable n (Leads (take k es)) rows →
      ((fs : List OrderEdge) → IsTable (length lent) (Leads fs) lent → IsTable (length lent) (Leads (fs ++ get_or es k d ∷ [])) new) →
      IsTable n (Leads (take (k + 1) es)) (take len (new ++ drop (length new) rows))
  near_step n t add =
      let m : length lent ≡ n = ap length el ∙ t.square.long in
      let t' : IsTable (length lent) (Leads (take k es)) lent = subst (λ z. IsTable z (Leads (take k es)) lent) (sym m) (subst (IsTable n (Leads (take k es))) (sym el) t) in
      let u : IsTable n (Leads (take k es ++ get_or es k d ∷ [])) new = subst (λ z. IsTable z (Leads (take k es ++ get_or es k d ∷ [])) new) m (add (take k es) t') in
      subst (IsTable n (Leads (take (k + 1) es))) (sym all_written) (subst (λ z. IsTable n (Leads z) new) (sym (take_more es k d lk)) u)

  pub next_step : (n : ℕ) (fs : List OrderEdge) → IsTable n (LeadsOver fs (take k es)) rows →
      ((turning : List OrderEdge) → IsTable n (LeadsOver fs turning) lent → IsTable n (LeadsOver fs (turning ++ get_or es k d ∷ [])) new) →
      IsTable n (LeadsOver fs (take (k + 1) es)) (take len (new ++ drop (length new) rows))
  next_step n fs t add =
      let u : IsTable n (LeadsOver fs (take k es ++ get_or es k d ∷ [])) new = add (take k es) (subst (IsTable n (LeadsOver fs (take k es))) (sym el) t) in
      subst (IsTable n (LeadsOver fs (take (k + 1) es))) (sym all_written) (subst (λ z. IsTable n (LeadsOver fs z) new) (sym (take_more es k d lk)) u)

-- an edge of a list joins nodes
pub joined_at : (n : ℕ) (es : List OrderEdge) (k : ℕ) (d : OrderEdge) → JoinBelow n es → k < length es → ((get_or es k d).from < n) × ((get_or es k d).to < n)
joined_at n es k d join l = join k (get_or es k d) (slice_get-get_or es k d l)
