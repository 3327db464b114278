-- All turns of a program, and the order of their accesses.
use Rattle.std.proofs.Common.{◌≡◌, ℕ, zero, suc, ◌+◌, ◌*◌, ◌/◌, ◌%◌, ◌<◌, ◌≤◌, ◌⊎◌, inl, inr, ◌&&◌, ◌||◌, Bool, true, false, List, map, Contains, Option, Some, None, refl, sym, ap, ap₂, ◌∙◌, subst, arith, add_comm, eq-eqb, true≢false, mul-zero, ⊎_elim}
use Rattle.std.proofs.lemmas.Bool.{cases_lt}
use Rattle.std.proofs.lemmas.Nat.{le-div}
use Rattle.std.proofs.Math.Nat.{div-mul-le_self, mod-add-div', mod-lt, mul-le-mul_right}
use Rattle.std.proofs.lemmas.Option.{same_Some, none-some}
use Rattle.std.specs.List.{range_with_len}
use Rattle.cg_word.specs.Word.{is_store}
use Rattle.cg_model.specs.Kernel.{Kernel, node, size}
use Rattle.cg_model.specs.Limits.{port_count}
use Rattle.cg_model.specs.Order.{Chain, IsOrdered, IsUnaliased}
use Rattle.cg_model.specs.Turns.{work}
use Rattle.cg_model.specs.Work.{Image, Reaches}
use Rattle.cg_model.proofs.Elements.{map_same}
use Rattle.cg_c_check.specs.Program.{Program}
use Rattle.cg_c_meaning.specs.Meaning.{Holds, State, Run, beginning, c_left, context_of, left_by, repeated}
use Rattle.cg_c_meaning.specs.Turns.{turn, turns_of}
use Rattle.cg_c_meaning.specs.Typed.{IsTyped}
use Rattle.cg_c_meaning.proofs.Nesting.{turns_call}
use Rattle.cg_c_order.specs.declared.access.Access.{Access}
use Rattle.cg_c_order.specs.Accesses.{AreOrdered}
use Rattle.cg_c_turn.specs.Draft.{Draft}
use Rattle.cg_c_turn.specs.Leads.{IsInside}
use Rattle.cg_c_turn.specs.Turn.{Turns}
use Rattle.cg_c_turn.proofs.Doing.{same_end, split}
use Rattle.cg_c_turn.proofs.StoreApart.{one_array}
use Rattle.cg_c_nodes.specs.Beside.{DoesTurn, RunsBeside}
use Rattle.cg_c_nodes.specs.Compiled.{AreTrue, DoesProgram}
use Rattle.cg_c_nodes.proofs.CompiledTurns.{IsBehind, begins, does_turn, one_turn}

-- ---- runs

abbrev Step : Type 0
Step = Run (Unit {0})

-- one of the turns of a run
record At (run : ℕ → Step) (start : State) (t : ℕ) : Type 0 where
  before : State
  after : State
  is : repeated t run start ≡ Some (tt, before)
  runs : run t before ≡ Some (tt, after)

turn_of_run : (run : ℕ → Step) (start end : State) (n : ℕ) → repeated n run start ≡ Some (tt, end) → (t : ℕ) → t < n → At run start t
unfolding repeated
turn_of_run run start end zero h t lt = absurd (omega (arith, lt))
turn_of_run run start end (suc n) h t lt =
    let parts = split (repeated n run start) (λ _. run n) end h in
    ⊎_elim
    (λ (less : t < n). turn_of_run run start parts.middle n parts.before t less)
    (λ (more : n ≤ t).
    let same : n ≡ t = omega (arith, more, lt) in
    subst (λ k. At run start k) same (record { before = parts.middle; after = end; is = parts.before; runs = parts.after }))
    (cases_lt t n)

-- ---- order

div_rises : (k l s : ℕ) → 0 < s → k ≤ l → k / s ≤ l / s
div_rises k l s some h = let d = div-mul-le_self k s in le-div (k / s) l s some (omega (arith, d, h))

-- a step is that of a node in a turn
step_is : (k s : ℕ) → k ≡ k / s * s + k % s
step_is k s = sym (mod-add-div' k s) ∙ add_comm (k % s) (k / s * s)

-- of two steps the one of the smaller node is in an earlier turn, or the other way round
turn_before : (k l s : ℕ) → 0 < s → k < l → l % s ≤ k % s → k / s < l / s
turn_before k l s some lt nodes =
    ⊎_elim (λ (less : k / s < l / s). less)
    (λ (more : l / s ≤ k / s).
    let rises = div_rises k l s some (omega (arith, lt)) in
    let same : k / s ≡ l / s = omega (arith, more, rises) in
    let e : k / s * s ≡ l / s * s = ap (λ z. z * s) same in
    let a = step_is k s in
    let c = step_is l s in
    absurd (omega (arith, e, a, c, lt, nodes)))
    (cases_lt (k / s) (l / s))

either_or : (a b : Bool) → (a ≡ true) ⊎ (b ≡ true) → (a || b) ≡ true
either_or true b h = refl
either_or false b h = ⊎_elim (λ (e : false ≡ true). absurd (true≢false (sym e))) (λ (e : b ≡ true). e) h

other_way : (a b : Bool) → (a || b) ≡ true → (b || a) ≡ true
other_way true true h = refl
other_way true false h = refl
other_way false true h = refl
other_way false false h = h

-- the accesses of two steps to one array, of which one stores, are ordered
steps_ordered : (K : Kernel) (accesses : List Access) (k l : ℕ) (x y : Access) → 0 < size K → AreOrdered accesses K → Contains accesses x → Contains accesses y → x.node ≡ k % size K → y.node ≡ l % size K → x.array ≡ y.array → (x.stores || y.stores) ≡ true → k < l → IsOrdered K (k % size K) (k / size K) (l % size K) (l / size K)
steps_ordered K accesses k l x y some ordered in_x in_y x_is y_is same stores lt =
    ⊎_elim
    (λ (less : k % size K < l % size K).
    let w = ordered.forth x y in_x in_y (ap₂ (λ (s t : Bool). s && t) (eq-eqb x.array y.array same) stores) (subst (λ n. n < y.node) (sym x_is) (subst (λ n. k % size K < n) (sym y_is) less)) in
    let rises = div_rises k l (size K) some (omega (arith, lt)) in
    let few = w.2 in
    inr (w.0, subst (λ n. Chain K (k % size K) n w.0) y_is (subst (λ n. Chain K n y.node w.0) x_is w.1), omega (arith, rises, few)))
    (λ (no_less : l % size K ≤ k % size K).
    let turn = turn_before k l (size K) some lt no_less in
    ⊎_elim
    (λ (more : l % size K < k % size K).
    let w = ordered.back y x in_y in_x (ap₂ (λ (s t : Bool). s && t) (eq-eqb y.array x.array (sym same)) (other_way x.stores y.stores stores)) (subst (λ n. n < x.node) (sym y_is) (subst (λ n. l % size K < n) (sym x_is) more)) in
    let few = w.2 in
    inr (w.0, subst (λ n. Chain K (k % size K) n w.0) y_is (subst (λ n. Chain K n y.node w.0) x_is w.1), omega (arith, turn, few)))
    (λ (no_more : k % size K ≤ l % size K). inl (omega (arith, no_less, no_more), turn))
    (cases_lt (l % size K) (k % size K)))
    (cases_lt (k % size K) (l % size K))

has_nodes : (s n l : ℕ) → l < n * s → 0 < s
has_nodes zero n l h = let e = mul-zero n in absurd (omega (arith, h, e))
has_nodes (suc s) n l h = omega arith

turn_below : (k s n : ℕ) → 0 < s → k < n * s → k / s < n
turn_below k s n some h =
    ⊎_elim (λ (less : k / s < n). less)
    (λ (more : n ≤ k / s). let d = div-mul-le_self k s in let m = mul-le-mul_right s more in absurd (omega (arith, h, d, m)))
    (cases_lt (k / s) n)

module _ (p : Program) (d : Draft) (K : Kernel) (accesses : List Access) (image left : Image) (typed : IsTyped p) (does : Turns p d) (b : RunsBeside d K image accesses (turns_of p.levels)) (holding : Holds p image) where
  abbrev run : ℕ → Step
  run t = turn (context_of p image) p.levels p.body t

  behind : (t : ℕ) → t ≤ turns_of p.levels → (s : State) → repeated t run (beginning image) ≡ Some (tt, s) → IsBehind p d K image accesses b t s
  unfolding repeated
  behind zero le s h = subst (λ (z : State). IsBehind p d K image accesses b 0 z) (same_end (beginning image) s h) (begins p d K image accesses typed does b holding)
  behind (suc t) le s h =
      let parts = split (repeated t run (beginning image)) (λ _. run t) s h in
      one_turn p d K image accesses typed does b t parts.middle s (omega (arith, le)) (behind t (omega (arith, le)) parts.middle parts.before) parts.after

  module _ (end : State) (ran : repeated (turns_of p.levels) run (beginning image) ≡ Some (tt, end)) where
    each : (t : ℕ) → t < turns_of p.levels → DoesTurn d K image accesses t (b.words t)
    each t lt =
        let a = turn_of_run run (beginning image) end (turns_of p.levels) ran t lt in
        does_turn p d K image accesses typed does b t a.before a.after lt (behind t (omega (arith, lt)) a.before a.is) a.runs

    unaliased : AreTrue K accesses → AreOrdered accesses K → IsUnaliased K (turns_of p.levels) image
    unaliased true_of ordered a k l within lt below first second stores =
        let some = has_nodes (size K) (turns_of p.levels) l below in
        let x = reached a k some (omega (arith, lt, below)) first in
        let y = reached a l some below second in
        steps_ordered K accesses k l x.0 y.0 some ordered x.1 y.1 x.2 y.2 (one_array d.arrays x.0.array y.0.array a does.formed.arranged x.3 y.3)
        (either_or x.0.stores y.0.stores (⊎_elim (λ (h : is_store (work K image k).op ≡ true). inl (true_of x.0 x.1 ∙ ap (λ n. is_store (node K n).op) x.2 ∙ h)) (λ (h : is_store (work K image l).op ≡ true). inr (true_of y.0 y.1 ∙ ap (λ n. is_store (node K n).op) y.2 ∙ h)) stores)) lt
      where
        reached : (a k : ℕ) → 0 < size K → k < turns_of p.levels * size K → Reaches (work K image k) a → (x : Access) × Contains accesses x × (x.node ≡ k % size K) × IsInside d.arrays x.array a
        reached a k some below reach =
            (each (k / size K) (turn_below k (size K) (turns_of p.levels) some below)).inside (k % size K) a (mod-lt k some) (subst (λ n. Reaches (work K image n) a) (step_is k (size K)) reach)

    pub leaves : left ≡ record { memory = end.memory; streams = map end.outputs (range_with_len 0 port_count) } → AreTrue K accesses → AreOrdered accesses K → DoesProgram p K image left
    leaves is true_of ordered =
        let h = behind (turns_of p.levels) (omega arith) end ran in
        record {
          leaves = ap₂ (λ (m : List ℕ) (z : List (List ℕ)). record { memory = m; streams = z }) (sym h.memory) (sym (map_same _ _ (range_with_len 0 port_count) (λ q x there. h.outputs x))) ∙ sym is;
          outside = h.outside;
          unaliased = unaliased true_of ordered;
        }

-- a run that left something came to its end
pub came_to_end : (p : Program) (image left : Image) → IsTyped p → c_left p image ≡ Some left → (end : State) × (repeated (turns_of p.levels) (λ t. turn (context_of p image) p.levels p.body t) (beginning image) ≡ Some (tt, end)) × (left ≡ record { memory = end.memory; streams = map end.outputs (range_with_len 0 port_count) })
came_to_end p image left typed h = by (repeated (turns_of p.levels) (λ t. turn (context_of p image) p.levels p.body t) (beginning image)) refl (turns_call p image typed.iterates ∙ h)
  where
    by : (o : Option (Unit {0} × State)) → repeated (turns_of p.levels) (λ t. turn (context_of p image) p.levels p.body t) (beginning image) ≡ o → left_by o ≡ Some left → (end : State) × (repeated (turns_of p.levels) (λ t. turn (context_of p image) p.levels p.body t) (beginning image) ≡ Some (tt, end)) × (left ≡ record { memory = end.memory; streams = map end.outputs (range_with_len 0 port_count) })
    by None e h = absurd (none-some _ h)
    by (Some r) e h = (r.1, e, sym (same_Some _ _ h))
