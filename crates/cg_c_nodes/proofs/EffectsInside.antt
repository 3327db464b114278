-- The accesses of a turn are inside their arrays, and so inside the memory.
use Rattle.std.proofs.Common.{◌≡◌, ℕ, zero, suc, ◌+◌, ◌*◌, ◌<◌, ◌≤◌, true, false, List, length, Contains, Option, Some, None, slice_get, refl, sym, ap, ◌∙◌, subst, arith, ⊎_elim}
use Rattle.std.proofs.lemmas.Bool.{and_parts, cases_Bool, cases_lt, cond-false, leb-true, true≢false}
use Rattle.std.proofs.lemmas.Option.{get_or_from_slice_get, slice_get_within}
use Rattle.cg_word.specs.declared.op.Op.TheVariants as ops
use Rattle.cg_word.specs.Word.{is_access}
use Rattle.cg_model.specs.Kernel.{node, size}
use Rattle.cg_model.specs.Turns.{before, turns}
use Rattle.cg_model.specs.Work.{Image, Reaches, Work, address as address_of, misses, missed}
use Rattle.cg_model.proofs.Lengths.{memory_stays}
use Rattle.cg_overlap.proofs.Sequence.{work_is}
use Rattle.cg_c_values.specs.declared.value.Value.TheVariants.{Loaded}
use Rattle.cg_c_values.specs.Values.{IsLoad, holds, value_at}
use Rattle.cg_c_forms.specs.Forms.{renamed}
use Rattle.cg_c_order.specs.declared.access.Access.{Access}
use Rattle.cg_c_turn.specs.declared.effect.Effect.{Effect}
use Rattle.cg_c_turn.specs.declared.effect.Effect.TheVariants.{Load, Store, Send}
use Rattle.cg_c_turn.specs.Draft.{Draft}
use Rattle.cg_c_turn.specs.Leads.{IsInside}
use Rattle.cg_c_turn.specs.Turn.{HasArrays}
use Rattle.cg_c_nodes.specs.Placed.{AreListed, Computes, IsDone, Placing, Stores}
use Rattle.cg_c_nodes.specs.Running.{Memories}
use Rattle.cg_c_nodes.specs.Beside.{AreInside}
use Rattle.cg_c_nodes.proofs.EffectsArrays.{inside_memory}
use Rattle.cg_c_nodes.proofs.EffectsNodes.{IsNewLoad, Setting, at_this, fits, in_turn, load_node_work, load_work, loads_at, new_words, old_words, renewed, three_work, two_work, work_this}
use Rattle.cg_c_nodes.proofs.EffectsPlaces.{access_node, send_op}
use Rattle.cg_c_nodes.proofs.EffectsSteps.{next_node}
use Rattle.cg_c_nodes.proofs.EffectsWalk.{AreIn, same_loaded}

module _ {d : Draft} {count : ℕ} {P : Placing} {image : Image} {memories : Memories} {t : ℕ} (s : Setting d count P image memories t) where
  contains_at : (i : ℕ) (e : Effect) → slice_get d.effects i ≡ Some e → Contains d.effects e
  contains_at i e at = (i, slice_get_within d.effects i e at, get_or_from_slice_get d.effects i e e at)

  -- ---- loads

  load_acts : (guard : Option ℕ) (address a : ℕ) → Reaches (load_work s guard address) a → (holds (new_words s) guard ≡ true) × (new_words s address ≡ a)
  load_acts None address a r = (refl, r.there)
  load_acts (Some g) address a r = (r.acting, r.there)

  -- the turn has the same load without a guard
  inside_other : (v array version address : ℕ) → AreIn d (old_words s) d.effects → v < length d.values → value_at d.values v ≡ Loaded array version None address → IsInside d.arrays array (old_words s address)
  inside_other v array version address inside l is =
      let by = s.formed.history.loaded v l (subst IsLoad (sym is) tt) in
      let same = same_loaded (sym (s.formed.loads by.guard by.array by.address v by.place by.there).is ∙ is) in
      let here = inside (Load by.guard by.array by.address v by.place) by.there (ap (λ (g : Option ℕ). holds (old_words s) g) same.2) in
      subst (λ z. IsInside d.arrays z (old_words s address)) same.0 (subst (λ z. IsInside d.arrays by.array (old_words s z)) same.3 here)

  load_inside : (i k a : ℕ) (guard : Option ℕ) (array address value place : ℕ) → AreIn d (old_words s) d.effects → slice_get d.effects i ≡ Some (Load guard array address value place) →
      P.at (renamed P.map value) ≡ Some k → Reaches (work_this s k) a → IsInside d.arrays array a
  load_inside i k a guard array address value place inside at here reaches =
      let there = loads_at s i guard array address value place at in
      ⊎_elim
      (λ (new : IsNewLoad s array _ guard address (value_at P.new (renamed P.map value))).
      let acts = load_acts new.new_guard (renamed P.map address) a (subst (λ w. Reaches w a) (load_node_work s (renamed P.map value) k array _ (renamed P.map address) new.new_guard here new.is) reaches) in
      subst (IsInside d.arrays array) acts.1
      (⊎_elim
      (λ back. inside (Load guard array address value place) (contains_at i _ at) (back acts.0))
      (λ other. inside_other other.0 array _ address inside other.1 other.2)
      new.may))
      (λ none. absurd (subst (Computes P k) none.0.1 (s.placed.values_at (renamed P.map value) k here).1))
      (renewed s value array _ address guard there.0 there.1)

  -- ---- stores

  store_inside : (i k a : ℕ) (guard : Option ℕ) (array address word place : ℕ) → AreIn d (old_words s) d.effects → slice_get d.effects i ≡ Some (Store guard array address word place) →
      Stores P count guard (renamed P.map address) (renamed P.map word) k → Reaches (work_this s k) a → IsInside d.arrays array a
  store_inside i k a guard array address word place inside at stores reaches =
      let uses = s.formed.history.usable i (Store guard array address word place) at in
      let la = s.placed.renames.within address uses.1.within in
      let lw = s.placed.renames.within word uses.2.within in
      let here = inside (Store guard array address word place) (contains_at i _ at) in
      ⊎_elim
      (λ h.
      let r : Reaches _ a = subst (λ w. Reaches w a) (two_work s k ops.Store 0 (renamed P.map address) (renamed P.map word) la lw h.1) reaches in
      subst (IsInside d.arrays array) r.there (here (h.0 (s.run.moment t) (new_words s) (fits s) (in_turn s))))
      (λ h.
      let r : Reaches _ a = subst (λ w. Reaches w a) (three_work s k ops.StoreIf h.0 (renamed P.map address) (renamed P.map word) h.1 la lw h.3) reaches in
      subst (IsInside d.arrays array) r.there (here (h.2 (s.run.moment t) (new_words s) (fits s) (in_turn s) ∙ r.acting)))
      stores.is

  -- ---- accesses

  abbrev Found : List Access → (k a : ℕ) → Type 0
  Found accesses k a = (access : Access) × Contains accesses access × (access.node ≡ k) × IsInside d.arrays access.array a

  found : (accesses : List Access) (i k a : ℕ) (e : Effect) → AreListed d P accesses → AreIn d (old_words s) d.effects → slice_get d.effects i ≡ Some e → P.done i ≡ Some k → IsDone P count (P.before i) e (Some k) →
      is_access (node P.kernel k).op ≡ true → Reaches (work_this s k) a → Found accesses k a
  found accesses i k a (Load guard array address value place) listed inside at is done access reaches =
      (record { node = k; array = array; stores = false }, listed i k _ _ at is refl, refl, load_inside i k a guard array address value place inside at done reaches)
  found accesses i k a (Store guard array address word place) listed inside at is done access reaches =
      (record { node = k; array = array; stores = true }, listed i k _ _ at is refl, refl, store_inside i k a guard array address word place inside at done reaches)
  found accesses i k a (Send guard port word) listed inside at is done access reaches = absurd (true≢false (sym access ∙ send_op s done))

  pub are_inside : (accesses : List Access) → AreListed d P accesses → AreIn d (old_words s) d.effects → AreInside d P.kernel image accesses t
  are_inside accesses listed inside k a l reaches =
      let access : is_access (node P.kernel k).op ≡ true = ap (λ (w : Work). is_access w.op) (sym (work_is P.kernel image s.good.wired t k l)) ∙ reaches.is in
      ⊎_elim
      (λ (b : k < P.before (length d.effects)).
      let r = access_node s (length d.effects) k (omega arith) b access in
      found accesses r.number k a r.effect listed inside r.at r.node_is r.done access reaches)
      (λ (b : P.before (length d.effects) ≤ k). absurd (true≢false (sym access ∙ (s.placed.quiet_after k b).no_access)))
      (cases_lt k (P.before (length d.effects)))

  -- ---- the memory

  missed_none : (room : ℕ) (w : Work) → ((a : ℕ) → Reaches w a → a < room) → missed room w ≡ 0
  unfolding missed
  missed_none room w h =
      ⊎_elim
      (λ (e : misses room w ≡ true).
      let (is, rest) = and_parts _ _ e in
      let (acting, past) = and_parts _ _ rest in
      let below = h (address_of w.op w.args) (record { is = is; acting = acting; there = refl }) in
      absurd (let z = leb-true room (address_of w.op w.args) past in omega (arith, below, z)))
      (λ (e : misses room w ≡ false). cond-false (misses room w) 1 0 e)
      (cases_Bool (misses room w))

  outside_to : (accesses : List Access) (n : ℕ) → HasArrays d.arrays (turns P.kernel t image).memory → AreInside d P.kernel image accesses t → n ≤ size P.kernel →
      (at_this s n).outside ≡ (at_this s 0).outside
  outside_to accesses zero has inside l = refl
  outside_to accesses (suc n) has inside l =
      let earlier = outside_to accesses n has inside (omega (arith, l)) in
      let room : length (at_this s n).memory ≡ length (turns P.kernel t image).memory = memory_stays P.kernel image (t * size P.kernel + n) ∙ sym (memory_stays P.kernel image (t * size P.kernel)) in
      let none = missed_none (length (at_this s n).memory) (work_this s n)
      (λ a r. let found = inside n a (omega (arith, l)) r in let b = inside_memory d.arrays (turns P.kernel t image).memory found.0.array a has found.3 in omega (arith, b, room)) in
      ap (λ p. p.outside) (next_node P image s.good.wired t n) ∙ omega (arith, none, earlier)

  pub none_outside : (accesses : List Access) → HasArrays d.arrays (turns P.kernel t image).memory → AreInside d P.kernel image accesses t → (turns P.kernel (suc t) image).outside ≡ (turns P.kernel t image).outside
  none_outside accesses has inside =
      ap (λ k. (before P.kernel image k).outside) (let e : suc t * size P.kernel ≡ t * size P.kernel + size P.kernel = omega arith in e)
      ∙ outside_to accesses (size P.kernel) has inside (omega arith)
      ∙ ap (λ k. (before P.kernel image k).outside) (let e : t * size P.kernel + 0 ≡ t * size P.kernel = omega arith in e)
