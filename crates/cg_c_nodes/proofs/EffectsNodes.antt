-- The nodes of effects in a turn.
use Rattle.std.proofs.Common.{◌≡◌, ℕ, zero, suc, ◌+◌, ◌-◌, ◌<◌, ◌≤◌, ◌⊎◌, inl, inr, nat_lt, eqb, if◌then◌else◌, Bool, true, false, List, [], ◌∷◌, ◌++◌, length, take, Contains, Option, Some, None, slice_get, refl, sym, ap, ◌∙◌, subst, arith, ⊎_elim, append-nil}
use Rattle.std.specs.Prelude.{◌&&◌, ◌==◌, slice_index, slice_set}
use Rattle.std.proofs.lemmas.Bool.{cases_eq, cond-true, eq-eqb, ne_eqb}
use Rattle.std.proofs.lemmas.Option.{get_or_from_slice_get, none-some, same_Some, slice_get_within}
use Rattle.cg_word.specs.declared.op.Op.{Op}
use Rattle.cg_word.specs.declared.op.Op.TheVariants as ops
use Rattle.cg_word.specs.Word.{is_output, is_store}
use Rattle.cg_model.specs.Kernel.{IsKernel, size}
use Rattle.cg_model.specs.Turns.{Progress, after, operand, val}
use Rattle.cg_model.specs.Work.{Image, Work, sent, stored, value, value_by}
use Rattle.cg_c_values.specs.declared.value.Value.{Value}
use Rattle.cg_c_values.specs.declared.value.Value.TheVariants as values
use Rattle.cg_c_values.specs.Values.{Words, Fits, MayStand, holds, value_at}
use Rattle.cg_c_forms.specs.Forms.{IsLoadOf, behind, renamed}
use Rattle.cg_c_meaning.specs.Meaning.{updated}
use Rattle.cg_c_turn.specs.declared.effect.Effect.{Effect}
use Rattle.cg_c_turn.specs.declared.effect.Effect.TheVariants.{Load, Store, Send}
use Rattle.cg_c_turn.specs.Draft.{Draft}
use Rattle.cg_c_turn.specs.Leads.{Outcome, sent_to, stored_at}
use Rattle.cg_c_turn.specs.Stands.{IsFormed, stores_to}
use Rattle.cg_c_nodes.specs.Placed.{IsDone, IsPlaced, One, Placing, Sends, Stores, Three, Two, Computes}
use Rattle.cg_c_nodes.specs.Running.{Memories, ValuesRun}
use Rattle.cg_c_nodes.proofs.EffectsSteps.{Same, at_node, next_node, node_work, one_between, quiet_between, same_after, same_still, sent_none, work_here}

-- a turn in which the values have their words
pub record Setting (d : Draft) (count : ℕ) (P : Placing) (image : Image) (memories : Memories) (t : ℕ) : Type 0 where
  pub formed : IsFormed d
  pub placed : IsPlaced d count P
  pub good : IsKernel P.kernel
  pub run : ValuesRun d P image memories count
  pub below : t < count

-- an effect that is done
abbrev pub done_by : Words → Effect → Outcome → Outcome
done_by E (Load guard array address value place) m = m
done_by E (Store guard array address word place) m = if holds E guard then stored_at m (E address) (E word) else m
done_by E (Send guard port word) m = if holds E guard then sent_to m port (E word) else m

module _ {d : Draft} {count : ℕ} {P : Placing} {image : Image} {memories : Memories} {t : ℕ} (s : Setting d count P image memories t) where
  abbrev pub new_words : Words
  new_words = s.run.word t

  abbrev pub old_words : Words
  old_words = behind (s.run.word t) P.map

  -- before a node of the turn, and what that node does
  abbrev pub at_this : ℕ → Progress
  at_this k = at_node P image s.good.wired t k

  abbrev pub work_this : ℕ → Work
  work_this k = work_here P image s.good.wired t k

  pub in_turn : (s.run.moment t).turn < count
  in_turn = subst (λ z. z < count) (sym (s.run.turn t)) s.below

  pub fits : Fits P.new (s.run.moment t) new_words
  fits = s.run.fits t s.below

  -- ---- what nodes do

  one_work : (m : ℕ) (op : Op) (port a : ℕ) → a < length P.new → One P m op port a →
      work_this m ≡ record { op = op; port = port; turn = t; args = new_words a ∷ [] }
  one_work m op port a l one =
      node_work P image s.good.wired t m op port (one.first ∷ []) one.is
      ∙ ap (λ z. record { op = op; port = port; turn = t; args = z ∷ [] }) (s.run.operand_is t a one.first s.below l one.first_is)

  pub two_work : (m : ℕ) (op : Op) (port a b : ℕ) → a < length P.new → b < length P.new → Two P m op port a b →
      work_this m ≡ record { op = op; port = port; turn = t; args = new_words a ∷ new_words b ∷ [] }
  two_work m op port a b l k two =
      node_work P image s.good.wired t m op port (two.first ∷ two.second ∷ []) two.is
      ∙ ap (λ z. record { op = op; port = port; turn = t; args = z ∷ operand (val P.kernel image) t two.second ∷ [] }) (s.run.operand_is t a two.first s.below l two.first_is)
      ∙ ap (λ z. record { op = op; port = port; turn = t; args = new_words a ∷ z ∷ [] }) (s.run.operand_is t b two.second s.below k two.second_is)

  pub three_work : (m : ℕ) (op : Op) (a b c : ℕ) → a < length P.new → b < length P.new → c < length P.new → Three P m op a b c →
      work_this m ≡ record { op = op; port = 0; turn = t; args = new_words a ∷ new_words b ∷ new_words c ∷ [] }
  three_work m op a b c l k j three =
      node_work P image s.good.wired t m op 0 (three.first ∷ three.second ∷ three.third ∷ []) three.is
      ∙ ap (λ z. record { op = op; port = 0; turn = t; args = z ∷ operand (val P.kernel image) t three.second ∷ operand (val P.kernel image) t three.third ∷ [] }) (s.run.operand_is t a three.first s.below l three.first_is)
      ∙ ap (λ z. record { op = op; port = 0; turn = t; args = new_words a ∷ z ∷ operand (val P.kernel image) t three.third ∷ [] }) (s.run.operand_is t b three.second s.below k three.second_is)
      ∙ ap (λ z. record { op = op; port = 0; turn = t; args = new_words a ∷ new_words b ∷ z ∷ [] }) (s.run.operand_is t c three.third s.below j three.third_is)

  -- ---- where the nodes of effects are

  before_up : (n i : ℕ) → P.before i ≤ P.before (i + n)
  before_up zero i = let e : i ≡ i + zero = omega arith in subst (λ z. P.before i ≤ P.before z) e (let r : P.before i ≤ P.before i = omega arith in r)
  before_up (suc n) i = let e : suc (i + n) ≡ i + suc n = omega arith in let up = before_up n i in let r = s.placed.rising (i + n) in subst (λ z. P.before i ≤ P.before z) e (omega (arith, up, r))

  before_within : (i : ℕ) → i < length d.effects → P.before (suc i) ≤ size P.kernel
  before_within i l =
      let e : suc i + (length d.effects - suc i) ≡ length d.effects = omega arith in
      let up = before_up (length d.effects - suc i) (suc i) in
      let last = s.placed.last in
      let up' : P.before (suc i) ≤ P.before (length d.effects) = subst (λ z. P.before (suc i) ≤ P.before z) e up in
      omega (arith, up', last)

  no_node : (i : ℕ) (m : Outcome) → i < length d.effects → P.done i ≡ None → Same m (at_this (P.before i)) → Same m (at_this (P.before (suc i)))
  no_node i m l none same =
      quiet_between P image s.good.wired t (P.before i) (P.before (suc i)) m (s.placed.rising i) (before_within i l)
      (λ k a b. s.placed.quiet i k a b (λ h. none-some k (sym none ∙ h))) same

  a_node : (i k : ℕ) (m n : Outcome) → i < length d.effects → P.done i ≡ Some k →
      (Same m (at_this k) → Same n (at_this (suc k))) →
      Same m (at_this (P.before i)) → Same n (at_this (P.before (suc i)))
  a_node i k m n l at step same =
      let between = s.placed.between i k at in
      one_between P image s.good.wired t (P.before i) k (P.before (suc i)) m n between.0 between.1 (before_within i l)
      (λ j a b other. s.placed.quiet i j a b (λ h. other (same_Some k j (sym at ∙ h)))) step same

  pub up_to_node : (i k : ℕ) (m : Outcome) → i < length d.effects → P.done i ≡ Some k →
      Same m (at_this (P.before i)) → Same m (at_this k)
  up_to_node i k m l at same =
      let between = s.placed.between i k at in
      let within = before_within i l in
      quiet_between P image s.good.wired t (P.before i) k m between.0 (omega (arith, between.1, within))
      (λ j a b. s.placed.quiet i j a (omega (arith, b, between.1)) (λ h. absurd (let e = same_Some k j (sym at ∙ h) in omega (arith, e, b)))) same

  -- a step whose work is known
  by_work : (k : ℕ) (w : Work) (m n : Outcome) → work_this k ≡ w → n.memory ≡ stored m.memory w → ((port : ℕ) → n.outputs port ≡ m.outputs port ++ sent port w) →
      Same m (at_this k) → Same n (at_this (suc k))
  by_work k w m n e h j same =
      subst (Same n) (sym (next_node P image s.good.wired t k))
      (subst (λ z. Same n (after image z (at_this k))) (sym e) (same_after image w m n (at_this k) same h j))

  still_by_work : (k : ℕ) (w : Work) (m : Outcome) → work_this k ≡ w → is_store w.op ≡ false → is_output w.op ≡ false →
      Same m (at_this k) → Same m (at_this (suc k))
  still_by_work k w m e h j same =
      subst (Same m) (sym (next_node P image s.good.wired t k))
      (subst (λ z. Same m (after image z (at_this k))) (sym e) (same_still image w m (at_this k) h j same))

  -- ---- stores

  stored_if : (b : Bool) (m : Outcome) (a w : ℕ) → (if b then stored_at m a w else m).memory ≡ (if b then slice_set m.memory a w else m.memory)
  stored_if true m a w = refl
  stored_if false m a w = refl

  outputs_if : (b : Bool) (m : Outcome) (a w port : ℕ) → (if b then stored_at m a w else m).outputs port ≡ m.outputs port
  outputs_if true m a w port = refl
  outputs_if false m a w port = refl

  none_sent : (b : Bool) (m : Outcome) (a w : ℕ) (done : Work) → is_output done.op ≡ false → (port : ℕ) → (if b then stored_at m a w else m).outputs port ≡ m.outputs port ++ sent port done
  none_sent b m a w done h port = outputs_if b m a w port ∙ sym (append-nil (m.outputs port)) ∙ ap (λ z. m.outputs port ++ z) (sym (sent_none port done h))

  store_always : (k a w : ℕ) (m : Outcome) (b : Bool) → b ≡ true → a < length P.new → w < length P.new → Two P k ops.Store 0 a w →
      Same m (at_this k) → Same (if b then stored_at m (new_words a) (new_words w) else m) (at_this (suc k))
  unfolding stored
  store_always k a w m b on la lw two =
      by_work k _ m (if b then stored_at m (new_words a) (new_words w) else m) (two_work k ops.Store 0 a w la lw two)
      (stored_if b m (new_words a) (new_words w) ∙ ap (λ z. if z then slice_set m.memory (new_words a) (new_words w) else m.memory) on)
      (none_sent b m (new_words a) (new_words w) _ refl)

  store_guarded : (k g a w : ℕ) (m : Outcome) (b : Bool) → b ≡ nat_lt 0 (new_words g) → g < length P.new → a < length P.new → w < length P.new → Three P k ops.StoreIf g a w →
      Same m (at_this k) → Same (if b then stored_at m (new_words a) (new_words w) else m) (at_this (suc k))
  unfolding stored
  store_guarded k g a w m b on lg la lw three =
      by_work k _ m (if b then stored_at m (new_words a) (new_words w) else m) (three_work k ops.StoreIf g a w lg la lw three)
      (stored_if b m (new_words a) (new_words w) ∙ ap (λ z. if z then slice_set m.memory (new_words a) (new_words w) else m.memory) on)
      (none_sent b m (new_words a) (new_words w) _ refl)

  store_node : (k : ℕ) (guard : Option ℕ) (address word : ℕ) (m : Outcome) → renamed P.map address < length P.new → renamed P.map word < length P.new →
      Stores P count guard (renamed P.map address) (renamed P.map word) k →
      Same m (at_this k) → Same (if holds old_words guard then stored_at m (old_words address) (old_words word) else m) (at_this (suc k))
  store_node k guard address word m la lw stores same =
      ⊎_elim
      (λ h. store_always k (renamed P.map address) (renamed P.map word) m (holds old_words guard) (h.0 (s.run.moment t) new_words fits in_turn) la lw h.1 same)
      (λ h. store_guarded k h.0 (renamed P.map address) (renamed P.map word) m (holds old_words guard) (h.2 (s.run.moment t) new_words fits in_turn) h.1 la lw h.3 same)
      stores.is

  -- ---- outputs

  sent_is : (m : Outcome) (port w at : ℕ) → updated m.outputs port (m.outputs port ++ w ∷ []) at ≡ m.outputs at ++ (if eqb port at then w ∷ [] else [])
  sent_is m port w at =
      ⊎_elim
      (λ (e : port ≡ at).
      subst (λ z. (if z == port then m.outputs port ++ w ∷ [] else m.outputs z) ≡ m.outputs z ++ (if eqb port z then w ∷ [] else [])) e
      (ap (λ (b : Bool). if b then m.outputs port ++ w ∷ [] else m.outputs port) (eq-eqb port port refl) ∙ ap (λ (b : Bool). m.outputs port ++ (if b then w ∷ [] else [])) (sym (eq-eqb port port refl))))
      (λ (e : port ≡ at → ⊥).
      ap (λ (b : Bool). if b then m.outputs port ++ w ∷ [] else m.outputs at) (ne_eqb at port (λ h. e (sym h)))
      ∙ sym (append-nil (m.outputs at))
      ∙ ap (λ (b : Bool). m.outputs at ++ (if b then w ∷ [] else [])) (sym (ne_eqb port at e)))
      (cases_eq port at)

  sent_if : (b : Bool) (m : Outcome) (port w at : ℕ) → (if b then sent_to m port w else m).outputs at ≡ m.outputs at ++ (if b && eqb port at then w ∷ [] else [])
  sent_if true m port w at = sent_is m port w at
  sent_if false m port w at = sym (append-nil (m.outputs at))

  memory_if : (b : Bool) (m : Outcome) (port w : ℕ) → (if b then sent_to m port w else m).memory ≡ m.memory
  memory_if true m port w = refl
  memory_if false m port w = refl

  send_always : (k port w : ℕ) (m : Outcome) (b : Bool) → b ≡ true → w < length P.new → One P k ops.Output port w →
      Same m (at_this k) → Same (if b then sent_to m port (new_words w) else m) (at_this (suc k))
  unfolding stored sent
  send_always k port w m b on lw one =
      by_work k _ m (if b then sent_to m port (new_words w) else m) (one_work k ops.Output port w lw one)
      (memory_if b m port (new_words w))
      (λ at. sent_if b m port (new_words w) at ∙ ap (λ z. m.outputs at ++ (if z && eqb port at then new_words w ∷ [] else [])) on)

  send_guarded : (k g port w : ℕ) (m : Outcome) (b : Bool) → b ≡ nat_lt 0 (new_words g) → g < length P.new → w < length P.new → Two P k ops.OutputIf port g w →
      Same m (at_this k) → Same (if b then sent_to m port (new_words w) else m) (at_this (suc k))
  unfolding stored sent
  send_guarded k g port w m b on lg lw two =
      by_work k _ m (if b then sent_to m port (new_words w) else m) (two_work k ops.OutputIf port g w lg lw two)
      (memory_if b m port (new_words w))
      (λ at. sent_if b m port (new_words w) at ∙ ap (λ z. m.outputs at ++ (if z && eqb port at then new_words w ∷ [] else [])) on)

  send_node : (k : ℕ) (guard : Option ℕ) (port word : ℕ) (m : Outcome) → renamed P.map word < length P.new →
      Sends P count guard port (renamed P.map word) k →
      Same m (at_this k) → Same (if holds old_words guard then sent_to m port (old_words word) else m) (at_this (suc k))
  send_node k guard port word m lw sends same =
      ⊎_elim
      (λ h. send_always k port (renamed P.map word) m (holds old_words guard) (h.0 (s.run.moment t) new_words fits in_turn) lw h.1 same)
      (λ h. send_guarded k h.0 port (renamed P.map word) m (holds old_words guard) (h.2 (s.run.moment t) new_words fits in_turn) h.1 lw h.3 same)
      sends.is

  -- ---- loads

  abbrev pub load_work : Option ℕ → ℕ → Work
  load_work None address = record { op = ops.Load; port = 0; turn = t; args = new_words address ∷ [] }
  load_work (Some g) address = record { op = ops.LoadIf; port = 0; turn = t; args = new_words g ∷ new_words address ∷ [] }

  load_is : (u k array version address : ℕ) (guard : Option ℕ) → u < length P.new → MayStand u (values.Loaded array version guard address) → Computes P k (values.Loaded array version guard address) →
      work_this k ≡ load_work guard address
  load_is u k array version address None l stand one = one_work k ops.Load 0 address (omega (arith, stand.1)) one
  load_is u k array version address (Some g) l stand two = two_work k ops.LoadIf 0 g address (omega (arith, stand.0)) (omega (arith, stand.1)) two

  load_writes : (guard : Option ℕ) (address : ℕ) → (is_store (load_work guard address).op ≡ false) × (is_output (load_work guard address).op ≡ false)
  load_writes None address = (refl, refl)
  load_writes (Some g) address = (refl, refl)

  load_gives : (memory : List ℕ) (guard : Option ℕ) (address : ℕ) → holds new_words guard ≡ true → value image memory (load_work guard address) ≡ slice_index memory (new_words address)
  unfolding value_by
  load_gives memory None address h = refl
  load_gives memory (Some g) address h = cond-true (nat_lt 0 (new_words g)) (slice_index memory (new_words address)) 0 h

  -- the work of a load's node
  pub load_node_work : (u k array version address : ℕ) (guard : Option ℕ) → P.at u ≡ Some k → value_at P.new u ≡ values.Loaded array version guard address → work_this k ≡ load_work guard address
  load_node_work u k array version address guard at is =
      let there = s.placed.values_at u k at in
      load_is u k array version address guard there.0 (subst (MayStand u) is (s.placed.stand u there.0)) (subst (Computes P k) is there.1)

  load_node : (u k array version address : ℕ) (guard : Option ℕ) (m : Outcome) → P.at u ≡ Some k → value_at P.new u ≡ values.Loaded array version guard address →
      Same m (at_this k) → Same m (at_this (suc k))
  load_node u k array version address guard m at is =
      let writes = load_writes guard address in
      still_by_work k (load_work guard address) m (load_node_work u k array version address guard at is) writes.0 writes.1

  pub load_finds : (u k array version address : ℕ) (guard : Option ℕ) → P.at u ≡ Some k → value_at P.new u ≡ values.Loaded array version guard address → holds new_words guard ≡ true →
      new_words u ≡ slice_index (at_this k).memory (new_words address)
  load_finds u k array version address guard at is h =
      s.run.node t u k at
      ∙ ap (value image (at_this k).memory) (load_node_work u k array version address guard at is)
      ∙ load_gives (at_this k).memory guard address h

  -- ---- what has become of loads

  -- the new value of a load is a load, or it never acts
  pub record IsNewLoad (array version : ℕ) (guard : Option ℕ) (address : ℕ) (value : Value) : Type 0 where
    pub new_guard : Option ℕ
    pub is : value ≡ values.Loaded array version new_guard (renamed P.map address)
    pub acts : holds old_words guard ≡ true → holds new_words new_guard ≡ true
    pub may : (holds new_words new_guard ≡ true → holds old_words guard ≡ true) ⊎ ((v : ℕ) × (v < length d.values) × (value_at d.values v ≡ values.Loaded array version None address))

  new_load : (array version address : ℕ) (guard : Option ℕ) (value : Value) → IsLoadOf d.values P.new count P.map array version guard address value →
      IsNewLoad array version guard address value ⊎ (((word : ℕ) × (value ≡ values.Const word)) × (holds old_words guard ≡ false))
  unfolding IsLoadOf
  new_load array version address guard (values.Loaded array' version' guard' address') h =
      inl (record {
        new_guard = guard';
        is = ap (λ z. values.Loaded z version' guard' address') h.0 ∙ ap (λ z. values.Loaded array z guard' address') h.1 ∙ ap (λ z. values.Loaded array version guard' z) h.2;
        acts = λ on. h.3 (s.run.moment t) new_words fits in_turn on;
        may = ⊎_elim (λ back. inl (λ on. back (s.run.moment t) new_words fits in_turn on)) (λ v. inr v) h.4;
      })
  new_load array version address guard (values.Const word) h = inr ((word, refl), h (s.run.moment t) new_words fits in_turn)
  new_load array version address guard values.Turn h = absurd h
  new_load array version address guard (values.Quotient divisor) h = absurd h
  new_load array version address guard (values.Digit divisor radix) h = absurd h
  new_load array version address guard (values.Carried number) h = absurd h
  new_load array version address guard (values.Input port) h = absurd h
  new_load array version address guard (values.Two op a b) h = absurd h
  new_load array version address guard (values.Select a b c) h = absurd h

  pub renewed : (value array version address : ℕ) (guard : Option ℕ) → value < length d.values → value_at d.values value ≡ values.Loaded array version guard address →
      IsNewLoad array version guard address (value_at P.new (renamed P.map value)) ⊎ (((word : ℕ) × (value_at P.new (renamed P.map value) ≡ values.Const word)) × (holds old_words guard ≡ false))
  renewed value array version address guard l is = new_load array version address guard (value_at P.new (renamed P.map value)) (s.placed.renames.loads value array version address guard l is)

  -- ---- one effect

  -- the value of the load that is effect number i
  pub loads_at : (i : ℕ) (guard : Option ℕ) (array address value place : ℕ) → slice_get d.effects i ≡ Some (Load guard array address value place) →
      (value < length d.values) × (value_at d.values value ≡ values.Loaded array (stores_to array (take i d.effects)) guard address)
  loads_at i guard array address value place at =
      let l = slice_get_within d.effects i (Load guard array address value place) at in
      let c : Contains d.effects (Load guard array address value place) = (i, l, get_or_from_slice_get d.effects i (Load guard array address value place) (Load guard array address value place) at) in
      ((s.formed.loads guard array address value place c).within, s.formed.history.numbered i (Load guard array address value place) at)

  effect_by : (i : ℕ) (e : Effect) (m : Outcome) (o : Option ℕ) → slice_get d.effects i ≡ Some e → P.done i ≡ o → IsDone P count (P.before i) e o →
      Same m (at_this (P.before i)) → Same (done_by old_words e m) (at_this (P.before (suc i)))
  effect_by i (Load guard array address value place) m None at o done same = no_node i m (slice_get_within d.effects i _ at) o same
  effect_by i (Load guard array address value place) m (Some k) at o done same =
      let there = loads_at i guard array address value place at in
      ⊎_elim
      (λ (new : IsNewLoad array (stores_to array (take i d.effects)) guard address (value_at P.new (renamed P.map value))).
      a_node i k m m (slice_get_within d.effects i _ at) o (load_node (renamed P.map value) k array (stores_to array (take i d.effects)) (renamed P.map address) new.new_guard m done new.is) same)
      (λ none. absurd (subst (Computes P k) none.0.1 (s.placed.values_at (renamed P.map value) k done).1))
      (renewed value array (stores_to array (take i d.effects)) address guard there.0 there.1)
  effect_by i (Store guard array address word place) m None at o done same =
      subst (λ (b : Bool). Same (if b then stored_at m (old_words address) (old_words word) else m) (at_this (P.before (suc i)))) (sym (done (s.run.moment t) new_words fits in_turn))
      (no_node i m (slice_get_within d.effects i _ at) o same)
  effect_by i (Store guard array address word place) m (Some k) at o done same =
      let uses = s.formed.history.usable i (Store guard array address word place) at in
      a_node i k m (done_by old_words (Store guard array address word place) m) (slice_get_within d.effects i _ at) o
      (store_node k guard address word m (s.placed.renames.within address uses.1.within) (s.placed.renames.within word uses.2.within) done) same
  effect_by i (Send guard port word) m None at o done same =
      subst (λ (b : Bool). Same (if b then sent_to m port (old_words word) else m) (at_this (P.before (suc i)))) (sym (done (s.run.moment t) new_words fits in_turn))
      (no_node i m (slice_get_within d.effects i _ at) o same)
  effect_by i (Send guard port word) m (Some k) at o done same =
      let uses = s.formed.history.usable i (Send guard port word) at in
      a_node i k m (done_by old_words (Send guard port word) m) (slice_get_within d.effects i _ at) o
      (send_node k guard port word m (s.placed.renames.within word uses.1.within) done) same

  pub effect_step : (i : ℕ) (e : Effect) (m : Outcome) → slice_get d.effects i ≡ Some e →
      Same m (at_this (P.before i)) → Same (done_by old_words e m) (at_this (P.before (suc i)))
  effect_step i e m at same = effect_by i e m (P.done i) at refl (s.placed.done i e at) same
