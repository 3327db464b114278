-- Which effect an access is the node of.
use Rattle.std.proofs.Common.{◌≡◌, ℕ, zero, suc, ◌+◌, ◌<◌, ◌≤◌, true, false, List, ◌++◌, length, Contains, Option, Some, None, slice_get, slice_index_or, refl, sym, ap, ◌∙◌, subst, arith, ⊎_elim, length-append}
use Rattle.std.proofs.lemmas.Bool.{cases_eq, cases_lt, true≢false}
use Rattle.std.proofs.lemmas.List.{get_or_append_left}
use Rattle.std.proofs.lemmas.Option.{none-some, same_Some, slice_get-get_or, get_or_from_slice_get}
use Rattle.cg_word.specs.Word.{is_access, is_store}
use Rattle.cg_model.specs.Kernel.{node}
use Rattle.cg_model.specs.Work.{Image}
use Rattle.cg_c_values.specs.declared.value.Value.TheVariants.{Loaded}
use Rattle.cg_c_values.specs.Values.{value_at}
use Rattle.cg_c_forms.specs.Forms.{renamed}
use Rattle.cg_c_turn.specs.declared.effect.Effect.{Effect}
use Rattle.cg_c_turn.specs.declared.effect.Effect.TheVariants.{Load, Store, Send}
use Rattle.cg_c_turn.specs.Draft.{Draft}
use Rattle.cg_c_nodes.specs.Placed.{Computes, IsDone, Placing, Sends, Stores}
use Rattle.cg_c_nodes.specs.Running.{Memories}
use Rattle.cg_c_nodes.proofs.EffectsLoads.{Loads}
use Rattle.cg_c_nodes.proofs.EffectsNodes.{Setting}

module _ {d : Draft} {count : ℕ} {P : Placing} {image : Image} {memories : Memories} {t : ℕ} (s : Setting d count P image memories t) where
  -- the effect whose nodes are around node k
  record IsAround (n k : ℕ) : Type 0 where
    pub effect : ℕ
    pub below : effect < n
    pub from : P.before effect ≤ k
    pub to : k < P.before (suc effect)

  around : (n k : ℕ) → k < P.before n → IsAround n k
  around zero k l = absurd (let z = s.placed.first in omega (arith, z))
  around (suc n) k l =
      ⊎_elim
      (λ (b : k < P.before n). let r = around n k b in record { effect = r.effect; below = (let z = r.below in omega (arith, z)); from = r.from; to = r.to })
      (λ (a : P.before n ≤ k). record { effect = n; below = omega arith; from = a; to = l })
      (cases_lt k (P.before n))

  -- an access is the node of one
  pub record IsNodeOf (n k : ℕ) : Type 0 where
    pub number : ℕ
    pub below : number < n
    pub effect : Effect
    pub at : slice_get d.effects number ≡ Some effect
    pub node_is : P.done number ≡ Some k
    pub done : IsDone P count (P.before number) effect (Some k)

  node_of : (n k : ℕ) → n ≤ length d.effects → (r : IsAround n k) → P.done r.effect ≡ Some k → IsNodeOf n k
  node_of n k l r is =
      let b = r.below in
      let at = slice_get-get_or d.effects r.effect (Send None 0 0) (omega (arith, b, l)) in
      record {
        number = r.effect;
        below = r.below;
        effect = slice_index_or d.effects r.effect (Send None 0 0);
        at = at;
        node_is = is;
        done = subst (IsDone P count (P.before r.effect) (slice_index_or d.effects r.effect (Send None 0 0))) is (s.placed.done r.effect (slice_index_or d.effects r.effect (Send None 0 0)) at);
      }

  no_access : {A : Type 0} (k : ℕ) (r : ℕ) → P.before r ≤ k → k < P.before (suc r) → is_access (node P.kernel k).op ≡ true → (P.done r ≡ Some k → ⊥) → A
  no_access k r a b access other = absurd (true≢false (sym access ∙ (s.placed.quiet r k a b other).no_access))

  done_here : (n k : ℕ) → n ≤ length d.effects → is_access (node P.kernel k).op ≡ true → (r : IsAround n k) → (o : Option ℕ) → P.done r.effect ≡ o → IsNodeOf n k
  done_here n k l access r None e = no_access k r.effect r.from r.to access (λ h. none-some k (sym e ∙ h))
  done_here n k l access r (Some j) e =
      ⊎_elim
      (λ (same : j ≡ k). node_of n k l r (e ∙ ap Some same))
      (λ (other : j ≡ k → ⊥). no_access k r.effect r.from r.to access (λ h. other (same_Some j k (sym e ∙ h))))
      (cases_eq j k)

  pub access_node : (n k : ℕ) → n ≤ length d.effects → k < P.before n → is_access (node P.kernel k).op ≡ true → IsNodeOf n k
  access_node n k l b access = let r = around n k b in done_here n k l access r (P.done r.effect) refl

  -- ---- operations

  store_op : {turns : ℕ} {guard : Option ℕ} {address word k : ℕ} → Stores P turns guard address word k → is_store (node P.kernel k).op ≡ true
  store_op h = ⊎_elim (λ a. ap is_store a.1.is.op_is) (λ g. ap is_store g.3.is.op_is) h.is

  pub send_op : {turns : ℕ} {guard : Option ℕ} {port word k : ℕ} → Sends P turns guard port word k → is_access (node P.kernel k).op ≡ false
  send_op h = ⊎_elim (λ a. ap is_access a.1.is.op_is) (λ g. ap is_access g.3.is.op_is) h.is

  load_op : (k array version address : ℕ) (guard : Option ℕ) → Computes P k (Loaded array version guard address) → (is_access (node P.kernel k).op ≡ true) × (is_store (node P.kernel k).op ≡ false)
  load_op k array version address None one = (ap is_access one.is.op_is, ap is_store one.is.op_is)
  load_op k array version address (Some g) two = (ap is_access two.is.op_is, ap is_store two.is.op_is)

  loads_op : (u k array version address : ℕ) (guard : Option ℕ) → P.at u ≡ Some k → value_at P.new u ≡ Loaded array version guard address → (is_access (node P.kernel k).op ≡ true) × (is_store (node P.kernel k).op ≡ false)
  loads_op u k array version address guard at is = load_op k array version address guard (subst (Computes P k) is (s.placed.values_at u k at).1)

  -- ---- loads

  in_pre : (pre es : List Effect) (i : ℕ) (e : Effect) → d.effects ≡ pre ++ es → i < length pre → slice_get d.effects i ≡ Some e → Contains pre e
  in_pre pre es i e whole l at =
      (i, l, sym (get_or_append_left pre es e i l) ∙ get_or_from_slice_get (pre ++ es) i e e (ap (λ (z : List Effect). slice_get z i) (sym whole) ∙ at))

  loaded_by : (pre es : List Effect) (u k i : ℕ) (e : Effect) → d.effects ≡ pre ++ es → i < length pre → slice_get d.effects i ≡ Some e → P.at u ≡ Some k →
      (is_access (node P.kernel k).op ≡ true) × (is_store (node P.kernel k).op ≡ false) → IsDone P count (P.before i) e (Some k) → Loads P.map pre u
  loaded_by pre es u k i (Load guard array address value place) whole l at here op done =
      record { guard = guard; array = array; address = address; value = value; place = place; there = in_pre pre es i (Load guard array address value place) whole l at; new_is = s.placed.apart (renamed P.map value) u k done here }
  loaded_by pre es u k i (Store guard array address word place) whole l at here op done = absurd (true≢false (sym (store_op done) ∙ op.1))
  loaded_by pre es u k i (Send guard port word) whole l at here op done = absurd (true≢false (sym op.0 ∙ send_op done))

  -- a load's node among the nodes of some effects is that of one of them that loads its value
  pub loaded_before : (pre es : List Effect) (u k array version address : ℕ) (guard : Option ℕ) → d.effects ≡ pre ++ es → P.at u ≡ Some k → value_at P.new u ≡ Loaded array version guard address →
      k < P.before (length pre) → Loads P.map pre u
  loaded_before pre es u k array version address guard whole at is b =
      let op = loads_op u k array version address guard at is in
      let long : length d.effects ≡ length pre + length es = ap length whole ∙ length-append pre es in
      let r = access_node (length pre) k (omega (arith, long)) b op.0 in
      loaded_by pre es u k r.number r.effect whole r.below r.at at op r.done
