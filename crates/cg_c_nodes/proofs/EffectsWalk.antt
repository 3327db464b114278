-- The effects of a turn, one after another.
use Rattle.std.proofs.Common.{◌≡◌, ℕ, zero, suc, ◌+◌, ◌*◌, ◌<◌, ◌≤◌, ◌==◌, ◌⊎◌, if◌then◌else◌, Bool, true, false, List, [], ◌∷◌, ◌++◌, length, take, Contains, Option, Some, None, slice_get, slice_index, refl, sym, ap, ◌∙◌, subst, arith, ⊎_elim, append-nil, append_assoc, length-append}
use Rattle.std.proofs.Math.Seq.{get_or-append_seam, take-append_seam}
use Rattle.std.proofs.lemmas.Bool.{cases_eq, eq-eqb, ne_eqb, true≢false}
use Rattle.std.proofs.lemmas.List.{get_or-set_other}
use Rattle.std.proofs.lemmas.Option.{slice_get-get_or, slice_get_within}
use Rattle.std.proofs.lemmas.List.Elements.{Contains-push}
use Rattle.cg_model.specs.Kernel.{size}
use Rattle.cg_model.specs.Turns.{before}
use Rattle.cg_model.specs.Work.{Image}
use Rattle.cg_c_values.specs.declared.value.Value.TheVariants.{Const, Loaded}
use Rattle.cg_c_values.specs.Values.{Words, holds, value_at}
use Rattle.cg_c_forms.specs.Forms.{renamed}
use Rattle.cg_c_turn.proofs.History.{stores_one_more}
use Rattle.cg_c_turn.specs.declared.effect.Effect.{Effect}
use Rattle.cg_c_turn.specs.declared.effect.Effect.TheVariants.{Load, Store, Send}
use Rattle.cg_c_turn.specs.Draft.{Draft}
use Rattle.cg_c_turn.specs.Leads.{IsInside, Leads, Outcome, sent_to, stored_at}
use Rattle.cg_c_turn.specs.Stands.{stores_to}
use Rattle.cg_c_nodes.specs.Placed.{IsDone, Placing}
use Rattle.cg_c_nodes.specs.Beside.{LeadTo, Whatever, outcome}
use Rattle.cg_c_turn.proofs.StoreApart.{one_array}
use Rattle.cg_c_nodes.proofs.EffectsLoads.{AreBefore, Loads, loads_cases, loads_none, loads_or_before, first, first_here, memories_of}
use Rattle.cg_c_nodes.proofs.EffectsNodes.{IsNewLoad, Setting, at_this, done_by, effect_step, load_finds, loads_at, new_words, old_words, renewed, up_to_node}
use Rattle.cg_c_nodes.proofs.EffectsPlaces.{loaded_before}
use Rattle.cg_c_nodes.proofs.EffectsSteps.{Same, quiet_between}

-- what was loaded since the last store to its array is what the memory has
pub record Fresh (d : Draft) (P : Placing) (E : Words) (pre : List Effect) (memory : List ℕ) : Type 0 where
  pub bound : (u array version address : ℕ) (guard : Option ℕ) → Loads P.map pre u → value_at P.new u ≡ Loaded array version guard address → version ≤ stores_to array pre
  pub word : (u array version address : ℕ) (guard : Option ℕ) → Loads P.map pre u → value_at P.new u ≡ Loaded array version guard address → version ≡ stores_to array pre →
      holds E guard ≡ true → IsInside d.arrays array (E address) → E u ≡ slice_index memory (E address)

-- an access that acts is inside its array
abbrev pub IsIn : Draft → Words → Effect → Type 0
IsIn d E (Load guard array address value place) = holds E guard ≡ true → IsInside d.arrays array (E address)
IsIn d E (Store guard array address word place) = holds E guard ≡ true → IsInside d.arrays array (E address)
IsIn d E (Send guard port word) = Unit {0}

abbrev pub AreIn : Draft → Words → List Effect → Type 0
AreIn d E es = (e : Effect) → Contains es e → IsIn d E e

are_in : (d : Draft) (E : Words) (e : Effect) (es : List Effect) → IsIn d E e → AreIn d E es → AreIn d E (e ∷ es)
are_in d E e es h k f (zero, l, is) = subst (IsIn d E) is h
are_in d E e es h k f (suc n, l, is) = k f (n, (let z : n < length es = omega (arith, l) in z), is)

-- the place of the next effect
at_seam : (pre es : List Effect) (e : Effect) → slice_get (pre ++ e ∷ es) (length pre) ≡ Some e
at_seam pre es e =
    let long = length-append pre (e ∷ es) in
    slice_get-get_or (pre ++ e ∷ es) (length pre) e (omega (arith, long)) ∙ ap Some (get_or-append_seam pre e es e)

pub same_loaded : {a b v w c e : ℕ} {g h : Option ℕ} → Loaded a v g c ≡ Loaded b w h e → (a ≡ b) × (v ≡ w) × (g ≡ h) × (c ≡ e)
same_loaded h = ((cc), (cc), (cc), (cc))

this_value : {g h : Option ℕ} {a b c e v w p q : ℕ} → Load g a c v p ≡ Load h b e w q → v ≡ w
this_value h = cc

no_load : {A : Type 0} {g h : Option ℕ} {a b c e v w p q : ℕ} → Store g a c v p ≡ Load h b e w q → A
no_load h = absurd (cc)

no_load_sent : {A : Type 0} {g h : Option ℕ} {a b e v w q : ℕ} → Send g a v ≡ Load h b e w q → A
no_load_sent h = absurd (cc)

no_constant : {A : Type 0} {a v c w : ℕ} {g : Option ℕ} → Loaded a v g c ≡ Const w → A
no_constant h = absurd (cc)

-- another word than the stored one
stored_other : (b : Bool) (m : Outcome) (a w k : ℕ) → (b ≡ true → k ≡ a → ⊥) → slice_index (if b then stored_at m a w else m).memory k ≡ slice_index m.memory k
stored_other true m a w k h = get_or-set_other m.memory a k w 0 (h refl)
stored_other false m a w k h = refl

sent_memory : (b : Bool) (m : Outcome) (port w : ℕ) → (if b then sent_to m port w else m).memory ≡ m.memory
sent_memory true m port w = refl
sent_memory false m port w = refl

module _ {d : Draft} {count : ℕ} {P : Placing} {image : Image} {t : ℕ} (s : Setting d count P image (memories_of d P image) t) where
  fresh_none : (memory : List ℕ) → Fresh d P (new_words s) [] memory
  fresh_none memory = record {
    bound = λ u array version address guard h. loads_none P.map u h;
    word = λ u array version address guard h. loads_none P.map u h;
  }

  -- ---- loads

  -- the effect between those before and those after it
  this_pre : (pre es : List Effect) (e : Effect) → d.effects ≡ pre ++ e ∷ es → take (length pre) d.effects ≡ pre
  this_pre pre es e whole = ap (take (length pre)) whole ∙ take-append_seam pre (e ∷ es)

  this_at : (pre es : List Effect) (e : Effect) → d.effects ≡ pre ++ e ∷ es → slice_get d.effects (length pre) ≡ Some e
  this_at pre es e whole = ap (λ (es : List Effect). slice_get es (length pre)) whole ∙ at_seam pre es e

  this_renewed : (pre es : List Effect) (guard : Option ℕ) (array address value place : ℕ) → d.effects ≡ pre ++ Load guard array address value place ∷ es →
      IsNewLoad s array (stores_to array pre) guard address (value_at P.new (renamed P.map value)) ⊎ (((word : ℕ) × (value_at P.new (renamed P.map value) ≡ Const word)) × (holds (old_words s) guard ≡ false))
  this_renewed pre es guard array address value place whole =
      let there = loads_at s (length pre) guard array address value place (this_at pre es _ whole) in
      renewed s value array (stores_to array pre) address guard there.0 (there.1 ∙ ap (λ (es : List Effect). Loaded array (stores_to array es) guard address) (this_pre pre es _ whole))

  -- its new value names its array, and as many stores as there were
  this_load : (pre es : List Effect) (guard : Option ℕ) (array address value place : ℕ) → d.effects ≡ pre ++ Load guard array address value place ∷ es →
      (array' version' address' : ℕ) (guard' : Option ℕ) → value_at P.new (renamed P.map value) ≡ Loaded array' version' guard' address' → (array' ≡ array) × (version' ≡ stores_to array pre)
  this_load pre es guard array address value place whole array' version' address' guard' is =
      ⊎_elim
      (λ (new : IsNewLoad s array (stores_to array pre) guard address (value_at P.new (renamed P.map value))). let same = same_loaded (sym is ∙ new.is) in (same.0, same.1))
      (λ none. no_constant (sym is ∙ none.0.1))
      (this_renewed pre es guard array address value place whole)

  -- a load finds its word, unless one of the same value did before
  found_by : (pre es : List Effect) (value : ℕ) (guard : Option ℕ) (array address place : ℕ) (m : Outcome) → d.effects ≡ pre ++ Load guard array address value place ∷ es →
      Same m (at_this s (P.before (length pre))) → Fresh d P (new_words s) pre m.memory →
      (array' version' address' : ℕ) (guard' : Option ℕ) → value_at P.new (renamed P.map value) ≡ Loaded array' version' guard' address' → version' ≡ stores_to array' pre →
      holds (new_words s) guard' ≡ true → IsInside d.arrays array' (new_words s address') →
      length pre < length d.effects → first P.map (renamed P.map value) d.effects ≡ length pre → (o at : Option ℕ) → P.done (length pre) ≡ o → P.at (renamed P.map value) ≡ at →
      IsDone P count (P.before (length pre)) (Load guard array address value place) o →
      new_words s (renamed P.map value) ≡ slice_index m.memory (new_words s address')
  found_by pre es value guard array address place m whole same fresh array' version' address' guard' is numbered on inside l here (Some k) at o a done =
      load_finds s (renamed P.map value) k array' version' address' guard' done is on ∙ ap (λ (z : List ℕ). slice_index z (new_words s address')) (sym (up_to_node s (length pre) k m l o same).memory)
  found_by pre es value guard array address place m whole same fresh array' version' address' guard' is numbered on inside l here None (Some k) o a done =
      fresh.word (renamed P.map value) array' version' address' guard' (loaded_before s pre (Load guard array address value place ∷ es) (renamed P.map value) k array' version' address' guard' whole a is (done k a)) is numbered on inside
  found_by pre es value guard array address place m whole same fresh array' version' address' guard' is numbered on inside l here None None o a done =
      s.run.loaded t (renamed P.map value) array' version' address' guard' (s.placed.renames.within value (loads_at s (length pre) guard array address value place (this_at pre es _ whole)).0) is a
      ∙ ap (λ (i : ℕ). slice_index (at_this s (P.before i)).memory (new_words s address')) here
      ∙ ap (λ (z : List ℕ). slice_index z (new_words s address')) (sym same.memory)

  found : (pre es : List Effect) (guard : Option ℕ) (array address value place : ℕ) (m : Outcome) → d.effects ≡ pre ++ Load guard array address value place ∷ es →
      Same m (at_this s (P.before (length pre))) → Fresh d P (new_words s) pre m.memory →
      (array' version' address' : ℕ) (guard' : Option ℕ) → value_at P.new (renamed P.map value) ≡ Loaded array' version' guard' address' → version' ≡ stores_to array' pre →
      holds (new_words s) guard' ≡ true → IsInside d.arrays array' (new_words s address') →
      new_words s (renamed P.map value) ≡ slice_index m.memory (new_words s address')
  found pre es guard array address value place m whole same fresh array' version' address' guard' is numbered on inside =
      let u = renamed P.map value in
      let l : length pre < length d.effects = slice_get_within d.effects (length pre) _ (this_at pre es _ whole) in
      ⊎_elim
      (λ (loads : Loads P.map pre u). fresh.word u array' version' address' guard' loads is numbered on inside)
      (λ (before : AreBefore P.map pre u).
      let here : first P.map u d.effects ≡ length pre = ap (first P.map u) whole ∙ before (Load guard array address value place ∷ es) ∙ (let z = first_here P.map u guard array address value place es refl in omega (arith, z)) in
      found_by pre es value guard array address place m whole same fresh array' version' address' guard' is numbered on inside l here (P.done (length pre)) (P.at u) refl refl (s.placed.done (length pre) _ (this_at pre es _ whole)))
      (loads_or_before P.map pre u)

  fresh_load : (pre es : List Effect) (guard : Option ℕ) (array address value place : ℕ) (m : Outcome) → d.effects ≡ pre ++ Load guard array address value place ∷ es →
      Same m (at_this s (P.before (length pre))) → Fresh d P (new_words s) pre m.memory →
      Fresh d P (new_words s) (pre ++ Load guard array address value place ∷ []) m.memory
  fresh_load pre es guard array address value place m whole same fresh = record {
    bound = λ u array' version' address' guard' h is.
        let more = stores_one_more array' pre (Load guard array address value place ∷ []) in
        ⊎_elim
        (λ (old : Loads P.map pre u). let b = fresh.bound u array' version' address' guard' old is in omega (arith, b, more))
        (λ new.
        let this = this_load pre es guard array address value place whole array' version' address' guard' (ap (value_at P.new) (ap (renamed P.map) (this_value new.5) ∙ new.6) ∙ is) in
        let b : version' ≡ stores_to array' pre = this.1 ∙ ap (λ z. stores_to z pre) (sym this.0) in
        omega (arith, b, more))
        (loads_cases P.map pre (Load guard array address value place) u h);
    word = λ u array' version' address' guard' h is numbered on inside.
        let more = stores_one_more array' pre (Load guard array address value place ∷ []) in
        let numbered' : version' ≡ stores_to array' pre = omega (arith, more, numbered) in
        ⊎_elim
        (λ (old : Loads P.map pre u). fresh.word u array' version' address' guard' old is numbered' on inside)
        (λ new.
        let e : renamed P.map value ≡ u = ap (renamed P.map) (this_value new.5) ∙ new.6 in
        subst (λ z. new_words s z ≡ slice_index m.memory (new_words s address')) e
        (found pre es guard array address value place m whole same fresh array' version' address' guard' (ap (value_at P.new) e ∙ is) numbered' on inside))
        (loads_cases P.map pre (Load guard array address value place) u h);
  }

  -- ---- stores

  fresh_store : (pre : List Effect) (guard : Option ℕ) (array address word place : ℕ) (m : Outcome) →
      (holds (old_words s) guard ≡ true → IsInside d.arrays array (old_words s address)) → Fresh d P (new_words s) pre m.memory →
      Fresh d P (new_words s) (pre ++ Store guard array address word place ∷ []) (if holds (old_words s) guard then stored_at m (old_words s address) (old_words s word) else m).memory
  fresh_store pre guard array address word place m inside fresh = record {
    bound = λ u array' version' address' guard' h is.
        let more = stores_one_more array' pre (Store guard array address word place ∷ []) in
        ⊎_elim
        (λ (old : Loads P.map pre u). let b = fresh.bound u array' version' address' guard' old is in omega (arith, b, more))
        (λ new. no_load new.5)
        (loads_cases P.map pre (Store guard array address word place) u h);
    word = λ u array' version' address' guard' h is numbered on there.
        let more = stores_one_more array' pre (Store guard array address word place ∷ []) in
        ⊎_elim
        (λ (old : Loads P.map pre u).
        let b = fresh.bound u array' version' address' guard' old is in
        ⊎_elim
        (λ (e : array ≡ array'). let one : ◌≡◌ {A = ℕ} (if array == array' then 1 else 0) 1 = ap (λ (z : Bool). if z then 1 else 0) (eq-eqb array array' e) in absurd (omega (arith, more, numbered, b, one)))
        (λ (e : array ≡ array' → ⊥).
        let none : ◌≡◌ {A = ℕ} (if array == array' then 1 else 0) 0 = ap (λ (z : Bool). if z then 1 else 0) (ne_eqb array array' e) in
        let numbered' : version' ≡ stores_to array' pre = omega (arith, more, numbered, none) in
        fresh.word u array' version' address' guard' old is numbered' on there
        ∙ sym (stored_other (holds (old_words s) guard) m (old_words s address) (old_words s word) (new_words s address')
        (λ h same. e (one_array d.arrays array array' (old_words s address) s.formed.arranged (inside h) (subst (IsInside d.arrays array') same there)))))
        (cases_eq array array'))
        (λ new. no_load new.5)
        (loads_cases P.map pre (Store guard array address word place) u h);
  }

  -- ---- outputs

  fresh_send : (pre : List Effect) (guard : Option ℕ) (port word : ℕ) (m : Outcome) → Fresh d P (new_words s) pre m.memory →
      Fresh d P (new_words s) (pre ++ Send guard port word ∷ []) (if holds (old_words s) guard then sent_to m port (old_words s word) else m).memory
  fresh_send pre guard port word m fresh = record {
    bound = λ u array' version' address' guard' h is.
        let more = stores_one_more array' pre (Send guard port word ∷ []) in
        ⊎_elim
        (λ (old : Loads P.map pre u). let b = fresh.bound u array' version' address' guard' old is in omega (arith, b, more))
        (λ new. no_load_sent new.5)
        (loads_cases P.map pre (Send guard port word) u h);
    word = λ u array' version' address' guard' h is numbered on there.
        let more = stores_one_more array' pre (Send guard port word ∷ []) in
        let numbered' : version' ≡ stores_to array' pre = omega (arith, more, numbered) in
        ⊎_elim
        (λ (old : Loads P.map pre u).
        fresh.word u array' version' address' guard' old is numbered' on there
        ∙ ap (λ (z : List ℕ). slice_index z (new_words s address')) (sym (sent_memory (holds (old_words s) guard) m port (old_words s word))))
        (λ new. no_load_sent new.5)
        (loads_cases P.map pre (Send guard port word) u h);
  }

  -- ---- the walk

  pub record Walked (es : List Effect) (m : Outcome) : Type 0 where
    pub leads : LeadTo (old_words s) es m (outcome P.kernel image (suc t))
    pub inside : AreIn d (old_words s) es

  walk_end : (pre : List Effect) (m : Outcome) → d.effects ≡ pre ++ [] → Same m (at_this s (P.before (length pre))) → Walked [] m
  unfolding LeadTo
  walk_end pre m whole same =
      let long : length pre ≡ length d.effects = sym (ap length (whole ∙ append-nil pre)) in
      let last : Same m (at_this s (P.before (length d.effects))) = subst (λ i. Same m (at_this s (P.before i))) long same in
      let end = quiet_between P image s.good.wired t (P.before (length d.effects)) (size P.kernel) m s.placed.last (omega arith) (λ k a b. s.placed.quiet_after k a) last in
      let next : Same m (before P.kernel image (suc t * size P.kernel)) = subst (λ k. Same m (before P.kernel image k)) (let e : t * size P.kernel + size P.kernel ≡ suc t * size P.kernel = omega arith in e) end in
      record { leads = (sym next.memory, λ port. sym (next.outputs port)); inside = λ e c. absurd (let b : c.0 < 0 = c.1 in omega (arith, b)) }

  found_old : (pre es : List Effect) (guard : Option ℕ) (array address value place : ℕ) (m : Outcome) → d.effects ≡ pre ++ Load guard array address value place ∷ es →
      Fresh d P (new_words s) (pre ++ Load guard array address value place ∷ []) m.memory → (holds (old_words s) guard ≡ true → IsInside d.arrays array (old_words s address)) →
      holds (old_words s) guard ≡ true → old_words s value ≡ slice_index m.memory (old_words s address)
  found_old pre es guard array address value place m whole fresh inside on =
      let more = stores_one_more array pre (Load guard array address value place ∷ []) in
      ⊎_elim
      (λ (new : IsNewLoad s array (stores_to array pre) guard address (value_at P.new (renamed P.map value))).
      fresh.word (renamed P.map value) array (stores_to array pre) (renamed P.map address) new.new_guard
      (record { guard = guard; array = array; address = address; value = value; place = place; there = Contains-push pre (Load guard array address value place); new_is = refl })
      new.is (omega (arith, more)) (new.acts on) (inside on))
      (λ none. absurd (true≢false (sym on ∙ none.1)))
      (this_renewed pre es guard array address value place whole)

  -- the next effect is done
  next_same : (pre es : List Effect) (e : Effect) (m : Outcome) → d.effects ≡ pre ++ e ∷ es → Same m (at_this s (P.before (length pre))) →
      Same (done_by (old_words s) e m) (at_this s (P.before (length (pre ++ e ∷ []))))
  next_same pre es e m whole same =
      let long : suc (length pre) ≡ length (pre ++ e ∷ []) = let r = length-append pre (e ∷ []) in omega (arith, r) in
      subst (λ i. Same (done_by (old_words s) e m) (at_this s (P.before i))) long
      (effect_step s (length pre) e m (this_at pre es e whole) same)

  next_whole : (pre es : List Effect) (e : Effect) → d.effects ≡ pre ++ e ∷ es → d.effects ≡ (pre ++ e ∷ []) ++ es
  next_whole pre es e whole = whole ∙ sym (append_assoc pre (e ∷ []) es)

  pub walk : (pre es : List Effect) (m : Outcome) → d.effects ≡ pre ++ es → Same m (at_this s (P.before (length pre))) →
      Fresh d P (new_words s) pre m.memory → Leads d.arrays (old_words s) es m Whatever → Walked es m
  unfolding LeadTo Leads
  walk pre [] m whole same fresh leads = walk_end pre m whole same
  walk pre (Load guard array address value place ∷ es) m whole same fresh leads =
      let fresh' = fresh_load pre es guard array address value place m whole same fresh in
      let finds = found_old pre es guard array address value place m whole fresh' leads.0 in
      let rest = walk (pre ++ Load guard array address value place ∷ []) es m (next_whole pre es _ whole) (next_same pre es _ m whole same) fresh' (leads.1 finds) in
      record { leads = (finds, rest.leads); inside = are_in d (old_words s) (Load guard array address value place) es leads.0 rest.inside }
  walk pre (Store guard array address word place ∷ es) m whole same fresh leads =
      let rest = walk (pre ++ Store guard array address word place ∷ []) es (if holds (old_words s) guard then stored_at m (old_words s address) (old_words s word) else m) (next_whole pre es _ whole) (next_same pre es (Store guard array address word place) m whole same) (fresh_store pre guard array address word place m leads.0 fresh) leads.1 in
      record { leads = rest.leads; inside = are_in d (old_words s) (Store guard array address word place) es leads.0 rest.inside }
  walk pre (Send guard port word ∷ es) m whole same fresh leads =
      let rest = walk (pre ++ Send guard port word ∷ []) es (if holds (old_words s) guard then sent_to m port (old_words s word) else m) (next_whole pre es _ whole) (next_same pre es (Send guard port word) m whole same) (fresh_send pre guard port word m fresh) leads in
      record { leads = rest.leads; inside = are_in d (old_words s) (Send guard port word) es tt rest.inside }

  begun : Same (outcome P.kernel image t) (at_this s (P.before 0))
  begun =
      let e : t * size P.kernel ≡ t * size P.kernel + P.before 0 = let z = s.placed.first in omega (arith, z) in
      subst (λ k. Same (outcome P.kernel image t) (before P.kernel image k)) e (let r : Same (outcome P.kernel image t) (before P.kernel image (t * size P.kernel)) = record { memory = refl; outputs = λ port. refl } in r)

  pub walked : Leads d.arrays (old_words s) d.effects (outcome P.kernel image t) Whatever → Walked d.effects (outcome P.kernel image t)
  walked leads = walk [] d.effects (outcome P.kernel image t) refl begun (fresh_none (outcome P.kernel image t).memory) leads
