-- A store to an array.
use Rattle.std.proofs.Common.{◌≡◌, ℕ, zero, suc, ◌+◌, ◌<◌, ◌≤◌, ◌==◌, if◌then◌else◌, Bool, true, false, List, [], ◌∷◌, ◌++◌, length, Contains, Option, Some, None, slice_set, refl, sym, ap, ap₂, ◌∙◌, arith, subst, add-zero, inl, inr, ne_eqb, ⊎_elim}
use Rattle.std.proofs.lemmas.Bool.{cases_lt, eq-eqb}
use Rattle.std.proofs.lemmas.List.{get_or-set_other, get_or-set_same, length-set}
use Rattle.std.proofs.lemmas.List.Elements.{Contains-append_cases, Contains-get_or}
use Rattle.cg_c_check.specs.Arrays.{size_of}
use Rattle.cg_c_values.specs.declared.value.Value.{Value}
use Rattle.cg_c_values.specs.declared.value.Value.TheVariants.{Loaded}
use Rattle.cg_c_values.specs.Values.{Moment, Words, holds, value_at}
use Rattle.cg_c_values.proofs.Known.{keeps}
use Rattle.cg_c_meaning.specs.Meaning.{State, Context, stored}
use Rattle.cg_c_meaning.specs.Typed.{IsArray, table_in}
use Rattle.cg_c_turn.specs.Draft.{Draft, Effect, Latest, Load, Send, Store, latest_in}
use Rattle.cg_c_turn.specs.Leads.{IsInside, Leads, Outcome, stored_at}
use Rattle.cg_c_turn.specs.Stands.{Does, IsDone, IsFormed, IsFresh, IsSound, IsStoredBelow, Matches, stores_to}
use Rattle.cg_c_turn.specs.Stores.{Stores}
use Rattle.cg_c_turn.proofs.Doing.{by_guard, not_both, same_end}
use Rattle.cg_c_turn.proofs.History.{history_after}
use Rattle.cg_c_turn.proofs.Prefixes.{extends_same}
use Rattle.cg_c_turn.proofs.StoreApart.{elsewhere_kept, fresh_kept, other_address, room_kept, tables_kept}

-- ---- the number of stores

at_most_one : (b : Bool) → (if b then 1 else 0) ≤ 1
at_most_one true = omega arith
at_most_one false = omega arith

pub stores_counted : (array : ℕ) (es : List Effect) → stores_to array es ≤ length es
stores_counted array [] = omega arith
stores_counted array (Load guard of address value place ∷ es) = let n = stores_counted array es in omega (arith, n)
stores_counted array (Store guard of address word place ∷ es) = let n = stores_counted array es in let m = at_most_one (of == array) in omega (arith, n, m)
stores_counted array (Send guard port word ∷ es) = let n = stores_counted array es in omega (arith, n)

-- ---- the draft behind the store

abbrev pub latest_now : Draft → (address word version : ℕ) → Latest
latest_now d address word version = record { version = version; stored = Some (record { guard = d.guard; address = address; word = word }) }

abbrev pub with_store : Draft → (array address word place version : ℕ) → Draft
with_store d array address word place version = record d { effects = d.effects ++ Store d.guard array address word place ∷ []; latest = slice_set d.latest array (latest_now d address word version) }

-- what is known before it
pub record Before (d : Draft) (array address word version : ℕ) : Type 0 where
  pub formed : IsFormed d
  pub there : IsArray d.arrays array
  pub no_table : table_in d.arrays array ≡ None
  pub address_in : address < length d.values
  pub word_in : word < length d.values
  pub next : version ≡ (latest_in d array).version + 1

by_place : {A : Type 0} (n array : ℕ) → (n ≡ array → A) → ((n ≡ array → ⊥) → A) → A
by_place n array same other =
    ⊎_elim (λ (less : n < array). other (λ e. absurd (omega (arith, less, e))))
    (λ (least : array ≤ n). ⊎_elim (λ (more : array < n). other (λ e. absurd (omega (arith, more, e)))) (λ (most : n ≤ array). same (omega (arith, least, most))) (cases_lt array n))
    (cases_lt n array)

latest_same : (d : Draft) (array address word place version n : ℕ) → Before d array address word version → n ≡ array → latest_in (with_store d array address word place version) n ≡ latest_now d address word version
latest_same d array address word place version n b e =
    let l = b.formed.latest in
    ap (λ k. latest_in (with_store d array address word place version) k) e
    ∙ get_or-set_same d.latest array (latest_now d address word version) (record { version = 0; stored = None }) (omega (arith, l, b.there))

latest_other : (d : Draft) (array address word place version n : ℕ) → (n ≡ array → ⊥) → latest_in (with_store d array address word place version) n ≡ latest_in d n
latest_other d array address word place version n apart = get_or-set_other d.latest array n (latest_now d address word version) (record { version = 0; stored = None }) apart

-- what was last stored to an array is as it was, or it is this store
latest_by : (d : Draft) (array address word place version n : ℕ) (P : Latest → Type 0) → Before d array address word version → (n ≡ array → P (latest_now d address word version)) → ((n ≡ array → ⊥) → P (latest_in d n)) → P (latest_in (with_store d array address word place version) n)
latest_by d array address word place version n P b same other =
    by_place n array (λ e. subst P (sym (latest_same d array address word place version n b e)) (same e)) (λ apart. subst P (sym (latest_other d array address word place version n apart)) (other apart))

-- ---- effects

other_effect : (es : List Effect) (guard g : Option ℕ) (of at word here array address value place : ℕ) → Contains (es ++ Store guard of at word here ∷ []) (Load g array address value place) → Contains es (Load g array address value place)
other_effect es guard g of at word here array address value place h =
    elim (Contains-append_cases es (Store guard of at word here ∷ []) (Load g array address value place) h) [
      | inl there ↦ there
      | inr last ↦ not_here last
    ]
  where
    not_here : Contains (Store guard of at word here ∷ []) (Load g array address value place) → Contains es (Load g array address value place)
    not_here (zero, lt, is) = absurd (cc)
    not_here (suc k, lt, is) = absurd (omega (arith, lt))

counts_same : (n array version old : ℕ) → n ≡ array → version ≡ old + 1 → (guard : Option ℕ) (address word place : ℕ) → version ≡ old + stores_to n (Store guard array address word place ∷ [])
counts_same n array version old e next guard address word place = next ∙ sym (ap (λ (b : Bool). old + ((if b then 1 else 0) + 0)) (eq-eqb array n (sym e)))

counts_other : (n array old : ℕ) → (n ≡ array → ⊥) → (guard : Option ℕ) (address word place : ℕ) → old ≡ old + stores_to n (Store guard array address word place ∷ [])
counts_other n array old apart guard address word place = sym (ap (λ (b : Bool). old + ((if b then 1 else 0) + 0)) (ne_eqb array n (λ e. apart (sym e))) ∙ add-zero old)

pub store_formed : (d : Draft) (array address word place version : ℕ) → Before d array address word version → IsFormed (with_store d array address word place version)
store_formed d array address word place version b =
    let f = b.formed in
    let now = latest_now d address word version in
    record {
      arranged = f.arranged;
      counters = f.counters;
      guard = f.guard;
      words = f.words;
      latest = length-set d.latest array now ∙ f.latest;
      stored = λ n. latest_by d array address word place version n (λ z. IsStoredBelow (length d.values) z.stored) b (λ e. (f.guard, b.address_in, b.word_in)) (λ apart. f.stored n);
      loads = λ g of at value here h.
          let l = f.loads g of at value here (other_effect d.effects d.guard g array address word place of at value here h) in
          record {
            version = l.version;
            within = l.within;
            is = l.is;
            so_far = latest_by d array address word place version of (λ z. l.version ≤ z.version) b
                (λ e. let old = l.so_far in let same = ap (λ k. (latest_in d k).version) e in let next = b.next in omega (arith, old, same, next))
                (λ apart. l.so_far);
          };
      history = history_after d (with_store d array address word place version) (Store d.guard array address word place) refl (keeps (extends_same d.values))
          (λ n. latest_by d array address word place version n (λ z. z.version ≡ (latest_in d n).version + stores_to n (Store d.guard array address word place ∷ [])) b
          (λ e. counts_same n array version (latest_in d n).version e (b.next ∙ ap (λ k. (latest_in d k).version + 1) (sym e)) d.guard address word place)
          (λ apart. counts_other n array (latest_in d n).version apart d.guard address word place))
          (λ u from l h. absurd (omega (arith, from, l))) tt (f.guard, b.address_in, b.word_in) f.history;
    }

-- ---- what is sound

abbrev version_in : Value → ℕ
version_in (Loaded array version guard address) = version
version_in _ = 0

-- a load since the last store to its array is of another array
record OfAnother (d : Draft) (array of at value : ℕ) (g : Option ℕ) : Type 0 where
  apart : of ≡ array → ⊥
  is : value_at d.values value ≡ Loaded of (latest_in d of).version g at

of_another : (d : Draft) (array address word place version of at value here : ℕ) (g : Option ℕ) → Before d array address word version → Contains d.effects (Load g of at value here)
    → value_at d.values value ≡ Loaded of (latest_in (with_store d array address word place version) of).version g at → OfAnother d array of at value g
of_another d array address word place version of at value here g b there is =
    let l = b.formed.loads g of at value here there in
    let same : l.version ≡ (latest_in (with_store d array address word place version) of).version = ap version_in (sym l.is ∙ is) in
    let apart : of ≡ array → ⊥ = λ e.
    let now = ap (λ (z : Latest). z.version) (latest_same d array address word place version of b e) in
    let old = l.so_far in
    let at_array = ap (λ k. (latest_in d k).version) e in
    let next = b.next in
    absurd (omega (arith, same, now, old, at_array, next)) in
    record { apart = apart; is = is ∙ ap (λ (z : Latest). Loaded of z.version g at) (latest_other d array address word place version of apart) }

-- where nothing is stored
sound_idle : (d : Draft) (array address word place version : ℕ) (E : Words) (m : Outcome) → Before d array address word version → holds E d.guard ≡ false → IsSound d E m → IsSound (with_store d array address word place version) E m
sound_idle d array address word place version E m b off s =
    record {
      room = s.room;
      tables = s.tables;
      loaded = λ g of at value here h is holding.
          let there = other_effect d.effects d.guard g array address word place of at value here h in
          s.loaded g of at value here there (of_another d array address word place version of at value here g b there is).is holding;
      stored = λ n. latest_by d array address word place version n (λ z. IsFresh d.arrays E m.memory n z.stored) b (λ e. λ holding. not_both (holds E d.guard) off holding) (λ apart. s.stored n);
    }

-- where the word is stored
sound_stored : (d : Draft) (array address word place version : ℕ) (E : Words) (m : Outcome) → Before d array address word version → IsInside d.arrays array (E address) → IsSound d E m → IsSound (with_store d array address word place version) E (stored_at m (E address) (E word))
sound_stored d array address word place version E m b inside s =
    let arranged = b.formed.arranged in
    record {
      room = λ a there. room_kept m.memory (E address) (E word) (a.start + size_of a.dimensions) (s.room a there);
      tables = λ a there. tables_kept d.arrays m.memory (E address) (E word) array a arranged inside b.no_table there (s.tables a there);
      loaded = λ g of at value here h is holding.
          let there = other_effect d.effects d.guard g array address word place of at value here h in
          let other = of_another d array address word place version of at value here g b there is in
          let found = s.loaded g of at value here there other.is holding in
          (found.0, found.1 ∙ elsewhere_kept m.memory (E address) (E word) (E at) (other_address d.arrays of array (E at) (E address) arranged other.apart found.0 inside));
      stored = λ n. latest_by d array address word place version n (λ z. IsFresh d.arrays E (slice_set m.memory (E address) (E word)) n z.stored) b
          (λ e. λ holding. (subst (λ k. IsInside d.arrays k (E address)) (sym e) inside, sym (get_or-set_same m.memory (E address) (E word) 0 within)))
          (λ apart. fresh_kept d.arrays E m.memory (E address) (E word) array n (latest_in d n).stored arranged inside apart (s.stored n));
    }
  where
    within : E address < length m.memory
    within = let room = s.room _ (Contains-get_or d.arrays array (record { name = []; dimensions = []; start = 0; table = None }) inside.there) in omega (arith, inside.below, room)

-- ---- the store

abbrev Given : Draft → (array address word at w : ℕ) → Words → Type 0
Given d array address word at w E = (E address ≡ at) × IsInside d.arrays array at × (E word ≡ w)

inside_of : (d : Draft) (array address word at w : ℕ) (E : Words) → Given d array address word at w E → IsInside d.arrays array (E address)
inside_of d array address word at w E g = subst (λ z. IsInside d.arrays array z) (sym g.0) g.1

matches_stored : (d : Draft) (array address word place version at w : ℕ) (x : Moment) (E : Words) (m : Outcome) (c : Context) (end : State) → Given d array address word at w E → Does d x E m c (stored at w) [] end → Matches (with_store d array address word place version) x E (stored_at m (E address) (E word)) c end
matches_stored d array address word place version at w x E m c end g run =
    subst (λ (z : State). Matches (with_store d array address word place version) x E (stored_at m (E address) (E word)) c z) (same_end _ end run.runs)
    (record {
      arrays = run.matches.arrays;
      streams = run.matches.streams;
      memory = ap (λ (z : List ℕ). slice_set z at w) run.matches.memory ∙ ap₂ (λ y z. slice_set m.memory y z) (sym g.0) (sym g.2);
      outputs = run.matches.outputs;
      words = run.matches.words;
      counters = run.matches.counters;
      loops = run.matches.loops;
    })

store_done : (d : Draft) (array address word place version at w : ℕ) (x : Moment) (E : Words) (m : Outcome) (c : Context) (end : State) → Before d array address word version → IsSound d E m → (holds E d.guard ≡ true → Given d array address word at w E × Does d x E m c (stored at w) [] end)
    → IsDone (with_store d array address word place version) x E m c end (if holds E d.guard then stored_at m (E address) (E word) else m)
store_done d array address word place version at w x E m c end b s does =
    by_guard (holds E d.guard)
    (λ on.
    let known = does on in
    subst (λ (z : Bool). IsDone (with_store d array address word place version) x E m c end (if z then stored_at m (E address) (E word) else m)) (sym on)
    (record { sound = sound_stored d array address word place version E m b (inside_of d array address word at w E known.0) s; idle = λ off. not_both (holds E d.guard) off on; matches = λ h. matches_stored d array address word place version at w x E m c end known.0 known.1 }))
    (λ off.
    subst (λ (z : Bool). IsDone (with_store d array address word place version) x E m c end (if z then stored_at m (E address) (E word) else m)) (sym off)
    (record { sound = sound_idle d array address word place version E m b off s; idle = λ h. refl; matches = λ on. not_both (holds E d.guard) off on }))

pub stores : (d : Draft) (array address word place version : ℕ) → Before d array address word version → Stores d (with_store d array address word place version) (Store d.guard array address word place ∷ []) array address word
unfolding Leads
stores d array address word place version b =
    record {
      performs = λ at w. record {
        grows = record { arrays = refl; counters = refl; guard = refl; values = keeps (extends_same d.values); effects = refl; initial = λ n h. refl };
        formed = store_formed d array address word place version b;
        leads = λ x E m c end r s does. (λ on. inside_of d array address word at w E (does on).0, store_done d array address word place version at w x E m c end b s does);
      };
      initial = refl;
      silent = refl;
    }
