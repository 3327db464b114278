-- Words that are loaded from arrays.
use Rattle.std.proofs.Common.{◌≡◌, ℕ, zero, suc, ◌+◌, ◌-◌, ◌<◌, ◌≤◌, true, List, [], ◌∷◌, ◌++◌, length, Contains, Option, Some, None, get_or, slice_index, refl, sym, ap, ap₂, ◌∙◌, arith, subst, inl, inr}
use Rattle.std.proofs.lemmas.Option.{get_or_from_slice_get, slice_get_read}
use Rattle.std.proofs.lemmas.List.Elements.{Contains-append_cases}
use Rattle.std.specs.List.{HoldsAt}
use Rattle.std.specs.Option.{IfSome, MatchOption, option_copied}
use denote.Bor.{Bor}
use Rattle.cg_c_check.specs.declared.program.Array.{Array}
use Rattle.cg_c_values.specs.declared.value.Value.{Value}
use Rattle.cg_c_values.specs.declared.value.Value.TheVariants.{Const, Loaded}
use Rattle.cg_c_values.specs.Values.{Moment, Words, Fits, Extends, Inserts, Keeps, holds, value_at}
use Rattle.cg_c_values.proofs.Known.{inserts_keep}
use Rattle.cg_c_meaning.specs.Meaning.{loaded}
use Rattle.cg_c_turn.specs.Draft.{Draft, Effect, Load, Store, Send, Latest, Stored, assigned_in, latest_in}
use Rattle.cg_c_turn.specs.Leads.{Outcome, Leads, IsInside}
use Rattle.cg_c_turn.specs.Stands.{HasTable, IsFormed, IsFresh, IsLoadOf, IsLoadedBy, IsSound}
use Rattle.cg_c_turn.specs.Pieces.{IsFound, Loads}
use Rattle.cg_c_turn.proofs.Growing.{below_on, fits_back, sound_on, steps_with, stored_on}
use Rattle.cg_c_turn.proofs.History.{history_after}
use Rattle.cg_c_turn.proofs.Yielding.{yields_pure}
use Rattle.cg_c_turn.proofs.Operating.{const_is}
use Rattle.cg_c_turn.proofs.Leaves.{with_values, result_of}

-- a word that is known needs no load
pub loads_found : (a : Draft) (vs : List Value) (array address v : ℕ) (word : Words → ℕ) → IsFormed a → Extends a.values vs → v < length vs → IsFound a address word → ((x : Moment) (E : Words) → Fits vs x E → E v ≡ word E) → Loads a (with_values a vs) [] array address v
loads_found a vs array address v word f kept within found is = record {
  steps = steps_with a vs f kept;
  within = within;
  yields = λ at. yields_pure a (with_values a vs) (λ E. (E address ≡ at) × IsInside a.arrays array at) (λ c. loaded at) [] (λ E w. E v ≡ w) f (steps_with a vs f kept)
      (λ x E m c s t w runs sound holding h matches ready goes.
      is x E runs.fits ∙ found.is x E m (fits_back a.values vs x E kept runs.fits) sound holding
      ∙ ap₂ slice_index (sym matches.memory) h.0 ∙ ap result_of goes);
}

-- ---- what is known

fresh_is : (arrays : List Array) (E : Words) (memory : List ℕ) (array address : ℕ) (o : Option Stored) (s : Stored) → o ≡ Some s → s.address ≡ address → holds E s.guard ≡ true → IsFresh arrays E memory array o → E s.word ≡ slice_index memory (E address)
fresh_is arrays E memory array address o s e at holding h =
    let g : IsFresh arrays E memory array (Some s) = subst (IsFresh arrays E memory array) e h in
    (g holding).1 ∙ ap (λ z. slice_index memory (E z)) at

pub stored_found : (a : Draft) (array address : ℕ) (s : Stored) → (latest_in a array).stored ≡ Some s → s.address ≡ address → ((E : Words) → holds E a.guard ≡ true → holds E s.guard ≡ true) → IsFound a address (λ E. E s.word)
stored_found a array address s e at covers = record {
  is = λ x E m fits sound holding. fresh_is a.arrays E m.memory array address (latest_in a array).stored s e at (covers E holding) (sound.stored array);
}

pub load_found : (a : Draft) (guard : Option ℕ) (array address value place : ℕ) → Contains a.effects (Load guard array address value place) → value_at a.values value ≡ Loaded array (latest_in a array).version guard address → ((E : Words) → holds E a.guard ≡ true → holds E guard ≡ true) → IsFound a address (λ E. E value)
load_found a guard array address value place there is covers = record {
  is = λ x E m fits sound holding. (sound.loaded guard array address value place there is (covers E holding)).1;
}

-- ---- a new load

abbrev LoadIn : List Array → Words → List ℕ → Effect → Type 0
LoadIn arrays E memory (Load guard array address value place) = holds E guard ≡ true → IsInside arrays array (E address) × (E value ≡ slice_index memory (E address))
LoadIn arrays E memory (Store guard array address word place) = Unit {0}
LoadIn arrays E memory (Send guard port word) = Unit {0}

abbrev LoadOf : Draft → Effect → Type 0
LoadOf d (Load guard array address value place) = IsLoadOf d guard array address value
LoadOf d (Store guard array address word place) = Unit {0}
LoadOf d (Send guard port word) = Unit {0}

contains_one : (e f : Effect) → Contains (e ∷ []) f → e ≡ f
contains_one e f (zero, h, is) = is
contains_one e f (suc k, h, is) = absurd (omega arith)

abbrev pub with_load : Draft → List Value → Effect → Draft
with_load a vs e = record a { values = vs; effects = a.effects ++ e ∷ [] }

load_formed : (a : Draft) (vs : List Value) (array address v place : ℕ) → IsFormed a → address < length a.values → Inserts a.values vs (Loaded array (latest_in a array).version a.guard address) → ((u : ℕ) → length a.values ≤ u → u < length vs → u ≡ v) → v < length vs → value_at vs v ≡ Loaded array (latest_in a array).version a.guard address → IsFormed (with_load a vs (Load a.guard array address v place))
load_formed a vs array address v place f below kept single within is =
    let new = Load a.guard array address v place in
    let d = with_load a vs new in
    let one : LoadOf d new = record { version = (latest_in a array).version; within = within; is = is; so_far = omega arith } in
    record {
      arranged = f.arranged;
      counters = λ u h. omega (arith, f.counters u h, kept.longer);
      guard = below_on (length a.values) (length vs) a.guard kept.longer f.guard;
      words = λ n. below_on (length a.values) (length vs) (assigned_in a n) kept.longer (f.words n);
      latest = f.latest;
      stored = λ n. stored_on (length a.values) (length vs) (latest_in a n).stored kept.longer (f.stored n);
      loads = λ guard ar ad value pl there.
          elim (Contains-append_cases a.effects (new ∷ []) (Load guard ar ad value pl) there) [
            | inl old ↦ let l = f.loads guard ar ad value pl old in record { version = l.version; within = omega (arith, l.within, kept.longer); is = kept.kept value l.within ∙ l.is; so_far = l.so_far }
            | inr last ↦ subst (LoadOf d) (contains_one new (Load guard ar ad value pl) last) one
          ];
      history = history_after a d new refl (inserts_keep kept) (λ n. omega arith) (λ u from l h. subst (IsLoadedBy (new ∷ [])) (sym (single u from l)) itself) (is ∙ ap (λ (n : ℕ). Loaded array n a.guard address) (f.history.counted array)) (f.guard, below) f.history;
    }
  where
    itself : IsLoadedBy (Load a.guard array address v place ∷ []) v
    itself = record { guard = a.guard; array = array; address = address; place = place; there = (0, omega arith, refl) }

load_sound : (a : Draft) (vs : List Value) (array address v place : ℕ) (E : Words) (m : Outcome) → IsFormed a → Keeps a.values vs → (holds E a.guard ≡ true → IsInside a.arrays array (E address) × (E v ≡ slice_index m.memory (E address))) → IsSound a E m → IsSound (with_load a vs (Load a.guard array address v place)) E m
load_sound a vs array address v place E m f kept here sound =
    let new = Load a.guard array address v place in
    let h = sound_on a (with_values a vs) E m f refl refl refl kept sound in
    record {
      room = h.room;
      tables = h.tables;
      stored = h.stored;
      loaded = λ guard ar ad value pl there is holding.
          elim (Contains-append_cases a.effects (new ∷ []) (Load guard ar ad value pl) there) [
            | inl old ↦ h.loaded guard ar ad value pl old is holding
            | inr last ↦ (subst (LoadIn a.arrays E m.memory) (contains_one new (Load guard ar ad value pl) last) here) holding
          ];
    }

pub loads_anew : (a : Draft) (vs : List Value) (array address v place : ℕ) → IsFormed a → address < length a.values → Inserts a.values vs (Loaded array (latest_in a array).version a.guard address) → ((u : ℕ) → length a.values ≤ u → u < length vs → u ≡ v) → v < length vs → value_at vs v ≡ Loaded array (latest_in a array).version a.guard address → Loads a (with_load a vs (Load a.guard array address v place)) (Load a.guard array address v place ∷ []) array address v
unfolding Leads
loads_anew a vs array address v place f below kept single within is =
    let new = Load a.guard array address v place in
    record {
      steps = record {
        grows = record { arrays = refl; counters = refl; guard = refl; values = inserts_keep kept; effects = refl; initial = λ n t. refl };
        formed = load_formed a vs array address v place f below kept single within is;
        words = refl;
        initial = refl;
        latest = refl;
        silent = refl;
      };
      within = within;
      yields = λ at. record {
        leads = λ x E m w runs sound goes.
            let inside : holds E a.guard ≡ true → IsInside a.arrays array (E address) = λ holding. let h = (goes holding).0 in subst (λ z. IsInside a.arrays array z) (sym h.0) h.1 in (
              inside,
              λ found. record {
                same = refl;
                sound = load_sound a vs array address v place E m f (inserts_keep kept) (λ holding. (inside holding, found holding)) sound;
                agrees = λ holding.
                    let h = goes holding in
                    found holding ∙ ap₂ slice_index (sym h.1.matches.memory) h.0.0 ∙ ap result_of h.1.runs;
              },
            );
      };
    }

pub latest_is : (xs : List Latest) (n : ℕ) (l d : Latest) → n < length xs → l ≡ get_or xs n l → l ≡ get_or xs n d
latest_is xs n l d h e = sym (get_or_from_slice_get xs n l d (slice_get_read xs (length xs) n l refl h e))

pub load_at : (a : Draft) (e : Effect) (guard : Option ℕ) (array address value place : ℕ) → IsFormed a → Contains a.effects e → e ≡ Load guard array address value place → IsLoadOf a guard array address value
load_at a e guard array address value place f there is = f.loads guard array address value place (subst (Contains a.effects) is there)

pub word_found : (a : Draft) (e : Effect) (array address : ℕ) (guard : Option ℕ) (of at value place : ℕ) → IsFormed a → Contains a.effects e → e ≡ Load guard of at value place → of ≡ array → at ≡ address → ((E : Words) → holds E a.guard ≡ true → holds E guard ≡ true)
    → ((version : ℕ) → value_at a.values value ≡ Loaded of version guard at → version ≡ (latest_in a array).version) → IsFound a address (λ E. E value)
word_found a e array address guard of at value place f there is same here covers current =
    let l = load_at a e guard of at value place f there is in
    let version = current l.version l.is ∙ sym (ap (λ (n : ℕ). (latest_in a n).version) same) in
    subst (λ (z : ℕ). IsFound a z (λ E. E value)) here
    (load_found a guard of at value place (subst (Contains a.effects) is there) (l.is ∙ ap (λ (z : ℕ). Loaded of z guard at) version) covers)

-- ---- tables

table_word : (memory : List ℕ) (a : Array) (o : Option (List ℕ)) (table : List ℕ) (index : ℕ) → o ≡ Some table → HasTable memory a o → index < length table → slice_index memory (a.start + index) ≡ slice_index table index
table_word memory a o table index e h k = (subst (HasTable memory a) e h).1 index k

word_at : (table : List ℕ) (index word : ℕ) → index < length table → word ≡ get_or table index word → word ≡ slice_index table index
word_at table index word h e = sym (get_or_from_slice_get table index word 0 (slice_get_read table (length table) index word refl h e))

pub table_found : (d : Draft) (array address at index word : ℕ) (result shape : Array) (table items : List ℕ) → array < length d.arrays → result ≡ get_or d.arrays array result → shape ≡ result → shape.table ≡ Some table → items ≡ table → address < length d.values → value_at d.values address ≡ Const at
    → shape.start ≤ at → index ≡ at - shape.start → index < length items → word ≡ get_or items index word → IsFound d address (λ E. word)
table_found d array address at index word result shape table items there is same has lent within constant from index_is below word_is = record {
  is = λ x E m fits sound holding.
      let contained : Contains d.arrays shape = subst (Contains d.arrays) (sym same) (array, there, sym is) in
      let w = table_word m.memory shape shape.table table index has (sound.tables shape contained) (subst (λ (z : List ℕ). index < length z) lent below) in
      let sum : shape.start + index ≡ at = omega arith in
      word_at items index word below word_is ∙ ap (λ (z : List ℕ). slice_index z index) lent ∙ sym w ∙ ap (slice_index m.memory) (sum ∙ sym (const_is d.values x E address at within constant fits));
}

-- what a copied element is
pub copied_is : (o : Option (Bor ℕ)) (r : Option ℕ) (items : List ℕ) (index : ℕ) (Q : ℕ → Type 0) → r ≡ option_copied o → MatchOption o (length items ≤ index) (λ y. (index < length items) × HoldsAt {X = ℕ} (λ z. y.now ≡ z) items index)
    → ((w : ℕ) → index < length items → w ≡ get_or items index w → Q w) → IfSome r Q
copied_is None r items index Q e h claim = subst (λ (z : Option ℕ). IfSome z Q) (sym e) tt
copied_is (Some y) r items index Q e h claim = subst (λ (z : Option ℕ). IfSome z Q) (sym e) (claim y.now h.0 (h.1 y.now))
