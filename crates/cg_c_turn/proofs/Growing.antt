-- Drafts that grow: what is known of a longer draft is known of the shorter one, and the other way round.
use Rattle.std.proofs.Common.{◌≡◌, ℕ, zero, suc, ◌+◌, ◌≤◌, ◌==◌, if◌then◌else◌, Bool, true, false, List, [], ◌∷◌, ◌++◌, length, Contains, Option, Some, None, slice_get, slice_index, refl, sym, ap, ◌∙◌, arith, append_assoc, append-nil, inl, inr, eqb→eq, add-zero, slice_index_or, subst}
use Rattle.std.proofs.lemmas.Float.{T_from_true}
use Rattle.std.proofs.lemmas.List.Elements.{Contains-append_left, Contains-append_right, Contains-append_cases}
use Rattle.cg_c_check.specs.declared.program.Array.{Array}
use Rattle.cg_c_values.specs.declared.value.Value.{Value}
use Rattle.cg_c_values.specs.declared.value.Value.TheVariants.{Loaded}
use Rattle.cg_c_values.specs.Values.{Moment, Words, Fits, Extends, Keeps, IsBelow}
use Rattle.cg_c_values.proofs.Known.{extends_further, extends_itself, fits_before, fits_kept, keeps}
use Rattle.cg_c_meaning.specs.Meaning.{State, Context}
use Rattle.cg_c_meaning.specs.Taken.{TakesAlone, times}
use Rattle.cg_c_meaning.specs.Typed.{AreApart}
use Rattle.cg_c_turn.specs.Draft.{Draft, Effect, Load, Stored, Latest, assigned_in, latest_in}
use Rattle.cg_c_turn.specs.Leads.{Outcome, IsInside}
use Rattle.cg_c_turn.specs.Stands.{IsFresh, IsStoredBelow, IsFormed, IsTouched, Grows, Runs, IsSound, Matches, AreReady, word_in, word_or, begun}
use Rattle.cg_c_turn.specs.Pieces.{Leaves, Steps}
use Rattle.cg_c_turn.proofs.History.{history_with, pure_adds_none}
use Rattle.cg_c_turn.proofs.Sent.{sent_silent}

-- ---- values

pub extends_refl : (vs : List Value) → Extends vs vs
extends_refl vs = extends_itself vs

pub extends_then : (a b c : List Value) → Extends a b → Extends b c → Extends a c
extends_then a b c p q = extends_further a b c p q

pub keeps_then : (a b c : List Value) → Keeps a b → Keeps b c → Keeps a c
keeps_then a b c p q = record { longer = omega (arith, p.longer, q.longer); kept = λ v h. q.kept v (omega (arith, p.longer)) ∙ p.kept v h }

pub fits_back : (a b : List Value) (x : Moment) (E : Words) → Extends a b → Fits b x E → Fits a x E
fits_back a b x E p f = fits_before a b x E p f

pub below_on : (m n : ℕ) (g : Option ℕ) → m ≤ n → IsBelow m g → IsBelow n g
below_on m n None h b = tt
below_on m n (Some v) h b = omega arith

pub stored_on : (m n : ℕ) (s : Option Stored) → m ≤ n → IsStoredBelow m s → IsStoredBelow n s
stored_on m n None h b = tt
stored_on m n (Some s) h b = (below_on m n s.guard h b.0, omega (arith, b.1), omega (arith, b.2))

-- ---- one step after another

pub steps_refl : (d : Draft) → IsFormed d → Steps d d []
steps_refl d f = record {
  grows = record { arrays = refl; counters = refl; guard = refl; values = keeps (extends_refl d.values); effects = sym (append-nil d.effects); initial = λ n t. refl };
  formed = f;
  words = refl;
  initial = refl;
  latest = refl;
  silent = refl;
}

pub steps_then : (a b c : Draft) (es fs : List Effect) → Steps a b es → Steps b c fs → Steps a c (es ++ fs)
steps_then a b c es fs p q = record {
  grows = record {
    arrays = q.grows.arrays ∙ p.grows.arrays;
    counters = q.grows.counters ∙ p.grows.counters;
    guard = q.grows.guard ∙ p.grows.guard;
    values = keeps_then a.values b.values c.values p.grows.values q.grows.values;
    effects = q.grows.effects ∙ ap (λ (z : List Effect). z ++ fs) p.grows.effects ∙ append_assoc a.effects es fs;
    initial = λ n t. ap (λ (z : List ℕ). slice_index z n) (q.initial ∙ p.initial);
  };
  formed = q.formed;
  words = q.words ∙ p.words;
  initial = q.initial ∙ p.initial;
  latest = q.latest ∙ p.latest;
  silent = sent_silent es fs p.silent q.silent;
}

-- ---- turns

pub touched_on : (a b : Draft) (n : ℕ) → Keeps a.values b.values → IsTouched a n → IsTouched b n
touched_on a b n p t = (t.0, omega (arith, p.longer, t.1), p.kept t.0 t.1 ∙ t.2)

pub runs_back : (a b : Draft) (es : List Effect) (x : Moment) (E : Words) → Grows a b es → Runs b x E → Runs a x E
runs_back a b es x E p r = record {
  fits = fits_kept a.values b.values x E p.values r.fits;
  first = λ z n t. r.first z n (touched_on a b n p.values t) ∙ p.initial n t;
}

-- ---- runs

word_same : (x : Moment) (E : Words) (a b : Draft) (n : ℕ) → b.words ≡ a.words → b.initial ≡ a.initial → word_in x E b n ≡ word_in x E a n
word_same x E a b n w i = ap (λ (z : List ℕ). word_or E (if x.turn == 0 then slice_index z n else x.carried n) (assigned_in b n)) i ∙ ap (λ (z : List (Option ℕ)). word_or E (begun x a n) (slice_index_or z n None)) w

pub matches_on : (a b : Draft) (es : List Effect) (x : Moment) (E : Words) (m : Outcome) (c : Context) (s t : State) (ports : List ℕ) → Steps a b es → Leaves s t ports → Matches a x E m c s → Matches b x E m c t
matches_on a b es x E m c s t ports p took h = record {
  arrays = h.arrays ∙ sym p.grows.arrays;
  streams = h.streams;
  memory = took.memory ∙ h.memory;
  outputs = λ port. took.outputs port ∙ h.outputs port;
  words = λ n. word_same x E a b n p.words p.initial ∙ h.words n ∙ sym (took.words n);
  counters = λ depth. ap (λ (z : List ℕ). word_or E 0 (slice_get z depth)) p.grows.counters ∙ h.counters depth;
  loops = h.loops ∙ ap (λ (z : List ℕ). length z) (sym p.grows.counters);
}

-- ---- ports

contains_first : (p : ℕ) (ps : List ℕ) → Contains (p ∷ ps) p
contains_first p ps = (0, omega arith, refl)

times_first : (port p n : ℕ) (b : Bool) → (p == port) ≡ b → (p ≡ port → ⊥) → n ≡ 0 → (if b then 1 else 0) + n ≡ 0
times_first port p n true e apart none = absurd (apart (eqb→eq p port (T_from_true (p == port) e)))
times_first port p n false e apart none = omega arith

times_none : (port : ℕ) (ps : List ℕ) → (Contains ps port → ⊥) → times port ps ≡ 0
times_none port [] none = refl
times_none port (p ∷ ps) none =
    times_first port p (times port ps) (p == port) refl (λ e. none (subst (Contains (p ∷ ps)) e (contains_first p ps)))
    (times_none port ps (λ h. none (Contains-append_right (p ∷ []) ps port h)))

pub contains_one : (p port : ℕ) → Contains (p ∷ []) port → p ≡ port
contains_one p port (zero, h, e) = e
contains_one p port (suc k, h, e) = absurd (omega arith)

apart_from : (ps qs : List ℕ) (port : ℕ) → AreApart (ps ++ qs) → Contains qs port → Contains ps port → ⊥
apart_from [] qs port apart there here = absurd (omega (arith, here.1))
apart_from (p ∷ ps) qs port apart there here =
    elim (Contains-append_cases (p ∷ []) ps port here) [
      | inl first ↦ apart.0 (subst (Contains (ps ++ qs)) (sym (contains_one p port first)) (Contains-append_right ps qs port there))
      | inr further ↦ apart_from ps qs port apart.1 there further
    ]

pub leaves_by : (s t : State) (ps : List ℕ) → TakesAlone s t ps → Leaves s t ps
leaves_by s t ps took = record {
  words = took.words;
  memory = took.memory;
  outputs = took.outputs;
  others = λ port apart. took.taken port ∙ ap (λ n. s.taken port + n) (times_none port ps apart) ∙ add-zero (s.taken port);
}

pub leaves_all : (s : State) (ps : List ℕ) → Leaves s s ps
leaves_all s ps = record { words = λ n. refl; memory = refl; outputs = λ p. refl; others = λ p h. refl }

pub apart_ready : (x : Moment) (s t : State) (ps qs : List ℕ) → AreApart (ps ++ qs) → Leaves s t ps → AreReady x s (ps ++ qs) → AreReady x t qs
apart_ready x s t ps qs apart left ready = λ port there. left.others port (apart_from ps qs port apart there) ∙ ready port (Contains-append_right ps qs port there)

pub ready_second : (x : Moment) (s : State) (ps qs : List ℕ) → AreReady x s (ps ++ qs) → AreReady x s qs
ready_second x s ps qs ready = λ port there. ready port (Contains-append_right ps qs port there)

pub ready_first : (x : Moment) (s : State) (ps qs : List ℕ) → AreReady x s (ps ++ qs) → AreReady x s ps
ready_first x s ps qs ready = λ port there. ready port (Contains-append_left ps qs port there)

pub apart_first : (ps qs : List ℕ) → AreApart (ps ++ qs) → AreApart ps
apart_first [] qs h = tt
apart_first (p ∷ ps) qs h = (λ there. h.0 (Contains-append_left ps qs p there), apart_first ps qs h.1)

pub apart_second : (ps qs : List ℕ) → AreApart (ps ++ qs) → AreApart qs
apart_second [] qs h = h
apart_second (p ∷ ps) qs h = apart_second ps qs h.1

-- ---- what is sound

-- a draft with the same effects, arrays and latest stores, and more values
pub sound_on : (a b : Draft) (E : Words) (m : Outcome) → IsFormed a → b.arrays ≡ a.arrays → b.latest ≡ a.latest → b.effects ≡ a.effects → Keeps a.values b.values → IsSound a E m → IsSound b E m
sound_on a b E m formed arrays latest effects values h = record {
  room = λ r there. h.room r (subst (λ (z : List Array). Contains z r) arrays there);
  tables = λ r there. h.tables r (subst (λ (z : List Array). Contains z r) arrays there);
  loaded = λ guard array address value place there is holding.
      let e : Contains a.effects (Load guard array address value place) = subst (λ (z : List Effect). Contains z (Load guard array address value place)) effects there in
      let l = formed.loads guard array address value place e in
      subst (λ (z : List Array). IsInside z array (E address) × (E value ≡ slice_index m.memory (E address))) (sym arrays)
      (h.loaded guard array address value place e (sym (values.kept value l.within) ∙ is ∙ ap (λ (z : List Latest). Loaded array (slice_index_or z array (record { version = 0; stored = None })).version guard address) latest) holding);
  stored = λ array. subst (λ (z : List Array). IsFresh z E m.memory array (latest_in b array).stored) (sym arrays)
      (subst (λ (z : List Latest). IsFresh a.arrays E m.memory array (slice_index_or z array (record { version = 0; stored = None })).stored) (sym latest) (h.stored array));
}

-- ---- drafts with other values and another guard

pub formed_with : (a : Draft) (vs : List Value) (g : Option ℕ) → IsFormed a → Extends a.values vs → IsBelow (length vs) g → IsFormed (record a { values = vs; guard = g })
formed_with a vs g f values guard = record {
  arranged = f.arranged;
  counters = λ v h. omega (arith, f.counters v h, values.longer);
  guard = guard;
  words = λ n. below_on (length a.values) (length vs) (assigned_in a n) values.longer (f.words n);
  latest = f.latest;
  stored = λ n. stored_on (length a.values) (length vs) (latest_in a n).stored values.longer (f.stored n);
  loads = λ guard array address value place h.
      let l = f.loads guard array address value place h in
      record { version = l.version; within = omega (arith, l.within, values.longer); is = values.kept value l.within ∙ l.is; so_far = l.so_far };
  history = history_with a (record a { values = vs; guard = g }) refl refl (keeps values) (pure_adds_none values) f.history;
}

pub matches_with : (a : Draft) (vs : List Value) (g : Option ℕ) (x : Moment) (E : Words) (m : Outcome) (c : Context) (s : State) → Matches a x E m c s → Matches (record a { values = vs; guard = g }) x E m c s
matches_with a vs g x E m c s h = record { arrays = h.arrays; streams = h.streams; memory = h.memory; outputs = h.outputs; words = h.words; counters = h.counters; loops = h.loops }

pub sound_with : (a : Draft) (g : Option ℕ) (E : Words) (m : Outcome) → IsSound a E m → IsSound (record a { guard = g }) E m
sound_with a g E m h = record { room = h.room; tables = h.tables; loaded = h.loaded; stored = h.stored }

pub runs_without : (a : Draft) (g : Option ℕ) (x : Moment) (E : Words) → Runs (record a { guard = g }) x E → Runs a x E
runs_without a g x E r = record { fits = record { word = r.fits.word; is = r.fits.is }; first = r.first }

-- values alone were added
pub steps_with : (a : Draft) (vs : List Value) → IsFormed a → Extends a.values vs → Steps a (record a { values = vs }) []
steps_with a vs f values = record {
  grows = record { arrays = refl; counters = refl; guard = refl; values = keeps values; effects = sym (append-nil a.effects); initial = λ n t. refl };
  formed = formed_with a vs a.guard f values (below_on (length a.values) (length vs) a.guard values.longer f.guard);
  words = refl;
  initial = refl;
  latest = refl;
  silent = refl;
}
