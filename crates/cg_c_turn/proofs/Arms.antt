-- Two parts of which one is done.
use Rattle.std.proofs.Common.{◌≡◌, ℕ, zero, suc, ◌≤◌, nat_lt, not, if◌then◌else◌, Bool, true, false, ◌&&◌, List, [], ◌++◌, length, Contains, Option, Some, None, slice_index, slice_index_or, slice_get, refl, sym, ap, ap₂, ◌∙◌, subst, arith, append_assoc, ne_eqb, suc-ne-zero}
use Rattle.std.proofs.lemmas.Bool.{and_parts, lt-ltb}
use Rattle.cg_word.specs.Word.{one_if}
use Rattle.cg_c_check.specs.declared.program.Array.{Array}
use Rattle.cg_c_check.specs.Rules.{is_true}
use Rattle.cg_c_values.specs.Values.{Moment, Words, Fits, Keeps, IsBelow, holds}
use Rattle.cg_c_values.proofs.Known.{keeps}
use Rattle.cg_c_meaning.specs.Meaning.{State, Context, give}
use Rattle.cg_c_meaning.specs.Typed.{AreArranged}
use Rattle.cg_c_turn.specs.Draft.{Draft, Effect, Load, Latest, assigned_in, latest_in}
use Rattle.cg_c_turn.specs.Leads.{Outcome, Leads}
use Rattle.cg_c_turn.specs.Stands.{ACondition, Agrees, IsStoredBelow, Grows, Runs, IsFormed, IsSound, Matches, AreReady, IsDone, Performs, Any, begun, word_or, word_in}
use Rattle.cg_c_turn.specs.Conditions.{IsElsewhere, EntersArm, with_point}
use Rattle.cg_c_turn.specs.Words.{Merges}
use Rattle.cg_c_turn.proofs.Leading.{leads_weaker, leads_append}
use Rattle.cg_c_turn.proofs.Prefixes.{runs_before, grows_same, begun_same, runs_shorter, extends_on, extends_same, fits_before, keeps_on}
use Rattle.cg_c_turn.proofs.History.{history_with, pure_adds_none}
use Rattle.cg_c_turn.proofs.Growing.{below_on, stored_on, sound_on}
use Rattle.cg_c_turn.proofs.Doing.{Step, same_end, not_both, moved_arrays, by_guard}

-- ---- drafts at another point

pub elsewhere_on : {a b c : Draft} → IsElsewhere a b → IsElsewhere b c → IsElsewhere a c
elsewhere_on h g =
    record {
      arrays = g.arrays ∙ h.arrays;
      counters = g.counters ∙ h.counters;
      values = extends_on h.values g.values;
      effects = g.effects ∙ h.effects;
      initial = g.initial ∙ h.initial;
      latest = g.latest ∙ h.latest;
    }

pub with_point_elsewhere : (d : Draft) (guard : Option ℕ) (words : List (Option ℕ)) → IsElsewhere d (with_point d guard words)
with_point_elsewhere d guard words = record { arrays = refl; counters = refl; values = extends_same d.values; effects = refl; initial = refl; latest = refl }

pub sound_elsewhere : (a b : Draft) (E : Words) (m : Outcome) → IsFormed a → IsElsewhere a b → IsSound a E m → IsSound b E m
sound_elsewhere a b E m formed h sound = sound_on a b E m formed h.arrays h.latest h.effects (keeps h.values) sound

pub runs_elsewhere : {a b : Draft} (x : Moment) (E : Words) → IsElsewhere a b → Runs b x E → Runs a x E
runs_elsewhere {a = a} {b = b} x E h r = runs_shorter a b h.values h.initial r

-- all that is referred to is there, at another point too
pub formed_elsewhere : (a b : Draft) → IsFormed a → IsElsewhere a b → IsBelow (length b.values) b.guard → ((number : ℕ) → IsBelow (length b.values) (assigned_in b number)) → IsFormed b
formed_elsewhere a b f h guard words =
    record {
      arranged = subst (λ (z : List Array). AreArranged 0 z) (sym h.arrays) f.arranged;
      counters = λ v c. omega (arith, f.counters v (subst (λ (z : List ℕ). Contains z v) h.counters c), h.values.longer);
      guard = guard;
      words = words;
      latest = ap (λ (z : List Latest). length z) h.latest ∙ f.latest ∙ ap (λ (z : List Array). length z) (sym h.arrays);
      stored = λ n. stored_on (length a.values) (length b.values) (latest_in b n).stored h.values.longer
          (subst (λ (z : List Latest). IsStoredBelow (length a.values) (slice_index_or z n (record { version = 0; stored = None })).stored) (sym h.latest) (f.stored n));
      loads = λ guard array address value place c.
          let l = f.loads guard array address value place (subst (λ (z : List Effect). Contains z (Load guard array address value place)) h.effects c) in
          record {
            version = l.version;
            within = omega (arith, l.within, h.values.longer);
            is = h.values.kept value l.within ∙ l.is;
            so_far = subst (λ (z : List Latest). l.version ≤ (slice_index_or z array (record { version = 0; stored = None })).version) (sym h.latest) l.so_far;
          };
      history = history_with a b h.effects h.latest (keeps h.values) (pure_adds_none h.values) f.history;
    }

-- a run at one point is at another
pub matches_at : {a b : Draft} {x : Moment} {E : Words} {m n : Outcome} {c : Context} {s : State} → b.arrays ≡ a.arrays → b.counters ≡ a.counters → n ≡ m → ((number : ℕ) → word_in x E b number ≡ word_in x E a number) → Matches a x E m c s → Matches b x E n c s
matches_at {E = E} arrays counters same words h =
    record {
      arrays = h.arrays ∙ sym arrays;
      streams = h.streams;
      memory = h.memory ∙ ap (λ (o : Outcome). o.memory) (sym same);
      outputs = λ port. h.outputs port ∙ ap (λ (o : Outcome). o.outputs port) (sym same);
      words = λ number. words number ∙ h.words number;
      counters = λ depth. ap (λ (z : List ℕ). word_or E 0 (slice_get z depth)) counters ∙ h.counters depth;
      loops = h.loops ∙ ap (λ (z : List ℕ). length z) (sym counters);
    }

pub words_as : (x : Moment) (E : Words) (a b : Draft) (number : ℕ) → b.words ≡ a.words → begun x b number ≡ begun x a number → word_in x E b number ≡ word_in x E a number
words_as x E a b number words begins =
    ap (λ (z : List (Option ℕ)). word_or E (begun x b number) (slice_index_or z number None)) words ∙ ap (λ z. word_or E z (assigned_in a number)) begins

-- ---- a condition

pub true_is : (w : ℕ) (b : Bool) → nat_lt 0 w ≡ b → is_true w ≡ b
true_is zero b h = h
true_is (suc w) b h = ap (λ (z : Bool). not z) (ne_eqb (suc w) 0 (suc-ne-zero w)) ∙ sym (lt-ltb 0 (suc w) (omega arith)) ∙ h

pub choice_is : {A : Type 0} (w : ℕ) (a b : A) (t : Bool) → nat_lt 0 w ≡ t → (if is_true w then a else b) ≡ (if t then a else b)
choice_is w a b t h = ap (λ (z : Bool). if z then a else b) (true_is w t h)

pub none_ready : (x : Moment) (s : State) → AreReady x s []
none_ready x s port there = absurd (omega (arith, there.1))

negated : (c n : ℕ) (t : Bool) → n ≡ one_if (not (nat_lt 0 c)) → nat_lt 0 c ≡ t → nat_lt 0 n ≡ not t
negated c n true is h = ap (λ z. nat_lt 0 z) (is ∙ ap (λ (b : Bool). one_if (not b)) h)
negated c n false is h = ap (λ z. nat_lt 0 z) (is ∙ ap (λ (b : Bool). one_if (not b)) h)

not_true : (t : Bool) → not t ≡ true → t ≡ false
not_true true h = sym h
not_true false h = refl

and_false : (g t : Bool) → t ≡ false → (g && t) ≡ false
and_false true t off = off
and_false false t off = refl

off_and : (g t : Bool) → g ≡ false → (g && t) ≡ false
off_and true t off = absurd (cc)
off_and false t off = refl

on_and : (g t : Bool) → g ≡ true → t ≡ true → (g && t) ≡ true
on_and true t on is = is
on_and false t on is = absurd (cc)

-- what a part that is done where `on` holds leads to: what the run leads to, and nothing elsewhere
pub record IsPart (d : Draft) (x : Moment) (E : Words) (on : Bool) (m : Outcome) (c : Context) (after : State) (n : Outcome) : Type 0 where
  pub sound : IsSound d E n
  pub idle : on ≡ false → n ≡ m
  pub matches : on ≡ true → Matches d x E n c after

-- it is done where the guard of d0 holds and c is 0
abbrev pub is_other : Draft → Words → (c : ℕ) → Bool
is_other d0 E c = holds E d0.guard && not (nat_lt 0 (E c))

pub record IsOther (d0 d4 d5 : Draft) (B : List Effect) (c : ℕ) (second : Context → Step) : Type 0 where
  pub grows : Grows d4 d5 B
  pub formed : IsFormed d5
  pub initial : d5.initial ≡ d4.initial
  pub leads : (x : Moment) (E : Words) (o : Outcome) (ctx : Context) (before end : State) → Runs d5 x E → IsSound d4 E o →
      (is_other d0 E c ≡ true → Matches d4 x E o ctx before × (second ctx before ≡ Some (tt, end))) →
      Leads d4.arrays E B o (IsPart d5 x E (is_other d0 E c) o ctx end)

-- from the draft d0, under the condition c, the first part is translated from d1 to d2, and where it isn't done the second
-- one from d4 to d5; in d7 each word has its value behind them
pub record Arms (d0 d1 d2 d4 d5 d7 : Draft) (A B : List Effect) (c : ℕ) (first second : Context → Step) : Type 0 where
  pub enters : EntersArm d0 d1 c
  pub chosen : Performs d1 d2 A Any first []
  pub elsewhere : IsElsewhere d2 d4
  pub back : d4.words ≡ d0.words
  pub other : IsOther d0 d4 d5 B c second
  pub merges : IsElsewhere d5 d7
  pub guard : d7.guard ≡ d0.guard
  pub each : (number : ℕ) → Merges d7 c number (slice_index_or d2.words number None) (slice_index_or d5.words number None) (assigned_in d7 number)
  pub begins : (x : Moment) (E : Words) → Runs d2 x E → nat_lt 0 (E c) ≡ false → (number : ℕ) → begun x d2 number ≡ begun x d0 number

-- one turn, in which the condition is t
record Point (d0 d1 d2 d4 d5 d7 : Draft) (c : ℕ) (x : Moment) (E : Words) (g t : Bool) : Type 0 where
  runs2 : Runs d2 x E
  runs5 : Runs d5 x E
  runs7 : Runs d7 x E
  holding : holds E d0.guard ≡ g
  condition : nat_lt 0 (E c) ≡ t
  guard1 : holds E d1.guard ≡ g && t
  other : is_other d0 E c ≡ g && not t

arms_values : {d0 d1 d2 d4 d5 d7 : Draft} {A B : List Effect} {c : ℕ} {first second : Context → Step} → Arms d0 d1 d2 d4 d5 d7 A B c first second → Keeps d0.values d7.values
arms_values h = keeps_on (keeps h.enters.same.values) (keeps_on h.chosen.grows.values (keeps_on (keeps h.elsewhere.values) (keeps_on h.other.grows.values (keeps h.merges.values))))

arms_grow : {d0 d1 d2 d4 d5 d7 : Draft} {A B : List Effect} {c : ℕ} {first second : Context → Step} → Arms d0 d1 d2 d4 d5 d7 A B c first second → Grows d0 d7 (A ++ B)
arms_grow {d0 = d0} {d1 = d1} {d2 = d2} {A = A} {B = B} h =
    record {
      arrays = h.merges.arrays ∙ h.other.grows.arrays ∙ h.elsewhere.arrays ∙ h.chosen.grows.arrays ∙ h.enters.same.arrays;
      counters = h.merges.counters ∙ h.other.grows.counters ∙ h.elsewhere.counters ∙ h.chosen.grows.counters ∙ h.enters.same.counters;
      guard = h.guard;
      values = arms_values h;
      effects =
          h.merges.effects ∙ h.other.grows.effects
          ∙ ap (λ (z : List Effect). z ++ B) (h.elsewhere.effects ∙ h.chosen.grows.effects ∙ ap (λ (z : List Effect). z ++ A) h.enters.same.effects)
          ∙ append_assoc d0.effects A B;
      initial = λ number touched.
          ap (λ (z : List ℕ). slice_index z number) (h.merges.initial ∙ h.other.initial ∙ h.elsewhere.initial)
          ∙ h.chosen.grows.initial number (touched.0, omega (arith, touched.1, h.enters.same.values.longer), h.enters.same.values.kept touched.0 touched.1 ∙ touched.2)
          ∙ ap (λ (z : List ℕ). slice_index z number) h.enters.same.initial;
    }

arms_formed : {d0 d1 d2 d4 d5 d7 : Draft} {A B : List Effect} {c : ℕ} {first second : Context → Step} → IsFormed d0 → Arms d0 d1 d2 d4 d5 d7 A B c first second → IsFormed d7
arms_formed {d0 = d0} {d5 = d5} {d7 = d7} formed h =
    formed_elsewhere d5 d7 h.other.formed h.merges
    (subst (λ (g : Option ℕ). IsBelow (length d7.values) g) (sym h.guard) (below_on (length d0.values) (length d7.values) d0.guard (arms_values h).longer formed.guard))
    (λ number. (h.each number).below)

begun_behind : {d0 d1 d2 d4 d5 d7 : Draft} {A B : List Effect} {c : ℕ} {first second : Context → Step} → Arms d0 d1 d2 d4 d5 d7 A B c first second → (x : Moment) (number : ℕ) → begun x d7 number ≡ begun x d2 number
begun_behind {d2 = d2} {d7 = d7} h x number = sym (begun_same x d2 d7 number (h.merges.initial ∙ h.other.initial ∙ h.elsewhere.initial))

-- behind both parts, where the first was done
first_words : {d0 d1 d2 d4 d5 d7 : Draft} {A B : List Effect} {c : ℕ} {first second : Context → Step} → Arms d0 d1 d2 d4 d5 d7 A B c first second → (x : Moment) (E : Words) → Runs d7 x E → nat_lt 0 (E c) ≡ true → (number : ℕ) → word_in x E d7 number ≡ word_in x E d2 number
first_words {d2 = d2} h x E r t number = (h.each number).chosen x E r t ∙ ap (λ z. word_or E z (assigned_in d2 number)) (begun_behind h x number)

second_words : {d0 d1 d2 d4 d5 d7 : Draft} {A B : List Effect} {c : ℕ} {first second : Context → Step} → Arms d0 d1 d2 d4 d5 d7 A B c first second → (x : Moment) (E : Words) → Runs d7 x E → nat_lt 0 (E c) ≡ false → (number : ℕ) → word_in x E d7 number ≡ word_in x E d5 number
second_words {d5 = d5} {d7 = d7} h x E r t number = (h.each number).other x E r t ∙ ap (λ z. word_or E z (assigned_in d5 number)) (sym (begun_same x d5 d7 number h.merges.initial))

-- ---- what the effects lead to

-- what the first part leads to: what the run leads to where it is done, and nothing elsewhere
first_part : {d0 d1 d2 d4 d5 d7 : Draft} {A B : List Effect} {c : ℕ} {first second : Context → Step} (h : Arms d0 d1 d2 d4 d5 d7 A B c first second) → IsFormed d0 → (x : Moment) (E : Words) (g t : Bool) → Point d0 d1 d2 d4 d5 d7 c x E g t → (m : Outcome) (ctx : Context) (before end : State) → IsSound d0 E m → (g ≡ true → t ≡ true → Matches d0 x E m ctx before × (first ctx before ≡ Some (tt, end))) → Leads d0.arrays E A m (IsDone d2 x E m ctx end)
first_part {d0 = d0} {d1 = d1} {d2 = d2} {A = A} h formed x E g t p m ctx before end sound done =
    moved_arrays d0.arrays d1.arrays E A m (IsDone d2 x E m ctx end) h.enters.same.arrays
    (h.chosen.leads x E m ctx end p.runs2 (sound_elsewhere d0 d1 E m formed h.enters.same sound)
    (λ on.
    let parts = and_parts g t (sym p.guard1 ∙ on) in
    let run = done parts.0 parts.1 in (
      tt,
      record {
        before = before;
        matches = matches_at h.enters.same.arrays h.enters.same.counters refl (λ number. words_as x E d0 d1 number h.enters.words (sym (begun_same x d0 d1 number h.enters.same.initial))) run.0;
        ready = none_ready x before;
        runs = run.1;
      },
    )))

second_part : {d0 d1 d2 d4 d5 d7 : Draft} {A B : List Effect} {c : ℕ} {first second : Context → Step} (h : Arms d0 d1 d2 d4 d5 d7 A B c first second) → (x : Moment) (E : Words) (g t : Bool) → Point d0 d1 d2 d4 d5 d7 c x E g t → (m o : Outcome) (ctx : Context) (before end : State) → IsSound d2 E o → (holds E d2.guard ≡ false → o ≡ m) → (g ≡ true → not t ≡ true → Matches d0 x E m ctx before × (second ctx before ≡ Some (tt, end))) → Leads d0.arrays E B o (IsPart d5 x E (is_other d0 E c) o ctx end)
second_part {d0 = d0} {d1 = d1} {d2 = d2} {d4 = d4} {d5 = d5} {B = B} {c = c} h x E g t p m o ctx before end sound idle done =
    moved_arrays d0.arrays d4.arrays E B o (IsPart d5 x E (is_other d0 E c) o ctx end) (h.elsewhere.arrays ∙ h.chosen.grows.arrays ∙ h.enters.same.arrays)
    (h.other.leads x E o ctx before end p.runs5 (sound_elsewhere d2 d4 E o h.chosen.formed h.elsewhere sound)
    (λ on.
    let parts = and_parts g (not t) (sym p.other ∙ on) in
    let run = done parts.0 parts.1 in
    let off_t : t ≡ false = not_true t parts.1 in
    let off : holds E d2.guard ≡ false = ap (λ (z : Option ℕ). holds E z) h.chosen.grows.guard ∙ p.guard1 ∙ and_false g t off_t in (
      matches_at (h.elsewhere.arrays ∙ h.chosen.grows.arrays ∙ h.enters.same.arrays) (h.elsewhere.counters ∙ h.chosen.grows.counters ∙ h.enters.same.counters) (idle off)
          (λ number. words_as x E d0 d4 number h.back (sym (begun_same x d2 d4 number h.elsewhere.initial) ∙ h.begins x E p.runs2 (p.condition ∙ off_t) number)) run.0,
      run.1,
    )))

-- behind both parts
last_part : {d0 d1 d2 d4 d5 d7 : Draft} {A B : List Effect} {c : ℕ} {first second : Context → Step} (h : Arms d0 d1 d2 d4 d5 d7 A B c first second) → (x : Moment) (E : Words) (g t : Bool) → Point d0 d1 d2 d4 d5 d7 c x E g t → (m o q : Outcome) (ctx : Context) (end : State) → IsDone d2 x E m ctx end o → IsPart d5 x E (is_other d0 E c) o ctx end q → IsDone d7 x E m ctx end q
last_part {d0 = d0} {d1 = d1} {d2 = d2} {d4 = d4} {d5 = d5} {d7 = d7} {c = c} h x E g t p m o q ctx end one two =
    let guard2 : holds E d2.guard ≡ g && t = ap (λ (z : Option ℕ). holds E z) h.chosen.grows.guard ∙ p.guard1 in
    let guard7 : holds E d7.guard ≡ g = ap (λ (z : Option ℕ). holds E z) h.guard ∙ p.holding in
    record {
      sound = sound_elsewhere d5 d7 E q h.other.formed h.merges two.sound;
      idle = λ off. two.idle (p.other ∙ off_and g (not t) (sym guard7 ∙ off)) ∙ one.idle (guard2 ∙ off_and g t (sym guard7 ∙ off));
      matches = λ on. behind t g (sym guard7 ∙ on) guard2 p.other p.condition;
    }
  where
    behind : (t g : Bool) → g ≡ true → holds E d2.guard ≡ (g && t) → is_other d0 E c ≡ (g && not t) → nat_lt 0 (E c) ≡ t → Matches d7 x E q ctx end
    behind true g on guard2 guard5 is =
        matches_at (h.merges.arrays ∙ h.other.grows.arrays ∙ h.elsewhere.arrays) (h.merges.counters ∙ h.other.grows.counters ∙ h.elsewhere.counters) (two.idle (guard5 ∙ and_false g false refl))
        (first_words h x E p.runs7 is) (one.matches (guard2 ∙ on_and g true on refl))
    behind false g on guard2 guard5 is =
        matches_at h.merges.arrays h.merges.counters refl (second_words h x E p.runs7 is) (two.matches (guard5 ∙ on_and g true on refl))

arms_lead : {d0 d1 d2 d4 d5 d7 : Draft} {A B : List Effect} {c : ℕ} {first second : Context → Step} (h : Arms d0 d1 d2 d4 d5 d7 A B c first second) → IsFormed d0 → (x : Moment) (E : Words) (g t : Bool) → Point d0 d1 d2 d4 d5 d7 c x E g t → (m : Outcome) (ctx : Context) (before end : State) → IsSound d0 E m → (g ≡ true → t ≡ true → Matches d0 x E m ctx before × (first ctx before ≡ Some (tt, end))) → (g ≡ true → not t ≡ true → Matches d0 x E m ctx before × (second ctx before ≡ Some (tt, end))) → Leads d0.arrays E A m (λ o. Leads d0.arrays E B o (IsDone d7 x E m ctx end))
arms_lead {d0 = d0} {d2 = d2} {d5 = d5} {d7 = d7} {A = A} {B = B} {c = c} h formed x E g t p m ctx before end sound one two =
    leads_weaker d0.arrays E A m (IsDone d2 x E m ctx end) (λ o. Leads d0.arrays E B o (IsDone d7 x E m ctx end))
    (λ o (done : IsDone d2 x E m ctx end o).
    leads_weaker d0.arrays E B o (IsPart d5 x E (is_other d0 E c) o ctx end) (IsDone d7 x E m ctx end)
    (λ q (done2 : IsPart d5 x E (is_other d0 E c) o ctx end q). last_part h x E g t p m o q ctx end done done2)
    (second_part h x E g t p m o ctx before end done.sound done.idle two))
    (first_part h formed x E g t p m ctx before end sound one)

arms_point : {d0 d1 d2 d4 d5 d7 : Draft} {A B : List Effect} {c : ℕ} {first second : Context → Step} (h : Arms d0 d1 d2 d4 d5 d7 A B c first second) → (x : Moment) (E : Words) → Runs d7 x E → Point d0 d1 d2 d4 d5 d7 c x E (holds E d0.guard) (nat_lt 0 (E c))
arms_point {d0 = d0} {d1 = d1} {d2 = d2} {d4 = d4} {d5 = d5} {d7 = d7} {c = c} h x E r7 =
    let r5 : Runs d5 x E = runs_elsewhere x E h.merges r7 in
    let r4 : Runs d4 x E = runs_before h.other.grows r5 in
    let r2 : Runs d2 x E = runs_elsewhere x E h.elsewhere r4 in
    let r1 : Runs d1 x E = runs_before h.chosen.grows r2 in
    record {
      runs2 = r2;
      runs5 = r5;
      runs7 = r7;
      holding = refl;
      condition = refl;
      guard1 = h.enters.both x E r1.fits;
      other = refl;
    }

abbrev pub Either : (first second : Context → Step) → ℕ → Context → Step
Either first second w x = if is_true w then first x else second x

pub arms : {d0 d1 d2 d4 d5 d7 : Draft} {A B : List Effect} {c : ℕ} {first second : Context → Step} (h : Arms d0 d1 d2 d4 d5 d7 A B c first second) → IsFormed d0 → (w : ℕ) → Performs d0 d7 (A ++ B) (λ E. Agrees ACondition (E c) w) (Either first second w) []
arms {d0 = d0} {d7 = d7} {A = A} {B = B} {c = c} {first = first} {second = second} h formed w =
    record {
      grows = arms_grow h;
      formed = arms_formed formed h;
      leads = λ x E m ctx end r sound does.
          leads_append d0.arrays E A B m (IsDone d7 x E m ctx end)
          (by_guard (holds E d0.guard)
          (λ on.
          let known = does on in
          arms_lead h formed x E (holds E d0.guard) (nat_lt 0 (E c)) (arms_point h x E r) m ctx known.1.before end sound
          (λ g t. (known.1.matches, sym (ap (λ (z : Step). z known.1.before) (choice_is w (first ctx) (second ctx) true (sym known.0 ∙ t))) ∙ known.1.runs))
          (λ g t. (known.1.matches, sym (ap (λ (z : Step). z known.1.before) (choice_is w (first ctx) (second ctx) false (sym known.0 ∙ not_true (nat_lt 0 (E c)) t))) ∙ known.1.runs)))
          (λ off.
          arms_lead h formed x E (holds E d0.guard) (nat_lt 0 (E c)) (arms_point h x E r) m ctx end end sound
          (λ g t. not_both (holds E d0.guard) off g)
          (λ g t. not_both (holds E d0.guard) off g)));
    }

-- the second part is one under the negation n of the condition
pub other_arm : {d0 d3 d4 d5 : Draft} {B : List Effect} {c n : ℕ} {second : Context → Step} → EntersArm d3 d4 n → d3.guard ≡ d0.guard → ((x : Moment) (E : Words) → Fits d3.values x E → E n ≡ one_if (not (nat_lt 0 (E c)))) → Performs d4 d5 B Any second [] → d5.initial ≡ d4.initial → IsOther d0 d4 d5 B c second
other_arm {d0 = d0} {d3 = d3} {d4 = d4} {d5 = d5} {B = B} {c = c} {n = n} enters guard negation part initial =
    record {
      grows = part.grows;
      formed = part.formed;
      initial = initial;
      leads = λ x E o ctx before end r sound does.
          let r4 : Runs d4 x E = runs_before part.grows r in
          let is : holds E d4.guard ≡ is_other d0 E c =
          enters.both x E r4.fits
          ∙ ap₂ (λ (a b : Bool). a && b) (ap (λ (z : Option ℕ). holds E z) guard) (negated (E c) (E n) (nat_lt 0 (E c)) (negation x E (fits_before (keeps enters.same.values) r4.fits)) refl) in
          leads_weaker d4.arrays E B o (IsDone d5 x E o ctx end) (IsPart d5 x E (is_other d0 E c) o ctx end)
          (λ q (done : IsDone d5 x E o ctx end q).
          let guard5 : holds E d5.guard ≡ is_other d0 E c = ap (λ (z : Option ℕ). holds E z) part.grows.guard ∙ is in
          record { sound = done.sound; idle = λ off. done.idle (guard5 ∙ off); matches = λ on. done.matches (guard5 ∙ on) })
          (part.leads x E o ctx end r sound (λ on. let run = does (sym is ∙ on) in (tt, record { before = before; matches = run.0; ready = none_ready x before; runs = run.1 })));
    }

-- there is no second part
pub no_other : {d0 d : Draft} (c : ℕ) → IsFormed d → IsOther d0 d d [] c (λ x. give tt)
unfolding Leads
no_other {d = d} c formed =
    record {
      grows = grows_same d;
      formed = formed;
      initial = refl;
      leads = λ x E o ctx before end r sound does.
          record { sound = sound; idle = λ off. refl; matches = λ on. let run = does on in subst (λ (z : State). Matches d x E o ctx z) (same_end before end run.1) run.0 };
    }
