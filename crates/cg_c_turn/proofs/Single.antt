-- What single statements do.
use Rattle.std.proofs.Common.{◌≡◌, ℕ, zero, suc, ◌<◌, ◌==◌, if◌then◌else◌, Bool, true, false, List, [], ◌∷◌, ◌++◌, length, Contains, Option, Some, None, slice_index, slice_index_or, slice_get, refl, sym, ap, ap₂, ◌∙◌, subst, arith, inl, inr, append-nil}
use Rattle.std.proofs.lemmas.List.Elements.{Contains-append_cases}
use Rattle.cg_c_syntax.specs.declared.expression.Binary.{Binary}
use Rattle.cg_c_syntax.specs.declared.statement.Signedness.{Signedness}
use Rattle.cg_c_values.specs.Values.{Moment, Words, IsBelow, holds}
use Rattle.cg_c_meaning.specs.Meaning.{State, Context, ◌>>=◌, word_of, set_word, sent, changed}
use Rattle.cg_c_values.proofs.Known.{keeps}
use Rattle.cg_c_turn.specs.Draft.{Draft, Effect, Load, Send, assigned_in}
use Rattle.cg_c_turn.specs.Leads.{Outcome, Leads, sent_to}
use Rattle.cg_c_turn.specs.Stands.{TheWord, Agrees, Runs, IsFormed, IsSound, Matches, Does, IsDone, Performs, begun, word_or, word_in}
use Rattle.cg_c_turn.specs.Conditions.{IsElsewhere}
use Rattle.cg_c_turn.specs.Words.{with_words}
use Rattle.cg_c_turn.proofs.Prefixes.{begun_same, extends_same}
use Rattle.cg_c_syntax.specs.declared.statement.Signedness.TheVariants.{Signed}
use Rattle.cg_c_turn.proofs.Growing.{below_on}
use Rattle.cg_c_turn.proofs.History.{history_after}
use Rattle.cg_c_turn.proofs.Doing.{same_end, not_both, by_guard}
use Rattle.cg_c_turn.proofs.Arms.{formed_elsewhere, sound_elsewhere}

-- ---- words

by_number : (E : Words) (v w number n begins : ℕ) (o : Option ℕ) (s : State) (b : Bool) → (n == number) ≡ b → E v ≡ w → word_or E begins o ≡ s.words n → word_or E begins (if b then Some v else o) ≡ (if b then w else s.words n)
by_number E v w number n begins o s true is value old = value
by_number E v w number n begins o s false is value old = old

-- from a draft d on, with more values in e, in which v is the value of a word; then the word is set
pub changes : (d e : Draft) (words : List (Option ℕ)) (number u v : ℕ) (op : Option Binary) (s t : Signedness) → IsFormed d → IsElsewhere d e → e.guard ≡ d.guard → e.words ≡ d.words → v < length e.values
    → ((n : ℕ) → assigned_in (with_words e words) n ≡ (if n == number then Some v else assigned_in e n))
    → ((x : Moment) (E : Words) → Runs e x E → E v ≡ changed op s t (word_in x E d number) (E u))
    → (w : ℕ) → Performs d (with_words e words) [] (λ E. Agrees TheWord (E u) w) (λ x. word_of number >>= (λ old. set_word number (changed op s t old w))) []
unfolding Leads
changes d e words number u v op s t formed same guard kept within assigned is w =
    record {
      grows = record { arrays = same.arrays; counters = same.counters; guard = guard; values = keeps same.values; effects = same.effects ∙ sym (append-nil d.effects); initial = λ n h. ap (λ (z : List ℕ). slice_index z n) same.initial };
      formed = formed';
      leads = λ x E m c end r sound does.
          record {
            sound = sound_elsewhere d (with_words e words) E m formed same' sound;
            idle = λ h. refl;
            matches = λ on. let known = does (sym (ap (λ (z : Option ℕ). holds E z) guard) ∙ on) in
                let run = known.1 in
                subst (λ (z : State). Matches (with_words e words) x E m c z) (same_end _ end run.runs)
                (record {
                  arrays = run.matches.arrays ∙ sym same.arrays;
                  streams = run.matches.streams;
                  memory = run.matches.memory;
                  outputs = run.matches.outputs;
                  words = λ n.
                      ap (λ (o : Option ℕ). word_or E (begun x (with_words e words) n) o) (assigned n)
                      ∙ by_number E v (changed op s t (run.before.words number) w) number n (begun x e n) (assigned_in e n) run.before (n == number) refl
                      (is x E (record { fits = record { word = r.fits.word; is = r.fits.is }; first = r.first }) ∙ ap₂ (λ (y z : ℕ). changed op s t y z) (run.matches.words number) known.0)
                      (ap (λ z. word_or E z (assigned_in e n)) (sym (begun_same x d e n same.initial)) ∙ ap (λ (z : List (Option ℕ)). word_or E (begun x d n) (slice_index_or z n None)) kept ∙ run.matches.words n);
                  counters = λ depth. ap (λ (z : List ℕ). word_or E 0 (slice_get z depth)) same.counters ∙ run.matches.counters depth;
                  loops = run.matches.loops ∙ ap (λ (z : List ℕ). length z) (sym same.counters);
                });
          };
    }
  where
    same' : IsElsewhere d (with_words e words)
    same' = record { arrays = same.arrays; counters = same.counters; values = same.values; effects = same.effects; initial = same.initial; latest = same.latest }

    below : (n : ℕ) (b : Bool) (o : Option ℕ) → IsBelow (length e.values) o → IsBelow (length e.values) (if b then Some v else o)
    below n true o h = within
    below n false o h = h

    old_below : (n : ℕ) → IsBelow (length e.values) (assigned_in e n)
    old_below n = subst (λ (z : List (Option ℕ)). IsBelow (length e.values) (slice_index_or z n None)) (sym kept) (below_on (length d.values) (length e.values) (assigned_in d n) same.values.longer (formed.words n))

    formed' : IsFormed (with_words e words)
    formed' =
        formed_elsewhere d (with_words e words) formed same'
        (subst (λ (g : Option ℕ). IsBelow (length e.values) g) (sym guard) (below_on (length d.values) (length e.values) d.guard same.values.longer formed.guard))
        (λ n. subst (λ (o : Option ℕ). IsBelow (length e.values) o) (sym (assigned n)) (below n (n == number) (assigned_in e n) (old_below n)))

-- a word is set to a value
pub sets : (d : Draft) (words : List (Option ℕ)) (number v : ℕ) → IsFormed d → v < length d.values
    → ((n : ℕ) → assigned_in (with_words d words) n ≡ (if n == number then Some v else assigned_in d n))
    → (w : ℕ) → Performs d (with_words d words) [] (λ E. Agrees TheWord (E v) w) (λ x. set_word number w) []
sets d words number v formed within assigned w =
    let h = changes d d words number v v None Signed Signed formed (record { arrays = refl; counters = refl; values = extends_same d.values; effects = refl; initial = refl; latest = refl }) refl refl within assigned (λ x E r. refl) w in
    record { grows = h.grows; formed = h.formed; leads = h.leads }

-- ---- outputs

other_effect : (es : List Effect) (guard g : Option ℕ) (port v array address value place : ℕ) → Contains (es ++ Send guard port v ∷ []) (Load g array address value place) → Contains es (Load g array address value place)
other_effect es guard g port v array address value place h =
    elim (Contains-append_cases es (Send guard port v ∷ []) (Load g array address value place) h) [
      | inl there ↦ there
      | inr here ↦ not_here here
    ]
  where
    not_here : Contains (Send guard port v ∷ []) (Load g array address value place) → Contains es (Load g array address value place)
    not_here (zero, lt, is) = absurd (cc)
    not_here (suc k, lt, is) = absurd (omega (arith, lt))

abbrev pub with_effect : Draft → Effect → Draft
with_effect d e = record d { effects = d.effects ++ e ∷ [] }

pub sends : (d : Draft) (port v : ℕ) → IsFormed d → v < length d.values → (w : ℕ) → Performs d (with_effect d (Send d.guard port v)) (Send d.guard port v ∷ []) (λ E. Agrees TheWord (E v) w) (λ x. sent port w) []
unfolding Leads
sends d port v formed within w =
    record {
      grows = record { arrays = refl; counters = refl; guard = refl; values = keeps (extends_same d.values); effects = refl; initial = λ n h. refl };
      formed = formed';
      leads = λ x E m c end r sound does. by_guard (holds E d.guard) (λ on. sent_on x E m c end sound on (does on)) (λ off. sent_off x E m c end sound off);
    }
  where
    formed' : IsFormed (with_effect d (Send d.guard port v))
    formed' =
        record {
          arranged = formed.arranged;
          counters = formed.counters;
          guard = formed.guard;
          words = formed.words;
          latest = formed.latest;
          stored = formed.stored;
          loads = λ g array address value place h. let l = formed.loads g array address value place (other_effect d.effects d.guard g port v array address value place h) in
              record { version = l.version; within = l.within; is = l.is; so_far = l.so_far };
          history = history_after d (with_effect d (Send d.guard port v)) (Send d.guard port v) refl (keeps (extends_same d.values)) (λ array. omega arith) (λ u from l h. absurd (omega (arith, from, l))) tt (formed.guard, within) formed.history;
        }

    sound' : (E : Words) (m : Outcome) → IsSound d E m → IsSound (with_effect d (Send d.guard port v)) E m
    sound' E m s =
        record {
          room = s.room;
          tables = s.tables;
          loaded = λ g array address value place h. s.loaded g array address value place (other_effect d.effects d.guard g port v array address value place h);
          stored = s.stored;
        }

    sent_on : (x : Moment) (E : Words) (m : Outcome) (c : Context) (end : State) → IsSound d E m → holds E d.guard ≡ true → Agrees TheWord (E v) w × Does d x E m c (sent port w) [] end → IsDone (with_effect d (Send d.guard port v)) x E m c end (if holds E d.guard then sent_to m port (E v) else m)
    sent_on x E m c end sound on does =
        let run = does.1 in
        subst (λ (b : Bool). IsDone (with_effect d (Send d.guard port v)) x E m c end (if b then sent_to m port (E v) else m)) (sym on)
        (record {
          sound = let s = sound' E m sound in record { room = s.room; tables = s.tables; loaded = s.loaded; stored = s.stored };
          idle = λ off. not_both (holds E d.guard) off on;
          matches = λ h.
              subst (λ (z : State). Matches (with_effect d (Send d.guard port v)) x E (sent_to m port (E v)) c z) (same_end _ end run.runs)
              (record {
                arrays = run.matches.arrays;
                streams = run.matches.streams;
                memory = run.matches.memory;
                outputs = λ p. ap₂ (λ (a b : List ℕ). if p == port then a else b) (ap₂ (λ (a : List ℕ) (z : ℕ). a ++ z ∷ []) (run.matches.outputs port) (sym does.0)) (run.matches.outputs p);
                words = run.matches.words;
                counters = run.matches.counters;
                loops = run.matches.loops;
              });
        })

    sent_off : (x : Moment) (E : Words) (m : Outcome) (c : Context) (end : State) → IsSound d E m → holds E d.guard ≡ false → IsDone (with_effect d (Send d.guard port v)) x E m c end (if holds E d.guard then sent_to m port (E v) else m)
    sent_off x E m c end sound off =
        subst (λ (b : Bool). IsDone (with_effect d (Send d.guard port v)) x E m c end (if b then sent_to m port (E v) else m)) (sym off)
        (record { sound = sound' E m sound; idle = λ h. refl; matches = λ on. not_both (holds E d.guard) off on })
