-- Words that are given their first values before the first turn.
use Rattle.std.proofs.Common.{◌≡◌, ℕ, ◌<◌, ◌==◌, if◌then◌else◌, Bool, true, false, List, [], ◌∷◌, ◌++◌, length, Option, Some, None, slice_index, refl, sym, ap, ◌∙◌, subst, append-nil}
use Rattle.std.proofs.lemmas.Bool.{eqb-true}
use Rattle.cg_c_check.specs.Program.{Expr, Literal}
use Rattle.cg_c_check.specs.declared.program.Constant.{Constant}
use Rattle.cg_c_check.specs.declared.program.Initial.{Initial as MadeInitial}
use Rattle.cg_c_check.specs.Written.{expr_of, initial_of}
use Rattle.cg_c_values.specs.declared.value.Value.TheVariants.{Carried}
use Rattle.cg_c_values.specs.Values.{Moment, Words, value_at}
use Rattle.cg_c_values.proofs.Known.{keeps}
use Rattle.cg_c_meaning.specs.Meaning.{State, declared, value}
use Rattle.cg_c_meaning.specs.Typed.{AreApart, IsTypedExpr, inputs}
use Rattle.cg_c_turn.specs.Draft.{Draft, Effect, assigned_in, initial_in}
use Rattle.cg_c_turn.specs.Leads.{Outcome, Leads}
use Rattle.cg_c_turn.specs.Stands.{TheWord, IsFormed, IsSound, Matches, Performs, Any, Translates, begun, word_or, word_in}
use Rattle.cg_c_turn.specs.Nested.{IsAtFirst, IsFirst, IsUnused, with_initial}
use Rattle.cg_c_turn.specs.Words.{with_words}
use Rattle.cg_c_turn.proofs.Prefixes.{extends_same}
use Rattle.cg_c_turn.proofs.Doing.{same_end}
use Rattle.cg_c_turn.proofs.Evaluating.{value_then}
use Rattle.cg_c_turn.proofs.Sending.{set_is}
use Rattle.cg_c_turn.proofs.WordLists.{pushed_default}
use Rattle.cg_c_turn.proofs.Branching.{no_ports}
use Rattle.cg_c_turn.proofs.Sent.{sends_nothing}

-- a word behind the last one is 0
pub pushed_zero : (ws : List ℕ) (n : ℕ) → slice_index (ws ++ 0 ∷ []) n ≡ slice_index ws n
pushed_zero ws n = pushed_default ws 0 n

-- ---- a draft in which a word begins otherwise

formed_beginning : (d : Draft) (ws : List ℕ) → IsFormed d → IsFormed (with_initial d ws)
formed_beginning d ws formed =
    record {
      arranged = formed.arranged;
      counters = formed.counters;
      guard = formed.guard;
      words = formed.words;
      latest = formed.latest;
      stored = formed.stored;
      loads = λ g array address value place h. let l = formed.loads g array address value place h in
          record { version = l.version; within = l.within; is = l.is; so_far = l.so_far };
      history = record { counted = formed.history.counted; numbered = formed.history.numbered; loaded = formed.history.loaded; usable = formed.history.usable };
    }

sound_beginning : (d : Draft) (ws : List ℕ) (E : Words) (m : Outcome) → IsSound d E m → IsSound (with_initial d ws) E m
sound_beginning d ws E m s = record { room = s.room; tables = s.tables; loaded = s.loaded; stored = s.stored }

-- what the other words begin with is as it was
other_begins : (d : Draft) (ws : List ℕ) (number word n : ℕ) (b : Bool) → (n == number) ≡ b → IsUnused d number → initial_in (with_initial d ws) n ≡ (if b then word else initial_in d n) → (v : ℕ) × (v < length d.values) × (value_at d.values v ≡ Carried n) → initial_in (with_initial d ws) n ≡ initial_in d n
other_begins d ws number word n true e unused is touched = absurd (unused.untouched (subst (λ z. (v : ℕ) × (v < length d.values) × (value_at d.values v ≡ Carried z)) (eqb-true n number e) touched))
other_begins d ws number word n false e unused is touched = is

-- in the first turn the word is what it begins with
word_begins : (d : Draft) (ws : List ℕ) (number word : ℕ) (x : Moment) (E : Words) (s : State) (n : ℕ) (b : Bool) → (n == number) ≡ b → x.turn ≡ 0 → IsUnused d number → initial_in (with_initial d ws) n ≡ (if b then word else initial_in d n) → word_in x E d n ≡ s.words n → word_in x E (with_initial d ws) n ≡ (if b then word else s.words n)
word_begins d ws number word x E s n true e turn unused is old =
    ap (λ (o : Option ℕ). word_or E (begun x (with_initial d ws) n) o) (ap (λ z. assigned_in d z) (eqb-true n number e) ∙ unused.unassigned)
    ∙ ap (λ z. if z == 0 then initial_in (with_initial d ws) n else x.carried n) turn ∙ is
word_begins d ws number word x E s n false e turn unused is old =
    ap (λ z. word_or E (if x.turn == 0 then z else x.carried n) (assigned_in d n)) is ∙ old

-- where the turn is the first one, a word that wasn't used is declared by what it begins with
pub begins_is : (d : Draft) (ws : List ℕ) (number : ℕ) (k : Constant) → IsFormed d → IsAtFirst d → IsUnused d number → ((n : ℕ) → initial_in (with_initial d ws) n ≡ (if n == number then k.word else initial_in d n)) → Performs d (with_initial d ws) [] Any (λ c. declared c (record { number = number; value = Literal k } ∷ [])) []
unfolding Leads value
begins_is d ws number k formed first unused is =
    record {
      grows = record { arrays = refl; counters = refl; guard = refl; values = keeps (extends_same d.values); effects = sym (append-nil d.effects); initial = λ n touched. other_begins d ws number k.word n (n == number) refl unused (is n) touched };
      formed = formed_beginning d ws formed;
      leads = λ x E m c end r sound does.
          record {
            sound = sound_beginning d ws E m sound;
            idle = λ off. refl;
            matches = λ on.
                let run = (does on).1 in
                subst (λ (z : State). Matches (with_initial d ws) x E m c z) (same_end _ end run.runs)
                (record {
                  arrays = run.matches.arrays;
                  streams = run.matches.streams;
                  memory = run.matches.memory;
                  outputs = run.matches.outputs;
                  words = λ n. word_begins d ws number k.word x E run.before n (n == number) refl (first.first x E (record { word = r.fits.word; is = r.fits.is }) on) unused (is n) (run.matches.words n);
                  counters = run.matches.counters;
                  loops = run.matches.loops;
                });
          };
    }

pub begun_is : (d e : Draft) (i : MadeInitial) (k : Constant) → IsFormed d → IsAtFirst d → IsUnused d i.number → expr_of i.value ≡ Literal k → e ≡ with_initial d e.initial → ((n : ℕ) → initial_in e n ≡ (if n == i.number then k.word else initial_in d n)) → IsFirst d e (λ c. declared c (initial_of i ∷ [])) []
begun_is d e i k formed first unused literal same is =
    subst (λ (z : Expr). IsFirst d e (λ c. declared c (record { number = i.number; value = z } ∷ [])) []) (sym literal)
    (subst (λ (z : Draft). IsFirst d z (λ c. declared c (record { number = i.number; value = Literal k } ∷ [])) []) (sym same)
    (record { added = []; performs = begins_is d e.initial i.number k formed first unused is; sends = sends_nothing d (with_initial d e.initial) [] (sym (append-nil d.effects)) refl }))

-- ---- a word that is assigned

pub assigned_is : {d b : Draft} {es : List Effect} (e : Draft) (number v : ℕ) (value_is : Expr) → IsTypedExpr d.arrays true value_is → inputs value_is ≡ [] → Translates d b es value_is TheWord v → e ≡ with_words b e.words → ((n : ℕ) → assigned_in e n ≡ (if n == number then Some v else assigned_in b n)) → IsFirst d e (λ c. declared c (record { number = number; value = value_is } ∷ [])) []
assigned_is {d = d} {b = b} {es = es} e number v value_is typed none one same assigned =
    let apart : AreApart (inputs value_is ++ []) = subst (λ (q : List ℕ). AreApart q) (sym (append-nil (inputs value_is) ∙ none)) tt in
    record { added = es ++ []; performs = no_ports (append-nil (inputs value_is) ∙ none) (value_then d.arrays true typed one (set_is b e number v one.formed one.within same assigned) apart); sends = sends_nothing d e es (ap (λ (z : Draft). z.effects) same ∙ one.grows.effects) one.silent }

-- ---- the steps of the code

pub unused_is : (d : Draft) (number : ℕ) → assigned_in d number ≡ None → ((v : ℕ) → v < length d.values → value_at d.values v ≡ Carried number → ⊥) → IsUnused d number
unused_is d number none absent = record { unassigned = none; untouched = λ t. absent t.0 t.1 t.2 }
