-- A turn from its beginning to its end.
use Rattle.std.proofs.Common.{◌≡◌, ℕ, ◌+◌, ◌<◌, ◌≤◌, ◌==◌, if◌then◌else◌, true, List, [], ◌++◌, length, Contains, Option, None, slice_get, slice_index, slice_index_or, refl, sym, ap, ◌∙◌, subst, arith}
use Rattle.cg_c_check.specs.declared.program.Array.{Array}
use Rattle.cg_c_check.specs.Program.{Program}
use Rattle.cg_c_check.specs.Arrays.{size_of}
use Rattle.cg_c_values.specs.Values.{Moment, Words, holds}
use Rattle.cg_c_values.proofs.Known.{fits_kept}
use Rattle.cg_c_meaning.specs.Meaning.{State}
use Rattle.cg_c_meaning.specs.Turns.{turns_of}
use Rattle.cg_c_meaning.specs.Typed.{AreApart, nest_outputs}
use Rattle.cg_c_turn.specs.Draft.{Draft, Effect, Latest, Load, latest_in}
use Rattle.cg_c_turn.specs.Leads.{Outcome, Leads}
use Rattle.cg_c_turn.specs.Nested.{IsNested, IsOfTurn}
use Rattle.cg_c_turn.specs.Stands.{AreBelow, HasTable, IsDone, IsFresh, IsSound, Matches, begun, word_in, word_or}
use Rattle.cg_c_turn.specs.Turn.{HasArrays, IsTurnEnd, Starts, Turns, outside_loops}
use Rattle.cg_c_turn.proofs.Leading.{leads_weaker}
use Rattle.cg_c_turn.proofs.Sent.{sent_apart}

-- nothing is in an empty list
none_there : {X : Type 0} (x : X) → Contains [] x → ⊥
none_there x h = absurd (omega (arith, h.1))

-- a draft in which nothing is done, whatever values it has
pub record IsBegun (arrays : List Array) (d : Draft) : Type 0 where
  pub arrays_are : d.arrays ≡ arrays
  pub counters : d.counters ≡ []
  pub effects : d.effects ≡ []
  pub guard : d.guard ≡ None
  pub words : d.words ≡ []
  pub initial : d.initial ≡ []
  pub latest : (array : ℕ) → latest_in d array ≡ record { version = 0; stored = None }

begun_sound : (arrays : List Array) (d : Draft) (E : Words) (m : Outcome) → IsBegun arrays d → HasArrays arrays m.memory → IsSound d E m
begun_sound arrays d E m b has =
    record {
      room = subst (λ (z : List Array). (a : Array) → Contains z a → a.start + size_of a.dimensions ≤ length m.memory) (sym b.arrays_are) has.room;
      tables = subst (λ (z : List Array). (a : Array) → Contains z a → HasTable m.memory a a.table) (sym b.arrays_are) has.tables;
      loaded = λ guard array address value place there. absurd (none_there _ (subst (λ (z : List Effect). Contains z (Load guard array address value place)) b.effects there));
      stored = λ array. subst (λ (l : Latest). IsFresh d.arrays E m.memory array l.stored) (sym (b.latest array)) tt;
    }

begun_word : (x : Moment) (E : Words) (d : Draft) (number : ℕ) → d.words ≡ [] → d.initial ≡ [] → word_in x E d number ≡ (if x.turn == 0 then 0 else x.carried number)
begun_word x E d number words initial =
    ap (λ (z : List (Option ℕ)). word_or E (begun x d number) (slice_index_or z number None)) words
    ∙ ap (λ (z : List ℕ). if x.turn == 0 then slice_index z number else x.carried number) initial

begun_matches : (p : Program) (d : Draft) (x : Moment) (E : Words) (m : Outcome) (s : State) → IsBegun p.arrays d → Starts p x m s → Matches d x E m (outside_loops p x) s
begun_matches p d x E m s b starts =
    record {
      arrays = sym b.arrays_are;
      streams = refl;
      memory = starts.memory;
      outputs = starts.outputs;
      words = λ number. begun_word x E d number b.words b.initial ∙ sym (starts.words number);
      counters = λ depth. ap (λ (z : List ℕ). word_or E 0 (slice_get z depth)) b.counters;
      loops = ap (λ (z : List ℕ). length z) (sym b.counters);
    }

pub turns_are : (p : Program) (b d : Draft) (index : ℕ) → IsBegun p.arrays b → IsOfTurn b.values index (λ t. t) → 0 < turns_of p.levels → AreApart (nest_outputs p.levels p.body) → AreBelow 16 (nest_outputs p.levels p.body) → IsNested b d index p.levels p.body → Turns p d
turns_are p b d index begun at some apart below nested =
    record {
      formed = (nested.performs 0 some).formed;
      arrays = (nested.performs 0 some).grows.arrays ∙ begun.arrays_are;
      sends = sent_apart b d (nest_outputs p.levels p.body) begun.effects nested.sends apart below;
      leads = λ x E m s end lt runs has starts done.
          let part = nested.performs x.turn lt in
          let effects : d.effects ≡ nested.added = part.grows.effects ∙ ap (λ (z : List Effect). z ++ nested.added) begun.effects in
          let on : holds E d.guard ≡ true = ap (λ z. holds E z) (part.grows.guard ∙ begun.guard) in
          subst (λ (z : List Effect). Leads p.arrays E z m (IsTurnEnd d x E end)) (sym effects)
          (subst (λ (z : List Array). Leads z E nested.added m (IsTurnEnd d x E end)) begun.arrays_are
          (leads_weaker b.arrays E nested.added m (IsDone d x E m (outside_loops p x) end) (IsTurnEnd d x E end)
          (λ n h. let k = h.matches on in record { memory = k.memory; outputs = k.outputs; words = λ number. sym (k.words number); arrays = record { room = h.sound.room; tables = h.sound.tables } })
          (part.leads x E m (outside_loops p x) end runs (begun_sound p.arrays b E m begun has)
          (λ h. (at.is x E (fits_kept b.values d.values x E part.grows.values runs.fits), record { before = s; matches = begun_matches p b x E m s begun starts; ready = starts.ready; runs = done })))));
    }
