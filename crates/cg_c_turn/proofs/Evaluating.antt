-- An expression, and then what is done with its word.
use Rattle.std.proofs.Common.{◌≡◌, ℕ, Bool, true, false, List, ◌++◌, length, Option, slice_index_or, slice_get, None, sym, ap, ◌∙◌}
use Rattle.cg_c_check.specs.declared.program.Array.{Array}
use Rattle.cg_c_check.specs.Program.{Expr}
use Rattle.cg_c_values.specs.Values.{Moment, Words, holds}
use Rattle.cg_c_meaning.specs.Meaning.{State, Context, ◌>>=◌, value}
use Rattle.cg_c_meaning.specs.Typed.{AreApart, IsTypedExpr, inputs}
use Rattle.cg_c_meaning.specs.Taken.{TakesAlone}
use Rattle.cg_c_meaning.proofs.Taking.{expressions_take}
use Rattle.cg_c_turn.specs.Draft.{Draft, Effect, assigned_in}
use Rattle.cg_c_turn.specs.Leads.{Outcome, Leads}
use Rattle.cg_c_turn.specs.Stands.{Wanted, Agrees, Grows, Runs, IsSound, Matches, Does, IsDone, IsEvaluated, Performs, Any, Translates, begun, word_or}
use Rattle.cg_c_turn.proofs.Leading.{leads_weaker, leads_append}
use Rattle.cg_c_turn.proofs.Prefixes.{runs_before, grows_on, begun_same}
use Rattle.cg_c_turn.proofs.Doing.{Step, split, still_ready, ready_first, not_both, rest_done, moved_arrays, at_guard, by_guard}

-- the run is where it was, but for words that it has taken
pub moved : {a b : Draft} {es : List Effect} {x : Moment} {E : Words} {m n : Outcome} {c : Context} {before middle : State} (ports : List ℕ) → Grows a b es → b.words ≡ a.words → b.initial ≡ a.initial → n ≡ m → TakesAlone before middle ports → Matches a x E m c before → Matches b x E n c middle
moved {a = a} {b = b} {x = x} {E = E} ports grows words initial same takes h =
    record {
      arrays = h.arrays ∙ sym grows.arrays;
      streams = h.streams;
      memory = takes.memory ∙ h.memory ∙ ap (λ (o : Outcome). o.memory) (sym same);
      outputs = λ port. takes.outputs port ∙ h.outputs port ∙ ap (λ (o : Outcome). o.outputs port) (sym same);
      words = λ number.
          ap (λ (z : List (Option ℕ)). word_or E (begun x b number) (slice_index_or z number None)) words
          ∙ ap (λ z. word_or E z (assigned_in a number)) (sym (begun_same x a b number initial))
          ∙ h.words number ∙ sym (takes.words number);
      counters = λ depth. ap (λ (z : List ℕ). word_or E 0 (slice_get z depth)) grows.counters ∙ h.counters depth;
      loops = h.loops ∙ ap (λ (z : List ℕ). length z) (sym grows.counters);
    }

abbrev pub Then : (ℕ → Context → Step) → Expr → Context → Step
Then next e x = value x e >>= (λ w. next w x)

then_on : {a b c : Draft} {es fs : List Effect} {e : Expr} {wanted : Wanted} {v : ℕ} {next : ℕ → Context → Step} {q : List ℕ} (arrays : List Array) (each : Bool) → IsTypedExpr arrays each e → Translates a b es e wanted v → ((w : ℕ) → Performs b c fs (λ E. Agrees wanted (E v) w) (next w) q) → AreApart (inputs e ++ q) → (x : Moment) (E : Words) (m : Outcome) (ctx : Context) (end : State) → Runs c x E → IsSound a E m → holds E a.guard ≡ true → Does a x E m ctx (Then next e ctx) (inputs e ++ q) end → Leads a.arrays E es m (λ n. Leads a.arrays E fs n (IsDone c x E m ctx end))
then_on {a = a} {b = b} {c = c} {es = es} {fs = fs} {e = e} {wanted = wanted} {v = v} {next = next} {q = q} arrays each typed one two apart x E m ctx end r s on does =
    let parts = split (value ctx e does.before) (λ w. next w ctx) end does.runs in
    let takes = expressions_take arrays each ctx e does.before parts.middle parts.given typed parts.before in
    leads_weaker a.arrays E es m (IsEvaluated b E m wanted v parts.given) (λ n. Leads a.arrays E fs n (IsDone c x E m ctx end))
    (λ n (done : IsEvaluated b E m wanted v parts.given n).
    moved_arrays a.arrays b.arrays E fs n (IsDone c x E m ctx end) one.grows.arrays
    (rest_done x E m n ctx end (two parts.given) r done.sound
    (λ h. (done.agrees h, record { before = parts.middle; matches = moved (inputs e) one.grows one.words one.initial done.same takes does.matches; ready = still_ready x does.before parts.middle (inputs e) q apart does.ready takes.taken; runs = parts.after }))
    (λ off. done.same)))
    (one.leads x E m parts.given (runs_before (two parts.given).grows r) s
    (λ h. record { context = ctx; before = does.before; after = parts.middle; matches = does.matches; ready = ready_first x does.before (inputs e) q does.ready; runs = parts.before }))

then_off : {a b c : Draft} {es fs : List Effect} {e : Expr} {wanted : Wanted} {v : ℕ} {next : ℕ → Context → Step} {q : List ℕ} → Translates a b es e wanted v → ((w : ℕ) → Performs b c fs (λ E. Agrees wanted (E v) w) (next w) q) → (x : Moment) (E : Words) (m : Outcome) (ctx : Context) (end : State) → Runs c x E → IsSound a E m → holds E a.guard ≡ false → Leads a.arrays E es m (λ n. Leads a.arrays E fs n (IsDone c x E m ctx end))
then_off {a = a} {b = b} {c = c} {es = es} {fs = fs} {wanted = wanted} {v = v} one two x E m ctx end r s off =
    leads_weaker a.arrays E es m (IsEvaluated b E m wanted v 0) (λ n. Leads a.arrays E fs n (IsDone c x E m ctx end))
    (λ n (done : IsEvaluated b E m wanted v 0 n).
    moved_arrays a.arrays b.arrays E fs n (IsDone c x E m ctx end) one.grows.arrays
    (rest_done x E m n ctx end (two 0) r done.sound (λ h. not_both (holds E a.guard) off (at_guard E true one.grows h)) (λ h. done.same)))
    (one.leads x E m 0 (runs_before (two 0).grows r) s (λ h. not_both (holds E a.guard) off h))

pub value_then : {a b c : Draft} {es fs : List Effect} {e : Expr} {wanted : Wanted} {v : ℕ} {next : ℕ → Context → Step} {q : List ℕ} (arrays : List Array) (each : Bool) → IsTypedExpr arrays each e → Translates a b es e wanted v → ((w : ℕ) → Performs b c fs (λ E. Agrees wanted (E v) w) (next w) q) → AreApart (inputs e ++ q) → Performs a c (es ++ fs) Any (Then next e) (inputs e ++ q)
value_then {a = a} {b = b} {c = c} {es = es} {fs = fs} {e = e} {next = next} {q = q} arrays each typed one two apart =
    record {
      grows = grows_on one.grows (two 0).grows;
      formed = (two 0).formed;
      leads = λ x E m ctx end r s does.
          leads_append a.arrays E es fs m (IsDone c x E m ctx end)
          (by_guard (holds E a.guard)
          (λ on. then_on arrays each typed one two apart x E m ctx end r s on (does on).1)
          (λ off. then_off {next = next} {q = q} one two x E m ctx end r s off));
    }
