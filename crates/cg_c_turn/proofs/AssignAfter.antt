-- A part of a run with a result, and then what is done with the result.
use Rattle.std.proofs.Common.{◌≡◌, ℕ, true, false, List, ◌++◌, sym, subst}
use Rattle.cg_c_values.specs.Values.{Moment, Words, holds}
use Rattle.cg_c_meaning.specs.Meaning.{State, Context, Run, ◌>>=◌}
use Rattle.cg_c_meaning.specs.Typed.{AreApart}
use Rattle.cg_c_turn.specs.Draft.{Draft, Effect}
use Rattle.cg_c_turn.specs.Leads.{Outcome, Leads}
use Rattle.cg_c_turn.specs.Pieces.{IsLeft, Steps, Yields}
use Rattle.cg_c_turn.specs.Stands.{Does, IsDone, IsSound, Matches, Performs, Runs}
use Rattle.cg_c_turn.proofs.Leading.{leads_weaker, leads_append}
use Rattle.cg_c_turn.proofs.Prefixes.{runs_before, grows_on}
use Rattle.cg_c_turn.proofs.Growing.{apart_ready, matches_on, ready_first}
use Rattle.cg_c_turn.proofs.Doing.{Step, at_guard, by_guard, moved_arrays, not_both, rest_done, split}
use Rattle.cg_c_turn.proofs.Yielding.{TakesOnly}

after_on : {A : Type 0} (a b c : Draft) (es fs : List Effect) (H : Words → Type 0) (run : Context → Run A) (ps : List ℕ) (Q : Words → A → Type 0) (next : A → Context → Step) (qs : List ℕ)
    → Steps a b es → TakesOnly run ps → AreApart (ps ++ qs) → Yields a b es H run ps Q → ((r : A) → Performs b c fs (λ F. H F × Q F r) (next r) qs)
    → (x : Moment) (E : Words) (m : Outcome) (ctx : Context) (end : State) → Runs c x E → IsSound a E m → H E → Does a x E m ctx (run ctx >>= (λ r. next r ctx)) (ps ++ qs) end
    → Leads a.arrays E es m (λ n. Leads a.arrays E fs n (IsDone c x E m ctx end))
after_on a b c es fs H run ps Q next qs p take apart y z x E m ctx end runs sound h does =
    let parts = split (run ctx does.before) (λ r. next r ctx) end does.runs in
    let took = take.takes ctx does.before parts.middle parts.given parts.before in
    let here = matches_on a b es x E m ctx does.before parts.middle ps p took does.matches in
    leads_weaker a.arrays E es m (IsLeft b E m (Q E parts.given)) (λ n. Leads a.arrays E fs n (IsDone c x E m ctx end))
    (λ n l.
    moved_arrays a.arrays b.arrays E fs n (IsDone c x E m ctx end) p.grows.arrays
    (rest_done x E m n ctx end (z parts.given) runs l.sound
    (λ holding. ((h, l.agrees holding), record { before = parts.middle; matches = subst (λ (o : Outcome). Matches b x E o ctx parts.middle) (sym l.same) here; ready = apart_ready x does.before parts.middle ps qs apart took does.ready; runs = parts.after }))
    (λ off. l.same)))
    (y.leads x E m parts.given (runs_before (z parts.given).grows runs) sound
    (λ holding. (h, record { context = ctx; before = does.before; after = parts.middle; matches = does.matches; ready = ready_first x does.before ps qs does.ready; runs = parts.before })))

after_off : {A : Type 0} (a b c : Draft) (es fs : List Effect) (H : Words → Type 0) (run : Context → Run A) (ps : List ℕ) (Q : Words → A → Type 0) (next : A → Context → Step) (qs : List ℕ) (any : A)
    → Steps a b es → Yields a b es H run ps Q → ((r : A) → Performs b c fs (λ F. H F × Q F r) (next r) qs)
    → (x : Moment) (E : Words) (m : Outcome) (ctx : Context) (end : State) → Runs c x E → IsSound a E m → holds E a.guard ≡ false
    → Leads a.arrays E es m (λ n. Leads a.arrays E fs n (IsDone c x E m ctx end))
after_off a b c es fs H run ps Q next qs any p y z x E m ctx end runs sound off =
    leads_weaker a.arrays E es m (IsLeft b E m (Q E any)) (λ n. Leads a.arrays E fs n (IsDone c x E m ctx end))
    (λ n l.
    moved_arrays a.arrays b.arrays E fs n (IsDone c x E m ctx end) p.grows.arrays
    (rest_done x E m n ctx end (z any) runs l.sound (λ holding. not_both (holds E a.guard) off (at_guard E true p.grows holding)) (λ still. l.same)))
    (y.leads x E m any (runs_before (z any).grows runs) sound (λ holding. not_both (holds E a.guard) off holding))

-- a statement after a part with a result, which it is given
pub performs_after : {A : Type 0} (a b c : Draft) (es fs : List Effect) (H : Words → Type 0) (run : Context → Run A) (ps : List ℕ) (Q : Words → A → Type 0) (next : A → Context → Step) (qs : List ℕ) (any : A)
    → Steps a b es → TakesOnly run ps → AreApart (ps ++ qs) → Yields a b es H run ps Q → ((r : A) → Performs b c fs (λ F. H F × Q F r) (next r) qs)
    → Performs a c (es ++ fs) H (λ ctx. run ctx >>= (λ r. next r ctx)) (ps ++ qs)
performs_after a b c es fs H run ps Q next qs any p take apart y z =
    record {
      grows = grows_on p.grows (z any).grows;
      formed = (z any).formed;
      leads = λ x E m ctx end runs sound does.
          leads_append a.arrays E es fs m (IsDone c x E m ctx end)
          (by_guard (holds E a.guard)
          (λ on. let d = does on in after_on a b c es fs H run ps Q next qs p take apart y z x E m ctx end runs sound d.0 d.1)
          (λ off. after_off a b c es fs H run ps Q next qs any p y z x E m ctx end runs sound off));
    }
