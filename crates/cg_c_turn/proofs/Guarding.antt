-- An expression that is evaluated under a condition.
use Rattle.std.proofs.Common.{◌≡◌, ℕ, Bool, true, List, ◌++◌, length, Option, Some, slice_index, refl, sym, ap, ◌∙◌, subst}
use Rattle.cg_c_check.specs.declared.program.Array.{Array}
use Rattle.cg_c_check.specs.Program.{Expr}
use Rattle.cg_c_values.specs.Values.{Moment, Words, Extends, holds}
use Rattle.cg_c_values.proofs.Known.{fits_kept, keeps}
use Rattle.cg_c_meaning.specs.Meaning.{value}
use Rattle.cg_c_meaning.specs.Typed.{inputs}
use Rattle.cg_c_turn.specs.Draft.{Draft, Effect}
use Rattle.cg_c_turn.specs.Leads.{Outcome, Leads}
use Rattle.cg_c_turn.specs.Stands.{Wanted, Agrees, Evaluates, IsEvaluated, IsFormed, IsSound, Matches, Runs, Translates}
use Rattle.cg_c_turn.specs.Pieces.{Steps, Goes, IsLeft, Enters, Guards, only_if}
use Rattle.cg_c_turn.proofs.Leading.{leads_weaker}
use Rattle.cg_c_turn.proofs.Growing.{below_on, keeps_then, formed_with, matches_with, sound_on, sound_with, runs_without, touched_on, extends_refl}

-- under the guard that was there before
abbrev pub back_under : Draft → Option ℕ → Draft
back_under b g = record b { guard = g }

entered_formed : (a d : Draft) (H : Words → ℕ → Type 0) (go : ℕ → Bool) → IsFormed a → Enters a d H go → IsFormed d
entered_formed a d H go f n = subst (λ (z : Draft). IsFormed z) (sym n.rest) (formed_with a d.values d.guard f n.kept n.below)

pub entered_is_formed : (a d : Draft) (H : Words → ℕ → Type 0) (go : ℕ → Bool) → IsFormed a → Enters a d H go → IsFormed d
entered_is_formed a d H go f n = entered_formed a d H go f n

guards_steps : (a d : Draft) (H : Words → ℕ → Type 0) (go : ℕ → Bool) (b : Draft) (es : List Effect) (e : Expr) (wanted : Wanted) (v : ℕ)
    → IsFormed a → Enters a d H go → Translates d b es e wanted v → Steps a (back_under b a.guard) es
guards_steps a d H go b es e wanted v f n t =
    let more = keeps_then a.values d.values b.values (keeps n.kept) t.grows.values in
    let formed = formed_with b b.values a.guard t.formed (extends_refl b.values) (below_on (length a.values) (length b.values) a.guard more.longer f.guard) in
    record {
      grows = record {
        arrays = t.grows.arrays ∙ ap (λ (z : Draft). z.arrays) n.rest;
        counters = t.grows.counters ∙ ap (λ (z : Draft). z.counters) n.rest;
        guard = refl;
        values = more;
        effects = t.grows.effects ∙ ap (λ (z : Draft). z.effects ++ es) n.rest;
        initial = λ number h. t.grows.initial number (touched_on a d number (keeps n.kept) h) ∙ ap (λ (z : Draft). slice_index z.initial number) n.rest;
      };
      formed = formed;
      words = t.words ∙ ap (λ (z : Draft). z.words) n.rest;
      initial = t.initial ∙ ap (λ (z : Draft). z.initial) n.rest;
      latest = t.latest ∙ ap (λ (z : Draft). z.latest) n.rest;
      silent = t.silent;
    }

evaluates_under : (a d : Draft) (x : Moment) (E : Words) (m : Outcome) (e : Expr) (goes_on : Bool) (w : ℕ)
    → d ≡ record a { values = d.values; guard = d.guard } → goes_on ≡ true → Goes a x E m (λ c. only_if goes_on (value c e)) (inputs e) w → Evaluates d x E m e w
evaluates_under a d x E m e goes_on w rest on k = record {
  context = k.context;
  before = k.before;
  after = k.after;
  matches = subst (λ (z : Draft). Matches z x E m k.context k.before) (sym rest) (matches_with a d.values d.guard x E m k.context k.before k.matches);
  ready = k.ready;
  runs = subst (λ (z : Bool). only_if z (value k.context e) k.before ≡ Some (w, k.after)) on k.runs;
}

entered_sound : (a d : Draft) (E : Words) (m : Outcome) → IsFormed a → d ≡ record a { values = d.values; guard = d.guard } → Extends a.values d.values → IsSound a E m → IsSound d E m
entered_sound a d E m f rest kept sound =
    sound_on a d E m f (ap (λ (z : Draft). z.arrays) rest) (ap (λ (z : Draft). z.latest) rest) (ap (λ (z : Draft). z.effects) rest) (keeps kept) sound

guards_leads : (a d : Draft) (H : Words → ℕ → Type 0) (go : ℕ → Bool) (b : Draft) (es : List Effect) (e : Expr) (wanted : Wanted) (v u : ℕ) (x : Moment) (E : Words) (m : Outcome) (w : ℕ)
    → IsFormed a → Enters a d H go → Translates d b es e wanted v
    → Runs (back_under b a.guard) x E → IsSound a E m
    → (holds E a.guard ≡ true → H E u × Goes a x E m (λ c. only_if (go u) (value c e)) (inputs e) w)
    → Leads a.arrays E es m (IsLeft (back_under b a.guard) E m (go u ≡ true → Agrees wanted (E v) w))
guards_leads a d H go b es e wanted v u x E m w f n t runs sound goes =
    let within = runs_without b a.guard x E runs in
    let fits = fits_kept d.values b.values x E t.grows.values within.fits in
    subst (λ (z : List Array). Leads z E es m (IsLeft (back_under b a.guard) E m (go u ≡ true → Agrees wanted (E v) w))) (ap (λ (z : Draft). z.arrays) n.rest)
    (leads_weaker d.arrays E es m (IsEvaluated b E m wanted v w) (IsLeft (back_under b a.guard) E m (go u ≡ true → Agrees wanted (E v) w))
    (λ o l. record {
      same = l.same;
      sound = sound_with b a.guard E o l.sound;
      agrees = λ holding on. l.agrees (ap (holds E) t.grows.guard ∙ n.is x E u fits holding (goes holding).0 ∙ on);
    })
    (t.leads x E m w within (entered_sound a d E m f n.rest n.kept sound)
    (λ under.
    let holding = n.implies x E fits under in
    let k = goes holding in
    evaluates_under a d x E m e (go u) w n.rest (sym (n.is x E u fits holding k.0) ∙ under) k.1)))

-- what is translated under such a guard
pub guards_by : (a d : Draft) (H : Words → ℕ → Type 0) (go : ℕ → Bool) (b : Draft) (es : List Effect) (e : Expr) (wanted : Wanted) (v : ℕ)
    → IsFormed a → Enters a d H go → Translates d b es e wanted v
    → Guards a (back_under b a.guard) es H go e wanted v
guards_by a d H go b es e wanted v f n t = record {
  steps = guards_steps a d H go b es e wanted v f n t;
  within = t.within;
  yields = λ u. record { leads = λ x E m w runs sound goes. guards_leads a d H go b es e wanted v u x E m w f n t runs sound goes };
}
