-- What holds of a draft that has grown holds of the draft before.
use Rattle.std.proofs.Common.{◌≡◌, ℕ, ◌==◌, if◌then◌else◌, List, [], ◌++◌, refl, sym, ap, ◌∙◌, arith, append_assoc, append-nil, slice_index}
use Rattle.cg_c_values.specs.declared.value.Value.{Value}
use Rattle.cg_c_values.specs.Values.{Moment, Words, Fits, Extends, Keeps}
use Rattle.cg_c_values.proofs.Known.{extends_further, extends_itself, keeps}
use Rattle.cg_c_turn.specs.Draft.{Draft, Effect}
use Rattle.cg_c_turn.specs.Stands.{IsTouched, Grows, Runs, begun}

pub extends_on : {a b c : List Value} → Extends a b → Extends b c → Extends a c
extends_on {a = a} {b = b} {c = c} h g = extends_further a b c h g

pub keeps_on : {a b c : List Value} → Keeps a b → Keeps b c → Keeps a c
keeps_on h g = record { longer = omega (arith, h.longer, g.longer); kept = λ v w. g.kept v (omega (arith, w, h.longer)) ∙ h.kept v w }

pub extends_same : (a : List Value) → Extends a a
extends_same a = extends_itself a

pub fits_before : {a b : List Value} {x : Moment} {E : Words} → Keeps a b → Fits b x E → Fits a x E
fits_before {x = x} {E = E} h f =
    record {
      word = λ v w. f.word v (omega (arith, w, h.longer));
      is = λ v w. rw (sym (h.kept v w)) (f.is v (omega (arith, w, h.longer)));
    }

pub touched_on : {a b : Draft} {es : List Effect} (n : ℕ) → Grows a b es → IsTouched a n → IsTouched b n
touched_on n g t = (t.0, omega (arith, t.1, g.values.longer), g.values.kept t.0 t.1 ∙ t.2)

pub runs_before : {a b : Draft} {es : List Effect} {x : Moment} {E : Words} → Grows a b es → Runs b x E → Runs a x E
runs_before g r =
    record {
      fits = fits_before g.values r.fits;
      first = λ t n h. r.first t n (touched_on n g h) ∙ g.initial n h;
    }

pub grows_on : {a b c : Draft} {es fs : List Effect} → Grows a b es → Grows b c fs → Grows a c (es ++ fs)
grows_on {a = a} {es = es} {fs = fs} g h =
    record {
      arrays = h.arrays ∙ g.arrays;
      counters = h.counters ∙ g.counters;
      guard = h.guard ∙ g.guard;
      values = keeps_on g.values h.values;
      effects = h.effects ∙ ap (λ z. z ++ fs) g.effects ∙ append_assoc a.effects es fs;
      initial = λ n t. h.initial n (touched_on n g t) ∙ g.initial n t;
    }

pub grows_same : (a : Draft) → Grows a a []
grows_same a =
    record {
      arrays = refl;
      counters = refl;
      guard = refl;
      values = keeps (extends_same a.values);
      effects = sym (append-nil a.effects);
      initial = λ n t. refl;
    }

pub runs_shorter : (a b : Draft) {x : Moment} {E : Words} → Extends a.values b.values → b.initial ≡ a.initial → Runs b x E → Runs a x E
runs_shorter a b {x = x} longer initial r =
    record {
      fits = fits_before (keeps longer) r.fits;
      first = λ t n h. r.first t n (h.0, omega (arith, h.1, longer.longer), longer.kept h.0 h.1 ∙ h.2) ∙ ap (λ z. slice_index z n) initial;
    }

pub begun_same : (x : Moment) (a b : Draft) (number : ℕ) → b.initial ≡ a.initial → begun x a number ≡ begun x b number
begun_same x a b number initial = ap (λ (z : List ℕ). if x.turn == 0 then slice_index z number else x.carried number) (sym initial)
