-- Loads over again.
use Rattle.std.proofs.Common.{◌≡◌, ◌≢◌, ℕ, ◌<◌, nat_lt, Bool, true, false, List, Option, None, Some, length, refl, sym, ap, ◌∙◌, subst, arith, inl, inr}
use Rattle.std.specs.Option.{MatchOption, is_some}
use Rattle.std.proofs.lemmas.Bool.{lt-ltb}
use Rattle.cg_c_values.specs.declared.value.Value.{Value}
use Rattle.cg_c_values.specs.declared.value.Value.TheVariants.{Const, Turn, Quotient, Digit, Carried, Input, Loaded, Two, Select}
use Rattle.cg_c_values.specs.Values.{Keeps, Fits, IsWordOf, Moment, Words, holds, value_at}
use Rattle.cg_c_forms.specs.Forms.{IsGuardOf, IsLoadOf, MayAct, behind, renamed}
use Rattle.cg_c_forms.specs.Remade.{IsLoadAt, IsLoadUnder, IsNew}
use Rattle.cg_c_forms.proofs.Computed.{word_of}
use Rattle.cg_c_values.proofs.Known.{fits_kept}

-- ---- guards that are constants

constant_word : (values : List Value) (v word : ℕ) (x : Moment) (E : Words) → v < length values → value_at values v ≡ Const word → Fits values x E → E v ≡ word
unfolding IsWordOf
constant_word values v word x E l e f = word_of values v (Const word) x E l e f

-- a guard that is a constant other than 0 holds
pub always : (a b : List Value) (g word : ℕ) → Keeps a b → g < length a → value_at a g ≡ Const word → word ≢ 0 →
    (x : Moment) (E : Words) → Fits b x E → holds E (Some g) ≡ true
always a b g word k l e h x E f =
    ap (λ y. nat_lt 0 y) (constant_word a g word x E l e (fits_kept a b x E k f)) ∙ lt-ltb 0 word (omega arith)

-- ---- loads under a guard

pub never_loaded : (a b : List Value) (array version g address v : ℕ) → Keeps a b → g < length a → value_at a g ≡ Const 0 → v < length b → value_at b v ≡ Const 0 →
    IsLoadAt b array version (Some g) address v
unfolding IsLoadUnder
never_loaded a b array version g address v k l e m i =
    record {
      within = m;
      load = subst (IsLoadUnder b array version (Some g) address) (sym i)
          (λ x E f. ap (λ y. nat_lt 0 y) (constant_word a g 0 x E l e (fits_kept a b x E k f)));
    }

pub loaded : (values : List Value) (array version : ℕ) (guard guard' : Option ℕ) (address v : ℕ) →
    ((x : Moment) (E : Words) → Fits values x E → holds E guard' ≡ holds E guard) →
    v < length values → value_at values v ≡ Loaded array version guard' address → IsLoadAt values array version guard address v
unfolding IsLoadUnder
loaded values array version guard guard' address v h l e =
    record { within = l; load = subst (IsLoadUnder values array version guard address) (sym e) (refl, refl, refl, h) }

-- ---- the guard of an old load and of the new one

pub record Guards (old new : List Value) (turns : ℕ) (map : List ℕ) (array version : ℕ) (guard : Option ℕ) (address : ℕ) (guard' : Option ℕ) : Type 0 where
  pub holds : IsGuardOf new turns map guard guard'
  pub only : MayAct old new turns map array version guard address guard'

pub none_guards : (old new : List Value) (turns : ℕ) (map : List ℕ) (array version : ℕ) (guard : Option ℕ) (address : ℕ) (guard' : Option ℕ) →
    guard ≡ None → guard' ≡ None → Guards old new turns map array version guard address guard'
none_guards old new turns map array version guard address guard' e e' =
    record { holds = λ x E f l h. ap (holds E) e'; only = inl (λ x E f l h. ap (holds (behind E map)) e) }

found : {X : Type 0} (o : Option X) (N : Type 0) (P : X → Type 0) → is_some o ≡ true → MatchOption o N P → (v : X) × P v
found None N P h m = absurd (cc h)
found (Some v) N P h m = (v, m)

pub found_guards : (old new : List Value) (turns : ℕ) (map : List ℕ) (array version : ℕ) (guard : Option ℕ) (address : ℕ) (guard' : Option ℕ) →
    (o : Option ℕ) (N : Type 0) → is_some o ≡ true → MatchOption o N (λ v. (v < length old) × (value_at old v ≡ Loaded array version None address)) →
    guard' ≡ None → Guards old new turns map array version guard address guard'
found_guards old new turns map array version guard address guard' o N h m e' =
    let p = found o N (λ (v : ℕ). (v < length old) × (value_at old v ≡ Loaded array version None address)) h m in
    record { holds = λ x E f l h. ap (holds E) e'; only = inr (p.0, p.1.0, p.1.1) }

pub tested_guards : (old now new : List Value) (turns : ℕ) (map : List ℕ) (array version : ℕ) (guard : Option ℕ) (address : ℕ) (guard' : Option ℕ) (g t : ℕ) →
    Keeps now new → ((x : Moment) (E : Words) → Fits now x E → nat_lt 0 (E t) ≡ nat_lt 0 (E (renamed map g))) →
    guard ≡ Some g → guard' ≡ Some t → Guards old new turns map array version guard address guard'
tested_guards old now new turns map array version guard address guard' g t k h e e' =
    record {
      holds = λ x E f l y. ap (holds E) e' ∙ h x E (fits_kept now new x E k f) ∙ sym (ap (holds (behind E map)) e) ∙ y;
      only = inl (λ x E f l y. ap (holds (behind E map)) e ∙ sym (h x E (fits_kept now new x E k f)) ∙ sym (ap (holds E) e') ∙ y);
    }

-- ---- what has become of a load

contrary : (a b : Bool) → (a ≡ true → b ≡ true) → b ≡ false → a ≡ false
contrary true b f e = sym (f refl) ∙ e
contrary false b f e = refl

acts : (old new : List Value) (turns : ℕ) (map : List ℕ) (array version : ℕ) (guard : Option ℕ) (address : ℕ) (guard' guard'' : Option ℕ) →
    ((x : Moment) (E : Words) → Fits new x E → holds E guard'' ≡ holds E guard') →
    MayAct old new turns map array version guard address guard' → MayAct old new turns map array version guard address guard''
acts old new turns map array version guard address guard' guard'' e (inl back) = inl (λ x E f l h. back x E f l (sym (e x E f) ∙ h))
acts old new turns map array version guard address guard' guard'' e (inr other) = inr other

load_of : (old new : List Value) (turns : ℕ) (map : List ℕ) (array version : ℕ) (guard : Option ℕ) (address : ℕ) (guard' : Option ℕ) (value : Value) →
    Guards old new turns map array version guard address guard' → IsLoadUnder new array version guard' (renamed map address) value →
    IsLoadOf old new turns map array version guard address value
unfolding IsLoadUnder IsLoadOf
load_of old new turns map array version guard address guard' (Loaded a s g'' b) g p =
    (p.0, p.1, p.2, λ x E f l h. p.3 x E f ∙ g.holds x E f l h, acts old new turns map array version guard address guard' g'' p.3 g.only)
load_of old new turns map array version guard address guard' (Const word) g p =
    λ x E f l. contrary (holds (behind E map) guard) (holds E guard') (g.holds x E f l) (p x E f)
load_of old new turns map array version guard address guard' Turn g p = absurd p
load_of old new turns map array version guard address guard' (Quotient divisor) g p = absurd p
load_of old new turns map array version guard address guard' (Digit divisor radix) g p = absurd p
load_of old new turns map array version guard address guard' (Carried number) g p = absurd p
load_of old new turns map array version guard address guard' (Input port) g p = absurd p
load_of old new turns map array version guard address guard' (Two op first second) g p = absurd p
load_of old new turns map array version guard address guard' (Select condition chosen other) g p = absurd p

pub load_new : (old new : List Value) (turns : ℕ) (map : List ℕ) (array version : ℕ) (guard : Option ℕ) (address : ℕ) (guard' : Option ℕ) (v : ℕ) →
    Guards old new turns map array version guard address guard' → IsLoadAt new array version guard' (renamed map address) v →
    IsNew old new turns map (Loaded array version guard address) v
unfolding IsWordOf
load_new old new turns map array version guard address guard' v g m =
    record {
      within = m.within;
      is = λ x E l f. tt;
      load = λ array' version' address' guard'' e.
          let a : array ≡ array' = cc in
          let s : version ≡ version' = cc in
          let b : address ≡ address' = cc in
          let h : guard ≡ guard'' = cc in
          rw (← a, ← s, ← b, ← h) (load_of old new turns map array version guard address guard' (value_at new v) g m.load);
    }
