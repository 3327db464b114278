-- The breaches that the code looks for are those of the definition.
use Rattle.std.proofs.Common.{◌≡◌, ℕ, ◌+◌, ◌<◌, Bool, false, ◌||◌, List, [], ◌∷◌, ◌++◌, length, get_or, Option, refl, ap, ◌∙◌, add-one}
use Rattle.std.specs.Prelude.{nat_lt}
use Rattle.std.proofs.lemmas.List.{get_or_default}
use Rattle.cg_model.specs.declared.config.ArgFields.{ArgFields}
use Rattle.cg_model.specs.declared.config.UnitFields.{UnitFields}
use Rattle.cg_model.specs.Config.{arg, no_arg}
use Rattle.cg_model.specs.Canonical.{arity_of, fixed_below}
use Rattle.cg_bits.specs.Faults.{first, arg_breaches}
use Rattle.cg_bits.specs.Checks.{arg_faults}

-- what stands past the end of the arguments, as the check reads it
abbrev pub blank : ArgFields
blank = record { fixed = false; count = 0; init = [] }

pub arg_is : (f : UnitFields) (p : ℕ) (d : ArgFields) → p < length f.args → get_or f.args p d ≡ arg f p
arg_is f p d lt = get_or_default f.args p d no_arg lt

pub breaches_are : (f : UnitFields) (p : ℕ) (a : ArgFields) (used before : Bool) (at : ℕ) → a ≡ arg f p → used ≡ nat_lt p (arity_of f.op) → before ≡ fixed_below f p →
    arg_faults a used before at ≡ arg_breaches f p at
breaches_are f p a used before at e u b =
    ap (λ z. arg_faults z used before at) e ∙ ap (λ z. arg_faults (arg f p) z before at) u ∙ ap (λ z. arg_faults (arg f p) (nat_lt p (arity_of f.op)) z at) b

pub below_more : (f : UnitFields) (p : ℕ) → fixed_below f (p + 1) ≡ (fixed_below f p || (arg f p).fixed)
unfolding fixed_below
below_more f p = ap (fixed_below f) (add-one p)

pub below_none : (f : UnitFields) → fixed_below f 0 ≡ false
unfolding fixed_below
below_none f = refl

-- ---- the first of a list that is made of parts

pub skip : {X : Type 0} (xs ys : List X) (r : Option X) → xs ≡ [] → first ys ≡ r → first (xs ++ ys) ≡ r
skip [] ys r e h = h
skip (x ∷ xs) ys r e h = absurd cc
