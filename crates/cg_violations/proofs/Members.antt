-- What is in lists of violations.
use Rattle.std.proofs.Common.{◌≡◌, ℕ, zero, suc, ◌<◌, ◌≤◌, Bool, true, false, cond, List, [], ◌∷◌, Contains, refl, sym, subst, arith, ⊎_elim}
use Rattle.std.proofs.lemmas.Bool.{cases_lt}
use Rattle.std.proofs.lemmas.List.Elements.{Contains-append_cases, Contains-append_left, Contains-append_right}
use Rattle.cg_overlap.proofs.Facts.{Contains-first, Contains-cases}
use Rattle.cg_model.proofs.Lookups.{Contains-nil}
use Rattle.cg_list_laws.specs.Below.{lists_below}
use Rattle.cg_check.specs.declared.rule.Rule.{Rule}
use Rattle.cg_check.specs.declared.rule.RulePlace.{RulePlace}
use Rattle.cg_check.specs.declared.rule.Violation.{Violation}
use Rattle.cg_violations.specs.Violations.{violation_if}

-- ---- lists of the numbers below n

pub from_below : {T : Type 0} (f : ℕ → List T) (n : ℕ) (x : T) → Contains (lists_below f n) x → (k : ℕ) × (k < n) × Contains (f k) x
unfolding lists_below
from_below f zero x m = absurd (Contains-nil x m)
from_below f (suc n) x m =
    ⊎_elim (λ l. let (k, a, b) = from_below f n x l in (k, omega (arith, a), b)) (λ l. (n, omega arith, l)) (Contains-append_cases (lists_below f n) (f n) x m)

pub below_from : {T : Type 0} (f : ℕ → List T) (n k : ℕ) (x : T) → k < n → Contains (f k) x → Contains (lists_below f n) x
unfolding lists_below
below_from f zero k x l m = absurd (omega arith)
below_from f (suc n) k x l m =
    ⊎_elim (λ (h : k < n). Contains-append_left (lists_below f n) (f n) x (below_from f n k x h m))
    (λ (h : n ≤ k). let e : k ≡ n = omega arith in Contains-append_right (lists_below f n) (f n) x (subst (λ z. Contains (f z) x) e m)) (cases_lt k n)

-- ---- one violation

pub from_if : (b : Bool) (rule : Rule) (p : RulePlace) (v : Violation) → Contains (violation_if b rule p) v → (b ≡ true) × (v ≡ record { rule = rule; place = p })
from_if true rule p v m = ⊎_elim (λ e. (refl, sym e)) (λ l. absurd (Contains-nil v l)) (Contains-cases v (record { rule = rule; place = p }) [] m)
from_if false rule p v m = absurd (Contains-nil v m)

pub if_from : (b : Bool) (rule : Rule) (p : RulePlace) → b ≡ true → Contains (violation_if b rule p) (record { rule = rule; place = p })
if_from true rule p e = Contains-first (record { rule = rule; place = p }) []
if_from false rule p e = let bad : false ≡ true = e in absurd (cc)

-- ---- a list under a test

pub from_cond : {T : Type 0} (b : Bool) (xs : List T) (x : T) → Contains (cond b xs []) x → (b ≡ true) × Contains xs x
from_cond true xs x m = (refl, m)
from_cond false xs x m = absurd (Contains-nil x m)

pub cond_from : {T : Type 0} (b : Bool) (xs : List T) (x : T) → b ≡ true → Contains xs x → Contains (cond b xs []) x
cond_from true xs x e m = m
cond_from false xs x e m = let bad : false ≡ true = e in absurd (cc)

-- a list with no elements
pub empty : {T : Type 0} (xs : List T) → ((x : T) → Contains xs x → ⊥) → xs ≡ []
empty [] h = refl
empty (x ∷ xs) h = absurd (h x (Contains-first x xs))
