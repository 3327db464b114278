-- The lowest rule that is violated, and what the mapping keeps.
use Rattle.std.proofs.Common.{◌≡◌, ℕ, ◌+◌, ◌<◌, ◌≤◌, List, [], ◌∷◌, Option, Some, None, refl, sym, ap, ◌∙◌, subst, arith, inl, inr, ⊎_elim}
use Rattle.std.specs.Prelude.{◌⊎◌, eqb, if◌then◌else◌}
use Rattle.std.specs.Option.{option_map, option_or}
use Rattle.std.proofs.lemmas.Bool.{cases_eq}
use Rattle.cg_model.specs.Kernel.{Kernel, IsKernel}
use Rattle.cg_model.specs.Array.{Arch, IsArch}
use Rattle.cg_model.specs.Mapping.{Mapping, IsLegal, IsShaped}
use Rattle.cg_check.specs.declared.rule.RulePlace.{RulePlace}
use Rattle.cg_check.specs.declared.rule.Violation.{Violation}
use Rattle.cg_check.specs.declared.rule.Rule.{Rule}
use Rattle.cg_check.specs.declared.rule.Rule.TheVariants.{L1, L2, L3, L4, L5, L6, L7}
use Rattle.cg_check.specs.Rules.{Keeps, violated, first_violation, all_rules, violation}
use Rattle.cg_check.specs.Places.{IsFirstBreach}
use Rattle.cg_check.specs.Verdict.{number}
use Rattle.cg_model.proofs.Options.{or_none, map_none}
use Rattle.cg_check.proofs.Kept.{interval_kept, units_kept, apart_kept, order_kept, routes_kept}
use Rattle.cg_check.proofs.Meeting.{positions_in_range, alone_kept, way_kept}
use Rattle.cg_check.proofs.Places.{first_breach, keeps_at}

-- ---- the list of rules

pub first_here : (rule : Rule) (rules : List Rule) (A : Arch) (K : Kernel) (M : Mapping) (p : RulePlace) → violated rule A K M ≡ Some p →
    first_violation (rule ∷ rules) A K M ≡ Some (record { rule = rule; place = p })
unfolding first_violation
first_here rule rules A K M p e = ap (λ o. option_or (option_map (λ p. record { rule = rule; place = p }) o) (first_violation rules A K M)) e

pub first_later : (rule : Rule) (rules : List Rule) (A : Arch) (K : Kernel) (M : Mapping) → violated rule A K M ≡ None → first_violation (rule ∷ rules) A K M ≡ first_violation rules A K M
unfolding first_violation
first_later rule rules A K M e = ap (λ o. option_or (option_map (λ p. record { rule = rule; place = p }) o) (first_violation rules A K M)) e

pub first_none : (A : Arch) (K : Kernel) (M : Mapping) → first_violation [] A K M ≡ None
unfolding first_violation
first_none A K M = refl

-- a violation is that of the first rule, or that rule isn't violated
abbrev IsFirst : List Rule → Arch → Kernel → Mapping → Violation → Type 0
IsFirst [] A K M v = ⊥
IsFirst (rule ∷ rules) A K M v = ((v.rule ≡ rule) × (violated rule A K M ≡ Some v.place)) ⊎ ((violated rule A K M ≡ None) × IsFirst rules A K M v)

first_cases : (rule : Rule) (o : Option RulePlace) (rest : Option Violation) (v : Violation) → option_or (option_map (λ p. record { rule = rule; place = p }) o) rest ≡ Some v →
    ((v.rule ≡ rule) × (o ≡ Some v.place)) ⊎ ((o ≡ None) × (rest ≡ Some v))
first_cases rule None rest v e = inr (refl, e)
first_cases rule (Some p) rest v e =
    let made : Violation = record { rule = rule; place = p } in
    let same : made ≡ v = cc in
    inl (ap (λ z. z.rule) (sym same), ap (λ z. Some z.place) same)

first_is : (rules : List Rule) (A : Arch) (K : Kernel) (M : Mapping) (v : Violation) → first_violation rules A K M ≡ Some v → IsFirst rules A K M v
unfolding first_violation
first_is [] A K M v e = let bad : None ≡ Some v = e in absurd (cc)
first_is (rule ∷ rules) A K M v e =
    ⊎_elim (λ h. inl h) (λ h. inr (h.0, first_is rules A K M v h.1)) (first_cases rule (violated rule A K M) (first_violation rules A K M) v e)

-- it is violated at its place
violated_there : (rules : List Rule) (A : Arch) (K : Kernel) (M : Mapping) (v : Violation) → IsFirst rules A K M v → violated v.rule A K M ≡ Some v.place
violated_there [] A K M v h = absurd h
violated_there (rule ∷ rules) A K M v h = ⊎_elim (λ f. subst (λ z. violated z A K M ≡ Some v.place) (sym f.0) f.1) (λ f. violated_there rules A K M v f.1) h

-- ---- numbers of rules

numbered : ℕ → Rule
numbered n =
    if eqb n 1 then L1 else if eqb n 2 then L2 else if eqb n 3 then L3 else if eqb n 4 then L4 else if eqb n 5 then L5 else if eqb n 6 then L6 else L7

number_back : (rule : Rule) → numbered (number rule) ≡ rule
unfolding numbered
number_back L1 = refl
number_back L2 = refl
number_back L3 = refl
number_back L4 = refl
number_back L5 = refl
number_back L6 = refl
number_back L7 = refl

same_rule : (r s : Rule) → number r ≡ number s → r ≡ s
same_rule r s e = sym (number_back r) ∙ ap numbered e ∙ number_back s

-- the rules are numbered from n on
abbrev AreFrom : ℕ → List Rule → Type 0
AreFrom n [] = Unit {0}
AreFrom n (rule ∷ rules) = (number rule ≡ n) × AreFrom (n + 1) rules

lower_none : (n : ℕ) (rules : List Rule) (A : Arch) (K : Kernel) (M : Mapping) (v : Violation) → AreFrom n rules → IsFirst rules A K M v → (s : Rule) → n ≤ number s → number s < number v.rule → violated s A K M ≡ None
lower_none n [] A K M v f h s l m = absurd h
lower_none n (rule ∷ rules) A K M v (here, rest) h s l m =
    ⊎_elim (λ first. let same : number v.rule ≡ number rule = ap number first.0 in absurd (omega (arith, l, m, same, here)))
    (λ later.
    ⊎_elim (λ (e : number s ≡ n). subst (λ z. violated z A K M ≡ None) (sym (same_rule s rule (e ∙ sym here))) later.0)
    (λ (e : number s ≡ n → ⊥). lower_none (n + 1) rules A K M v rest later.1 s (above l e) m) (cases_eq (number s) n))
    h
  where
    above : {a b : ℕ} → a ≤ b → (b ≡ a → ⊥) → a + 1 ≤ b
    above {a} {b} l e = omega arith

from_one : (s : Rule) → 1 ≤ number s
from_one L1 = omega arith
from_one L2 = omega arith
from_one L3 = omega arith
from_one L4 = omega arith
from_one L5 = omega arith
from_one L6 = omega arith
from_one L7 = omega arith

in_order : AreFrom 1 all_rules
in_order = (refl, (refl, (refl, (refl, (refl, (refl, (refl, tt)))))))

-- ---- where no rule is violated

abbrev AreNone : List Rule → Arch → Kernel → Mapping → Type 0
AreNone [] A K M = Unit {0}
AreNone (rule ∷ rules) A K M = (violated rule A K M ≡ None) × AreNone rules A K M

each_none : (rules : List Rule) (A : Arch) (K : Kernel) (M : Mapping) → first_violation rules A K M ≡ None → AreNone rules A K M
unfolding first_violation
each_none [] A K M e = tt
each_none (rule ∷ rules) A K M e =
    let parts = or_none (option_map (λ p. record { rule = rule; place = p }) (violated rule A K M)) (first_violation rules A K M) e in
    (map_none _ (violated rule A K M) parts.0, each_none rules A K M parts.1)

all_none : (A : Arch) (K : Kernel) (M : Mapping) → violation A K M ≡ None → (s : Rule) → violated s A K M ≡ None
all_none A K M e L1 = (each_none all_rules A K M e).0
all_none A K M e L2 = (each_none all_rules A K M e).1.0
all_none A K M e L3 = (each_none all_rules A K M e).1.1.0
all_none A K M e L4 = (each_none all_rules A K M e).1.1.1.0
all_none A K M e L5 = (each_none all_rules A K M e).1.1.1.1.0
all_none A K M e L6 = (each_none all_rules A K M e).1.1.1.1.1.0
all_none A K M e L7 = (each_none all_rules A K M e).1.1.1.1.1.1.0

-- ---- what the mapping keeps

module _ (A : Arch) (K : Kernel) (M : Mapping) (arch : IsArch A) (kernel : IsKernel K) (shape : IsShaped K M) where
  -- where no rule up to this one is violated
  kept : (rule : Rule) → ((s : Rule) → number s ≤ number rule → violated s A K M ≡ None) → Keeps rule A K M
  kept L1 h = interval_kept A K M (h L1 (omega arith))
  kept L2 h = units_kept A K M shape.places (h L2 (omega arith))
  kept L3 h = apart_kept A K M shape.places (h L3 (omega arith))
  kept L4 h = order_kept A K M (h L4 (omega arith))
  kept L5 h = routes_kept A K M (h L5 (omega arith))
  kept L6 h =
      alone_kept A K M (h L6 (omega arith)) (interval_kept A K M (h L1 (omega arith))).0
      (λ p m. positions_in_range A K M p arch kernel (units_kept A K M shape.places (h L2 (omega arith))) (routes_kept A K M (h L5 (omega arith))) m)
  kept L7 h =
      way_kept A K M (h L7 (omega arith)) (interval_kept A K M (h L1 (omega arith))).0
      (λ p m. positions_in_range A K M p arch kernel (units_kept A K M shape.places (h L2 (omega arith))) (routes_kept A K M (h L5 (omega arith))) m)

  -- all rules
  pub keeps_all : violation A K M ≡ None → (rule : Rule) → Keeps rule A K M
  keeps_all e rule = kept rule (λ s l. all_none A K M e s)

  -- those below the one that is violated
  pub keeps_lower : (rule : Rule) (p : RulePlace) → violation A K M ≡ Some (record { rule = rule; place = p }) → (lower : Rule) → number lower < number rule → Keeps lower A K M
  keeps_lower rule p e lower l =
      kept lower (λ s m. lower_none 1 all_rules A K M (record { rule = rule; place = p }) in_order (first_is all_rules A K M _ e) s (from_one s) (omega (arith, l, m)))

  -- at that place for the first time
  pub breaks_at : (rule : Rule) (p : RulePlace) → violation A K M ≡ Some (record { rule = rule; place = p }) → IsFirstBreach rule A K M p
  breaks_at rule p e = first_breach rule A K M p shape (violated_there all_rules A K M (record { rule = rule; place = p }) (first_is all_rules A K M _ e))

  -- and not that one
  pub breaks : (rule : Rule) (p : RulePlace) → violation A K M ≡ Some (record { rule = rule; place = p }) → Keeps rule A K M → ⊥
  breaks rule p e k = let b = breaks_at rule p e in b.broken (keeps_at rule A K M p k b.shape)

  pub legal_from : ((rule : Rule) → Keeps rule A K M) → IsLegal A K M
  legal_from k = record {
    shape = shape;
    interval = (k L1).0;
    contexts = (k L1).1;
    units = λ v l. (k L2 v l).known;
    offered = λ v l. (k L2 v l).offered;
    soon = λ v l. (k L2 v l).soon;
    apart = k L3;
    ordered = k L4;
    brings = k L5;
    alone = k L6;
    one_way = k L7;
  }

pub rules_of : (A : Arch) (K : Kernel) (M : Mapping) → IsLegal A K M → (rule : Rule) → Keeps rule A K M
rules_of A K M legal L1 = (legal.interval, legal.contexts)
rules_of A K M legal L2 = λ v l. record { known = legal.units v l; offered = legal.offered v l; soon = legal.soon v l }
rules_of A K M legal L3 = legal.apart
rules_of A K M legal L4 = legal.ordered
rules_of A K M legal L5 = legal.brings
rules_of A K M legal L6 = legal.alone
rules_of A K M legal L7 = legal.one_way
