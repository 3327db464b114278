-- The result of the checker.
use Rattle.std.specs.Prelude.{◌≡◌, ℕ, ◌<◌, Some, None}
use Rattle.cg_model.specs.Kernel.{Kernel}
use Rattle.cg_model.specs.Array.{Arch}
use Rattle.cg_model.specs.Mapping.{Mapping, IsLegal}
use Rattle.cg_check.specs.Rules.{Rule, L1, L2, L3, L4, L5, L6, L7, RulePlace, Keeps, violation}
use Rattle.cg_check.specs.Places.{IsPlaceOf, KeepsAt, IsFirstBreach}
pub use Rattle.cg_check.specs.declared.checker.CheckVerdict.{CheckVerdict}
pub use Rattle.cg_check.specs.declared.checker.CheckVerdict.TheVariants.{Legal, Illegal}

-- the lowest rule that is violated, at its first place, with the mapping; if there is none, a legal mapping of exactly
-- these three
abbrev pub IsVerdict : Arch → Kernel → Mapping → CheckVerdict → Type 0
IsVerdict A K M (Legal l) = (violation A K M ≡ None) × (l ≡ record { arch = A; kernel = K; mapping = M })
IsVerdict A K M (Illegal rule place m) = (violation A K M ≡ Some (record { rule = rule; place = place })) × (m ≡ M)

-- the verdict says whether the mapping is legal
abbrev pub JudgesLegality : Arch → Kernel → Mapping → CheckVerdict → Type 0
JudgesLegality A K M (Legal l) = IsLegal A K M
JudgesLegality A K M (Illegal rule place m) = IsLegal A K M → ⊥

-- the number of a rule
abbrev pub number : Rule → ℕ
number L1 = 1
number L2 = 2
number L3 = 3
number L4 = 4
number L5 = 5
number L6 = 6
number L7 = 7

-- the verdict says which rules the mapping keeps: all; or all below one that it violates
abbrev pub JudgesRules : Arch → Kernel → Mapping → CheckVerdict → Type 0
JudgesRules A K M (Legal l) = (rule : Rule) → Keeps rule A K M
JudgesRules A K M (Illegal rule place m) =
    ((lower : Rule) → number lower < number rule → Keeps lower A K M) × (Keeps rule A K M → ⊥)

-- the verdict says where: the mapping keeps each rule at each place; or the place is the first at which it breaks that
-- rule
abbrev pub JudgesPlaces : Arch → Kernel → Mapping → CheckVerdict → Type 0
JudgesPlaces A K M (Legal l) = (rule : Rule) (p : RulePlace) → IsPlaceOf rule A K M p → KeepsAt rule A K M p
JudgesPlaces A K M (Illegal rule place m) = IsFirstBreach rule A K M place
