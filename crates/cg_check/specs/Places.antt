-- The places of each rule, the condition of the rule at one of them, and the first at which a mapping breaks it.
use Rattle.std.specs.Prelude.{◌≡◌, ℕ, ◌+◌, ◌*◌, ◌%◌, ◌<◌, ◌≤◌, ◌⊎◌, List, length, Contains, Some, slice_get}
use Rattle.cg_model.specs.declared.kernel.Operand.TheVariants.{Edge}
use Rattle.cg_model.specs.Kernel.{Kernel, HasOperand, HasOrder, size}
use Rattle.cg_model.specs.Array.{Arch, unit}
use Rattle.cg_model.specs.Mapping.{Mapping, Position, Brings, place, positions}
use Rattle.cg_check.specs.Rules.{Rule, L1, L2, L3, L4, L5, L6, L7, RulePlace, StandsWell}
use Rattle.cg_check.specs.declared.rule.RulePlace.TheVariants as at

-- ---- places

-- the place is one to which the rule applies
abbrev pub IsPlaceOf : Rule → Arch → Kernel → Mapping → RulePlace → Type 0
IsPlaceOf L1 A K M at.Mapping = Unit {0}
IsPlaceOf L2 A K M (at.Node v) = v < size K
IsPlaceOf L3 A K M (at.Node v) = v < size K
IsPlaceOf L4 A K M (at.Order e) = e < length K.order
IsPlaceOf L5 A K M (at.Arg v a) = (u : ℕ) × (d : ℕ) × (init : List ℕ) × HasOperand K v a (Edge u d init)
IsPlaceOf L6 A K M (at.Resource r s) = (r < length A.resources) × (s < M.ii)
IsPlaceOf L7 A K M (at.Resource r s) = (r < length A.resources) × (s < M.ii)
IsPlaceOf _ A K M _ = ⊥

-- the order of places: nodes and order edges by number, operands by node and then by number, resources by number and
-- then by slot
abbrev pub IsBefore : RulePlace → RulePlace → Type 0
IsBefore (at.Node v) (at.Node w) = v < w
IsBefore (at.Order e) (at.Order f) = e < f
IsBefore (at.Arg v a) (at.Arg w b) = (v < w) ⊎ ((v ≡ w) × (a < b))
IsBefore (at.Resource r s) (at.Resource q t) = (r < q) ⊎ ((r ≡ q) × (s < t))
IsBefore _ _ = ⊥

-- ---- the rule at a place

-- every two positions on resource r in slot s are alike
abbrev pub AreAlikeOn : Arch → Kernel → Mapping → ℕ → ℕ → (Position → Position → Type 0) → Type 0
AreAlikeOn A K M r s IsLike =
    (p q : Position) → Contains (positions A K M) p → Contains (positions A K M) q →
    p.resource ≡ r → p.time % M.ii ≡ s → q.resource ≡ r → q.time % M.ii ≡ s → IsLike p q

-- the mapping keeps the rule at the given place
abbrev pub KeepsAt : Rule → Arch → Kernel → Mapping → RulePlace → Type 0
KeepsAt L1 A K M at.Mapping = (0 < M.ii) × (M.ii ≤ A.contexts)
KeepsAt L2 A K M (at.Node v) = StandsWell A K M v
KeepsAt L3 A K M (at.Node v) =
    (w : ℕ) → w < v → (place M w).unit ≡ (place M v).unit → (place M w).time % M.ii ≡ (place M v).time % M.ii → ⊥
KeepsAt L4 A K M (at.Order e) =
    (u v d : ℕ) → HasOrder K e u v d → (place M u).time + 1 ≤ (place M v).time + M.ii * d
KeepsAt L5 A K M (at.Arg v a) =
    (path : List ℕ) (u d : ℕ) (init : List ℕ) →
    Contains M.routes (record { node = v; arg = a; path = path }) → HasOperand K v a (Edge u d init) →
    (port : ℕ) × (slice_get (unit A (place M v).unit).ports a ≡ Some port) ×
    Brings A M u path port ((place M v).time + M.ii * d)
KeepsAt L6 A K M (at.Resource r s) = AreAlikeOn A K M r s (λ p q. (p.source ≡ q.source) × (p.time ≡ q.time))
KeepsAt L7 A K M (at.Resource r s) = AreAlikeOn A K M r s (λ p q. p.from ≡ q.from)
KeepsAt _ A K M _ = Unit {0}

-- the mapping breaks the rule at the given place of it, and keeps it at each place before
pub record IsFirstBreach (rule : Rule) (A : Arch) (K : Kernel) (M : Mapping) (first : RulePlace) : Type 0 where
  pub shape : IsPlaceOf rule A K M first
  pub broken : KeepsAt rule A K M first → ⊥
  pub before : (p : RulePlace) → IsPlaceOf rule A K M p → IsBefore p first → KeepsAt rule A K M p
