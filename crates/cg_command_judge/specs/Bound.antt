-- `bound ARCH KERNEL`.
use Rattle.std.specs.Prelude.{◌≡◌, ℕ, ◌-◌, ◌<◌, ◌≤◌, ⊤, [], ◌∷◌, ◌++◌, Option, Some, None, codes, decimal, option_map}
use Rattle.cg_model.specs.Mapping.{Mapping, IsLegal}
use Rattle.cg_effects.specs.declared.outcome.Status.TheVariants.{Done}
use Rattle.cg_files.specs.Held.{Appends}
use Rattle.cg_effects.specs.Outcome.{Name, Bytes, File, Outcome, line_of}
use Rattle.cg_effects.specs.Ends.{Moment}
use Rattle.cg_effects.specs.Refusals.{reports}
use Rattle.cg_bound.specs.declared.interval.Certificate.{Certificate}
use Rattle.cg_bound.specs.declared.interval.LeastInterval.{LeastInterval}
use Rattle.cg_bound.specs.Bound.{IsBound}
use Rattle.cg_bound.specs.Text.{certificate_text}
use Rattle.cg_inputs.specs.Answered.{ReadThen}
use Rattle.cg_inputs.specs.Sources.{Pair, ArePaired, GivesPair, HoldPair}

-- the least interval, if there is one
abbrev pub first_line : Option ℕ → Bytes
first_line (Some m) = line_of (codes "mii " ∷ decimal m ∷ [])
first_line None = line_of (codes "mii none" ∷ [])

-- the interval below the least one, if there is a least one; None denotes all intervals
abbrev pub below : Option ℕ → Option ℕ
below mii = option_map (λ m. m - 1) mii

-- why the interval below the least one is impossible
abbrev pub certificate_line : Pair → Option ℕ → Option Certificate → Bytes
certificate_line p mii None = []
certificate_line p mii (Some c) = line_of (certificate_text p.arch p.kernel (below mii) c ∷ [])

abbrev pub bound_report : Pair → LeastInterval → Bytes
bound_report p least = first_line least.mii ++ certificate_line p least.mii least.below

-- where several certificates are valid, which one is shown is left open
pub record IsBounded (p : Pair) (o : Outcome) : Type 0 where
  pub least : LeastInterval
  pub is_least : IsBound p.arch p.kernel least
  pub outcome : o ≡ reports Done (bound_report p least)

abbrev pub IsBoundOf : File → File → Outcome → Type 0
IsBoundOf arch kernel o = ReadThen (ArePaired arch kernel) IsBounded o

-- the files contain an architecture and a kernel
pub record IsPairInput (arch kernel : File) : Type 0 where
  pub pair : Pair
  pub given : GivesPair arch.bytes kernel.bytes pair

-- the interval is below the least one; where there is no least interval, each interval is
abbrev pub IsBelow : Option ℕ → ℕ → Type 0
IsBelow None ii = ⊤
IsBelow (Some m) ii = ii < m

-- Done: an architecture and a kernel were read; their least interval was reported, and what forbids the interval below
-- it. No mapping of a lower interval is legal
pub record IsBoundRun (arch kernel : Name) (before after : Moment) : Type 0 where
  pub pair : Pair
  pub read : HoldPair arch kernel before pair
  pub least : LeastInterval
  pub is_least : IsBound pair.arch pair.kernel least
  pub excludes : (ii : ℕ) → 1 ≤ ii → IsBelow least.mii ii → (M : Mapping) → M.ii ≡ ii → IsLegal pair.arch pair.kernel M → ⊥
  pub put : Appends before.taken (bound_report pair least) after.taken
