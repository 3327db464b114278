-- `why ARCH KERNEL`.
use Rattle.std.specs.Prelude.{◌≡◌}
use Rattle.cg_model.specs.Mapping.{Mapping, IsLegal}
use Rattle.cg_effects.specs.declared.outcome.Status.TheVariants.{Done}
use Rattle.cg_files.specs.Held.{Appends}
use Rattle.cg_effects.specs.Outcome.{Name, File, Outcome}
use Rattle.cg_effects.specs.Ends.{Moment}
use Rattle.cg_effects.specs.Refusals.{reports}
use Rattle.cg_inputs.specs.Answered.{ReadThen}
use Rattle.cg_inputs.specs.Sources.{Pair, ArePaired, HoldPair}
use Rattle.cg_command_judge.specs.Bound.{IsBelow}
use Rattle.cg_bound_all.specs.declared.why.Why.{Why}
use Rattle.cg_bound_all.specs.Why.{IsWhy}
use Rattle.cg_bound_text.specs.Text.{why_text}

-- where several reasons are valid, which ones are shown is left open, and so are the times that show that there are
-- enough registers
pub record IsExplained (p : Pair) (o : Outcome) : Type 0 where
  pub why : Why
  pub is_why : IsWhy p.arch p.kernel why
  pub outcome : o ≡ reports Done (why_text p.arch p.kernel why)

abbrev pub IsWhyOf : File → File → Outcome → Type 0
IsWhyOf arch kernel o = ReadThen (ArePaired arch kernel) IsExplained o

-- Done: an architecture and a kernel were read; the least interval that no reason excludes was reported, and what
-- excludes those below it. No mapping of a lower interval is legal, and where there is no such interval no mapping is
-- legal
pub record IsWhyRun (arch kernel : Name) (before after : Moment) : Type 0 where
  pub pair : Pair
  pub read : HoldPair arch kernel before pair
  pub why : Why
  pub is_why : IsWhy pair.arch pair.kernel why
  pub excludes : (M : Mapping) → IsBelow why.least.interval M.ii → IsLegal pair.arch pair.kernel M → ⊥
  pub put : Appends before.taken (why_text pair.arch pair.kernel why) after.taken
