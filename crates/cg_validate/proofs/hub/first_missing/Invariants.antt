use Rattle.std.proofs.Common.{◌≡◌, drop}
use Rattle.cg_validate.specs.Hub.{first_missing}
use Rattle.cg_validate.proofs.hub.first_missing.Given as goal

abbrev pub invariant-loop-target : goal.invariant-loop-target
invariant-loop-target l = first_missing l.flat l.sources (drop l.target-index l.targets) ≡ first_missing l.flat l.sources l.targets
