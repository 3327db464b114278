use Rattle.std.proofs.Common.{◌≡◌, None}
use Rattle.cg_check.specs.Rules.{first_below}
use Rattle.cg_check.specs.Claims.{clash_on}
use Rattle.cg_check.proofs.clashes.clash_in.Given as goal

abbrev pub invariant-loop-resource : goal.invariant-loop-resource
invariant-loop-resource l = first_below (clash_on l.table l.ii) l.resource ≡ None
