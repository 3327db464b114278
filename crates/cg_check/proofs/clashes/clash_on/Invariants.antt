use Rattle.std.proofs.Common.{◌≡◌, None}
use Rattle.cg_check.specs.Rules.{first_below}
use Rattle.cg_check.specs.Claims.{clash_at}
use Rattle.cg_check.proofs.clashes.clash_on.Given as goal

abbrev pub invariant-loop-slot : goal.invariant-loop-slot
invariant-loop-slot l = first_below (clash_at l.table l.ii l.resource) l.slot ≡ None
