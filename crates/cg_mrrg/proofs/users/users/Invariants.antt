use Rattle.cg_mrrg.specs.Users.{AreUsers}
use Rattle.cg_mrrg.proofs.users.users.Given as goal

abbrev pub invariant-loop-resource : goal.invariant-loop-resource
invariant-loop-resource l = AreUsers l.arch l.resource 0 l.users.items
