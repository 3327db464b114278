use Rattle.cg_mrrg.specs.Users.{AreUsers}
use Rattle.cg_mrrg.proofs.users.add_user.Given as goal

abbrev pub invariant-loop-place : goal.invariant-loop-place
invariant-loop-place l = AreUsers l.arch l.resource l.place l.users
