use Rattle.std.proofs.Common.{◌≡◌, length, sym, ap, ◌∙◌, subst, []}
use Rattle.std.specs.Prelude.{replicate}
use Rattle.cg_mrrg.specs.Users.{AreUsers}
use Rattle.cg_mrrg.proofs.Drivers.{no_users}
use Rattle.cg_mrrg.proofs.users.users.Goals as goal

pub loop-resource-init : goal.loop-resource-init
loop-resource-init c =
    let A = c.args.arch.now in
    let long : length c.resources-count.result.now ≡ length A.resources = ap length c.resources-count.ensures.resources in
    subst (AreUsers A 0 0) (sym (c.in_ok-users.ensures ∙ ap (λ z. replicate z []) long)) (no_users A)
