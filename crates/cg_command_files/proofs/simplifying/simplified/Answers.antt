use Rattle.std.proofs.Common.{◌≡◌, subst}
use Rattle.cg_model.specs.Kernel.{IsKernel}
use Rattle.cg_cause.proofs.Allowed.{allows_weaker}
use Rattle.cg_command_files.specs.Simplify.{SimplifyOf, simplified_to}
use Rattle.cg_command_files.proofs.simplifying.simplified.Goals as goal

pub returns : goal.returns
returns c =
    let K = c.args.given.now in
    let L = c.in_ok-kernel.kernel in
    allows_weaker (λ o. o ≡ simplified_to K L c.args.out.now) (SimplifyOf c.args.out.now K) c.written.result
    (λ o is. record { kernel = L; valid = subst IsKernel c.kernel.view_is c.kernel.invariant; simplified = c.in_ok-kernel.ensures; is = is }) c.written.ensures
