use Rattle.std.proofs.Common.{sym, subst}
use Rattle.cg_violations.specs.Violations.{AreAll}
use Rattle.cg_violations.proofs.All.{are_all}
use Rattle.cg_violations.proofs.finding.violations.Goals as goal

pub returns-clause-all : goal.returns-clause-all
returns-clause-all c =
    let A = c.args.arch.now in
    let K = c.args.kernel.now in
    let M = c.args.mapping.now in
    subst (AreAll A K M) (sym c.in_ok-found.ensures) (are_all A K M c.units-valid_arch.ensures.valid c.nodes-valid_kernel.ensures.valid c.requires.shape)
