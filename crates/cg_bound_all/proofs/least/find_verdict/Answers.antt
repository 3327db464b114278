use Rattle.std.proofs.Common.{sym, subst}
use Rattle.cg_bound_registers.specs.Sums.{table}
use Rattle.cg_bound_registers.specs.Times.{AreLoose}
use Rattle.cg_bound_flow.specs.Finish.{IsSound}
use Rattle.cg_bound_all.specs.Why.{AreNumbers}
use Rattle.cg_bound_all.specs.Scan.{IsOther}
use Rattle.cg_bound_all.proofs.Reasons.{numbers_for}
use Rattle.cg_bound_all.proofs.Scans.{open_verdict}
use Rattle.cg_bound_all.proofs.least.find_verdict.Goals as goal

pub find_other-requires : goal.find_other-requires
find_other-requires c =
    subst (AreNumbers c.args.arch.now c.args.kernel.now c.args.ii) (sym c.at-numbers.ensures)
    (numbers_for c.args.arch.now c.args.kernel.now c.args.tables.now c.args.ii c.requires.some c.requires.numbers)

pub returns-in-Open : goal.returns-in-Open
returns-in-Open c =
    let A = c.args.arch.now in
    let K = c.args.kernel.now in
    let n = c.at-numbers.result.now in
    let sound : AreLoose A K (table c.deref.result.now) c.args.ii c.in-Open.times = subst (IsSound A K (table c.deref.result.now) c.args.ii) c.in-Open.is c.in_ok-pressure.ensures in
    open_verdict A K c.args.tables.now c.args.ii n c.in-Open.times c.nodes-nodes.ensures.valid c.at-numbers.ensures
    (subst (IsOther A K (table n.hops.items) c.args.ii) c.in_default.is c.in_ok-reason.ensures)
    (subst (λ z. AreLoose A K (table z) c.args.ii c.in-Open.times) c.deref.ensures.value sound)
