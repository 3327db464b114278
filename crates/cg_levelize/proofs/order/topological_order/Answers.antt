use Rattle.std.proofs.Common.{arith, sym, subst}
use Rattle.cg_levelize.specs.Topological.{IsTopological}
use Rattle.cg_levelize.proofs.Finished.{walk_rising}
use Rattle.cg_levelize.proofs.order.topological_order.Goals as goal

pub returns-clause-order : goal.returns-clause-order
returns-clause-order c =
    let rs = c.args.resources.now in
    let is = c.loop-start.invariant in
    subst (IsTopological rs) (sym c.new-2.ensures) (walk_rising rs c.loop-start.walk is.walk is.no_path (λ r h. is.met r (let end = c.loop-start-test.false in omega arith)))
