use Rattle.std.proofs.Common.{◌∙◌}
use Rattle.cg_bound_all.proofs.Scans.{bound_pushed, all_bounds}
use Rattle.cg_bound_all.proofs.bounds.find_bounds.Goals as goal

pub loop-kind-preserved : goal.loop-kind-preserved
loop-kind-preserved c =
    bound_pushed c.args.arch.now c.args.kernel.now c.args.tables.now c.loop-kind.kind-index c.as_slice-kinds.result.now _ c.in_ok-find_bound.field-0 c.loop-kind.bounds.items c.push.new.self.items
    (c.as_slice-kinds.ensures ∙ c.kinds-all.ensures) c.loop-kind-test.true c.in_ok-find_bound.ensures.kind c.in_ok-push.ensures.items c.in_ok-find_bound.ensures.bound c.loop-kind.invariant

pub returns : goal.returns
returns c = all_bounds c.args.arch.now c.args.kernel.now c.args.tables.now c.loop-kind.kind-index c.as_slice-kinds.result.now c.loop-kind.bounds.items (c.as_slice-kinds.ensures ∙ c.kinds-all.ensures) c.loop-kind-test.false c.loop-kind.auto.kind-index-end c.loop-kind.invariant
