use Rattle.std.proofs.Common.{None, subst}
use Rattle.cg_bound.specs.Bound.{IsBoundBy}
use Rattle.cg_intervals.specs.Intervals.{last_tried}
use Rattle.cg_intervals.proofs.Intervals.{never_unbounded}
use Rattle.cg_intervals.proofs.tried.first_tried.Goals as goal

pub unreachable-requires : goal.unreachable-requires
unreachable-requires c =
    let A = c.args.arch.now in
    let K = c.args.kernel.now in
    let least = c.in_ok-least-in-None.field-0 in
    never_unbounded A K least.below (last_tried A c.args.asked) (subst (λ z. IsBoundBy A K z least.below) c.in-None-mii.is c.in_ok-least-in-None.ensures) c.requires
