use Rattle.std.proofs.Common.{◌≡◌, ◌+◌, ◌∷◌, ◌++◌, [], length, sym, subst, refl, arith}
use Rattle.std.proofs.Math.ListN.{length-append}
use Rattle.cg_place.specs.Posed.{Posed}
use Rattle.cg_intervals.specs.Intervals.{last_tried}
use Rattle.cg_map.specs.Tried.{IsAttempt, AreLeft}
use Rattle.cg_map.specs.declared.trying.Attempt.TheVariants as at
use Rattle.cg_intervals.proofs.Intervals.{offered, first_within}
use Rattle.cg_map.proofs.Attempts.{left_more}
use Rattle.cg_map.proofs.answering.tried.Goals as goal

pub new-requires-clause-offered : goal.new-requires-clause-offered
new-requires-clause-offered g c = offered c.args.arch.now c.args.kernel.now (last_tried c.args.arch.now c.args.request.ii) c.requires.free

pub returns-in-Mapped : goal.returns-in-Mapped
returns-in-Mapped g c =
    let (left, at_ii) = c.loop-ii.invariant in
    record {
      costs = c.loop-ii.costs.items;
      left = left;
      within = omega (arith, at_ii, c.loop-ii-test.true, c.last_tried-ii-end.ensures);
      attempt =
          let a = subst (λ a. IsAttempt c.in_ok-task.task.arch c.in_ok-task.task.kernel c.args.request.seed c.args.request.moves c.in_ok-task.task.ii a) c.in-Mapped.is c.in_ok-mapping.ensures in
          let here = subst (λ (T : Posed). IsAttempt T.arch T.kernel c.args.request.seed c.args.request.moves T.ii (at.Mapped c.in-Mapped.mapping c.in-Mapped.found_by)) c.in_ok-task.ensures a in
          subst (λ z. IsAttempt c.args.arch.now c.args.kernel.now c.args.request.seed c.args.request.moves z (at.Mapped c.in-Mapped.mapping c.in-Mapped.found_by)) (sym at_ii) here;
    }

pub loop-ii-preserved : goal.loop-ii-preserved
loop-ii-preserved g c =
    let (left, at_ii) = c.loop-ii.invariant in
    let A = c.args.arch.now in
    let K = c.args.kernel.now in
    let costs = c.loop-ii.costs.items in
    let a = subst (λ a. IsAttempt c.in_ok-task.task.arch c.in_ok-task.task.kernel c.args.request.seed c.args.request.moves c.in_ok-task.task.ii a) c.in-Left.is c.in_ok-mapping.ensures in
    let here = subst (λ (T : Posed). IsAttempt T.arch T.kernel c.args.request.seed c.args.request.moves T.ii (at.Left c.in-Left.cost)) c.in_ok-task.ensures a in
    let more = left_more A K c.args.request.seed c.args.request.moves c.args.first costs c.in-Left.cost left (subst (λ z. IsAttempt A K c.args.request.seed c.args.request.moves z (at.Left c.in-Left.cost)) (sym at_ii) here) in
    let items = c.in_ok-push-in-Left.ensures.items in
    let longer : length (costs ++ c.in-Left.cost ∷ []) ≡ length costs + 1 = length-append costs (c.in-Left.cost ∷ []) in
    (subst (λ xs. AreLeft A K c.args.request.seed c.args.request.moves c.args.first xs) (sym items) more, subst (λ xs. c.args.first + length xs ≡ c.loop-ii.ii + 1) (sym items) (omega (arith, at_ii, longer)))

pub returns : goal.returns
returns g c =
    let (left, at_ii) = c.loop-ii.invariant in
    let first = first_within c.args.arch.now c.args.kernel.now c.args.request.ii c.args.first c.contexts-ii-end.ensures.valid c.requires.within c.requires.free c.requires.first in
    (refl, record { left = left; all = omega (arith, at_ii, c.loop-ii-test.false, c.last_tried-ii-end.ensures, first.1, c.loop-ii.auto) })
