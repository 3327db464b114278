use Rattle.std.proofs.Common.{sym, ◌∙◌, arith}
use Rattle.cg_check.specs.declared.rule.Rule.TheVariants.{L1, L2, L3, L4, L5, L6, L7}
use Rattle.cg_check.proofs.Kept.{interval_kept, units_kept}
use Rattle.cg_check.proofs.Judged.{first_here, first_later, first_none}
use Rattle.cg_check.proofs.checker.first_violation.Goals as goal

pub returns-in-Some : goal.returns-in-Some
returns-in-Some c =
    let A = c.args.arch.now in
    let K = c.args.kernel.now in
    let M = c.args.mapping.now in
    c.violation_at.ensures ∙ sym (first_here L1 _ A K M _ (sym (c.in-Some.ensures K)))

pub returns-in-Some-misplaced : goal.returns-in-Some-misplaced
returns-in-Some-misplaced c =
    let A = c.args.arch.now in
    let K = c.args.kernel.now in
    let M = c.args.mapping.now in
    c.violation_at-in-Some-misplaced.ensures ∙ sym (first_later L1 _ A K M (sym (c.in_default.ensures K)) ∙ first_here L2 _ A K M _ (sym (c.in-Some-misplaced.ensures)))

pub shared_slot-requires-clause-interval : goal.shared_slot-requires-clause-interval
shared_slot-requires-clause-interval c = (interval_kept c.args.arch.now c.args.kernel.now c.args.mapping.now (sym (c.in_default.ensures c.args.kernel.now))).0

pub shared_slot-requires-clause-units : goal.shared_slot-requires-clause-units
shared_slot-requires-clause-units c v l =
    let A = c.args.arch.now in
    let K = c.args.kernel.now in
    let M = c.args.mapping.now in
    (units_kept A K M c.requires.shape.places (sym c.in_default-misplaced.ensures) v (omega (arith, c.requires.shape.places))).known

pub returns-in-Some-2 : goal.returns-in-Some-2
returns-in-Some-2 c =
    let A = c.args.arch.now in
    let K = c.args.kernel.now in
    let M = c.args.mapping.now in
    c.violation_at-in-Some-2.ensures ∙ sym (first_later L1 _ A K M (sym (c.in_default.ensures K)) ∙ first_later L2 _ A K M (sym (c.in_default-misplaced.ensures)) ∙ first_here L3 _ A K M _ (sym (sym c.in-Some-2.is ∙ c.in_ok-place.ensures K)))

pub returns-in-Some-late_edge : goal.returns-in-Some-late_edge
returns-in-Some-late_edge c =
    let A = c.args.arch.now in
    let K = c.args.kernel.now in
    let M = c.args.mapping.now in
    c.violation_at-in-Some-late_edge.ensures ∙ sym (first_later L1 _ A K M (sym (c.in_default.ensures K)) ∙ first_later L2 _ A K M (sym (c.in_default-misplaced.ensures)) ∙ first_later L3 _ A K M (sym (sym c.in_default-2.is ∙ c.in_ok-place.ensures K)) ∙ first_here L4 _ A K M _ (sym (c.in-Some-late_edge.ensures A)))

pub returns-in-Some-unbrought : goal.returns-in-Some-unbrought
returns-in-Some-unbrought c =
    let A = c.args.arch.now in
    let K = c.args.kernel.now in
    let M = c.args.mapping.now in
    c.violation_at-in-Some-unbrought.ensures ∙ sym (first_later L1 _ A K M (sym (c.in_default.ensures K)) ∙ first_later L2 _ A K M (sym (c.in_default-misplaced.ensures)) ∙ first_later L3 _ A K M (sym (sym c.in_default-2.is ∙ c.in_ok-place.ensures K)) ∙ first_later L4 _ A K M (sym (c.in_default-late_edge.ensures A)) ∙ first_here L5 _ A K M _ (sym (c.in-Some-unbrought.ensures)))

pub first_clash-requires : goal.first_clash-requires
first_clash-requires c = (interval_kept c.args.arch.now c.args.kernel.now c.args.mapping.now (sym (c.in_default.ensures c.args.kernel.now))).0

pub returns-in-Some-3 : goal.returns-in-Some-3
returns-in-Some-3 c =
    let A = c.args.arch.now in
    let K = c.args.kernel.now in
    let M = c.args.mapping.now in
    c.violation_at-in-Some-3.ensures ∙ sym (first_later L1 _ A K M (sym (c.in_default.ensures K)) ∙ first_later L2 _ A K M (sym (c.in_default-misplaced.ensures)) ∙ first_later L3 _ A K M (sym (sym c.in_default-2.is ∙ c.in_ok-place.ensures K)) ∙ first_later L4 _ A K M (sym (c.in_default-late_edge.ensures A)) ∙ first_later L5 _ A K M (sym (c.in_default-unbrought.ensures)) ∙ first_here L6 _ A K M _ (sym (sym c.in-Some-3.is ∙ c.in_ok-place-2.ensures)))

pub first_clash-requires-2 : goal.first_clash-requires-2
first_clash-requires-2 c = (interval_kept c.args.arch.now c.args.kernel.now c.args.mapping.now (sym (c.in_default.ensures c.args.kernel.now))).0

pub returns-in-Some-4 : goal.returns-in-Some-4
returns-in-Some-4 c =
    let A = c.args.arch.now in
    let K = c.args.kernel.now in
    let M = c.args.mapping.now in
    c.violation_at-in-Some-4.ensures ∙ sym (first_later L1 _ A K M (sym (c.in_default.ensures K)) ∙ first_later L2 _ A K M (sym (c.in_default-misplaced.ensures)) ∙ first_later L3 _ A K M (sym (sym c.in_default-2.is ∙ c.in_ok-place.ensures K)) ∙ first_later L4 _ A K M (sym (c.in_default-late_edge.ensures A)) ∙ first_later L5 _ A K M (sym (c.in_default-unbrought.ensures)) ∙ first_later L6 _ A K M (sym (sym c.in_default-3.is ∙ c.in_ok-place-2.ensures)) ∙ first_here L7 _ A K M _ (sym (sym c.in-Some-4.is ∙ c.in_ok-place-3.ensures)))

pub returns : goal.returns
returns c =
    let A = c.args.arch.now in
    let K = c.args.kernel.now in
    let M = c.args.mapping.now in
    sym (first_later L1 _ A K M (sym (c.in_default.ensures K)) ∙ first_later L2 _ A K M (sym (c.in_default-misplaced.ensures)) ∙ first_later L3 _ A K M (sym (sym c.in_default-2.is ∙ c.in_ok-place.ensures K)) ∙ first_later L4 _ A K M (sym (c.in_default-late_edge.ensures A)) ∙ first_later L5 _ A K M (sym (c.in_default-unbrought.ensures)) ∙ first_later L6 _ A K M (sym (sym c.in_default-3.is ∙ c.in_ok-place-2.ensures)) ∙ first_later L7 _ A K M (sym (sym c.in_default-4.is ∙ c.in_ok-place-3.ensures)) ∙ first_none A K M)
