use Rattle.std.proofs.Common.{◌≡◌, ◌<◌, ◌&&◌, ◌||◌, not, List, Some, length, get_or, ap, sym, subst, arith, ◌∙◌}
use Rattle.cg_loop_syntax.specs.Uses.{is_carry, is_assign, is_misassigned}
use Rattle.cg_loop_reader.specs.declared.numbering.NumberedUse.{NumberedUse}
use Rattle.cg_loop_reader.proofs.Assigned.{flags_more, misassigned_is}
use Rattle.cg_loop_reader.proofs.Steps.{found, passed, name_below, no_use}
use Rattle.cg_loop_reader.proofs.assignments.first_misassigned.Goals as goal

pub returns-then-is_misassigned : goal.returns-then-is_misassigned
returns-then-is_misassigned c =
    let xs = c.deref-used-items.result.now in
    let us = c.args.numbered.now.uses.items in
    let same : xs ≡ us = c.deref-used-items.ensures.value in
    let i = c.loop-index.index in
    let u = get_or xs i no_use in
    let last = c.in_ok-last.last.items in
    let flags = c.loop-index.assigned.items in
    let within : i < length us = subst (λ (ys : List NumberedUse). i < length ys) same c.loop-index-test.true in
    let below = name_below c.args.numbered.now.names us xs i no_use c.args.numbered.now.below same within in
    let in_last : u.name < length last = omega (arith, below, c.in_ok-last.ensures.length) in
    let in_flags : u.name < length flags = omega (arith, below, c.loop-index.invariant.length) in
    let is = misassigned_is us i u last flags c.index.result.now c.index-in-loop-index.result.now in_last in_flags c.in_ok-last.ensures.last c.loop-index.invariant.assigned c.index.ensures c.index-in-loop-index.ensures in
    let behind = ap (λ b. (is_carry (Some u.role) && not b) || (is_assign u.role && c.index-in-loop-index.result.now)) (sym c.is_behind-behind.ensures) in
    found is_misassigned us xs i no_use same within c.loop-index.invariant.left (is ∙ behind ∙ sym c.is_misassigned.ensures ∙ c.if-is_misassigned.true)

pub loop-index-preserved : goal.loop-index-preserved
loop-index-preserved c =
    let xs = c.deref-used-items.result.now in
    let us = c.args.numbered.now.uses.items in
    let same : xs ≡ us = c.deref-used-items.ensures.value in
    let i = c.loop-index.index in
    let u = get_or xs i no_use in
    let last = c.in_ok-last.last.items in
    let flags = c.loop-index.assigned.items in
    let within : i < length us = subst (λ (ys : List NumberedUse). i < length ys) same c.loop-index-test.true in
    let below = name_below c.args.numbered.now.names us xs i no_use c.args.numbered.now.below same within in
    let in_last : u.name < length last = omega (arith, below, c.in_ok-last.ensures.length) in
    let in_flags : u.name < length flags = omega (arith, below, c.loop-index.invariant.length) in
    let is = misassigned_is us i u last flags c.index.result.now c.index-in-loop-index.result.now in_last in_flags c.in_ok-last.ensures.last c.loop-index.invariant.assigned c.index.ensures c.index-in-loop-index.ensures in
    let behind = ap (λ b. (is_carry (Some u.role) && not b) || (is_assign u.role && c.index-in-loop-index.result.now)) (sym c.is_behind-behind.ensures) in
    record {
      left = passed is_misassigned us xs i no_use same within c.loop-index.invariant.left (is ∙ behind ∙ sym c.is_misassigned.ensures ∙ c.if-is_misassigned.false);
      assigned = flags_more us xs i no_use flags c.assign.new.assigned.items same within c.loop-index.invariant.assigned c.assign.ensures.assigned;
      length = c.assign.ensures.length ∙ c.loop-index.invariant.length;
    }
