use Rattle.std.proofs.Common.{◌<◌, ◌≤◌, ◌∙◌, length, arith, rules}
use Rattle.std.proofs.lemmas.List.{get_or-set_other, length-set}
use Rattle.cg_origins.proofs.Operands.{operands_more}
use Rattle.cg_origins.proofs.tasks.task_of.Goals as goal

pub loop-place-preserved : goal.loop-place-preserved
loop-place-preserved g c =
    let A = c.args.slot.now.arch.now in
    let C = g.C.Contexts.config c.args.slot.now.contexts.now in
    let inv = c.loop-place.invariant in
    let k = c.loop-place.place in
    let sources = c.loop-place.sources in
    let long = inv.long in
    let few = c.arity-place-end.ensures.few in
    let end = c.loop-place-test.true in
    let inside : k < length sources = omega arith in
    let later : c.loop-place.warm ≤ c.max-warm.result = search rules in
    let own_later : c.in_ok-operand.operand.warm ≤ c.max-warm.result = search rules in
    let grows = c.operand_of.ensures.grows in
    record {
      long = length-set sources k _ ∙ long;
      operands = operands_more A C c.args.slot.now.number c.args.unit k c.loop-place.warm c.in_ok-operand.operand.warm c.max-warm.result c.loop-place.progress.rows c.operand_of.new.progress.rows sources c.in_ok-operand.operand.source
          inside later own_later grows inv.operands c.in_ok-operand.ensures.operand;
      rest = λ p l. get_or-set_other sources k p _ _ (omega arith) ∙ inv.rest p (omega arith);
      grows = (let a = inv.grows in omega arith);
      few = c.operand_of.ensures.few;
    }
