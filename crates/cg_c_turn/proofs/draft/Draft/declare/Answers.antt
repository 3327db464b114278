use Rattle.std.proofs.Common.{ap}
use Rattle.cg_c_turn.specs.Draft.{Draft, draft_of}
use Rattle.cg_c_turn.proofs.Listed.{next_initial, initials_step, initials_done}
use Rattle.cg_c_turn.proofs.Sending.{set_is}
use Rattle.cg_c_turn.proofs.draft.Draft.declare.Goals as goal

pub expr-requires-clause-apart : goal.expr-requires-clause-apart
expr-requires-clause-apart c = (next_initial c.args.initials.now c.loop-initial.initial-index c.initial-item.result c.loop-initial-test.true c.initial-item.is c.loop-initial.invariant).apart

pub loop-initial-preserved : goal.loop-initial-preserved
loop-initial-preserved c =
    let one = c.in_ok-v.ensures.1 in
    initials_step c.args.initials.now c.loop-initial.initial-index c.initial-item.result c.loop-initial-test.true c.initial-item.is c.loop-initial.invariant one
    (set_is (draft_of c.expr.new.self) (draft_of c.set_word.new.self) c.initial-item.result.number c.in_ok-v.v one.formed one.within c.set_word.ensures.same c.in_ok-set_word.ensures.words)
    (ap (λ (d : Draft). d.initial) c.set_word.ensures.same)

pub returns : goal.returns
returns c = initials_done c.args.initials.now c.loop-initial.initial-index c.loop-initial-test.false c.loop-initial.invariant
