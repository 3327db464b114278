use Rattle.cg_c_turn.specs.Draft.{draft_of}
use Rattle.cg_c_turn.proofs.FirstTurn.{initials_begin, initials_next, initials_go_on, initials_end}
use Rattle.cg_c_turn.proofs.draft.Draft.first_words.Goals as goal

pub first_word-requires : goal.first_word-requires
first_word-requires c =
    let n = initials_next c.args.initials.now c.loop-initial.initial-index c.initial-item.result c.loop-initial-test.true c.initial-item.is c.loop-initial.invariant in
    record { formed = n.formed; first = n.first; typed = n.typed; none = n.none }

pub loop-initial-init : goal.loop-initial-init
loop-initial-init c = initials_begin (draft_of c.args.self.now) c.args.initials.now c.requires.formed c.requires.first c.requires.typed c.requires.none

pub loop-initial-preserved : goal.loop-initial-preserved
loop-initial-preserved c = initials_go_on c.args.initials.now c.loop-initial.initial-index c.initial-item.result c.loop-initial-test.true c.initial-item.is c.loop-initial.invariant c.in_ok-first_word.ensures

pub returns : goal.returns
returns c = initials_end c.args.initials.now c.loop-initial.initial-index c.loop-initial-test.false c.loop-initial.invariant
