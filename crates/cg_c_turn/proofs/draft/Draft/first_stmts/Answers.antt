use Rattle.cg_c_turn.specs.Draft.{draft_of}
use Rattle.cg_c_turn.proofs.FirstTurn.{stmts_begin, stmts_next, stmts_go_on, stmts_end}
use Rattle.cg_c_turn.proofs.draft.Draft.first_stmts.Goals as goal

pub first_stmt-requires : goal.first_stmt-requires
first_stmt-requires c =
    let n = stmts_next c.args.stmts.now c.loop-stmt.stmt-index c.stmt-item.result c.loop-stmt-test.true c.stmt-item.is c.loop-stmt.invariant in
    record { formed = n.formed; first = n.first; typed = n.typed; none = n.none }

pub loop-stmt-init : goal.loop-stmt-init
loop-stmt-init c = stmts_begin (draft_of c.args.self.now) c.args.stmts.now c.requires.formed c.requires.first c.requires.typed c.requires.none

pub loop-stmt-preserved : goal.loop-stmt-preserved
loop-stmt-preserved c = stmts_go_on c.args.stmts.now c.loop-stmt.stmt-index c.stmt-item.result c.loop-stmt-test.true c.stmt-item.is c.loop-stmt.invariant c.in_ok-first_stmt.ensures

pub returns : goal.returns
returns c = stmts_end c.args.stmts.now c.loop-stmt.stmt-index c.loop-stmt-test.false c.loop-stmt.invariant
