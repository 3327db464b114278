use Rattle.std.proofs.Common.{Ok, sym, ap, ◌∙◌, arith, rules}
use Rattle.std.proofs.lemmas.Result.{err_from_is_err_and}
use Rattle.cg_c_syntax.specs.Written as written
use Rattle.cg_c_check.specs.Written as made
use Rattle.cg_c_check.specs.States.{state_of}
use Rattle.cg_c_check.specs.Statements.{stmt, stmts}
use Rattle.cg_c_check.proofs.Stated.{words_is, block_is, if_is, else_is, if_stops_1, if_stops_2, output_is, assign_is, block_fails, block_goes, if_goes, else_fails_3, else_goes, stmts_ahead, stmts_ahead_none, stmts_stop, stmts_go, stmts_end}
use Rattle.cg_c_check.proofs.checker.Checker.+statement.Goals as goal

pub stmt-returns-in-Words-clause-ok : goal.stmt-returns-in-Words-clause-ok
stmt-returns-in-Words-clause-ok t c = rw (words_is c.args.tree.now c.in-Words.signedness c.in-Words.words c.deref.result.now c.in-Words.is (search rules)) c.words_declared.ensures.ok

pub stmt-returns-in-Words-clause-err : goal.stmt-returns-in-Words-clause-err
stmt-returns-in-Words-clause-err t c = rw (words_is c.args.tree.now c.in-Words.signedness c.in-Words.words c.deref.result.now c.in-Words.is (search rules)) c.words_declared.ensures.err

pub stmt-returns-in_err-stmts-in-Block-clause-err : goal.stmt-returns-in_err-stmts-in-Block-clause-err
stmt-returns-in_err-stmts-in-Block-clause-err t c =
    let p = err_from_is_err_and c.from_residual.result c.from_residual.ensures.1 in
    rw (p.1, p.2) (λ other. ap (λ z. stmt c.args.each z (state_of c.args.self.now)) (block_is c.args.tree.now c.in-Block.stmts c.deref-in-Block.result.now c.in-Block.is (search rules)) ∙ block_fails c.args.each (state_of c.args.self.now) (written.stmts_of c.deref-in-Block.result.now) c.in_err-stmts-in-Block.field-0.0 (c.in_err-stmts-in-Block.ensures.err other))

pub stmt-returns-in_ok-stmts-in-Block-clause-ok : goal.stmt-returns-in_ok-stmts-in-Block-clause-ok
stmt-returns-in_ok-stmts-in-Block-clause-ok t c = ap (λ z. stmt c.args.each z (state_of c.args.self.now)) (block_is c.args.tree.now c.in-Block.stmts c.deref-in-Block.result.now c.in-Block.is (search rules)) ∙ block_goes c.args.each (state_of c.args.self.now) (written.stmts_of c.deref-in-Block.result.now) c.in_ok-stmts-in-Block.stmts (state_of c.stmts.new.self) c.count-visible.result c.forget.new.self c.in_ok-stmts-in-Block.ensures.ok c.count-visible.ensures c.forget.ensures

pub stmt-returns-in_err-condition-in-If-clause-err : goal.stmt-returns-in_err-condition-in-If-clause-err
stmt-returns-in_err-condition-in-If-clause-err t c =
    let p = err_from_is_err_and c.from_residual-in_err-condition-in-If.result c.from_residual-in_err-condition-in-If.ensures.1 in
    rw (p.1, p.2) (λ other. if_stops_1 c.args.each (state_of c.args.self.now) c.args.tree.now c.in-If.condition c.in-If.chosen c.in-If.other c.in_err-condition-in-If.field-0.0 c.in-If.is (c.in_err-condition-in-If.ensures.err other))

pub stmt-returns-in_err-chosen-in-If-clause-err : goal.stmt-returns-in_err-chosen-in-If-clause-err
stmt-returns-in_err-chosen-in-If-clause-err t c =
    let p = err_from_is_err_and c.from_residual-in_err-chosen-in-If.result c.from_residual-in_err-chosen-in-If.ensures.1 in
    rw (p.1, p.2) (λ other. if_stops_2 c.args.each (state_of c.args.self.now) c.args.tree.now c.in-If.condition c.in-If.chosen c.in-If.other c.deref-in-If.result.now (made.expr_of c.in_ok-condition-in-If.condition) (state_of c.expr.new.self) c.in_err-chosen-in-If.field-0.0 c.in-If.is (search rules) c.in_ok-condition-in-If.ensures.ok (c.in_err-chosen-in-If.ensures.err other))

pub stmt-returns-in_err-other-in-Some-clause-err : goal.stmt-returns-in_err-other-in-Some-clause-err
stmt-returns-in_err-other-in-Some-clause-err t c =
    let p = err_from_is_err_and c.from_residual-in_err-other-in-Some.result c.from_residual-in_err-other-in-Some.ensures.1 in
    rw (p.1, p.2) (λ other. ap (λ z. stmt c.args.each z (state_of c.args.self.now)) (else_is c.args.tree.now c.in-If.condition c.in-If.chosen c.in-Some.other c.in-If.other c.deref-in-If.result.now c.deref-in-Some.result.now c.in-If.is c.in-Some.is (search rules) (search rules)) ∙ else_fails_3 c.args.each (state_of c.args.self.now) (written.expr_of c.in-If.condition) (written.stmt_of c.deref-in-If.result.now) (written.stmt_of c.deref-in-Some.result.now) (made.expr_of c.in_ok-condition-in-If.condition) (state_of c.expr.new.self) (made.stmt_of c.in_ok-chosen-in-If.chosen) (state_of c.stmt.new.self) c.in_err-other-in-Some.field-0.0 c.in_ok-condition-in-If.ensures.ok c.in_ok-chosen-in-If.ensures.ok (c.in_err-other-in-Some.ensures.err other))

pub stmt-returns-in_ok-if_else-in-Some-clause-ok : goal.stmt-returns-in_ok-if_else-in-Some-clause-ok
stmt-returns-in_ok-if_else-in-Some-clause-ok t c = ap (λ z. stmt c.args.each z (state_of c.args.self.now)) (else_is c.args.tree.now c.in-If.condition c.in-If.chosen c.in-Some.other c.in-If.other c.deref-in-If.result.now c.deref-in-Some.result.now c.in-If.is c.in-Some.is (search rules) (search rules)) ∙ else_goes c.args.each (state_of c.args.self.now) (written.expr_of c.in-If.condition) (written.stmt_of c.deref-in-If.result.now) (written.stmt_of c.deref-in-Some.result.now) (made.expr_of c.in_ok-condition-in-If.condition) (state_of c.expr.new.self) (made.stmt_of c.in_ok-chosen-in-If.chosen) (state_of c.stmt.new.self) (made.stmt_of c.in_ok-other-in-Some.other) (state_of c.stmt-in-Some.new.self) c.in_ok-condition-in-If.ensures.ok c.in_ok-chosen-in-If.ensures.ok c.in_ok-other-in-Some.ensures.ok ∙ ap (λ z. Ok (z, state_of c.stmt-in-Some.new.self)) (sym c.in_ok-if_else-in-Some.ensures)

pub stmt-returns-in_ok-if_alone-in-None-clause-ok : goal.stmt-returns-in_ok-if_alone-in-None-clause-ok
stmt-returns-in_ok-if_alone-in-None-clause-ok t c = ap (λ z. stmt c.args.each z (state_of c.args.self.now)) (if_is c.args.tree.now c.in-If.condition c.in-If.chosen c.in-If.other c.deref-in-If.result.now c.in-If.is c.in-None.is (search rules)) ∙ if_goes c.args.each (state_of c.args.self.now) (written.expr_of c.in-If.condition) (written.stmt_of c.deref-in-If.result.now) (made.expr_of c.in_ok-condition-in-If.condition) (state_of c.expr.new.self) (made.stmt_of c.in_ok-chosen-in-If.chosen) (state_of c.stmt.new.self) c.in_ok-condition-in-If.ensures.ok c.in_ok-chosen-in-If.ensures.ok ∙ ap (λ z. Ok (z, state_of c.stmt.new.self)) (sym c.in_ok-if_alone-in-None.ensures)

pub stmt-returns-in-Output-clause-ok : goal.stmt-returns-in-Output-clause-ok
stmt-returns-in-Output-clause-ok t c = rw (output_is c.args.tree.now c.in-Output.port c.in-Output.value c.in-Output.is) c.output.ensures.ok

pub stmt-returns-in-Output-clause-err : goal.stmt-returns-in-Output-clause-err
stmt-returns-in-Output-clause-err t c = rw (output_is c.args.tree.now c.in-Output.port c.in-Output.value c.in-Output.is) c.output.ensures.err

pub stmt-returns-in-Assign-clause-ok : goal.stmt-returns-in-Assign-clause-ok
stmt-returns-in-Assign-clause-ok t c = rw (assign_is c.args.tree.now c.in-Assign.target c.in-Assign.op c.in-Assign.value c.in-Assign.is) c.assign.ensures.ok

pub stmt-returns-in-Assign-clause-err : goal.stmt-returns-in-Assign-clause-err
stmt-returns-in-Assign-clause-err t c = rw (assign_is c.args.tree.now c.in-Assign.target c.in-Assign.op c.in-Assign.value c.in-Assign.is) c.assign.ensures.err

pub stmts-loop-tree-init : goal.stmts-loop-tree-init
stmts-loop-tree-init t c = rw c.new-stmts.ensures.items (stmts_ahead_none (stmts c.args.each (written.stmts_of c.args.trees.now) (state_of c.args.self.now)))

pub stmts-returns-in_err-stmt-clause-err : goal.stmts-returns-in_err-stmt-clause-err
stmts-returns-in_err-stmt-clause-err t c =
    let p = err_from_is_err_and c.from_residual.result c.from_residual.ensures.1 in
    rw (p.1, p.2) (λ other. c.loop-tree.invariant ∙ ap (stmts_ahead c.loop-tree.stmts.items) (stmts_stop c.args.each c.args.trees.now c.loop-tree.tree-index c.tree-item.result (state_of c.loop-tree.self) c.in_err-stmt.field-0.0 (omega arith) c.tree-item.is (c.in_err-stmt.ensures.err other)))

pub stmts-loop-tree-preserved : goal.stmts-loop-tree-preserved
stmts-loop-tree-preserved t c = rw c.in_ok-push.ensures.items (c.loop-tree.invariant ∙ stmts_go c.args.each c.loop-tree.stmts.items c.args.trees.now c.loop-tree.tree-index c.tree-item.result (state_of c.loop-tree.self) c.in_ok-stmt.stmt (state_of c.stmt.new.self) (omega arith) c.tree-item.is c.in_ok-stmt.ensures.ok)

pub stmts-returns-clause-ok : goal.stmts-returns-clause-ok
stmts-returns-clause-ok t c = c.loop-tree.invariant ∙ stmts_end c.args.each c.loop-tree.stmts.items c.args.trees.now c.loop-tree.tree-index (state_of c.loop-tree.self) (omega arith)
