use Rattle.std.proofs.Common.{ap, ◌∙◌, arith, map}
use Rattle.std.proofs.lemmas.Result.{err_from_is_err_and}
use Rattle.cg_c_syntax.specs.Written as written
use Rattle.cg_c_check.specs.Written as made
use Rattle.cg_c_check.specs.States.{state_of}
use Rattle.cg_c_check.specs.Statements.{declarations}
use Rattle.cg_c_check.proofs.Stated.{ahead, ahead_none, words_stop_1, words_stop_2, words_go, words_end}
use Rattle.cg_c_check.proofs.checker.Checker.declarations.Goals as goal

pub loop-tree-init : goal.loop-tree-init
loop-tree-init c = rw c.new-initials.ensures.items (ahead_none (declarations c.args.each c.args.signedness (map written.word_of c.args.trees.now) (state_of c.args.self.now)))

pub returns-in_err-value-clause-err : goal.returns-in_err-value-clause-err
returns-in_err-value-clause-err c =
    let p = err_from_is_err_and c.from_residual.result c.from_residual.ensures.1 in
    rw (p.1, p.2) (λ other. c.loop-tree.invariant ∙ ap (ahead c.loop-tree.initials.items) (words_stop_1 c.args.each c.args.signedness c.args.trees.now c.loop-tree.tree-index c.tree-item.result (state_of c.loop-tree.self) c.in_err-value.field-0.0 (omega arith) c.tree-item.is (c.in_err-value.ensures.err other)))

pub returns-in_err-number-clause-err : goal.returns-in_err-number-clause-err
returns-in_err-number-clause-err c =
    let p = err_from_is_err_and c.from_residual-in_err-number.result c.from_residual-in_err-number.ensures.1 in
    rw (p.1, p.2) (λ other. c.loop-tree.invariant ∙ ap (ahead c.loop-tree.initials.items) (words_stop_2 c.args.each c.args.signedness c.args.trees.now c.loop-tree.tree-index c.tree-item.result (state_of c.loop-tree.self) (made.expr_of c.in_ok-value.value) (state_of c.expr.new.self) c.in_err-number.field-0.0 (omega arith) c.tree-item.is c.in_ok-value.ensures.ok (c.in_err-number.ensures.err other)))

pub loop-tree-preserved : goal.loop-tree-preserved
loop-tree-preserved c = rw c.in_ok-push.ensures.items (c.loop-tree.invariant ∙ words_go c.args.each c.args.signedness c.loop-tree.initials.items c.args.trees.now c.loop-tree.tree-index c.tree-item.result (state_of c.loop-tree.self) (record { number = c.in_ok-number.number; value = c.in_ok-value.value }) (state_of c.expr.new.self) (state_of c.word.new.self) (omega arith) c.tree-item.is c.in_ok-value.ensures.ok c.in_ok-number.ensures.ok)

pub returns-clause-ok : goal.returns-clause-ok
returns-clause-ok c = c.loop-tree.invariant ∙ words_end c.args.each c.args.signedness c.loop-tree.initials.items c.args.trees.now c.loop-tree.tree-index (state_of c.loop-tree.self) (omega arith)
