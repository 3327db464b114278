use Rattle.std.proofs.Common.{refl, ◌∙◌, arith, rules}
use Rattle.std.proofs.lemmas.Result.{err_from_is_err_and}
use Rattle.cg_c_syntax.specs.Written as written
use Rattle.cg_c_check.specs.States.{state_of}
use Rattle.cg_c_check.specs.Check.{global, globals}
use Rattle.cg_c_check.proofs.Stated.{all_stop, all_go, all_end}
use Rattle.cg_c_check.proofs.checker.Checker.globals.Goals as goal

pub loop-tree-init : goal.loop-tree-init
loop-tree-init c = refl

pub returns-in_err-declaration-clause-err : goal.returns-in_err-declaration-clause-err
unfolding globals
returns-in_err-declaration-clause-err c =
    let p = err_from_is_err_and c.from_residual.result c.from_residual.ensures.1 in
    rw (p.1, p.2) (λ other. c.loop-tree.invariant ∙ all_stop written.global_of global globals (λ t ts s. refl) c.args.trees.now c.loop-tree.tree-index c.tree-item.result (state_of c.loop-tree.self) c.in_err-declaration.field-0.0 (omega arith) c.tree-item.is (c.in_err-declaration.ensures.err other))

pub loop-tree-preserved : goal.loop-tree-preserved
unfolding globals
loop-tree-preserved c = c.loop-tree.invariant ∙ all_go written.global_of global globals (λ t ts s. refl) c.args.trees.now c.loop-tree.tree-index c.tree-item.result (state_of c.loop-tree.self) (state_of c.declaration.new.self) (omega arith) c.tree-item.is (search rules)

pub returns-clause-ok : goal.returns-clause-ok
unfolding globals
returns-clause-ok c = c.loop-tree.invariant ∙ all_end written.global_of globals (λ s. refl) c.args.trees.now c.loop-tree.tree-index (state_of c.loop-tree.self) (omega arith)
