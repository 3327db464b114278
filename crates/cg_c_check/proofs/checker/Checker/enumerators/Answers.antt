use Rattle.std.proofs.Common.{refl, ◌∙◌, arith, rules}
use Rattle.std.proofs.lemmas.Result.{err_from_is_err_and}
use Rattle.cg_c_syntax.specs.Written as written
use Rattle.cg_c_check.specs.States.{state_of}
use Rattle.cg_c_check.specs.Check.{enumerator, enumerators}
use Rattle.cg_c_check.proofs.Stated.{all_stop, all_go, all_end}
use Rattle.cg_c_check.proofs.checker.Checker.enumerators.Goals as goal

pub loop-tree-init : goal.loop-tree-init
loop-tree-init c = refl

pub returns-in_err-enumerator-clause-err : goal.returns-in_err-enumerator-clause-err
unfolding enumerators
returns-in_err-enumerator-clause-err c =
    let p = err_from_is_err_and c.from_residual.result c.from_residual.ensures.1 in
    rw (p.1, p.2) (λ other. c.loop-tree.invariant ∙ all_stop written.constant_of enumerator enumerators (λ t ts s. refl) c.args.trees.now c.loop-tree.tree-index c.tree-item.result (state_of c.loop-tree.self) c.in_err-enumerator.field-0.0 (omega arith) c.tree-item.is (c.in_err-enumerator.ensures.err other))

pub loop-tree-preserved : goal.loop-tree-preserved
unfolding enumerators
loop-tree-preserved c = c.loop-tree.invariant ∙ all_go written.constant_of enumerator enumerators (λ t ts s. refl) c.args.trees.now c.loop-tree.tree-index c.tree-item.result (state_of c.loop-tree.self) (state_of c.enumerator.new.self) (omega arith) c.tree-item.is (search rules)

pub returns-clause-ok : goal.returns-clause-ok
unfolding enumerators
returns-clause-ok c = c.loop-tree.invariant ∙ all_end written.constant_of enumerators (λ s. refl) c.args.trees.now c.loop-tree.tree-index (state_of c.loop-tree.self) (omega arith)
