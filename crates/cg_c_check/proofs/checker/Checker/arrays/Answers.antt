use Rattle.std.proofs.Common.{None, refl, ap, ◌∙◌, arith}
use Rattle.std.proofs.lemmas.Result.{err_from_is_err_and}
use Rattle.cg_c_syntax.specs.Written as written
use Rattle.cg_c_check.specs.States.{state_of}
use Rattle.cg_c_check.specs.Check.{placed, array, arrays}
use Rattle.cg_c_check.specs.Walk.{onward}
use Rattle.cg_c_check.proofs.Stated.{all_stop, all_go, all_end}
use Rattle.cg_c_check.proofs.checker.Checker.arrays.Goals as goal

pub loop-tree-init : goal.loop-tree-init
loop-tree-init c = refl

pub returns-in_err-extent-clause-err : goal.returns-in_err-extent-clause-err
unfolding arrays
returns-in_err-extent-clause-err c =
    let p = err_from_is_err_and c.from_residual.result c.from_residual.ensures.1 in
    rw (p.1, p.2) (λ other. c.loop-tree.invariant ∙ all_stop written.array_of (array c.args.signedness) (arrays c.args.signedness) (λ t ts s. refl) c.args.trees.now c.loop-tree.tree-index c.tree-item.result (state_of c.loop-tree.self) c.in_err-extent.field-0.0 (omega arith) c.tree-item.is (ap (onward (λ ds. placed (written.array_of c.tree-item.result) ds None)) (c.in_err-extent.ensures.err other)))

pub loop-tree-preserved : goal.loop-tree-preserved
unfolding arrays
loop-tree-preserved c = c.loop-tree.invariant ∙ all_go written.array_of (array c.args.signedness) (arrays c.args.signedness) (λ t ts s. refl) c.args.trees.now c.loop-tree.tree-index c.tree-item.result (state_of c.loop-tree.self) (state_of c.add_array.new.self) (omega arith) c.tree-item.is (ap (onward (λ ds. placed (written.array_of c.tree-item.result) ds None)) c.in_ok-extent.ensures.ok ∙ c.in_ok-add_array.ensures.ok)

pub returns-clause-ok : goal.returns-clause-ok
unfolding arrays
returns-clause-ok c = c.loop-tree.invariant ∙ all_end written.array_of (arrays c.args.signedness) (λ s. refl) c.args.trees.now c.loop-tree.tree-index (state_of c.loop-tree.self) (omega arith)
