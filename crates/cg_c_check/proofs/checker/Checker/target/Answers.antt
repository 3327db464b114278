use Rattle.std.proofs.Common.{sym, ap, ◌∙◌, rules}
use Rattle.std.proofs.lemmas.Result.{err_from_is_err_and}
use Rattle.cg_c_syntax.specs.Written as written
use Rattle.cg_c_check.specs.Written as made
use Rattle.cg_c_check.specs.States.{state_of}
use Rattle.std.proofs.lemmas.Result.{IfOk-weaker, IfErr-weaker}
use Rattle.cg_c_check.specs.Walk.{with_state}
use Rattle.cg_c_check.specs.Expressions.{exprs}
use Rattle.cg_c_check.proofs.Stated.{target_unknown, target_alone, target_misused, target_fails, target_goes}
use Rattle.cg_c_check.proofs.checker.Checker.target.Goals as goal

pub returns-in_err-meaning-clause-err : goal.returns-in_err-meaning-clause-err
returns-in_err-meaning-clause-err c =
    let p = err_from_is_err_and c.from_residual.result c.from_residual.ensures.1 in
    rw (p.1, p.2) (λ other. target_unknown c.args.each (state_of c.args.self.now) (written.target_of c.args.tree.now) c.in_err-meaning.field-0.0 (search rules))

pub returns-then-is_empty-clause-ok : goal.returns-then-is_empty-clause-ok
returns-then-is_empty-clause-ok c = IfOk-weaker c.word_named.result _ _ (λ x r. target_alone c.args.each (state_of c.args.self.now) c.args.tree.now.name c.args.tree.now.indices.items c.in_ok-meaning.meaning (search rules) (search rules) ∙ ap (with_state (state_of c.args.self.now)) r) c.word_named.ensures.ok

pub returns-then-is_empty-clause-err : goal.returns-then-is_empty-clause-err
returns-then-is_empty-clause-err c = IfErr-weaker c.word_named.result _ _ (λ x r other. target_alone c.args.each (state_of c.args.self.now) c.args.tree.now.name c.args.tree.now.indices.items c.in_ok-meaning.meaning (search rules) (search rules) ∙ ap (with_state (state_of c.args.self.now)) r) c.word_named.ensures.err

pub returns-in_err-shape-clause-err : goal.returns-in_err-shape-clause-err
returns-in_err-shape-clause-err c =
    let p = err_from_is_err_and c.from_residual-in_err-shape.result c.from_residual-in_err-shape.ensures.1 in
    rw (p.1, p.2) (λ other. target_misused c.args.each (state_of c.args.self.now) c.args.tree.now.name c.args.tree.now.indices.items c.in_ok-meaning.meaning c.in_err-shape.field-0.0 (search rules) (search rules) (search rules))

pub returns-in_err-indices-clause-err : goal.returns-in_err-indices-clause-err
returns-in_err-indices-clause-err c =
    let p = err_from_is_err_and c.from_residual-in_err-indices.result c.from_residual-in_err-indices.ensures.1 in
    rw (p.1, p.2) (λ other. target_fails c.args.each (state_of c.args.self.now) c.args.tree.now.name c.args.tree.now.indices.items c.in_ok-meaning.meaning c.in_ok-shape.shape c.in_err-indices.field-0.0 (search rules) (search rules) (search rules) (ap (λ z. exprs c.args.each (written.exprs_of z) (state_of c.args.self.now)) (sym c.deref.ensures.value) ∙ c.in_err-indices.ensures.err other))

pub returns-clause-ok : goal.returns-clause-ok
returns-clause-ok c = target_goes c.args.each (state_of c.args.self.now) c.args.tree.now.name c.args.tree.now.indices.items c.in_ok-meaning.meaning c.in_ok-shape.shape (made.exprs_of c.in_ok-indices.indices.items) (state_of c.exprs.new.self) (search rules) (search rules) (search rules) (ap (λ z. exprs c.args.each (written.exprs_of z) (state_of c.args.self.now)) (sym c.deref.ensures.value) ∙ c.in_ok-indices.ensures.ok)
