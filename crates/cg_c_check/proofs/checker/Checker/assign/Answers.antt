use Rattle.std.proofs.Common.{rules}
use Rattle.std.proofs.lemmas.Result.{err_from_is_err_and}
use Rattle.cg_c_syntax.specs.Written as written
use Rattle.cg_c_check.specs.Written as made
use Rattle.cg_c_check.specs.States.{state_of}
use Rattle.cg_c_check.proofs.Stated.{assign_fails_1, assign_fails_2, assign_fails_3, assign_goes}
use Rattle.cg_c_check.proofs.checker.Checker.assign.Goals as goal

pub returns-in_err-target-clause-err : goal.returns-in_err-target-clause-err
returns-in_err-target-clause-err c =
    let p = err_from_is_err_and c.from_residual.result c.from_residual.ensures.1 in
    rw (p.1, p.2) (λ other. assign_fails_1 c.args.each (state_of c.args.self.now) (written.target_of c.args.target.now) c.args.op (written.expr_of c.args.value.now) c.in_err-target.field-0.0 (c.in_err-target.ensures.err other))

pub returns-in_err-value-clause-err : goal.returns-in_err-value-clause-err
returns-in_err-value-clause-err c =
    let p = err_from_is_err_and c.from_residual-in_err-value.result c.from_residual-in_err-value.ensures.1 in
    rw (p.1, p.2) (λ other. assign_fails_2 c.args.each (state_of c.args.self.now) (written.target_of c.args.target.now) c.args.op (written.expr_of c.args.value.now) (made.target_of c.in_ok-target.target) (state_of c.target.new.self) c.in_err-value.field-0.0 c.in_ok-target.ensures.ok (c.in_err-value.ensures.err other))

pub returns-then-is_wide_change-clause-err : goal.returns-then-is_wide_change-clause-err
returns-then-is_wide_change-clause-err c = λ _. assign_fails_3 c.args.each (state_of c.args.self.now) (written.target_of c.args.target.now) c.args.op (written.expr_of c.args.value.now) (made.target_of c.in_ok-target.target) (state_of c.target.new.self) (made.expr_of c.in_ok-value.value) (state_of c.expr.new.self) c.in_ok-target.ensures.ok c.in_ok-value.ensures.ok (search rules)

pub returns-clause-ok : goal.returns-clause-ok
returns-clause-ok c = assign_goes c.args.each (state_of c.args.self.now) (written.target_of c.args.target.now) c.args.op (written.expr_of c.args.value.now) (made.target_of c.in_ok-target.target) (state_of c.target.new.self) (made.expr_of c.in_ok-value.value) (state_of c.expr.new.self) c.in_ok-target.ensures.ok c.in_ok-value.ensures.ok (search rules)
