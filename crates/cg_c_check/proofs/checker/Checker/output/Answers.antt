use Rattle.std.proofs.lemmas.Result.{err_from_is_err_and}
use Rattle.cg_c_syntax.specs.Written as written
use Rattle.cg_c_check.specs.Written as made
use Rattle.cg_c_check.specs.States.{state_of}
use Rattle.cg_c_check.proofs.Stated.{output_fails_1, output_fails_2, output_goes}
use Rattle.cg_c_check.proofs.checker.Checker.output.Goals as goal

pub returns-in_err-port-clause-err : goal.returns-in_err-port-clause-err
returns-in_err-port-clause-err c =
    let p = err_from_is_err_and c.from_residual.result c.from_residual.ensures.1 in
    rw (p.1, p.2) (λ other. output_fails_1 c.args.each (state_of c.args.self.now) (written.expr_of c.args.port.now) (written.expr_of c.args.value.now) c.in_err-port.field-0.0 (c.in_err-port.ensures.err other))

pub returns-in_err-value-clause-err : goal.returns-in_err-value-clause-err
returns-in_err-value-clause-err c =
    let p = err_from_is_err_and c.from_residual-in_err-value.result c.from_residual-in_err-value.ensures.1 in
    rw (p.1, p.2) (λ other. output_fails_2 c.args.each (state_of c.args.self.now) (written.expr_of c.args.port.now) (written.expr_of c.args.value.now) c.in_ok-port.port c.take.new.self c.in_err-value.field-0.0 c.in_ok-port.ensures.ok c.in_ok-port.ensures.taken (c.in_err-value.ensures.err other))

pub returns-clause-ok : goal.returns-clause-ok
returns-clause-ok c = output_goes c.args.each (state_of c.args.self.now) (written.expr_of c.args.port.now) (written.expr_of c.args.value.now) c.in_ok-port.port c.take.new.self (made.expr_of c.in_ok-value.value) (state_of c.expr.new.self) c.in_ok-port.ensures.ok c.in_ok-port.ensures.taken c.in_ok-value.ensures.ok
