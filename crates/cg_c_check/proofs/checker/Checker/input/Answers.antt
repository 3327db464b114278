use Rattle.std.proofs.lemmas.Result.{err_from_is_err_and}
use Rattle.cg_c_syntax.specs.Written.{expr_of}
use Rattle.cg_c_check.specs.States.{state_of}
use Rattle.cg_c_check.proofs.TypedLists.{input_fails, input_barred, input_goes}
use Rattle.cg_c_check.proofs.checker.Checker.input.Goals as goal

pub returns-in_err-port-clause-err : goal.returns-in_err-port-clause-err
returns-in_err-port-clause-err c =
    let p = err_from_is_err_and c.from_residual.result c.from_residual.ensures.1 in
    rw (p.1, p.2) (λ other. input_fails c.args.each (state_of c.args.self.now) c.args.place (expr_of c.args.port.now) c.in_err-port.field-0.0 (c.in_err-port.ensures.err other))

pub returns-then-each-clause-ok : goal.returns-then-each-clause-ok
returns-then-each-clause-ok c = input_goes c.args.each (state_of c.args.self.now) c.args.place (expr_of c.args.port.now) c.in_ok-port.port c.take.new.self c.in_ok-port.ensures.ok c.in_ok-port.ensures.taken c.if-each.true

pub returns-else-each-clause-err : goal.returns-else-each-clause-err
returns-else-each-clause-err c = λ other. input_barred c.args.each (state_of c.args.self.now) c.args.place (expr_of c.args.port.now) c.in_ok-port.port c.in_ok-port.ensures.ok c.if-each.false
