use Rattle.std.proofs.lemmas.Result.{err_from_is_err_and}
use Rattle.cg_c_check.specs.States.{state_of}
use Rattle.cg_c_check.proofs.Whole.{walked_fails_1, walked_fails_2, walked_is}
use Rattle.cg_c_check.proofs.checker.Checker.walk.Goals as goal

pub returns-in_err-globals-clause-err : goal.returns-in_err-globals-clause-err
returns-in_err-globals-clause-err c =
    let p = err_from_is_err_and c.from_residual.result c.from_residual.ensures.1 in
    rw (p.1, p.2) (λ other. walked_fails_1 c.args.source.now c.deref.result.now (state_of c.args.self.now) c.in_err-globals.field-0.0 c.deref.ensures.value (c.in_err-globals.ensures.err other))

pub returns-in_err-declare-clause-err : goal.returns-in_err-declare-clause-err
returns-in_err-declare-clause-err c =
    let p = err_from_is_err_and c.from_residual-in_err-declare.result c.from_residual-in_err-declare.ensures.1 in
    rw (p.1, p.2) (λ other. walked_fails_2 c.args.source.now c.deref.result.now (state_of c.args.self.now) (state_of c.globals.new.self) c.in_err-declare.field-0.0 c.deref.ensures.value c.in_ok-globals.ensures.ok (c.in_err-declare.ensures.err other))

pub returns-clause-ok : goal.returns-clause-ok
returns-clause-ok c = rw (walked_is c.args.source.now c.deref.result.now (state_of c.args.self.now) (state_of c.globals.new.self) c.declare.new.self c.deref-2.result.now c.deref-3.result.now c.deref.ensures.value c.in_ok-globals.ensures.ok c.in_ok-declare.ensures.ok c.deref-2.ensures.value c.deref-3.ensures.value) c.holds.ensures.ok

pub returns-clause-err : goal.returns-clause-err
returns-clause-err c = rw (walked_is c.args.source.now c.deref.result.now (state_of c.args.self.now) (state_of c.globals.new.self) c.declare.new.self c.deref-2.result.now c.deref-3.result.now c.deref.ensures.value c.in_ok-globals.ensures.ok c.in_ok-declare.ensures.ok c.deref-2.ensures.value c.deref-3.ensures.value) c.holds.ensures.err
