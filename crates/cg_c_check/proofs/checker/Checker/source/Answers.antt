use Rattle.std.proofs.lemmas.Result.{err_from_is_err_and}
use Rattle.cg_c_check.specs.States.{state_of}
use Rattle.cg_c_check.specs.Nests.{nested_of}
use Rattle.cg_c_check.proofs.Whole.{checked_fails, checked_goes}
use Rattle.cg_c_check.proofs.checker.Checker.source.Goals as goal

pub returns-in_err-nested-clause-err : goal.returns-in_err-nested-clause-err
returns-in_err-nested-clause-err c =
    let p = err_from_is_err_and c.from_residual.result c.from_residual.ensures.1 in
    rw (p.1, p.2) (λ other. checked_fails c.args.source.now (state_of c.args.self) c.in_err-nested.field-0.0 c.requires (c.in_err-nested.ensures.err other))

pub returns-clause-ok : goal.returns-clause-ok
returns-clause-ok c = rw (c.in_ok-name.ensures, c.as_str.ensures) (checked_goes c.args.source.now (state_of c.args.self) (nested_of c.in_ok-nested.nested) (state_of c.walk.new.self) c.requires c.in_ok-nested.ensures.ok)
