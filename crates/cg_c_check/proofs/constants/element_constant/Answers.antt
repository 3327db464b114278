use Rattle.std.proofs.Common.{sym, ◌∙◌, rules}
use Rattle.std.proofs.lemmas.Result.{err_from_is_err_and}
use Rattle.cg_c_check.proofs.Steps.{access_fails, access_goes}
use Rattle.cg_c_check.proofs.constants.element_constant.Goals as goal

pub returns-in_err-meaning : goal.returns-in_err-meaning
returns-in_err-meaning c =
    let p = err_from_is_err_and c.from_residual.result c.from_residual.ensures.1 in
    rw (p.1, p.2) (sym (access_fails c.args.names.now c.args.element.now c.in_err-meaning.field-0.0 (search rules)))

pub returns : goal.returns
returns c = c.constant_accessed.ensures ∙ sym (access_goes c.args.names.now c.args.element.now c.in_ok-meaning.meaning c.len.result (search rules) (search rules))
