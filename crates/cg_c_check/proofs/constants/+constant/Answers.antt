use Rattle.std.proofs.Common.{Ok, sym, ap, ◌∙◌, arith, rules}
use Rattle.std.proofs.lemmas.Result.{err_from_is_err_and}
use Rattle.cg_c_check.specs.Chains.{constant_chained}
use Rattle.cg_c_check.proofs.Steps.{number_value_is, element_value_is, input_value_is, pick_value_is, sign_fails, sign_goes, cast_fails, cast_goes, choice_fails, choice_fails_2, choice_fails_3, choice_goes, chain_fails, chain_goes, chained_stops}
use Rattle.cg_c_check.proofs.constants.+constant.Goals as goal

pub constant_of-returns-in_err-x-in-Sign : goal.constant_of-returns-in_err-x-in-Sign
constant_of-returns-in_err-x-in-Sign t c =
    let p = err_from_is_err_and c.from_residual.result c.from_residual.ensures.1 in
    rw (p.1, p.2) (sym (sign_fails c.args.names.now c.args.expr.now c.in-Sign.sign c.in-Sign.place c.in-Sign.operand c.in_err-x-in-Sign.field-0.0 c.in-Sign.is (search rules)))

pub constant_of-returns-in_err-x-in-Cast : goal.constant_of-returns-in_err-x-in-Cast
constant_of-returns-in_err-x-in-Cast t c =
    let p = err_from_is_err_and c.from_residual-in_err-x-in-Cast.result c.from_residual-in_err-x-in-Cast.ensures.1 in
    rw (p.1, p.2) (sym (cast_fails c.args.names.now c.args.expr.now c.in-Cast.to c.in-Cast.place c.in-Cast.operand c.in_err-x-in-Cast.field-0.0 c.in-Cast.is (search rules)))

pub constant_of-returns-in_err-x-in-Chain : goal.constant_of-returns-in_err-x-in-Chain
constant_of-returns-in_err-x-in-Chain t c =
    let p = err_from_is_err_and c.from_residual-in_err-x-in-Chain.result c.from_residual-in_err-x-in-Chain.ensures.1 in
    rw (p.1, p.2) (sym (chain_fails c.args.names.now c.args.expr.now c.in-Chain.first c.in-Chain.rest c.in_err-x-in-Chain.field-0.0 c.in-Chain.is (search rules)))

pub constant_of-returns-in_err-condition-in-Choice : goal.constant_of-returns-in_err-condition-in-Choice
constant_of-returns-in_err-condition-in-Choice t c =
    let p = err_from_is_err_and c.from_residual-in_err-condition-in-Choice.result c.from_residual-in_err-condition-in-Choice.ensures.1 in
    rw (p.1, p.2) (sym (choice_fails c.args.names.now c.args.expr.now c.in-Choice.place c.in-Choice.condition c.in-Choice.chosen c.in-Choice.other c.in_err-condition-in-Choice.field-0.0 c.in-Choice.is (search rules)))

pub constant_of-returns-in_err-x-in-Choice : goal.constant_of-returns-in_err-x-in-Choice
constant_of-returns-in_err-x-in-Choice t c =
    let p = err_from_is_err_and c.from_residual-in_err-x-in-Choice.result c.from_residual-in_err-x-in-Choice.ensures.1 in
    rw (p.1, p.2) (sym (choice_fails_2 c.args.names.now c.args.expr.now c.in-Choice.place c.in-Choice.condition c.in-Choice.chosen c.in-Choice.other c.in_ok-condition-in-Choice.condition c.in_err-x-in-Choice.field-0.0 c.in-Choice.is (search rules) (search rules)))

pub constant_of-returns-in_err-y-in-Choice : goal.constant_of-returns-in_err-y-in-Choice
constant_of-returns-in_err-y-in-Choice t c =
    let p = err_from_is_err_and c.from_residual-in_err-y-in-Choice.result c.from_residual-in_err-y-in-Choice.ensures.1 in
    rw (p.1, p.2) (sym (choice_fails_3 c.args.names.now c.args.expr.now c.in-Choice.place c.in-Choice.condition c.in-Choice.chosen c.in-Choice.other c.in_ok-condition-in-Choice.condition c.in_ok-x-in-Choice.x c.in_err-y-in-Choice.field-0.0 c.in-Choice.is (search rules) (search rules) (search rules)))

pub constant_of-returns-in-Number : goal.constant_of-returns-in-Number
constant_of-returns-in-Number t c = c.number_value.ensures ∙ sym (number_value_is c.args.names.now c.args.expr.now c.in-Number.number c.in-Number.is)

pub constant_of-returns-in-Element : goal.constant_of-returns-in-Element
constant_of-returns-in-Element t c = c.element_constant.ensures ∙ sym (element_value_is c.args.names.now c.args.expr.now c.in-Element.element c.in-Element.is)

pub constant_of-returns-in-Input : goal.constant_of-returns-in-Input
constant_of-returns-in-Input t c = sym (input_value_is c.args.names.now c.args.expr.now c.in-Input.place _ c.in-Input.is)

pub constant_of-returns-in-Pick : goal.constant_of-returns-in-Pick
constant_of-returns-in-Pick t c = sym (pick_value_is c.args.names.now c.args.expr.now _ c.in-Pick.place _ _ c.in-Pick.is)

pub constant_of-returns-in_ok-x-in-Sign : goal.constant_of-returns-in_ok-x-in-Sign
constant_of-returns-in_ok-x-in-Sign t c = ap Ok c.folded_sign.ensures ∙ sym (sign_goes c.args.names.now c.args.expr.now c.in-Sign.sign c.in-Sign.place c.in-Sign.operand c.in_ok-x-in-Sign.x c.in-Sign.is (search rules))

pub constant_of-returns-in_ok-x-in-Cast : goal.constant_of-returns-in_ok-x-in-Cast
constant_of-returns-in_ok-x-in-Cast t c = ap Ok c.folded_cast.ensures ∙ sym (cast_goes c.args.names.now c.args.expr.now c.in-Cast.to c.in-Cast.place c.in-Cast.operand c.in_ok-x-in-Cast.x c.in-Cast.is (search rules))

pub constant_of-returns-in_ok-x-in-Chain : goal.constant_of-returns-in_ok-x-in-Chain
constant_of-returns-in_ok-x-in-Chain t c =
    c.chain_constant.ensures ∙ ap (constant_chained c.args.names.now (Ok c.in_ok-x-in-Chain.x)) c.deref-in-Chain-2.ensures.value ∙ sym (chain_goes c.args.names.now c.args.expr.now c.in-Chain.first c.in-Chain.rest c.in_ok-x-in-Chain.x c.in-Chain.is (search rules))

pub constant_of-returns-in_ok-y-in-Choice : goal.constant_of-returns-in_ok-y-in-Choice
constant_of-returns-in_ok-y-in-Choice t c = ap Ok c.folded_choice.ensures ∙ sym (choice_goes c.args.names.now c.args.expr.now c.in-Choice.place c.in-Choice.condition c.in-Choice.chosen c.in-Choice.other c.in_ok-condition-in-Choice.condition c.in_ok-x-in-Choice.x c.in_ok-y-in-Choice.y c.in-Choice.is (search rules) (search rules) (search rules))

pub chain_constant-returns-in_err-x : goal.chain_constant-returns-in_err-x
chain_constant-returns-in_err-x t c =
    let p = err_from_is_err_and c.from_residual.result c.from_residual.ensures.1 in
    rw (p.1, p.2) (sym (c.loop-link.invariant ∙ chained_stops c.args.names.now c.args.rest.now c.loop-link.link-index c.loop-link.x c.link-item.result c.in_err-x.field-0.0 (omega arith) c.link-item.is (search rules)))
