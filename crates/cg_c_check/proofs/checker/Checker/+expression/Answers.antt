use Rattle.std.proofs.Common.{◌≡◌, ◌+◌, ◌<◌, false, [], Ok, Err, length, drop, refl, sym, ap, ◌∙◌, arith, rules}
use Rattle.std.proofs.Math.ListN.{drop_of_length-le}
use Rattle.std.proofs.lemmas.Grind.{common_steps}
use Rattle.std.proofs.lemmas.Result.{err_from_is_err_and, IfOk-weaker, IfErr-weaker}
use Rattle.cg_c_syntax.specs.Written as written
use Rattle.cg_c_check.specs.Expressions.{expr, exprs}
use Rattle.cg_c_check.specs.TypedChains.{chained}
use Rattle.cg_c_check.specs.Written.{expr_of, exprs_of, linked}
use Rattle.cg_c_check.specs.States.{state_of}
use Rattle.cg_c_check.proofs.Typed.{element_is}
use Rattle.cg_c_check.proofs.TypedSteps.{behind, number_fails, number_goes, element_same, input_same, sign_fails_1, sign_goes, cast_fails_1, cast_goes, pick_fails_1, pick_fails_2, pick_goes, choice_fails_1, choice_fails_2, choice_fails_3, choice_goes, chain_fails, chain_goes, chained_step, chained_fault, access_unknown}
use Rattle.cg_c_check.proofs.TypedLists.{behind_none, list_fails, list_goes, list_ends, name_alone, name_misused, index_fails, index_goes}
use Rattle.cg_c_check.proofs.checker.Checker.+expression.Goals as goal

pub expr-returns-in_err-number_value-in-Number-clause-err : goal.expr-returns-in_err-number_value-in-Number-clause-err
expr-returns-in_err-number_value-in-Number-clause-err t c =
    let p = err_from_is_err_and c.from_residual.result c.from_residual.ensures.1 in
    rw (p.1, p.2) (λ other. number_fails c.args.each (state_of c.args.self.now) c.args.tree.now c.in-Number.number c.in_err-number_value-in-Number.field-0.0 c.in-Number.is (sym c.in_err-number_value-in-Number.ensures))

pub expr-returns-in_err-number_value-in-Number-clause-ok : goal.expr-returns-in_err-number_value-in-Number-clause-ok
expr-returns-in_err-number_value-in-Number-clause-ok t c = rw (err_from_is_err_and c.from_residual.result c.from_residual.ensures.1).1 tt

pub expr-returns-in_ok-number_value-in-Number-clause-ok : goal.expr-returns-in_ok-number_value-in-Number-clause-ok
expr-returns-in_ok-number_value-in-Number-clause-ok t c = number_goes c.args.each (state_of c.args.self.now) c.args.tree.now c.in-Number.number c.in_ok-number_value-in-Number.field-0 c.in-Number.is (sym c.in_ok-number_value-in-Number.ensures)

pub expr-returns-in-Element-clause-ok : goal.expr-returns-in-Element-clause-ok
expr-returns-in-Element-clause-ok t c = IfOk-weaker c.access.result _ _ (λ e goes. element_same c.args.each (state_of c.args.self.now) c.args.tree.now c.in-Element.element c.in-Element.is ∙ goes) c.access.ensures.ok

pub expr-returns-in-Element-clause-err : goal.expr-returns-in-Element-clause-err
expr-returns-in-Element-clause-err t c = IfErr-weaker c.access.result _ _ (λ f fails other. element_same c.args.each (state_of c.args.self.now) c.args.tree.now c.in-Element.element c.in-Element.is ∙ fails other) c.access.ensures.err

pub expr-returns-in-Input-clause-ok : goal.expr-returns-in-Input-clause-ok
expr-returns-in-Input-clause-ok t c = IfOk-weaker c.input.result _ _ (λ e goes. input_same c.args.each (state_of c.args.self.now) c.args.tree.now c.in-Input.place c.in-Input.port c.deref-in-Input.result.now c.in-Input.is c.deref-in-Input.ensures ∙ goes) c.input.ensures.ok

pub expr-returns-in-Input-clause-err : goal.expr-returns-in-Input-clause-err
expr-returns-in-Input-clause-err t c = IfErr-weaker c.input.result _ _ (λ f fails other. input_same c.args.each (state_of c.args.self.now) c.args.tree.now c.in-Input.place c.in-Input.port c.deref-in-Input.result.now c.in-Input.is c.deref-in-Input.ensures ∙ fails other) c.input.ensures.err

pub expr-returns-in_err-operand-in-Sign-clause-err : goal.expr-returns-in_err-operand-in-Sign-clause-err
expr-returns-in_err-operand-in-Sign-clause-err t c =
    let p = err_from_is_err_and c.from_residual-in_err-operand-in-Sign.result c.from_residual-in_err-operand-in-Sign.ensures.1 in
    rw (p.1, p.2) (λ other. sign_fails_1 c.args.each (state_of c.args.self.now) c.args.tree.now c.in-Sign.sign c.in-Sign.place c.in-Sign.operand c.in_err-operand-in-Sign.field-0.0 c.in-Sign.is (ap (λ z. expr c.args.each (written.expr_of z) (state_of c.args.self.now)) (sym c.deref.ensures) ∙ c.in_err-operand-in-Sign.ensures.err other))

pub expr-returns-in_err-operand-in-Sign-clause-ok : goal.expr-returns-in_err-operand-in-Sign-clause-ok
expr-returns-in_err-operand-in-Sign-clause-ok t c = rw (err_from_is_err_and c.from_residual-in_err-operand-in-Sign.result c.from_residual-in_err-operand-in-Sign.ensures.1).1 tt

pub expr-returns-in_err-signed-in-Sign-clause-err : goal.expr-returns-in_err-signed-in-Sign-clause-err
expr-returns-in_err-signed-in-Sign-clause-err t c =
    let p = err_from_is_err_and c.from_residual-in_err-signed-in-Sign.result c.from_residual-in_err-signed-in-Sign.ensures.1 in
    rw (p.1, p.2) (λ other. absurd (other refl))

pub expr-returns-in_err-signed-in-Sign-clause-ok : goal.expr-returns-in_err-signed-in-Sign-clause-ok
expr-returns-in_err-signed-in-Sign-clause-ok t c = rw (err_from_is_err_and c.from_residual-in_err-signed-in-Sign.result c.from_residual-in_err-signed-in-Sign.ensures.1).1 tt

pub expr-returns-in_ok-signed-in-Sign-clause-ok : goal.expr-returns-in_ok-signed-in-Sign-clause-ok
expr-returns-in_ok-signed-in-Sign-clause-ok t c = sign_goes c.args.each (state_of c.args.self.now) c.args.tree.now c.in-Sign.sign c.in-Sign.place c.in-Sign.operand (expr_of c.in_ok-operand-in-Sign.operand) (state_of c.expr.new.self) c.in-Sign.is (ap (λ z. expr c.args.each (written.expr_of z) (state_of c.args.self.now)) (sym c.deref.ensures) ∙ c.in_ok-operand-in-Sign.ensures.ok) ∙ ap (λ e. Ok (e, (state_of c.expr.new.self))) (sym c.in_ok-signed-in-Sign.ensures)

pub expr-returns-in_err-operand-in-Cast-clause-err : goal.expr-returns-in_err-operand-in-Cast-clause-err
expr-returns-in_err-operand-in-Cast-clause-err t c =
    let p = err_from_is_err_and c.from_residual-in_err-operand-in-Cast.result c.from_residual-in_err-operand-in-Cast.ensures.1 in
    rw (p.1, p.2) (λ other. cast_fails_1 c.args.each (state_of c.args.self.now) c.args.tree.now c.in-Cast.to c.in-Cast.place c.in-Cast.operand c.in_err-operand-in-Cast.field-0.0 c.in-Cast.is (ap (λ z. expr c.args.each (written.expr_of z) (state_of c.args.self.now)) (sym c.deref-in-Cast.ensures) ∙ c.in_err-operand-in-Cast.ensures.err other))

pub expr-returns-in_err-operand-in-Cast-clause-ok : goal.expr-returns-in_err-operand-in-Cast-clause-ok
expr-returns-in_err-operand-in-Cast-clause-ok t c = rw (err_from_is_err_and c.from_residual-in_err-operand-in-Cast.result c.from_residual-in_err-operand-in-Cast.ensures.1).1 tt

pub expr-returns-in_err-converted-in-Cast-clause-err : goal.expr-returns-in_err-converted-in-Cast-clause-err
expr-returns-in_err-converted-in-Cast-clause-err t c =
    let p = err_from_is_err_and c.from_residual-in_err-converted-in-Cast.result c.from_residual-in_err-converted-in-Cast.ensures.1 in
    rw (p.1, p.2) (λ other. absurd (other refl))

pub expr-returns-in_err-converted-in-Cast-clause-ok : goal.expr-returns-in_err-converted-in-Cast-clause-ok
expr-returns-in_err-converted-in-Cast-clause-ok t c = rw (err_from_is_err_and c.from_residual-in_err-converted-in-Cast.result c.from_residual-in_err-converted-in-Cast.ensures.1).1 tt

pub expr-returns-in_ok-converted-in-Cast-clause-ok : goal.expr-returns-in_ok-converted-in-Cast-clause-ok
expr-returns-in_ok-converted-in-Cast-clause-ok t c = cast_goes c.args.each (state_of c.args.self.now) c.args.tree.now c.in-Cast.to c.in-Cast.place c.in-Cast.operand (expr_of c.in_ok-operand-in-Cast.operand) (state_of c.expr-in-Cast.new.self) c.in-Cast.is (ap (λ z. expr c.args.each (written.expr_of z) (state_of c.args.self.now)) (sym c.deref-in-Cast.ensures) ∙ c.in_ok-operand-in-Cast.ensures.ok) ∙ ap (λ e. Ok (e, (state_of c.expr-in-Cast.new.self))) (sym c.in_ok-converted-in-Cast.ensures)

pub expr-returns-in_err-first-in-Pick-clause-err : goal.expr-returns-in_err-first-in-Pick-clause-err
expr-returns-in_err-first-in-Pick-clause-err t c =
    let p = err_from_is_err_and c.from_residual-in_err-first-in-Pick.result c.from_residual-in_err-first-in-Pick.ensures.1 in
    rw (p.1, p.2) (λ other. pick_fails_1 c.args.each (state_of c.args.self.now) c.args.tree.now c.in-Pick.pick c.in-Pick.place c.in-Pick.first c.in-Pick.second c.in_err-first-in-Pick.field-0.0 c.in-Pick.is (ap (λ z. expr c.args.each (written.expr_of z) (state_of c.args.self.now)) (sym c.deref-in-Pick.ensures) ∙ c.in_err-first-in-Pick.ensures.err other))

pub expr-returns-in_err-first-in-Pick-clause-ok : goal.expr-returns-in_err-first-in-Pick-clause-ok
expr-returns-in_err-first-in-Pick-clause-ok t c = rw (err_from_is_err_and c.from_residual-in_err-first-in-Pick.result c.from_residual-in_err-first-in-Pick.ensures.1).1 tt

pub expr-returns-in_err-second-in-Pick-clause-err : goal.expr-returns-in_err-second-in-Pick-clause-err
expr-returns-in_err-second-in-Pick-clause-err t c =
    let p = err_from_is_err_and c.from_residual-in_err-second-in-Pick.result c.from_residual-in_err-second-in-Pick.ensures.1 in
    rw (p.1, p.2) (λ other. pick_fails_2 c.args.each (state_of c.args.self.now) c.args.tree.now c.in-Pick.pick c.in-Pick.place c.in-Pick.first c.in-Pick.second (expr_of c.in_ok-first-in-Pick.first) (state_of c.expr-in-Pick.new.self) c.in_err-second-in-Pick.field-0.0 c.in-Pick.is (ap (λ z. expr c.args.each (written.expr_of z) (state_of c.args.self.now)) (sym c.deref-in-Pick.ensures) ∙ c.in_ok-first-in-Pick.ensures.ok) (ap (λ z. expr c.args.each (written.expr_of z) (state_of c.expr-in-Pick.new.self)) (sym c.deref-in-Pick-2.ensures) ∙ c.in_err-second-in-Pick.ensures.err other))

pub expr-returns-in_err-second-in-Pick-clause-ok : goal.expr-returns-in_err-second-in-Pick-clause-ok
expr-returns-in_err-second-in-Pick-clause-ok t c = rw (err_from_is_err_and c.from_residual-in_err-second-in-Pick.result c.from_residual-in_err-second-in-Pick.ensures.1).1 tt

pub expr-returns-in_err-new-in-Pick-clause-err : goal.expr-returns-in_err-new-in-Pick-clause-err
expr-returns-in_err-new-in-Pick-clause-err t c =
    let p = err_from_is_err_and c.from_residual-in_err-new-in-Pick.result c.from_residual-in_err-new-in-Pick.ensures.1 in
    rw (p.1, p.2) (λ other. absurd (other refl))

pub expr-returns-in_err-new-in-Pick-clause-ok : goal.expr-returns-in_err-new-in-Pick-clause-ok
expr-returns-in_err-new-in-Pick-clause-ok t c = rw (err_from_is_err_and c.from_residual-in_err-new-in-Pick.result c.from_residual-in_err-new-in-Pick.ensures.1).1 tt

pub expr-returns-in_err-new-in-Pick-2-clause-err : goal.expr-returns-in_err-new-in-Pick-2-clause-err
expr-returns-in_err-new-in-Pick-2-clause-err t c =
    let p = err_from_is_err_and c.from_residual-in_err-new-in-Pick-2.result c.from_residual-in_err-new-in-Pick-2.ensures.1 in
    rw (p.1, p.2) (λ other. absurd (other refl))

pub expr-returns-in_err-new-in-Pick-2-clause-ok : goal.expr-returns-in_err-new-in-Pick-2-clause-ok
expr-returns-in_err-new-in-Pick-2-clause-ok t c = rw (err_from_is_err_and c.from_residual-in_err-new-in-Pick-2.result c.from_residual-in_err-new-in-Pick-2.ensures.1).1 tt

pub expr-returns-in_ok-new-in-Pick-2-clause-ok : goal.expr-returns-in_ok-new-in-Pick-2-clause-ok
expr-returns-in_ok-new-in-Pick-2-clause-ok t c = rw (c.in_ok-new-in-Pick.ensures.ok, c.in_ok-new-in-Pick-2.ensures.ok) (pick_goes c.args.each (state_of c.args.self.now) c.args.tree.now c.in-Pick.pick c.in-Pick.place c.in-Pick.first c.in-Pick.second (expr_of c.in_ok-first-in-Pick.first) (state_of c.expr-in-Pick.new.self) (expr_of c.in_ok-second-in-Pick.second) (state_of c.expr-in-Pick-2.new.self) c.in-Pick.is (ap (λ z. expr c.args.each (written.expr_of z) (state_of c.args.self.now)) (sym c.deref-in-Pick.ensures) ∙ c.in_ok-first-in-Pick.ensures.ok) (ap (λ z. expr c.args.each (written.expr_of z) (state_of c.expr-in-Pick.new.self)) (sym c.deref-in-Pick-2.ensures) ∙ c.in_ok-second-in-Pick.ensures.ok))

pub expr-returns-in_err-condition-in-Choice-clause-err : goal.expr-returns-in_err-condition-in-Choice-clause-err
expr-returns-in_err-condition-in-Choice-clause-err t c =
    let p = err_from_is_err_and c.from_residual-in_err-condition-in-Choice.result c.from_residual-in_err-condition-in-Choice.ensures.1 in
    rw (p.1, p.2) (λ other. choice_fails_1 c.args.each (state_of c.args.self.now) c.args.tree.now c.in-Choice.place c.in-Choice.condition c.in-Choice.chosen c.in-Choice.other c.in_err-condition-in-Choice.field-0.0 c.in-Choice.is (ap (λ z. expr c.args.each (written.expr_of z) (state_of c.args.self.now)) (sym c.deref-in-Choice.ensures) ∙ c.in_err-condition-in-Choice.ensures.err other))

pub expr-returns-in_err-condition-in-Choice-clause-ok : goal.expr-returns-in_err-condition-in-Choice-clause-ok
expr-returns-in_err-condition-in-Choice-clause-ok t c = rw (err_from_is_err_and c.from_residual-in_err-condition-in-Choice.result c.from_residual-in_err-condition-in-Choice.ensures.1).1 tt

pub expr-returns-in_err-chosen-in-Choice-clause-err : goal.expr-returns-in_err-chosen-in-Choice-clause-err
expr-returns-in_err-chosen-in-Choice-clause-err t c =
    let p = err_from_is_err_and c.from_residual-in_err-chosen-in-Choice.result c.from_residual-in_err-chosen-in-Choice.ensures.1 in
    rw (p.1, p.2) (λ other. choice_fails_2 c.args.each (state_of c.args.self.now) c.args.tree.now c.in-Choice.place c.in-Choice.condition c.in-Choice.chosen c.in-Choice.other (expr_of c.in_ok-condition-in-Choice.condition) (state_of c.expr-in-Choice.new.self) c.in_err-chosen-in-Choice.field-0.0 c.in-Choice.is (ap (λ z. expr c.args.each (written.expr_of z) (state_of c.args.self.now)) (sym c.deref-in-Choice.ensures) ∙ c.in_ok-condition-in-Choice.ensures.ok) (ap (λ z. expr false (written.expr_of z) (state_of c.expr-in-Choice.new.self)) (sym c.deref-in-Choice-2.ensures) ∙ c.in_err-chosen-in-Choice.ensures.err other))

pub expr-returns-in_err-chosen-in-Choice-clause-ok : goal.expr-returns-in_err-chosen-in-Choice-clause-ok
expr-returns-in_err-chosen-in-Choice-clause-ok t c = rw (err_from_is_err_and c.from_residual-in_err-chosen-in-Choice.result c.from_residual-in_err-chosen-in-Choice.ensures.1).1 tt

pub expr-returns-in_err-other-in-Choice-clause-err : goal.expr-returns-in_err-other-in-Choice-clause-err
expr-returns-in_err-other-in-Choice-clause-err t c =
    let p = err_from_is_err_and c.from_residual-in_err-other-in-Choice.result c.from_residual-in_err-other-in-Choice.ensures.1 in
    rw (p.1, p.2) (λ other. choice_fails_3 c.args.each (state_of c.args.self.now) c.args.tree.now c.in-Choice.place c.in-Choice.condition c.in-Choice.chosen c.in-Choice.other (expr_of c.in_ok-condition-in-Choice.condition) (state_of c.expr-in-Choice.new.self) (expr_of c.in_ok-chosen-in-Choice.chosen) (state_of c.expr-in-Choice-2.new.self) c.in_err-other-in-Choice.field-0.0 c.in-Choice.is (ap (λ z. expr c.args.each (written.expr_of z) (state_of c.args.self.now)) (sym c.deref-in-Choice.ensures) ∙ c.in_ok-condition-in-Choice.ensures.ok) (ap (λ z. expr false (written.expr_of z) (state_of c.expr-in-Choice.new.self)) (sym c.deref-in-Choice-2.ensures) ∙ c.in_ok-chosen-in-Choice.ensures.ok) (ap (λ z. expr false (written.expr_of z) (state_of c.expr-in-Choice-2.new.self)) (sym c.deref-in-Choice-3.ensures) ∙ c.in_err-other-in-Choice.ensures.err other))

pub expr-returns-in_err-other-in-Choice-clause-ok : goal.expr-returns-in_err-other-in-Choice-clause-ok
expr-returns-in_err-other-in-Choice-clause-ok t c = rw (err_from_is_err_and c.from_residual-in_err-other-in-Choice.result c.from_residual-in_err-other-in-Choice.ensures.1).1 tt

pub expr-returns-in_err-choice-in-Choice-clause-err : goal.expr-returns-in_err-choice-in-Choice-clause-err
expr-returns-in_err-choice-in-Choice-clause-err t c =
    let p = err_from_is_err_and c.from_residual-in_err-choice-in-Choice.result c.from_residual-in_err-choice-in-Choice.ensures.1 in
    rw (p.1, p.2) (λ other. absurd (other refl))

pub expr-returns-in_err-choice-in-Choice-clause-ok : goal.expr-returns-in_err-choice-in-Choice-clause-ok
expr-returns-in_err-choice-in-Choice-clause-ok t c = rw (err_from_is_err_and c.from_residual-in_err-choice-in-Choice.result c.from_residual-in_err-choice-in-Choice.ensures.1).1 tt

pub expr-returns-in_ok-choice-in-Choice-clause-ok : goal.expr-returns-in_ok-choice-in-Choice-clause-ok
expr-returns-in_ok-choice-in-Choice-clause-ok t c = choice_goes c.args.each (state_of c.args.self.now) c.args.tree.now c.in-Choice.place c.in-Choice.condition c.in-Choice.chosen c.in-Choice.other (expr_of c.in_ok-condition-in-Choice.condition) (state_of c.expr-in-Choice.new.self) (expr_of c.in_ok-chosen-in-Choice.chosen) (state_of c.expr-in-Choice-2.new.self) (expr_of c.in_ok-other-in-Choice.other) (state_of c.expr-in-Choice-3.new.self) c.in-Choice.is (ap (λ z. expr c.args.each (written.expr_of z) (state_of c.args.self.now)) (sym c.deref-in-Choice.ensures) ∙ c.in_ok-condition-in-Choice.ensures.ok) (ap (λ z. expr false (written.expr_of z) (state_of c.expr-in-Choice.new.self)) (sym c.deref-in-Choice-2.ensures) ∙ c.in_ok-chosen-in-Choice.ensures.ok) (ap (λ z. expr false (written.expr_of z) (state_of c.expr-in-Choice-2.new.self)) (sym c.deref-in-Choice-3.ensures) ∙ c.in_ok-other-in-Choice.ensures.ok) ∙ ap (λ e. Ok (e, (state_of c.expr-in-Choice-3.new.self))) (sym c.in_ok-choice-in-Choice.ensures)

pub expr-returns-in_err-first-in-Chain-clause-err : goal.expr-returns-in_err-first-in-Chain-clause-err
expr-returns-in_err-first-in-Chain-clause-err t c =
    let p = err_from_is_err_and c.from_residual-in_err-first-in-Chain.result c.from_residual-in_err-first-in-Chain.ensures.1 in
    rw (p.1, p.2) (λ other. chain_fails c.args.each (state_of c.args.self.now) c.args.tree.now c.in-Chain.first c.in-Chain.rest c.in_err-first-in-Chain.field-0.0 c.in-Chain.is (ap (λ z. expr c.args.each (written.expr_of z) (state_of c.args.self.now)) (sym c.deref-in-Chain.ensures) ∙ c.in_err-first-in-Chain.ensures.err other))

pub expr-returns-in_err-first-in-Chain-clause-ok : goal.expr-returns-in_err-first-in-Chain-clause-ok
expr-returns-in_err-first-in-Chain-clause-ok t c = rw (err_from_is_err_and c.from_residual-in_err-first-in-Chain.result c.from_residual-in_err-first-in-Chain.ensures.1).1 tt

pub expr-returns-in_ok-first-in-Chain-clause-ok : goal.expr-returns-in_ok-first-in-Chain-clause-ok
expr-returns-in_ok-first-in-Chain-clause-ok t c = IfOk-weaker c.chain.result _ _ (λ e goes. chain_goes c.args.each (state_of c.args.self.now) c.args.tree.now c.in-Chain.first c.in-Chain.rest (expr_of c.in_ok-first-in-Chain.first) (state_of c.expr-in-Chain.new.self) c.in-Chain.is (ap (λ z. expr c.args.each (written.expr_of z) (state_of c.args.self.now)) (sym c.deref-in-Chain.ensures) ∙ c.in_ok-first-in-Chain.ensures.ok) ∙ ap (λ ls. chained c.args.each (Ok ((expr_of c.in_ok-first-in-Chain.first), (state_of c.expr-in-Chain.new.self))) ls) (sym c.deref-in-Chain-2.ensures.value) ∙ goes) c.chain.ensures.ok

pub expr-returns-in_ok-first-in-Chain-clause-err : goal.expr-returns-in_ok-first-in-Chain-clause-err
expr-returns-in_ok-first-in-Chain-clause-err t c = IfErr-weaker c.chain.result _ _ (λ f fails other. chain_goes c.args.each (state_of c.args.self.now) c.args.tree.now c.in-Chain.first c.in-Chain.rest (expr_of c.in_ok-first-in-Chain.first) (state_of c.expr-in-Chain.new.self) c.in-Chain.is (ap (λ z. expr c.args.each (written.expr_of z) (state_of c.args.self.now)) (sym c.deref-in-Chain.ensures) ∙ c.in_ok-first-in-Chain.ensures.ok) ∙ ap (λ ls. chained c.args.each (Ok ((expr_of c.in_ok-first-in-Chain.first), (state_of c.expr-in-Chain.new.self))) ls) (sym c.deref-in-Chain-2.ensures.value) ∙ fails other) c.chain.ensures.err

pub chain-loop-link-init : goal.chain-loop-link-init
chain-loop-link-init t c = let none : c.new.result.items ≡ [] = search rules in sym (ap (λ ls. chained c.args.each (Ok (linked (expr_of c.args.first) ls, (state_of c.args.self.now))) c.args.rest.now) none)

pub chain-returns-in_err-right-clause-err : goal.chain-returns-in_err-right-clause-err
chain-returns-in_err-right-clause-err t c =
    let p = err_from_is_err_and c.from_residual.result c.from_residual.ensures.1 in
    rw (p.1, p.2) (λ other. c.loop-link.invariant ∙ chained_step c.args.each (linked (expr_of c.loop-link.joined.first) c.loop-link.joined.rest.items) (state_of c.loop-link.self) c.args.rest.now c.loop-link.link-index c.link-item.result (omega arith) c.link-item.is ∙ ap (λ r. chained c.args.each r (drop (c.loop-link.link-index + 1) c.args.rest.now)) (c.in_err-right.ensures.err other (linked (expr_of c.loop-link.joined.first) c.loop-link.joined.rest.items)) ∙ chained_fault c.args.each c.in_err-right.field-0.0 (drop (c.loop-link.link-index + 1) c.args.rest.now))

pub chain-returns-in_err-right-clause-ok : goal.chain-returns-in_err-right-clause-ok
chain-returns-in_err-right-clause-ok t c = rw (err_from_is_err_and c.from_residual.result c.from_residual.ensures.1).1 tt

pub chain-returns-in_err-join-clause-err : goal.chain-returns-in_err-join-clause-err
chain-returns-in_err-join-clause-err t c =
    let p = err_from_is_err_and c.from_residual-in_err-join.result c.from_residual-in_err-join.ensures.1 in
    rw (p.1, p.2) (λ other. absurd (other refl))

pub chain-returns-in_err-join-clause-ok : goal.chain-returns-in_err-join-clause-ok
chain-returns-in_err-join-clause-ok t c = rw (err_from_is_err_and c.from_residual-in_err-join.result c.from_residual-in_err-join.ensures.1).1 tt

pub chain-returns-in_err-into_expr-clause-err : goal.chain-returns-in_err-into_expr-clause-err
chain-returns-in_err-into_expr-clause-err t c =
    let p = err_from_is_err_and c.from_residual-in_err-into_expr.result c.from_residual-in_err-into_expr.ensures.1 in
    rw (p.1, p.2) (λ other. absurd (other refl))

pub chain-returns-in_err-into_expr-clause-ok : goal.chain-returns-in_err-into_expr-clause-ok
chain-returns-in_err-into_expr-clause-ok t c = rw (err_from_is_err_and c.from_residual-in_err-into_expr.result c.from_residual-in_err-into_expr.ensures.1).1 tt

pub chain-loop-link-preserved : goal.chain-loop-link-preserved
chain-loop-link-preserved t c = c.loop-link.invariant ∙ chained_step c.args.each (linked (expr_of c.loop-link.joined.first) c.loop-link.joined.rest.items) (state_of c.loop-link.self) c.args.rest.now c.loop-link.link-index c.link-item.result (omega arith) c.link-item.is ∙ ap (λ r. chained c.args.each r (drop (c.loop-link.link-index + 1) c.args.rest.now)) (c.in_ok-right.ensures.ok (linked (expr_of c.loop-link.joined.first) c.loop-link.joined.rest.items) ∙ ap (λ e. Ok (e, state_of c.right.new.self)) (sym c.in_ok-join.ensures))

pub chain-returns-clause-ok : goal.chain-returns-clause-ok
chain-returns-clause-ok t c = c.loop-link.invariant ∙ ap (λ ls. chained c.args.each (Ok ((linked (expr_of c.loop-link.joined.first) c.loop-link.joined.rest.items), (state_of c.loop-link.self))) ls) (drop_of_length-le c.args.rest.now (omega arith)) ∙ ap (λ e. Ok (e, (state_of c.loop-link.self))) (sym c.in_ok-into_expr.ensures)

pub access-returns-in_err-meaning-clause-err : goal.access-returns-in_err-meaning-clause-err
access-returns-in_err-meaning-clause-err t c =
    let p = err_from_is_err_and c.from_residual.result c.from_residual.ensures.1 in
    rw (p.1, p.2) (λ other. access_unknown c.args.each (state_of c.args.self.now) c.args.tree.now.name (written.exprs_of c.args.tree.now.indices.items) c.in_err-meaning.field-0.0 (sym c.in_err-meaning.ensures))

pub access-returns-in_err-meaning-clause-ok : goal.access-returns-in_err-meaning-clause-ok
access-returns-in_err-meaning-clause-ok t c = rw (err_from_is_err_and c.from_residual.result c.from_residual.ensures.1).1 tt

pub access-returns-then-is_empty-clause-ok : goal.access-returns-then-is_empty-clause-ok
access-returns-then-is_empty-clause-ok t c = let none : length c.args.tree.now.indices.items ≡ 0 = (grind (arith, common_steps)) in IfOk-weaker c.value_named.result _ _ (λ e goes. name_alone c.args.each (state_of c.args.self.now) c.args.tree.now.name c.args.tree.now.indices.items c.in_ok-meaning.meaning (Ok (expr_of e)) none (sym c.in_ok-meaning.ensures) goes) c.value_named.ensures.ok

pub access-returns-then-is_empty-clause-err : goal.access-returns-then-is_empty-clause-err
access-returns-then-is_empty-clause-err t c = let none : length c.args.tree.now.indices.items ≡ 0 = (grind (arith, common_steps)) in IfErr-weaker c.value_named.result _ _ (λ f fails other. name_alone c.args.each (state_of c.args.self.now) c.args.tree.now.name c.args.tree.now.indices.items c.in_ok-meaning.meaning (Err f) none (sym c.in_ok-meaning.ensures) fails) c.value_named.ensures.err

pub access-returns-in_err-shape-clause-err : goal.access-returns-in_err-shape-clause-err
access-returns-in_err-shape-clause-err t c =
    let some : 0 < length c.args.tree.now.indices.items = (grind (arith, common_steps)) in let same : c.len.result ≡ length c.args.tree.now.indices.items = (grind (arith, common_steps)) in
    let p = err_from_is_err_and c.from_residual-in_err-shape.result c.from_residual-in_err-shape.ensures.1 in
    rw (p.1, p.2) (λ other. name_misused c.args.each (state_of c.args.self.now) c.args.tree.now.name c.args.tree.now.indices.items c.in_ok-meaning.meaning c.len.result c.in_err-shape.field-0.0 some same (sym c.in_ok-meaning.ensures) (sym c.in_err-shape.ensures))

pub access-returns-in_err-shape-clause-ok : goal.access-returns-in_err-shape-clause-ok
access-returns-in_err-shape-clause-ok t c = rw (err_from_is_err_and c.from_residual-in_err-shape.result c.from_residual-in_err-shape.ensures.1).1 tt

pub access-returns-in_err-indices-clause-err : goal.access-returns-in_err-indices-clause-err
access-returns-in_err-indices-clause-err t c =
    let some : 0 < length c.args.tree.now.indices.items = (grind (arith, common_steps)) in let same : c.len.result ≡ length c.args.tree.now.indices.items = (grind (arith, common_steps)) in
    let p = err_from_is_err_and c.from_residual-in_err-indices.result c.from_residual-in_err-indices.ensures.1 in
    rw (p.1, p.2) (λ other. index_fails c.args.each (state_of c.args.self.now) c.args.tree.now.name c.args.tree.now.indices.items c.in_ok-meaning.meaning c.len.result c.in_ok-shape.shape c.in_err-indices.field-0.0 some same (sym c.in_ok-meaning.ensures) (sym c.in_ok-shape.ensures) (ap (λ es. exprs c.args.each (written.exprs_of es) (state_of c.args.self.now)) (sym c.deref.ensures.value) ∙ c.in_err-indices.ensures.err other))

pub access-returns-in_err-indices-clause-ok : goal.access-returns-in_err-indices-clause-ok
access-returns-in_err-indices-clause-ok t c = rw (err_from_is_err_and c.from_residual-in_err-indices.result c.from_residual-in_err-indices.ensures.1).1 tt

pub access-returns-clause-ok : goal.access-returns-clause-ok
access-returns-clause-ok t c = let some : 0 < length c.args.tree.now.indices.items = (grind (arith, common_steps)) in let same : c.len.result ≡ length c.args.tree.now.indices.items = (grind (arith, common_steps)) in index_goes c.args.each (state_of c.args.self.now) c.args.tree.now.name c.args.tree.now.indices.items c.in_ok-meaning.meaning c.len.result c.in_ok-shape.shape (exprs_of c.in_ok-indices.indices.items) (state_of c.exprs.new.self) some same (sym c.in_ok-meaning.ensures) (sym c.in_ok-shape.ensures) (ap (λ es. exprs c.args.each (written.exprs_of es) (state_of c.args.self.now)) (sym c.deref.ensures.value) ∙ c.in_ok-indices.ensures.ok) ∙ ap (λ e. Ok (e, state_of c.exprs.new.self)) (sym (element_is (record { array = c.in_ok-shape.shape.number; place = c.args.tree.now.name.place; signedness = c.in_ok-shape.shape.signedness; indices = c.in_ok-indices.indices })))

pub exprs-loop-tree-init : goal.exprs-loop-tree-init
exprs-loop-tree-init t c = let none : c.new-exprs.result.items ≡ [] = search rules in sym (ap (λ es. behind es (exprs c.args.each (written.exprs_of c.args.trees.now) (state_of c.args.self.now))) none ∙ behind_none (exprs c.args.each (written.exprs_of c.args.trees.now) (state_of c.args.self.now)))

pub exprs-returns-in_err-expr-clause-err : goal.exprs-returns-in_err-expr-clause-err
exprs-returns-in_err-expr-clause-err t c =
    let p = err_from_is_err_and c.from_residual.result c.from_residual.ensures.1 in
    rw (p.1, p.2) (λ other. c.loop-tree.invariant ∙ list_fails c.args.each (state_of c.loop-tree.self) c.loop-tree.exprs.items c.args.trees.now c.loop-tree.tree-index c.tree-item.result c.in_err-expr.field-0.0 (omega arith) c.tree-item.is (c.in_err-expr.ensures.err other))

pub exprs-returns-in_err-expr-clause-ok : goal.exprs-returns-in_err-expr-clause-ok
exprs-returns-in_err-expr-clause-ok t c = rw (err_from_is_err_and c.from_residual.result c.from_residual.ensures.1).1 tt

pub exprs-returns-in_err-push-clause-err : goal.exprs-returns-in_err-push-clause-err
exprs-returns-in_err-push-clause-err t c =
    let p = err_from_is_err_and c.from_residual-in_err-push.result c.from_residual-in_err-push.ensures.1 in
    rw (p.1, p.2) (λ other. absurd (other refl))

pub exprs-returns-in_err-push-clause-ok : goal.exprs-returns-in_err-push-clause-ok
exprs-returns-in_err-push-clause-ok t c = rw (err_from_is_err_and c.from_residual-in_err-push.result c.from_residual-in_err-push.ensures.1).1 tt

pub exprs-loop-tree-preserved : goal.exprs-loop-tree-preserved
exprs-loop-tree-preserved t c = c.loop-tree.invariant ∙ list_goes c.args.each (state_of c.loop-tree.self) c.loop-tree.exprs.items c.args.trees.now c.loop-tree.tree-index c.tree-item.result c.in_ok-expr.expr (state_of c.expr.new.self) (omega arith) c.tree-item.is c.in_ok-expr.ensures.ok ∙ ap (λ es. behind es (exprs c.args.each (written.exprs_of (drop (c.loop-tree.tree-index + 1) c.args.trees.now)) (state_of c.expr.new.self))) (sym c.in_ok-push.ensures.items)

pub exprs-returns-clause-ok : goal.exprs-returns-clause-ok
exprs-returns-clause-ok t c = c.loop-tree.invariant ∙ list_ends c.args.each (state_of c.loop-tree.self) c.loop-tree.exprs.items c.args.trees.now c.loop-tree.tree-index (omega arith)
