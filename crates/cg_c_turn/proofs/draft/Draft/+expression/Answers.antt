use Rattle.std.proofs.Common.{◌≡◌, ◌+◌, not, true, List, [], ◌++◌, ◌∙◌, Contains, drop, refl, sym, ap, subst, arith, rules}
use Rattle.std.proofs.lemmas.Result.{IfOk-weaker}
use Rattle.cg_c_check.specs.declared.program.Array.{Array}
use Rattle.cg_c_check.specs.declared.program.Expr.{the_lemmas}
use Rattle.cg_c_check.specs.Rules.{is_true}
use Rattle.cg_c_check.specs.Program.{Expr, Element}
use Rattle.cg_c_check.specs.Written.{expr_of, exprs_of}
use Rattle.cg_c_values.specs.Listed.{listed}
use Rattle.cg_c_meaning.specs.Meaning.{is_settled}
use Rattle.cg_c_meaning.specs.Typed.{IsTypedExpr}
use Rattle.cg_c_turn.specs.Draft.{Draft, draft_of}
use Rattle.cg_c_turn.specs.Stands.{Wanted, TheWord, ACondition, Agrees, Translates}
use Rattle.cg_c_turn.specs.Pieces.{Addresses, AreTranslated, Guards, side_of}
use Rattle.cg_c_turn.proofs.Turning.{both_ok}
use Rattle.cg_c_turn.proofs.Guarding.{entered_is_formed}
use Rattle.cg_c_turn.proofs.Operating.{agrees_same}
use Rattle.cg_c_turn.proofs.Composing.{IsCondition, arm_guards, choice_is, served, pick_is, chosen_is, other_is, begun_wanted, led_begun, typed_first, apart_chain, links_settled, links_through, led_here, led_next, led_end, next_of, sign_is, cast_is}
use Rattle.cg_c_turn.proofs.Leaves.{with_values}
use Rattle.cg_c_turn.proofs.Elements.{element_is, next_listed, listed_none, listed_more, listed_all}
use Rattle.cg_c_turn.proofs.Shapes.{pick_shape, pick_typed, choice_shape, choice_typed, same_typed, same_apart, element_shape, element_typed, chain_shape, sign_shape, cast_shape, sign_typed, sign_apart, cast_typed, cast_apart, input_port}
use Rattle.cg_c_turn.proofs.draft.Draft.+expression.Goals as goal

pub chain-link-requires : goal.chain-link-requires
chain-link-requires t c =
    let b = c.requires in
    let k = c.loop-index.invariant b.start b.whole b.led in
    let h = led_here b.start b.whole (draft_of c.loop-index.self) c.args.rest.now c.loop-index.index c.index-rest-index.result c.args.wanted c.loop-index.first (omega arith) c.index-rest-index.is k in
    let x = next_of b.start b.whole (draft_of c.loop-index.self) c.index-rest-index.result (drop (c.loop-index.index + 1) c.args.rest.now) (side_of c.index-rest-index.result.op) c.loop-index.first h in (
      search (rules, the_lemmas),
      (
        k.is.formed,
        (
          k.is.within,
          (subst (λ (z : List Array). IsTypedExpr z true (expr_of c.index-rest-index.result.operand)) (sym k.arrays) x.right, x.apart_right),
        ),
      ),
    )

pub element-address-requires-clause-within : goal.element-address-requires-clause-within
element-address-requires-clause-within t c v there = c.in_ok-indices.ensures.1.within v (subst (λ z. Contains z v) c.deref-2.ensures.value there)

pub element-returns : goal.element-returns
element-returns t c =
    let a = draft_of c.args.self.now in
    let b = draft_of c.exprs.new.self in
    let d = draft_of c.address.new.self in
    let x = c.args.element.now in
    let u = c.in_ok-indices.ensures in
    let indices = subst (λ z. AreTranslated a b u.0 (exprs_of z) c.in_ok-indices.indices.items) c.deref.ensures.value u.1 in
    let address = subst (λ z. Addresses b d x.array z c.in_ok-address.address) c.deref-2.ensures.value c.in_ok-address.ensures in
    IfOk-weaker c.load.result _ _ (λ v h. (
      u.0 ++ ([] ++ h.0),
      element_is c.args.self.now.arrays.now a b d (draft_of c.load.new.self) u.0 h.0 x.array x.place x.signedness (exprs_of x.indices.items) c.in_ok-indices.indices.items c.in_ok-address.address v c.requires.typed c.requires.apart indices address h.1,
    )) c.load.ensures

pub expr-element-requires : goal.expr-element-requires
expr-element-requires t c =
    let x = element_typed c.args.self.now.arrays.now (expr_of c.args.e.now) c.in-Element.element (element_shape c.args.e.now c.in-Element.element c.in-Element.is) c.requires.typed c.requires.apart in
    (search (rules, the_lemmas), (c.requires.formed, (x.there, (x.typed, x.apart))))

pub expr-expr-requires : goal.expr-expr-requires
expr-expr-requires t c =
    let e = sign_shape c.args.e.now c.deref.result.now c.in-Sign.sign c.in-Sign.signedness c.in-Sign.operand c.in-Sign.is c.deref.ensures in (
      search (rules, the_lemmas),
      (
        c.requires.formed,
        (
          sign_typed c.args.self.now.arrays.now (expr_of c.args.e.now) (expr_of c.deref.result.now) c.in-Sign.sign c.in-Sign.signedness e c.requires.typed,
          sign_apart (expr_of c.args.e.now) (expr_of c.deref.result.now) c.in-Sign.sign c.in-Sign.signedness e c.requires.apart,
        ),
      ),
    )

pub expr-expr-requires-in-Cast : goal.expr-expr-requires-in-Cast
expr-expr-requires-in-Cast t c =
    let e = cast_shape c.args.e.now c.deref-in-Cast.result.now c.in-Cast.to c.in-Cast.operand c.in-Cast.is c.deref-in-Cast.ensures in (
      search (rules, the_lemmas),
      (
        c.requires.formed,
        (
          cast_typed c.args.self.now.arrays.now (expr_of c.args.e.now) (expr_of c.deref-in-Cast.result.now) c.in-Cast.to e c.requires.typed,
          cast_apart (expr_of c.args.e.now) (expr_of c.deref-in-Cast.result.now) c.in-Cast.to e c.requires.apart,
        ),
      ),
    )

pub expr-input-requires-clause-port : goal.expr-input-requires-clause-port
expr-input-requires-clause-port t c = input_port c.args.self.now.arrays.now c.args.e.now c.in-Input.port c.in-Input.is c.requires.typed

pub expr-expr-requires-in-Pick : goal.expr-expr-requires-in-Pick
expr-expr-requires-in-Pick t c =
    let e = pick_shape c.args.e.now c.in-Pick.pick c.in-Pick.first c.in-Pick.second c.in-Pick.is in
    let x = pick_typed c.args.self.now.arrays.now (expr_of c.args.e.now) (expr_of c.in-Pick.first.value) (expr_of c.in-Pick.second.value) c.in-Pick.pick e c.requires.typed c.requires.apart in
    let o = ap expr_of c.deref-in-Pick.ensures in (
      search (rules, the_lemmas),
      (
        c.requires.formed,
        (
          same_typed c.args.self.now.arrays.now c.args.self.now.arrays.now (expr_of c.in-Pick.first.value) (expr_of c.deref-in-Pick.result.now) refl o x.first,
          same_apart (expr_of c.in-Pick.first.value) (expr_of c.deref-in-Pick.result.now) o x.apart_first,
        ),
      ),
    )

pub expr-expr-requires-in-Pick-2 : goal.expr-expr-requires-in-Pick-2
expr-expr-requires-in-Pick-2 t c =
    let e = pick_shape c.args.e.now c.in-Pick.pick c.in-Pick.first c.in-Pick.second c.in-Pick.is in
    let x = pick_typed c.args.self.now.arrays.now (expr_of c.args.e.now) (expr_of c.in-Pick.first.value) (expr_of c.in-Pick.second.value) c.in-Pick.pick e c.requires.typed c.requires.apart in
    let o = ap expr_of c.deref-in-Pick-2.ensures in
    let u = c.in_ok-first-in-Pick.ensures.1 in (
      search (rules, the_lemmas),
      (
        u.formed,
        (
          same_typed c.args.self.now.arrays.now c.expr-in-Pick.new.self.arrays.now (expr_of c.in-Pick.second.value) (expr_of c.deref-in-Pick-2.result.now) u.grows.arrays o x.second,
          same_apart (expr_of c.in-Pick.second.value) (expr_of c.deref-in-Pick-2.result.now) o x.apart_second,
        ),
      ),
    )

pub expr-expr-requires-in-Chain : goal.expr-expr-requires-in-Chain
expr-expr-requires-in-Chain t c =
    let e = chain_shape c.args.e.now c.deref-in-Chain.result.now c.deref-in-Chain-2.result.now c.in-Chain.first c.in-Chain.rest c.in-Chain.is c.deref-in-Chain.ensures c.deref-in-Chain-2.ensures.value in (
      search (rules, the_lemmas),
      (
        c.requires.formed,
        (
          typed_first c.args.self.now.arrays.now (expr_of c.args.e.now) (expr_of c.deref-in-Chain.result.now) c.deref-in-Chain-2.result.now e c.requires.typed,
          apart_chain (expr_of c.args.e.now) (expr_of c.deref-in-Chain.result.now) c.deref-in-Chain-2.result.now e c.requires.apart,
        ),
      ),
    )

pub expr-chain-requires : goal.expr-chain-requires
expr-chain-requires t c =
    let e = chain_shape c.args.e.now c.deref-in-Chain.result.now c.deref-in-Chain-3.result.now c.in-Chain.first c.in-Chain.rest c.in-Chain.is c.deref-in-Chain.ensures c.deref-in-Chain-3.ensures.value in
    let before = begun_wanted c.args.wanted c.wanted_before.result c.deref-in-Chain-2.result.now c.deref-in-Chain-3.result.now c.in-Chain.rest.items c.wanted_before.ensures c.deref-in-Chain-2.ensures.value c.deref-in-Chain-3.ensures.value in
    let u = c.in_ok-first-in-Chain.ensures in
    let led = led_begun (draft_of c.args.self.now) (draft_of c.expr-in-Chain.new.self) u.0 (expr_of c.deref-in-Chain.result.now) (expr_of c.args.e.now) c.deref-in-Chain-3.result.now c.args.wanted c.wanted_before.result c.in_ok-first-in-Chain.first before e c.requires.typed c.requires.apart u.1 in
    (search (rules, the_lemmas), record { start = draft_of c.args.self.now; whole = expr_of c.args.e.now; led = led })

pub expr-expr-requires-in-Choice : goal.expr-expr-requires-in-Choice
expr-expr-requires-in-Choice t c =
    let e = choice_shape c.args.e.now c.in-Choice.signedness c.in-Choice.condition c.in-Choice.chosen c.in-Choice.other c.in-Choice.is in
    let x = choice_typed c.args.self.now.arrays.now (expr_of c.args.e.now) (expr_of c.in-Choice.condition.value) (expr_of c.in-Choice.chosen.value) (expr_of c.in-Choice.other.value) c.in-Choice.signedness e c.requires.typed c.requires.apart in
    let o = ap expr_of c.deref-in-Choice.ensures in (
      search (rules, the_lemmas),
      (
        c.requires.formed,
        (
          same_typed c.args.self.now.arrays.now c.args.self.now.arrays.now (expr_of c.in-Choice.condition.value) (expr_of c.deref-in-Choice.result.now) refl o x.condition,
          same_apart (expr_of c.in-Choice.condition.value) (expr_of c.deref-in-Choice.result.now) o x.apart_condition,
        ),
      ),
    )

pub expr-expr-requires-in-Some-true : goal.expr-expr-requires-in-Some-true
expr-expr-requires-in-Some-true t c =
    let e = choice_shape c.args.e.now c.in-Choice.signedness c.in-Choice.condition c.in-Choice.chosen c.in-Choice.other c.in-Choice.is in
    let x = choice_typed c.args.self.now.arrays.now (expr_of c.args.e.now) (expr_of c.in-Choice.condition.value) (expr_of c.in-Choice.chosen.value) (expr_of c.in-Choice.other.value) c.in-Choice.signedness e c.requires.typed c.requires.apart in
    let o = ap expr_of c.deref-in-Some-true.ensures in
    let u = c.in_ok-condition-in-Choice.ensures.1 in (
      search (rules, the_lemmas),
      (
        u.formed,
        (
          same_typed c.args.self.now.arrays.now c.expr-in-Choice.new.self.arrays.now (expr_of c.in-Choice.chosen.value) (expr_of c.deref-in-Some-true.result.now) u.grows.arrays o x.chosen,
          same_apart (expr_of c.in-Choice.chosen.value) (expr_of c.deref-in-Some-true.result.now) o x.apart_chosen,
        ),
      ),
    )

pub expr-expr-requires-in-Some-false : goal.expr-expr-requires-in-Some-false
expr-expr-requires-in-Some-false t c =
    let e = choice_shape c.args.e.now c.in-Choice.signedness c.in-Choice.condition c.in-Choice.chosen c.in-Choice.other c.in-Choice.is in
    let x = choice_typed c.args.self.now.arrays.now (expr_of c.args.e.now) (expr_of c.in-Choice.condition.value) (expr_of c.in-Choice.chosen.value) (expr_of c.in-Choice.other.value) c.in-Choice.signedness e c.requires.typed c.requires.apart in
    let o = ap expr_of c.deref-in-Some-false.ensures in
    let u = c.in_ok-condition-in-Choice.ensures.1 in (
      search (rules, the_lemmas),
      (
        u.formed,
        (
          same_typed c.args.self.now.arrays.now c.expr-in-Choice.new.self.arrays.now (expr_of c.in-Choice.other.value) (expr_of c.deref-in-Some-false.result.now) u.grows.arrays o x.other,
          same_apart (expr_of c.in-Choice.other.value) (expr_of c.deref-in-Some-false.result.now) o x.apart_other,
        ),
      ),
    )

pub expr-expr-requires-in-None : goal.expr-expr-requires-in-None
expr-expr-requires-in-None t c =
    let e = choice_shape c.args.e.now c.in-Choice.signedness c.in-Choice.condition c.in-Choice.chosen c.in-Choice.other c.in-Choice.is in
    let x = choice_typed c.args.self.now.arrays.now (expr_of c.args.e.now) (expr_of c.in-Choice.condition.value) (expr_of c.in-Choice.chosen.value) (expr_of c.in-Choice.other.value) c.in-Choice.signedness e c.requires.typed c.requires.apart in
    let u = c.in_ok-condition-in-Choice.ensures.1 in
    let H = IsCondition c.in_ok-condition-in-Choice.condition in
    let b = draft_of c.expr-in-Choice.new.self in
    let n = c.in_ok-kept-in-None.ensures.enters in
    let o = ap expr_of c.deref-in-None.ensures in (
      search (rules, the_lemmas),
      (
        entered_is_formed b (draft_of c.enter.new.self) H is_true u.formed n,
        (
          same_typed c.args.self.now.arrays.now c.enter.new.self.arrays.now (expr_of c.in-Choice.chosen.value) (expr_of c.deref-in-None.result.now) (ap (λ (z : Draft). z.arrays) n.rest ∙ u.grows.arrays) o x.chosen,
          same_apart (expr_of c.in-Choice.chosen.value) (expr_of c.deref-in-None.result.now) o x.apart_chosen,
        ),
      ),
    )

pub expr-enter_other-requires-clause-formed : goal.expr-enter_other-requires-clause-formed
expr-enter_other-requires-clause-formed t c =
    let e = choice_shape c.args.e.now c.in-Choice.signedness c.in-Choice.condition c.in-Choice.chosen c.in-Choice.other c.in-Choice.is in
    let x = choice_typed c.args.self.now.arrays.now (expr_of c.args.e.now) (expr_of c.in-Choice.condition.value) (expr_of c.in-Choice.chosen.value) (expr_of c.in-Choice.other.value) c.in-Choice.signedness e c.requires.typed c.requires.apart in
    let u = c.in_ok-condition-in-Choice.ensures.1 in
    let H = IsCondition c.in_ok-condition-in-Choice.condition in
    let b = draft_of c.expr-in-Choice.new.self in
    let n = c.in_ok-kept-in-None.ensures.enters in
    let d = record (draft_of c.expr-in-None.new.self) { guard = c.in_ok-kept-in-None.kept } in
    let g = arm_guards b (draft_of c.enter.new.self) (draft_of c.expr-in-None.new.self) c.in_ok-kept-in-None.kept H is_true c.in_ok-chosen-in-None.ensures.0 (expr_of c.deref-in-None.result.now) TheWord c.in_ok-chosen-in-None.chosen u.formed n c.in_ok-chosen-in-None.ensures.1 c.in_ok-kept-in-None.ensures.before in
    g.steps.formed

pub expr-expr-requires-in-None-2 : goal.expr-expr-requires-in-None-2
expr-expr-requires-in-None-2 t c =
    let e = choice_shape c.args.e.now c.in-Choice.signedness c.in-Choice.condition c.in-Choice.chosen c.in-Choice.other c.in-Choice.is in
    let x = choice_typed c.args.self.now.arrays.now (expr_of c.args.e.now) (expr_of c.in-Choice.condition.value) (expr_of c.in-Choice.chosen.value) (expr_of c.in-Choice.other.value) c.in-Choice.signedness e c.requires.typed c.requires.apart in
    let u = c.in_ok-condition-in-Choice.ensures.1 in
    let H = IsCondition c.in_ok-condition-in-Choice.condition in
    let b = draft_of c.expr-in-Choice.new.self in
    let n = c.in_ok-kept-in-None.ensures.enters in
    let d = record (draft_of c.expr-in-None.new.self) { guard = c.in_ok-kept-in-None.kept } in
    let g = arm_guards b (draft_of c.enter.new.self) (draft_of c.expr-in-None.new.self) c.in_ok-kept-in-None.kept H is_true c.in_ok-chosen-in-None.ensures.0 (expr_of c.deref-in-None.result.now) TheWord c.in_ok-chosen-in-None.chosen u.formed n c.in_ok-chosen-in-None.ensures.1 c.in_ok-kept-in-None.ensures.before in
    let m = c.in_ok-kept-in-None-2.ensures.enters in
    let o = ap expr_of c.deref-in-None-2.ensures in (
      search (rules, the_lemmas),
      (
        entered_is_formed d (draft_of c.enter_other.new.self) H (λ w. not (is_true w)) g.steps.formed m,
        (
          same_typed c.args.self.now.arrays.now c.enter_other.new.self.arrays.now (expr_of c.in-Choice.other.value) (expr_of c.deref-in-None-2.result.now) (ap (λ (z : Draft). z.arrays) m.rest ∙ (g.steps.grows.arrays ∙ u.grows.arrays)) o x.other,
          same_apart (expr_of c.in-Choice.other.value) (expr_of c.deref-in-None-2.result.now) o x.apart_other,
        ),
      ),
    )

pub expr-returns-in_ok-v-in-Element : goal.expr-returns-in_ok-v-in-Element
expr-returns-in_ok-v-in-Element t c =
    let x = c.in-Element.element in
    let a = draft_of c.args.self.now in
    let b = draft_of c.element.new.self in
    let u = c.in_ok-v-in-Element.ensures in (
      u.0,
      subst (λ (z : Expr). Translates a b u.0 z c.args.wanted c.as_wanted.result) (sym (element_shape c.args.e.now x c.in-Element.is))
          (served a b u.0 (Element x.array x.place x.signedness (exprs_of x.indices.items)) c.args.wanted c.in_ok-v-in-Element.v c.as_wanted.result c.as_wanted.ensures.within c.as_wanted.ensures.agrees u.1),
    )

pub expr-returns-in_ok-v-in-Sign : goal.expr-returns-in_ok-v-in-Sign
expr-returns-in_ok-v-in-Sign t c =
    let e = sign_shape c.args.e.now c.deref.result.now c.in-Sign.sign c.in-Sign.signedness c.in-Sign.operand c.in-Sign.is c.deref.ensures in
    let typed = sign_typed c.args.self.now.arrays.now (expr_of c.args.e.now) (expr_of c.deref.result.now) c.in-Sign.sign c.in-Sign.signedness e c.requires.typed in
    let apart = sign_apart (expr_of c.args.e.now) (expr_of c.deref.result.now) c.in-Sign.sign c.in-Sign.signedness e c.requires.apart in
    let a = draft_of c.args.self.now in
    let b = draft_of c.expr.new.self in
    let u = c.in_ok-v-in-Sign.ensures in
    let under_it = subst (λ (z : Wanted). Translates a b u.0 (expr_of c.deref.result.now) z c.in_ok-v-in-Sign.v) c.under.ensures u.1 in
    IfOk-weaker c.signed.result _ _ (λ r h. (
      u.0 ++ [],
      subst (λ (z : Expr). Translates a (with_values b (listed c.signed.new.values)) (u.0 ++ []) z c.args.wanted r) (sym e)
          (sign_is c.args.self.now.arrays.now a b (listed c.signed.new.values) u.0 c.in-Sign.sign c.in-Sign.signedness (expr_of c.deref.result.now) c.args.wanted c.in_ok-v-in-Sign.v r typed apart under_it h),
    )) c.signed.ensures

pub expr-returns-in_ok-v-in-Cast : goal.expr-returns-in_ok-v-in-Cast
expr-returns-in_ok-v-in-Cast t c =
    let e = cast_shape c.args.e.now c.deref-in-Cast.result.now c.in-Cast.to c.in-Cast.operand c.in-Cast.is c.deref-in-Cast.ensures in
    let typed = cast_typed c.args.self.now.arrays.now (expr_of c.args.e.now) (expr_of c.deref-in-Cast.result.now) c.in-Cast.to e c.requires.typed in
    let apart = cast_apart (expr_of c.args.e.now) (expr_of c.deref-in-Cast.result.now) c.in-Cast.to e c.requires.apart in
    let a = draft_of c.args.self.now in
    let b = draft_of c.expr-in-Cast.new.self in
    let u = c.in_ok-v-in-Cast.ensures in
    IfOk-weaker c.converted.result _ _ (λ r h. (
      u.0 ++ [],
      subst (λ (z : Expr). Translates a (with_values b (listed c.converted.new.values)) (u.0 ++ []) z c.args.wanted r) (sym e)
          (cast_is c.args.self.now.arrays.now a b (listed c.converted.new.values) u.0 c.in-Cast.to (expr_of c.deref-in-Cast.result.now) c.args.wanted c.in_ok-v-in-Cast.v r typed apart u.1 h),
    )) c.converted.ensures

pub expr-returns-in_ok-second-in-Pick : goal.expr-returns-in_ok-second-in-Pick
expr-returns-in_ok-second-in-Pick t c =
    let e = pick_shape c.args.e.now c.in-Pick.pick c.in-Pick.first c.in-Pick.second c.in-Pick.is in
    let x = pick_typed c.args.self.now.arrays.now (expr_of c.args.e.now) (expr_of c.in-Pick.first.value) (expr_of c.in-Pick.second.value) c.in-Pick.pick e c.requires.typed c.requires.apart in
    let a = draft_of c.args.self.now in
    let b = draft_of c.expr-in-Pick.new.self in
    let d = draft_of c.expr-in-Pick-2.new.self in
    let u = c.in_ok-first-in-Pick.ensures in
    let w = c.in_ok-second-in-Pick.ensures in
    let first = subst (λ (z : Expr). Translates a b u.0 z TheWord c.in_ok-first-in-Pick.first) (ap expr_of c.deref-in-Pick.ensures) u.1 in
    let second = subst (λ (z : Expr). Translates b d w.0 z TheWord c.in_ok-second-in-Pick.second) (ap expr_of c.deref-in-Pick-2.ensures) w.1 in
    IfOk-weaker c.picked.result _ _ (λ r h. (
      u.0 ++ (w.0 ++ []),
      subst (λ (z : Expr). Translates a (with_values d (listed c.picked.new.values)) (u.0 ++ (w.0 ++ [])) z c.args.wanted r) (sym e)
          (pick_is c.args.self.now.arrays.now a b d (listed c.picked.new.values) u.0 w.0 c.in-Pick.pick (expr_of c.in-Pick.first.value) (expr_of c.in-Pick.second.value) c.args.wanted c.in_ok-first-in-Pick.first c.in_ok-second-in-Pick.second r x.first x.second x.apart first second c.picked.ensures.kept h.0 h.1),
    ))
    (both_ok c.picked.result _ _ c.picked.ensures.within c.picked.ensures.agrees)

pub expr-returns-in_ok-first-in-Chain : goal.expr-returns-in_ok-first-in-Chain
expr-returns-in_ok-first-in-Chain t c =
    let e = chain_shape c.args.e.now c.deref-in-Chain.result.now c.deref-in-Chain-3.result.now c.in-Chain.first c.in-Chain.rest c.in-Chain.is c.deref-in-Chain.ensures c.deref-in-Chain-3.ensures.value in
    let before = begun_wanted c.args.wanted c.wanted_before.result c.deref-in-Chain-2.result.now c.deref-in-Chain-3.result.now c.in-Chain.rest.items c.wanted_before.ensures c.deref-in-Chain-2.ensures.value c.deref-in-Chain-3.ensures.value in
    let u = c.in_ok-first-in-Chain.ensures in
    let led = led_begun (draft_of c.args.self.now) (draft_of c.expr-in-Chain.new.self) u.0 (expr_of c.deref-in-Chain.result.now) (expr_of c.args.e.now) c.deref-in-Chain-3.result.now c.args.wanted c.wanted_before.result c.in_ok-first-in-Chain.first before e c.requires.typed c.requires.apart u.1 in
    IfOk-weaker c.chain.result _ _ (λ v h. h.ends (draft_of c.args.self.now) (expr_of c.args.e.now) led) c.chain.ensures

pub expr-returns-in-Some-true : goal.expr-returns-in-Some-true
expr-returns-in-Some-true t c =
    let e = choice_shape c.args.e.now c.in-Choice.signedness c.in-Choice.condition c.in-Choice.chosen c.in-Choice.other c.in-Choice.is in
    let x = choice_typed c.args.self.now.arrays.now (expr_of c.args.e.now) (expr_of c.in-Choice.condition.value) (expr_of c.in-Choice.chosen.value) (expr_of c.in-Choice.other.value) c.in-Choice.signedness e c.requires.typed c.requires.apart in
    let a = draft_of c.args.self.now in
    let b = draft_of c.expr-in-Choice.new.self in
    let d = draft_of c.expr-in-Some-true.new.self in
    let u = c.in_ok-condition-in-Choice.ensures in
    let condition = subst (λ (z : Expr). Translates a b u.0 z ACondition c.in_ok-condition-in-Choice.condition) (ap expr_of c.deref-in-Choice.ensures) u.1 in
    IfOk-weaker c.expr-in-Some-true.result _ _ (λ r h. (
      u.0 ++ h.0,
      subst (λ (z : Expr). Translates a d (u.0 ++ h.0) z c.args.wanted r) (sym e)
          (chosen_is c.args.self.now.arrays.now a b d u.0 h.0 c.in-Choice.signedness (expr_of c.in-Choice.condition.value) (expr_of c.in-Choice.chosen.value) (expr_of c.in-Choice.other.value) c.args.wanted c.in_ok-condition-in-Choice.condition r x.condition x.apart condition
          (λ y F fits. c.in-Some-true.ensures y F fits ∙ c.in-Some-true.field-0-test) (subst (λ (z : Expr). Translates b d h.0 z c.args.wanted r) (ap expr_of c.deref-in-Some-true.ensures) h.1)),
    )) c.expr-in-Some-true.ensures

pub expr-returns-in-Some-false : goal.expr-returns-in-Some-false
expr-returns-in-Some-false t c =
    let e = choice_shape c.args.e.now c.in-Choice.signedness c.in-Choice.condition c.in-Choice.chosen c.in-Choice.other c.in-Choice.is in
    let x = choice_typed c.args.self.now.arrays.now (expr_of c.args.e.now) (expr_of c.in-Choice.condition.value) (expr_of c.in-Choice.chosen.value) (expr_of c.in-Choice.other.value) c.in-Choice.signedness e c.requires.typed c.requires.apart in
    let a = draft_of c.args.self.now in
    let b = draft_of c.expr-in-Choice.new.self in
    let d = draft_of c.expr-in-Some-false.new.self in
    let u = c.in_ok-condition-in-Choice.ensures in
    let condition = subst (λ (z : Expr). Translates a b u.0 z ACondition c.in_ok-condition-in-Choice.condition) (ap expr_of c.deref-in-Choice.ensures) u.1 in
    IfOk-weaker c.expr-in-Some-false.result _ _ (λ r h. (
      u.0 ++ h.0,
      subst (λ (z : Expr). Translates a d (u.0 ++ h.0) z c.args.wanted r) (sym e)
          (other_is c.args.self.now.arrays.now a b d u.0 h.0 c.in-Choice.signedness (expr_of c.in-Choice.condition.value) (expr_of c.in-Choice.chosen.value) (expr_of c.in-Choice.other.value) c.args.wanted c.in_ok-condition-in-Choice.condition r x.condition x.apart condition
          (λ y F fits. c.in-Some-false.ensures y F fits ∙ c.in-Some-false.field-0-test) (subst (λ (z : Expr). Translates b d h.0 z c.args.wanted r) (ap expr_of c.deref-in-Some-false.ensures) h.1)),
    )) c.expr-in-Some-false.ensures

pub expr-returns-in_ok-word-in-None : goal.expr-returns-in_ok-word-in-None
expr-returns-in_ok-word-in-None t c =
    let e = choice_shape c.args.e.now c.in-Choice.signedness c.in-Choice.condition c.in-Choice.chosen c.in-Choice.other c.in-Choice.is in
    let x = choice_typed c.args.self.now.arrays.now (expr_of c.args.e.now) (expr_of c.in-Choice.condition.value) (expr_of c.in-Choice.chosen.value) (expr_of c.in-Choice.other.value) c.in-Choice.signedness e c.requires.typed c.requires.apart in
    let u = c.in_ok-condition-in-Choice.ensures.1 in
    let H = IsCondition c.in_ok-condition-in-Choice.condition in
    let b = draft_of c.expr-in-Choice.new.self in
    let n = c.in_ok-kept-in-None.ensures.enters in
    let d = record (draft_of c.expr-in-None.new.self) { guard = c.in_ok-kept-in-None.kept } in
    let g = arm_guards b (draft_of c.enter.new.self) (draft_of c.expr-in-None.new.self) c.in_ok-kept-in-None.kept H is_true c.in_ok-chosen-in-None.ensures.0 (expr_of c.deref-in-None.result.now) TheWord c.in_ok-chosen-in-None.chosen u.formed n c.in_ok-chosen-in-None.ensures.1 c.in_ok-kept-in-None.ensures.before in
    let m = c.in_ok-kept-in-None-2.ensures.enters in
    let a = draft_of c.args.self.now in
    let k = record (draft_of c.expr-in-None-2.new.self) { guard = c.in_ok-kept-in-None-2.kept } in
    let vs = listed c.select.new.self in
    let h = arm_guards d (draft_of c.enter_other.new.self) (draft_of c.expr-in-None-2.new.self) c.in_ok-kept-in-None-2.kept H (λ w. not (is_true w)) c.in_ok-other-in-None.ensures.0 (expr_of c.deref-in-None-2.result.now) TheWord c.in_ok-other-in-None.other g.steps.formed m c.in_ok-other-in-None.ensures.1 c.in_ok-kept-in-None-2.ensures.before in
    let es = c.in_ok-condition-in-Choice.ensures.0 in
    let fs = c.in_ok-chosen-in-None.ensures.0 in
    let gs = c.in_ok-other-in-None.ensures.0 in
    let condition = subst (λ (z : Expr). Translates a b es z ACondition c.in_ok-condition-in-Choice.condition) (ap expr_of c.deref-in-Choice.ensures) u in
    let chosen = subst (λ (z : Expr). Guards b d fs H is_true z TheWord c.in_ok-chosen-in-None.chosen) (ap expr_of c.deref-in-None.ensures) g in
    let other = subst (λ (z : Expr). Guards d k gs H (λ w. not (is_true w)) z TheWord c.in_ok-other-in-None.other) (ap expr_of c.deref-in-None-2.ensures) h in (
      es ++ (fs ++ (gs ++ [])),
      subst (λ (z : Expr). Translates a (with_values k vs) (es ++ (fs ++ (gs ++ []))) z c.args.wanted c.as_wanted-in-None.result) (sym e)
          (choice_is c.args.self.now.arrays.now a b d k vs es fs gs c.in-Choice.signedness (expr_of c.in-Choice.condition.value) (expr_of c.in-Choice.chosen.value) (expr_of c.in-Choice.other.value) c.args.wanted c.in_ok-condition-in-Choice.condition c.in_ok-chosen-in-None.chosen c.in_ok-other-in-None.other c.in_ok-word-in-None.word c.as_wanted-in-None.result
          x.condition x.chosen x.other x.apart h.steps.formed condition chosen other c.select.ensures.kept c.in_ok-word-in-None.ensures.means c.as_wanted-in-None.ensures.within c.as_wanted-in-None.ensures.agrees),
    )

pub exprs-expr-requires : goal.exprs-expr-requires
exprs-expr-requires t c =
    let l = c.loop-e.invariant in
    let y = next_listed c.args.self.now.arrays.now c.args.es.now l.front c.loop-e.e-index c.e-item.result (omega arith) c.e-item.is l.same c.requires.typed c.requires.apart in (
      search (rules, the_lemmas),
      (
        l.is.steps.formed,
        (subst (λ (z : List Array). IsTypedExpr z true (expr_of c.e-item.result)) (sym l.is.steps.grows.arrays) y.typed, y.alone),
      ),
    )

pub link-returns-in-Some : goal.link-returns-in-Some
link-returns-in-Some t c = IfOk-weaker c.constant.result _ _ (λ r h. (
  [],
  links_settled (draft_of c.args.self.now) (listed c.constant.new.self) c.args.link.now.op c.args.link.now.reading c.args.first c.in-Some.word (expr_of c.args.link.now.operand) c.args.wanted r
      c.requires.formed c.in-Some.ensures c.constant.ensures.kept h (λ w e. agrees_same c.args.wanted c.in-Some.word w e),
)) c.constant.ensures.means

pub link-expr-requires : goal.link-expr-requires
link-expr-requires t c =
    let n = c.in_ok-kept.ensures.enters in (
      search (rules, the_lemmas),
      (
        entered_is_formed (draft_of c.args.self.now) (draft_of c.enter_right.new.self) (λ E w. Agrees (side_of c.args.link.now.op) (E c.args.first) w) (λ w. not (is_settled c.args.link.now.op w)) c.requires.formed n,
        (
          subst (λ (z : List Array). IsTypedExpr z true (expr_of c.args.link.now.operand)) (sym (ap (λ (z : Draft). z.arrays) n.rest)) c.requires.typed,
          c.requires.apart,
        ),
      ),
    )

pub link-returns : goal.link-returns
link-returns t c = IfOk-weaker c.joined.result _ _ (λ r h. (
  c.in_ok-second.ensures.0 ++ [],
  links_through c.args.self.now.arrays.now (draft_of c.args.self.now) (draft_of c.enter_right.new.self) (draft_of c.expr.new.self) c.in_ok-kept.kept (listed c.joined.new.values) c.in_ok-second.ensures.0
      c.args.link.now.op c.args.link.now.reading c.args.first c.in_ok-second.second (expr_of c.args.link.now.operand) c.args.wanted c.side_of.result r
      c.requires.typed c.requires.apart c.requires.formed c.in_ok-kept.ensures.enters c.side_of.ensures c.in_ok-second.ensures.1 c.in_ok-kept.ensures.before h,
)) c.joined.ensures

pub chain-loop-index-init : goal.chain-loop-index-init
chain-loop-index-init t c start whole h = h

pub chain-loop-index-preserved : goal.chain-loop-index-preserved
chain-loop-index-preserved t c start whole h =
    led_next start whole (draft_of c.loop-index.self) (draft_of c.link.new.self) c.in_ok-first.ensures.0 c.args.rest.now c.loop-index.index c.index-rest-index.result c.args.wanted c.wanted_before.result c.loop-index.first c.in_ok-first.first
    (omega arith) c.index-rest-index.is c.wanted_before.ensures (c.loop-index.invariant start whole h) c.in_ok-first.ensures.1

pub chain-returns : goal.chain-returns
chain-returns t c = record { ends = λ start whole h. led_end start whole (draft_of c.loop-index.self) c.args.rest.now c.loop-index.index c.args.wanted c.loop-index.first (omega arith) (c.loop-index.invariant start whole h) }

pub exprs-loop-e-init : goal.exprs-loop-e-init
exprs-loop-e-init t c =
    let none : c.new-values.result.items ≡ [] = search rules in
    listed_none (draft_of c.args.self.now) c.args.es.now c.new-values.result.items c.requires.formed none

pub exprs-loop-e-preserved : goal.exprs-loop-e-preserved
exprs-loop-e-preserved t c =
    listed_more (draft_of c.args.self.now) (draft_of c.loop-e.self) (draft_of c.expr.new.self) c.in_ok-v.ensures.0 c.args.es.now c.loop-e.e-index c.e-item.result c.loop-e.values.items c.push.new.self.items c.in_ok-v.v
    (omega arith) c.e-item.is c.in_ok-push.ensures.items c.requires.typed c.requires.apart c.loop-e.invariant c.in_ok-v.ensures.1

pub exprs-returns : goal.exprs-returns
exprs-returns t c = listed_all (draft_of c.args.self.now) (draft_of c.loop-e.self) c.args.es.now c.loop-e.e-index c.loop-e.values.items (omega arith) c.loop-e.invariant
