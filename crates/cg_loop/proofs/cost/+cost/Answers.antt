use Rattle.std.proofs.Common.{◌≤◌, ◌-◌, ◌∙◌, length, get_or, take, drop, map, sym, ap, ap₂, ◌+◌, arith, subst}
use Rattle.std.proofs.lemmas.List.{take_all}
use Rattle.std.proofs.lemmas.Result.{IfOk-weaker}
use Rattle.cg_loop_syntax.specs.declared.syntax.Sum.{out-Sum}
use Rattle.cg_loop_syntax.specs.Grouped.{atom_of, applied, expr_of, factors, terms, whole_prod}
use Rattle.cg_loop_laws.specs.Translate.{cost}
use Rattle.cg_loop_syntax.proofs.Rows.{apply_is, factors_step, first_same, product_parts, sum_is, terms_step}
use Rattle.cg_loop.proofs.Computing.{three_applied, two_applied}
use Rattle.cg_loop.proofs.cost.+cost.Goals as goal

pub atom_cost-returns-in-Apply : goal.atom_cost-returns-in-Apply
atom_cost-returns-in-Apply t c =
    let same = ap cost (ap atom_of c.in-Apply.is ∙ apply_is c.in-Apply.field-0 c.in-Apply.operands ∙ ap (λ z. applied c.in-Apply.field-0 (map expr_of z)) (sym c.deref-in-Apply.ensures.value)) in
    IfOk-weaker c.applied_cost.result _ _ (λ n h. h c.in-Apply.field-0 ∙ sym same) c.applied_cost.ensures

pub prod_cost-loop-atom-init : goal.prod_cost-loop-atom-init
prod_cost-loop-atom-init t c = λ a e.
    c.in_ok-cost-in-len1-up.ensures
    ∙ ap (λ z. cost (atom_of z)) (first_same c.args.prod.now.atoms.items c.first-item.result a (subst (λ z. 1 ≤ length z) c.as_slice.ensures.value c.in-len1-up.len_at_least) (c.first-item.is ∙ ap (λ z. get_or z 0 c.first-item.result) c.as_slice.ensures.value) e)

pub prod_cost-loop-atom-preserved : goal.prod_cost-loop-atom-preserved
prod_cost-loop-atom-preserved t c = λ a e.
    let s = ap cost (factors_step (atom_of a) _ c.loop-atom.atom-index c.atom-item.result c.loop-atom-test.true c.atom-item.is) in
    let i = c.loop-atom.invariant a e in
    omega arith

pub prod_cost-returns-after-loop-atom : goal.prod_cost-returns-after-loop-atom
prod_cost-returns-after-loop-atom t c =
    let v = c.as_slice.ensures.value in
    let is = c.first-item.is ∙ ap (λ z. get_or z 0 c.first-item.result) v in
    c.loop-atom.invariant c.first-item.result is
    ∙ ap cost (
    ap (factors (atom_of c.first-item.result)) (take_all c.loop-atom.atom-index _ c.loop-atom-test.false ∙ ap (λ z. take (length z - 1) (drop 1 z)) v)
    ∙ sym (product_parts c.args.prod.now.atoms.items c.first-item.result (subst (λ z. 1 ≤ length z) v c.in-len1-up.len_at_least) is)
    )

pub sum_cost-loop-term-preserved : goal.sum_cost-loop-term-preserved
sum_cost-loop-term-preserved t c =
    let s = ap cost (terms_step (whole_prod (out-Sum c.args.sum.now).first) _ c.loop-term.term-index c.term-item.result c.loop-term-test.true c.term-item.is) in
    omega arith

pub sum_cost-returns : goal.sum_cost-returns
sum_cost-returns t c =
    c.loop-term.invariant
    ∙ ap (λ z. cost z) (ap (terms (whole_prod (out-Sum c.args.sum.now).first)) (take_all c.loop-term.term-index c.deref-term-items.result.now c.loop-term-test.false ∙ c.deref-term-items.ensures.value) ∙ sym (sum_is c.args.sum.now))

pub applied_cost-returns-in_ok-expr_cost-in-len2-2 : goal.applied_cost-returns-in_ok-expr_cost-in-len2-2
applied_cost-returns-in_ok-expr_cost-in-len2-2 t c =
    let both = ap₂ (λ u v. u + v + 1) c.in_ok-expr_cost-in-len2.ensures c.in_ok-expr_cost-in-len2-2.ensures in
    IfOk-weaker c.pair_cost.result _ _ (λ n h op. h ∙ both ∙ sym (ap cost (two_applied op c.args.operands.now c.a-item.result c.b-item.result c.in-len2.len_at_least c.in-len2.len_below c.a-item.is c.b-item.is))) c.pair_cost.ensures

pub applied_cost-returns-in_ok-expr_cost-in-len3-3 : goal.applied_cost-returns-in_ok-expr_cost-in-len3-3
applied_cost-returns-in_ok-expr_cost-in-len3-3 t c =
    let first = c.in_ok-plus-in-len3.ensures ∙ ap₂ (λ u v. u + v) c.in_ok-expr_cost-in-len3.ensures c.in_ok-expr_cost-in-len3-2.ensures in
    let all = ap₂ (λ u v. u + v + 1) first c.in_ok-expr_cost-in-len3-3.ensures in
    IfOk-weaker c.pair_cost-in-len3.result _ _
    (λ n h op. h ∙ all ∙ sym (ap cost (three_applied op c.args.operands.now c.a-item-then-operands-lt4.result c.b-item-then-operands-lt4.result c.c-item.result c.in-len3.len_at_least c.in-len3.len_below c.a-item-then-operands-lt4.is c.b-item-then-operands-lt4.is c.c-item.is)))
    c.pair_cost-in-len3.ensures
