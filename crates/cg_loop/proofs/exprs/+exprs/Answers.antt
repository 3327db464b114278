use Rattle.std.proofs.Common.{◌≡◌, ◌+◌, ◌-◌, ◌≤◌, ◌<◌, ◌∙◌, length, get_or, take, drop, map, sym, ap, subst, arith, rules, IfOk}
use Rattle.std.proofs.lemmas.List.{take_all}
use Rattle.cg_word.specs.declared.op.Op.TheVariants.{Mul}
use Rattle.cg_loop_syntax.specs.declared.syntax.Sum.{out-Sum, the_lemmas, size_is-Sum}
use Rattle.cg_loop_syntax.specs.declared.syntax.Prod.{size_is-Prod}
use Rattle.cg_loop_syntax.specs.declared.syntax.Atom.{size_is-Atom}
use Rattle.cg_loop_syntax.specs.Grouped.{applied, atom_of, expr_of, factors, terms, whole_prod}
use Rattle.cg_loop_syntax.proofs.Rows.{apply_is, factors_step, product_parts, rest_atom, sum_is, terms_step}
use Rattle.cg_loop_syntax.specs.declared.syntax.Compare.{out-Compare}
use Rattle.cg_loop_syntax.specs.declared.syntax.Expr.{out-Expr}
use Rattle.cg_loop_syntax.specs.Grouped.{sum_of}
use Rattle.cg_loop_syntax.specs.Loop.{Num, Turn, In, Scalar, Item, Two}
use Rattle.cg_loop_laws.specs.Translate.{cost}
use Rattle.cg_loop.specs.Made.{Computes}
use Rattle.cg_loop.proofs.Costs.{prod_first, prod_room, sum_first, sum_room}
use Rattle.cg_loop.proofs.Computing.{all_ok, computes_in, computes_item, computes_num, computes_scalar, computes_three, computes_turn, computes_two, three_applied, two_applied}
use Rattle.cg_loop.proofs.exprs.+exprs.Goals as goal

pub atom_code-applied_code-requires : goal.atom_code-applied_code-requires
atom_code-applied_code-requires t c =
    let same = ap cost (ap atom_of c.in-Apply.is ∙ apply_is c.in-Apply.op c.in-Apply.operands ∙ ap (λ z. applied c.in-Apply.op (map expr_of z)) (sym c.deref-in-Apply.ensures.value)) in
    let room : length c.args.code.now.nodes + cost (applied c.in-Apply.op (map expr_of c.deref-in-Apply.result.now)) ≤ 1024 = omega arith in
    (search (rules, the_lemmas, size_is-Atom), room)

pub atom_code-returns-in-Apply : goal.atom_code-returns-in-Apply
atom_code-returns-in-Apply t c =
    let same = ap atom_of c.in-Apply.is ∙ apply_is c.in-Apply.op c.in-Apply.operands ∙ ap (λ z. applied c.in-Apply.op (map expr_of z)) (sym c.deref-in-Apply.ensures.value) in
    subst (λ e. IfOk c.applied_code.result (λ value. Computes c.args.scope.now c.args.code.now c.applied_code.new.code e value)) (sym same) c.applied_code.ensures

pub prod_code-atom_code-requires : goal.prod_code-atom_code-requires
prod_code-atom_code-requires t c =
    let v = c.as_slice.ensures.value in
    let f = prod_first c.args.prod.now.atoms.items c.first-item.result (subst (λ z. 1 ≤ length z) v c.in-len1-up.len_at_least) (c.first-item.is ∙ ap (λ z. get_or z 0 c.first-item.result) v) in
    let room : length c.args.code.now.nodes + cost (atom_of c.first-item.result) ≤ 1024 = omega arith in
    (search (rules, the_lemmas, size_is-Prod), room)

pub prod_code-atom_code-requires-in-loop-atom : goal.prod_code-atom_code-requires-in-loop-atom
prod_code-atom_code-requires-in-loop-atom t c =
    let v = c.as_slice.ensures.value in
    let is = c.first-item.is ∙ ap (λ z. get_or z 0 c.first-item.result) v in
    let f = prod_room c.args.prod.now.atoms.items _ c.first-item.result c.atom-item.result c.loop-atom.atom-index (subst (λ z. 1 ≤ length z) v c.in-len1-up.len_at_least) is (ap (λ z. take (length z - 1) (drop 1 z)) v) c.loop-atom-test.true c.atom-item.is in
    let n = (c.loop-atom.invariant c.first-item.result is).size in
    let room : length c.loop-atom.code.nodes + cost (atom_of c.atom-item.result) ≤ 1024 = omega arith in
    let r = rest_atom c.as_slice.result.now c.loop-atom.atom-index c.atom-item.result c.in-len1-up.len_at_least c.loop-atom-test.true c.atom-item.is in
    let inside : c.loop-atom.atom-index + 1 < length c.args.prod.now.atoms.items = subst (λ z. c.loop-atom.atom-index + 1 < length z) v r.0 in
    let stands = r.1 ∙ ap (λ z. get_or z (c.loop-atom.atom-index + 1) c.atom-item.result) v in
    (search (rules, the_lemmas, size_is-Prod), room)

pub prod_code-add-requires-in-loop-atom : goal.prod_code-add-requires-in-loop-atom
prod_code-add-requires-in-loop-atom t c =
    let v = c.as_slice.ensures.value in
    let is = c.first-item.is ∙ ap (λ z. get_or z 0 c.first-item.result) v in
    let f = prod_room c.args.prod.now.atoms.items _ c.first-item.result c.atom-item.result c.loop-atom.atom-index (subst (λ z. 1 ≤ length z) v c.in-len1-up.len_at_least) is (ap (λ z. take (length z - 1) (drop 1 z)) v) c.loop-atom-test.true c.atom-item.is in
    let n = (c.loop-atom.invariant c.first-item.result is).size in
    omega (arith, c.in_ok-other-in-len1-up.ensures.size)

pub prod_code-loop-atom-preserved : goal.prod_code-loop-atom-preserved
prod_code-loop-atom-preserved t c = λ a e.
    subst (λ z. Computes c.args.scope.now c.args.code.now c.add-in-loop-atom.new.self z c.in_ok-value-in-len1-up-2.value)
    (sym (factors_step (atom_of a) _ c.loop-atom.atom-index c.atom-item.result c.loop-atom-test.true c.atom-item.is))
    (computes_two _ _ _ _ _ Mul _ _ _ _ _ (c.loop-atom.invariant a e) c.in_ok-other-in-len1-up.ensures c.in_ok-value-in-len1-up-2.ensures.value c.in_ok-value-in-len1-up-2.ensures.nodes c.in_ok-value-in-len1-up-2.ensures.accesses)

pub sum_code-prod_code-requires : goal.sum_code-prod_code-requires
sum_code-prod_code-requires t c =
    let f = sum_first c.args.sum.now in
    let room : length c.args.code.now.nodes + cost (whole_prod (out-Sum c.args.sum.now).first) ≤ 1024 = omega arith in
    (search (rules, the_lemmas, size_is-Sum), room)

pub sum_code-prod_code-requires-in-loop-term : goal.sum_code-prod_code-requires-in-loop-term
sum_code-prod_code-requires-in-loop-term t c =
    let f = sum_room c.args.sum.now c.deref-term-items.result.now c.loop-term.term-index c.term-item.result c.deref-term-items.ensures.value c.loop-term-test.true c.term-item.is in
    let room : length c.loop-term.code.nodes + cost (whole_prod c.term-item.result.prod) ≤ 1024 = omega arith in
    (search (rules, the_lemmas, size_is-Sum), room)

pub sum_code-add-requires : goal.sum_code-add-requires
sum_code-add-requires t c =
    let f = sum_room c.args.sum.now c.deref-term-items.result.now c.loop-term.term-index c.term-item.result c.deref-term-items.ensures.value c.loop-term-test.true c.term-item.is in
    omega (arith, c.in_ok-other.ensures.size)

pub sum_code-loop-term-preserved : goal.sum_code-loop-term-preserved
sum_code-loop-term-preserved t c =
    subst (λ z. Computes c.args.scope.now c.args.code.now c.add.new.self z c.in_ok-value-2.value)
    (sym (terms_step (whole_prod (out-Sum c.args.sum.now).first) _ c.loop-term.term-index c.term-item.result c.loop-term-test.true c.term-item.is))
    (computes_two _ _ _ _ _ c.term-item.result.op _ _ _ _ _ c.loop-term.invariant c.in_ok-other.ensures c.in_ok-value-2.ensures.value c.in_ok-value-2.ensures.nodes c.in_ok-value-2.ensures.accesses)

pub sum_code-returns : goal.sum_code-returns
sum_code-returns t c =
    subst (λ z. Computes c.args.scope.now c.args.code.now c.loop-term.code z c.loop-term.value)
    (ap (terms (whole_prod (out-Sum c.args.sum.now).first)) (take_all c.loop-term.term-index c.deref-term-items.result.now c.loop-term-test.false ∙ c.deref-term-items.ensures.value) ∙ sym (sum_is c.args.sum.now))
    c.loop-term.invariant

pub prod_code-returns-after-loop-atom : goal.prod_code-returns-after-loop-atom
prod_code-returns-after-loop-atom t c =
    let v = c.as_slice.ensures.value in
    let is = c.first-item.is ∙ ap (λ z. get_or z 0 c.first-item.result) v in
    subst (λ z. Computes c.args.scope.now c.args.code.now c.loop-atom.code z c.loop-atom.value)
    (
    ap (factors (atom_of c.first-item.result)) (take_all c.loop-atom.atom-index _ c.loop-atom-test.false ∙ ap (λ z. take (length z - 1) (drop 1 z)) v)
    ∙ sym (product_parts c.args.prod.now.atoms.items c.first-item.result (subst (λ z. 1 ≤ length z) v c.in-len1-up.len_at_least) is)
    )
    (c.loop-atom.invariant c.first-item.result is)

pub applied_code-returns-in_ok-second-in-len2 : goal.applied_code-returns-in_ok-second-in-len2
applied_code-returns-in_ok-second-in-len2 t c =
    subst (λ e. IfOk c.add.result (λ value. Computes c.args.scope.now c.args.code.now c.add.new.self e value)) (sym (two_applied c.args.op c.args.operands.now c.a-item.result c.b-item.result c.in-len2.len_at_least c.in-len2.len_below c.a-item.is c.b-item.is))
    (all_ok c.add.result _ _ _ _ (λ value. computes_two c.args.scope.now c.args.code.now _ _ c.add.new.self c.args.op _ _ _ _ value c.in_ok-first-in-len2.ensures c.in_ok-second-in-len2.ensures) c.add.ensures.value c.add.ensures.nodes c.add.ensures.accesses)

pub applied_code-returns-in_ok-third-in-len3 : goal.applied_code-returns-in_ok-third-in-len3
applied_code-returns-in_ok-third-in-len3 t c =
    subst (λ e. IfOk c.add-in-len3.result (λ value. Computes c.args.scope.now c.args.code.now c.add-in-len3.new.self e value))
    (sym (three_applied c.args.op c.args.operands.now c.a-item-then-operands-lt4.result c.b-item-then-operands-lt4.result c.c-item.result c.in-len3.len_at_least c.in-len3.len_below c.a-item-then-operands-lt4.is c.b-item-then-operands-lt4.is c.c-item.is))
    (all_ok c.add-in-len3.result _ _ _ _ (λ value. computes_three c.args.scope.now c.args.code.now _ _ _ c.add-in-len3.new.self c.args.op _ _ _ _ _ _ value c.in_ok-first-in-len3.ensures c.in_ok-second-in-len3.ensures c.in_ok-third-in-len3.ensures) c.add-in-len3.ensures.value c.add-in-len3.ensures.nodes c.add-in-len3.ensures.accesses)

pub expr_code-returns-in_ok-second-in-Some : goal.expr_code-returns-in_ok-second-in-Some
expr_code-returns-in_ok-second-in-Some t c =
    let same : expr_of c.args.expr.now ≡ Two (out-Compare c.in-Some.compare).op (sum_of (out-Expr c.args.expr.now).first) (sum_of (out-Compare c.in-Some.compare).second) = search (rules, the_lemmas) in
    subst (λ e. IfOk c.add.result (λ value. Computes c.args.scope.now c.args.code.now c.add.new.self e value)) (sym same)
    (all_ok c.add.result _ _ _ _ (λ value. computes_two c.args.scope.now c.args.code.now _ _ c.add.new.self _ _ _ _ _ value c.in_ok-first.ensures c.in_ok-second-in-Some.ensures) c.add.ensures.value c.add.ensures.nodes c.add.ensures.accesses)

pub atom_code-returns-in_ok-index-in-Item : goal.atom_code-returns-in_ok-index-in-Item
atom_code-returns-in_ok-index-in-Item t c =
    let same : atom_of c.args.atom.now ≡ Item c.in-Item.array (expr_of c.in-Item.index.value) = search (rules, the_lemmas) in
    subst (λ e. IfOk c.load_code.result (λ value. Computes c.args.scope.now c.args.code.now c.load_code.new.code e value)) (sym (same ∙ ap (λ e. Item c.in-Item.array (expr_of e)) (sym c.deref.ensures)))
    (all_ok c.load_code.result _ _ _ _ (λ value. computes_item c.args.scope.now c.args.code.now _ c.load_code.new.code c.in-Item.array _ _ value c.in_ok-index-in-Item.ensures) c.load_code.ensures.nodes c.load_code.ensures.accesses c.load_code.ensures.value)

pub expr_code-returns-in-None : goal.expr_code-returns-in-None
expr_code-returns-in-None t c =
    let same : expr_of c.args.expr.now ≡ sum_of (out-Expr c.args.expr.now).first = search (rules, the_lemmas) in
    subst (λ e. Computes c.args.scope.now c.args.code.now c.sum_code.new.code e c.in_ok-first.first) (sym same) c.in_ok-first.ensures

pub atom_code-returns-in-Num : goal.atom_code-returns-in-Num
atom_code-returns-in-Num t c =
    let same : atom_of c.args.atom.now ≡ Num c.in-Num.word = search (rules, the_lemmas) in
    subst (λ e. IfOk c.add.result (λ value. Computes c.args.scope.now c.args.code.now c.add.new.self e value)) (sym same)
    (all_ok c.add.result _ _ _ _ (λ value. computes_num c.args.scope.now c.args.code.now c.add.new.self c.in-Num.word value) c.add.ensures.value c.add.ensures.nodes c.add.ensures.accesses)

pub atom_code-returns-in-Turn : goal.atom_code-returns-in-Turn
atom_code-returns-in-Turn t c =
    let same : atom_of c.args.atom.now ≡ Turn = search (rules, the_lemmas) in
    subst (λ e. IfOk c.add-in-Turn.result (λ value. Computes c.args.scope.now c.args.code.now c.add-in-Turn.new.self e value)) (sym same)
    (all_ok c.add-in-Turn.result _ _ _ _ (λ value. computes_turn c.args.scope.now c.args.code.now c.add-in-Turn.new.self value) c.add-in-Turn.ensures.value c.add-in-Turn.ensures.nodes c.add-in-Turn.ensures.accesses)

pub atom_code-returns-in-Input : goal.atom_code-returns-in-Input
atom_code-returns-in-Input t c =
    let same : atom_of c.args.atom.now ≡ In c.in-Input.port = search (rules, the_lemmas) in
    subst (λ e. IfOk c.add_ported.result (λ value. Computes c.args.scope.now c.args.code.now c.add_ported.new.self e value)) (sym same)
    (all_ok c.add_ported.result _ _ _ _ (λ value. computes_in c.args.scope.now c.args.code.now c.add_ported.new.self c.in-Input.port value) c.add_ported.ensures.value c.add_ported.ensures.nodes c.add_ported.ensures.accesses)

pub atom_code-returns-in-Scalar : goal.atom_code-returns-in-Scalar
atom_code-returns-in-Scalar t c =
    let same : atom_of c.args.atom.now ≡ Scalar c.in-Scalar.name = search (rules, the_lemmas) in
    subst (λ e. Computes c.args.scope.now c.args.code.now c.args.code.now e c.value_of.result) (sym same) (computes_scalar c.args.scope.now c.args.code.now c.in-Scalar.name c.value_of.result c.value_of.ensures)

pub atom_code-returns-in-Bracket : goal.atom_code-returns-in-Bracket
atom_code-returns-in-Bracket t c =
    let same : atom_of c.args.atom.now ≡ expr_of c.in-Bracket.inner.value = search (rules, the_lemmas) in
    subst (λ e. IfOk c.expr_code-in-Bracket.result (λ value. Computes c.args.scope.now c.args.code.now c.expr_code-in-Bracket.new.code e value)) (sym (same ∙ ap expr_of (sym c.deref-in-Bracket.ensures)))
    c.expr_code-in-Bracket.ensures
