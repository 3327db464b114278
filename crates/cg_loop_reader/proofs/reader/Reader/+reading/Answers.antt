use Rattle.std.proofs.Common.{◌≡◌, suc, ◌-◌, ◌∷◌, ◌++◌, [], codes, refl, sym, ap, ◌∙◌, subst, arith, rules}
use Rattle.std.proofs.lemmas.Result.{err_from_is_err_and, IfErr-weaker, IfOk-weaker}
use Rattle.cg_tokens.specs.Tokens.{seen}
use Rattle.std.specs.Prelude.{nat_lt, ◌&&◌}
use Rattle.cg_loop_syntax.specs.Loop as loops
use Rattle.cg_loop_syntax.specs.declared.syntax.Atom as items
use Rattle.cg_loop_syntax.specs.Grouped.{expr_of}
use Rattle.cg_loop_syntax.specs.Well.{is_loop_name, is_well_expr}
use Rattle.cg_loop_syntax.proofs.Rows.{apply_is}
use Rattle.cg_loop_syntax.proofs.WellRows.{well_apply_is}
use Rattle.cg_loop_text_spec.specs.Words.{added_by}
use Rattle.cg_loop_text_spec.specs.Grammar.{atom_tokens, prod_tokens}
use Rattle.cg_loop_text_spec.specs.Read.{begins_with, begins_adding, begins_comparing}
use Rattle.cg_loop_text_spec.proofs.Texts.{op_name}
use Rattle.cg_loop_text_spec.proofs.Steps.{op_misses, room_misses}
use Rattle.cg_loop_reader.specs.Left.{left, last_token, Takes, TakesSign}
use Rattle.cg_loop_reader.specs.Found.{FindsAtom, FindsProduct, FindsTerms, FindsSum, FindsOperands}
use Rattle.cg_loop_reader.proofs.Atoms.{named_found, item_found, word_further, bracket_found, apply_found, last_found, more_found}
use Rattle.cg_loop_reader.proofs.Beginnings.{number_begins, turn_begins, in_begins, name_begins, other_begins, same_text}
use Rattle.cg_loop_reader.proofs.Built.{plain_value, plain_well, compared_value, compared_well, sum_value, sum_well}
use Rattle.cg_loop_reader.proofs.Taken.{shorter}
use Rattle.cg_loop_reader.proofs.Missed.{named_missed, bracket_missed, bracket_end_missed, apply_open_missed, apply_missed, item_open_missed, item_missed, item_end_missed, last_missed, comma_missed, more_missed, factor_missed, term_missed, plain_missed, compared_missed}
use Rattle.cg_loop_reader.proofs.Parts.{first_product, more_product, first_terms, more_terms, sum_found, plain_found, compared_found}
use Rattle.cg_loop_reader.proofs.reader.Reader.+reading.Goals as goal

-- ---- operations

pub apply-returns-in_err-exactly-clause-misses : goal.apply-returns-in_err-exactly-clause-misses
apply-returns-in_err-exactly-clause-misses t c =
    let p = err_from_is_err_and c.from_residual.result c.from_residual.ensures.1 in
    let less : c.args.room ≡ suc (c.args.room - 1) = omega arith in
    let many = word_further c.args.op (op_name c.args.token.text.now c.args.op c.requires.called).0 in
    rw (p.1, p.2) (apply_open_missed c.in_err-exactly.field-0.0 c.args.room (c.args.room - 1) many.0 c.args.op c.args.token c.args.self.now c.take.new.self _ c.requires.called many.1 less c.take.ensures.taken c.in_err-exactly.ensures.misses)

pub apply-further_operands-requires : goal.apply-further_operands-requires
apply-further_operands-requires t c = (op_name c.args.token.text.now c.args.op c.requires.called).0

pub apply-returns-in_err-operands-clause-misses : goal.apply-returns-in_err-operands-clause-misses
apply-returns-in_err-operands-clause-misses t c =
    let p = err_from_is_err_and c.from_residual-in_err-operands.result c.from_residual-in_err-operands.ensures.1 in
    let less : c.args.room ≡ suc (c.args.room - 1) = omega arith in
    rw (p.1, p.2) (apply_missed c.in_err-operands.field-0.0 c.args.room (c.args.room - 1) c.further_operands.result c.args.op c.args.token c.args.self.now c.take.new.self c.exactly.new.self _ c.requires.called c.further_operands.ensures.value less c.take.ensures.taken c.in_ok-exactly.ensures.ok c.in_err-operands.ensures.misses)

pub apply-returns-clause-ok : goal.apply-returns-clause-ok
apply-returns-clause-ok t c =
    let less : c.args.room ≡ suc (c.args.room - 1) = omega arith in
    apply_found c.args.room (c.args.room - 1) c.further_operands.result c.args.op c.args.token _ c.operands.new.operands.items c.args.self.now c.take.new.self c.exactly.new.self _ c.requires.called c.further_operands.ensures.value less
    (apply_is c.args.op c.operands.new.operands) (well_apply_is c.args.room c.args.op c.operands.new.operands) c.take.ensures.taken c.take.ensures.kept c.in_ok-exactly.ensures.ok
    (subst (λ x. FindsOperands (c.args.room - 1) c.further_operands.result x c.operands.new.operands.items c.exactly.new.self c.operands.new.self) c.new-operands.ensures.items c.in_ok-operands.ensures.ok)

-- ---- what an atom begins with

pub atom-number_atom-requires-clause-is : goal.atom-number_atom-requires-clause-is
atom-number_atom-requires-clause-is t c = (number_begins c.in-Some.next.text.now c.in-Number.value (sym c.beginning_of.ensures ∙ c.in-Number.is)).0

pub atom-number_atom-requires-clause-value : goal.atom-number_atom-requires-clause-value
atom-number_atom-requires-clause-value t c = (number_begins c.in-Some.next.text.now c.in-Number.value (sym c.beginning_of.ensures ∙ c.in-Number.is)).1

pub atom-turn_atom-requires-clause-is : goal.atom-turn_atom-requires-clause-is
atom-turn_atom-requires-clause-is t c = turn_begins c.in-Some.next.text.now (sym c.beginning_of.ensures ∙ c.in-Turn.is)

pub atom-input_atom-requires-clause-is : goal.atom-input_atom-requires-clause-is
atom-input_atom-requires-clause-is t c = in_begins c.in-Some.next.text.now (sym c.beginning_of.ensures ∙ c.in-In.is)

pub atom-named-requires : goal.atom-named-requires
atom-named-requires t c = (search rules, (c.requires, (c.in-Some.ensures, name_begins c.in-Some.next.text.now (sym c.beginning_of.ensures ∙ c.in-Name.is))))

-- ---- brackets

pub bracket-returns-in_err-inner-clause-misses : goal.bracket-returns-in_err-inner-clause-misses
bracket-returns-in_err-inner-clause-misses t c =
    let p = err_from_is_err_and c.from_residual.result c.from_residual.ensures.1 in
    let less : c.args.room ≡ suc (c.args.room - 1) = omega arith in
    rw (p.1, p.2) (bracket_missed c.in_err-inner.field-0.0 c.args.room (c.args.room - 1) c.args.token c.args.self.now c.take.new.self _ (same_text c.args.token.text.now (codes "(") c.requires.is) less c.take.ensures.taken c.in_err-inner.ensures.misses)

pub bracket-returns-in_err-exactly-clause-misses : goal.bracket-returns-in_err-exactly-clause-misses
bracket-returns-in_err-exactly-clause-misses t c =
    let p = err_from_is_err_and c.from_residual-in_err-exactly.result c.from_residual-in_err-exactly.ensures.1 in
    let less : c.args.room ≡ suc (c.args.room - 1) = omega arith in
    rw (p.1, p.2) (bracket_end_missed c.in_err-exactly.field-0.0 c.args.room (c.args.room - 1) c.args.token c.in_ok-inner.inner c.args.self.now c.take.new.self c.expr.new.self _ (same_text c.args.token.text.now (codes "(") c.requires.is) less c.take.ensures.taken c.in_ok-inner.ensures.ok c.in_err-exactly.ensures.misses)

pub bracket-returns-clause-ok : goal.bracket-returns-clause-ok
bracket-returns-clause-ok t c =
    let less : c.args.room ≡ suc (c.args.room - 1) = omega arith in
    bracket_found c.args.room (c.args.room - 1) c.args.token _ c.in_ok-inner.inner c.args.self.now c.take.new.self c.expr.new.self _ (same_text c.args.token.text.now (codes "(") c.requires.is) less
    (ap expr_of c.in_ok-new.ensures.ok) (ap (λ x. nat_lt 0 c.args.room && is_well_expr (c.args.room - 1) x) c.in_ok-new.ensures.ok) c.take.ensures.taken c.take.ensures.kept c.in_ok-inner.ensures.ok c.in_ok-exactly.ensures.ok

-- ---- expressions

pub expr-returns-in_ok-second-in-Some-clause-ok : goal.expr-returns-in_ok-second-in-Some-clause-ok
expr-returns-in_ok-second-in-Some-clause-ok t c =
    compared_found c.args.room _ c.in_ok-first.first c.in-Some.op c.in_ok-second-in-Some.second c.args.self.now c.sum.new.self c.comparing.new.self _ (compared_value c.in_ok-first.first c.in-Some.op c.in_ok-second-in-Some.second) (compared_well c.args.room c.in_ok-first.first c.in-Some.op c.in_ok-second-in-Some.second)
    c.in_ok-first.ensures.ok c.in-Some.ensures.taken c.in_ok-second-in-Some.ensures.ok c.in_ok-second-in-Some.ensures.ends.0 c.in_ok-second-in-Some.ensures.ends.1

pub expr-returns-in-None-clause-ok : goal.expr-returns-in-None-clause-ok
expr-returns-in-None-clause-ok t c =
    let same = c.in-None.ensures.none.0 in
    plain_found c.args.room _ c.in_ok-first.first c.args.self.now c.comparing.new.self (plain_value c.in_ok-first.first) (plain_well c.args.room c.in_ok-first.first)
    (subst (FindsSum c.args.room c.in_ok-first.first c.args.self.now) (sym same) c.in_ok-first.ensures.ok)
    (ap (λ r. begins_with (codes "*") (left r)) same ∙ c.in_ok-first.ensures.ends.0) (ap (λ r. begins_adding (left r)) same ∙ c.in_ok-first.ensures.ends.1) (ap (λ r. begins_comparing (left r)) same ∙ c.in-None.ensures.none.1)

pub expr-returns-in_err-first-clause-misses : goal.expr-returns-in_err-first-clause-misses
expr-returns-in_err-first-clause-misses t c =
    let p = err_from_is_err_and c.from_residual.result c.from_residual.ensures.1 in
    rw (p.1, p.2) (plain_missed c.in_err-first.field-0.0 c.args.room c.args.self.now _ c.in_err-first.ensures.misses)

pub expr-returns-in_err-second-in-Some-clause-misses : goal.expr-returns-in_err-second-in-Some-clause-misses
expr-returns-in_err-second-in-Some-clause-misses t c =
    let p = err_from_is_err_and c.from_residual-in_err-second-in-Some.result c.from_residual-in_err-second-in-Some.ensures.1 in
    rw (p.1, p.2) (compared_missed c.in_err-second-in-Some.field-0.0 c.args.room c.in_ok-first.first c.in-Some.op c.args.self.now c.sum.new.self c.comparing.new.self _ c.in_ok-first.ensures.ok c.in-Some.ensures.taken c.in_err-second-in-Some.ensures.misses)

-- ---- indexes

pub item-returns-in_err-exactly-clause-misses : goal.item-returns-in_err-exactly-clause-misses
item-returns-in_err-exactly-clause-misses t c =
    let p = err_from_is_err_and c.from_residual-in_err-exactly.result c.from_residual-in_err-exactly.ensures.1 in
    rw (p.1, p.2) (item_open_missed c.in_err-exactly.field-0.0 c.args.room _ c.args.self.now c.note.new.self _ c.requires.opens c.in_ok-note.ensures.ok c.in_err-exactly.ensures.misses)

pub item-returns-in_err-index-clause-misses : goal.item-returns-in_err-index-clause-misses
item-returns-in_err-index-clause-misses t c =
    let p = err_from_is_err_and c.from_residual-in_err-index.result c.from_residual-in_err-index.ensures.1 in
    let some = c.if-room-eq0.false in
    let less : c.args.room ≡ suc (c.args.room - 1) = omega (arith, some) in
    rw (p.1, p.2) (item_missed c.in_err-index.field-0.0 c.args.room (c.args.room - 1) _ c.args.self.now c.note.new.self c.exactly.new.self _ less c.in_ok-note.ensures.ok c.in_ok-exactly.ensures.ok c.in_err-index.ensures.misses)

pub item-returns-in_err-exactly-2-clause-misses : goal.item-returns-in_err-exactly-2-clause-misses
item-returns-in_err-exactly-2-clause-misses t c =
    let p = err_from_is_err_and c.from_residual-in_err-exactly-2.result c.from_residual-in_err-exactly-2.ensures.1 in
    let some = c.if-room-eq0.false in
    let less : c.args.room ≡ suc (c.args.room - 1) = omega (arith, some) in
    rw (p.1, p.2) (item_end_missed c.in_err-exactly-2.field-0.0 c.args.room (c.args.room - 1) _ c.in_ok-index.index c.args.self.now c.note.new.self c.exactly.new.self c.expr.new.self _ less c.in_ok-note.ensures.ok c.in_ok-exactly.ensures.ok c.in_ok-index.ensures.ok c.in_err-exactly-2.ensures.misses)

pub item-returns-clause-ok : goal.item-returns-clause-ok
item-returns-clause-ok t c =
    let some = c.if-room-eq0.false in
    let less : c.args.room ≡ suc (c.args.room - 1) = omega (arith, some) in
    item_found c.args.room (c.args.room - 1) c.args.name c.own.inside.text.bytes.items (items.Item c.own.inside.text.bytes.items c.in_ok-new.field-0) c.in_ok-index.index c.args.self.now c.note.new.self c.exactly.new.self c.expr.new.self _ c.requires.is (c.own.view_is ∙ c.requires.own) less
    (ap (λ x. loops.Item c.own.inside.text.bytes.items (expr_of x)) c.in_ok-new.ensures.ok) (ap (λ x. (nat_lt 0 c.args.room && is_loop_name c.own.inside.text.bytes.items) && is_well_expr (c.args.room - 1) x) c.in_ok-new.ensures.ok)
    c.in_ok-note.ensures.ok c.in_ok-exactly.ensures.ok c.in_ok-index.ensures.ok c.in_ok-exactly-2.ensures.ok

-- ---- names

pub named-returns-clause-ok : goal.named-returns-clause-ok
named-returns-clause-ok t c =
    IfOk-weaker c.index.result _ _ (λ a x. named_found c.args.room c.args.name a c.args.self.now c.take.new.self c.index.new.self c.requires.is c.take.ensures.taken c.take.ensures.kept x) c.index.ensures.ok

pub named-returns-clause-misses : goal.named-returns-clause-misses
named-returns-clause-misses t c =
    IfErr-weaker c.index.result _ _ (λ e x. named_missed e c.args.room c.args.name c.args.self.now c.take.new.self _ c.requires.is c.take.ensures.taken x) c.index.ensures.misses

pub opened-returns-then-room-eq0-clause-misses : goal.opened-returns-then-room-eq0-clause-misses
opened-returns-then-room-eq0-clause-misses t c =
    let o = other_begins c.args.next.text.now c.requires.other in
    room_misses c.args.room (seen c.args.next) (left c.args.self.now) _ (ap (λ x. x ++ last_token c.args.self.now.bytes.now ∷ []) c.requires.next.next) o.0 o.1 o.2 o.3 c.if-room-eq0.true

pub opened-returns-in-None-clause-misses : goal.opened-returns-in-None-clause-misses
opened-returns-in-None-clause-misses t c =
    let o = other_begins c.args.next.text.now c.requires.other in
    op_misses c.args.room (seen c.args.next) (left c.args.self.now) _ (ap (λ x. x ++ last_token c.args.self.now.bytes.now ∷ []) c.requires.next.next) o.0 o.1 o.2 o.3 (sym c.same.ensures ∙ c.if-same.false) (sym c.op_called.ensures ∙ c.in-None.is)

-- ---- operands

pub operands-returns-in_err-exactly-clause-misses : goal.operands-returns-in_err-exactly-clause-misses
operands-returns-in_err-exactly-clause-misses t c =
    let p = err_from_is_err_and c.from_residual-in_err-exactly.result c.from_residual-in_err-exactly.ensures.1 in
    rw (p.1, p.2) (last_missed c.in_err-exactly.field-0.0 c.args.room c.args.count c.in_ok-operand.operand c.args.self.now c.expr.new.self _ c.if-count-eq0.true c.in_ok-operand.ensures.ok c.in_err-exactly.ensures.misses)

pub operands-returns-in_err-exactly-2-clause-misses : goal.operands-returns-in_err-exactly-2-clause-misses
operands-returns-in_err-exactly-2-clause-misses t c =
    let p = err_from_is_err_and c.from_residual-in_err-exactly-2.result c.from_residual-in_err-exactly-2.ensures.1 in
    rw (p.1, p.2) (comma_missed c.in_err-exactly-2.field-0.0 c.args.room c.args.count c.in_ok-operand.operand c.args.self.now c.expr.new.self _ c.if-count-eq0.false c.in_ok-operand.ensures.ok c.in_err-exactly-2.ensures.misses)

pub operands-returns-in_err-operands-clause-misses : goal.operands-returns-in_err-operands-clause-misses
operands-returns-in_err-operands-clause-misses t c =
    let p = err_from_is_err_and c.from_residual-in_err-operands.result c.from_residual-in_err-operands.ensures.1 in
    let some = c.if-count-eq0.false in
    let less : c.args.count ≡ suc (c.args.count - 1) = omega (arith, some) in
    rw (p.1, p.2) (more_missed c.in_err-operands.field-0.0 c.args.room c.args.count (c.args.count - 1) c.in_ok-operand.operand c.args.self.now c.expr.new.self c.exactly-else-count-eq0.new.self _ less c.in_ok-operand.ensures.ok c.in_ok-exactly-2.ensures.ok c.in_err-operands.ensures.misses)

pub operands-returns-in_ok-exactly-clause-ok : goal.operands-returns-in_ok-exactly-clause-ok
operands-returns-in_ok-exactly-clause-ok t c =
    last_found c.args.room c.args.count c.in_ok-operand.operand c.args.operands.now.items c.push.new.self.items c.args.self.now c.expr.new.self _ c.if-count-eq0.true c.in_ok-push.ensures.items c.in_ok-operand.ensures.ok c.in_ok-exactly.ensures.ok

pub operands-returns-in_ok-operands-clause-ok : goal.operands-returns-in_ok-operands-clause-ok
operands-returns-in_ok-operands-clause-ok t c =
    let some = c.if-count-eq0.false in
    let less : c.args.count ≡ suc (c.args.count - 1) = omega (arith, some) in
    more_found c.args.room c.args.count (c.args.count - 1) c.in_ok-operand.operand c.args.operands.now.items c.push.new.self.items c.operands.new.operands.items c.args.self.now c.expr.new.self c.exactly-else-count-eq0.new.self _ less c.in_ok-push.ensures.items c.in_ok-operand.ensures.ok c.in_ok-exactly-2.ensures.ok c.in_ok-operands.ensures.ok

-- ---- products

pub prod-loop-alloc-init : goal.prod-loop-alloc-init
prod-loop-alloc-init t c = record {
  found = subst (λ x. FindsProduct c.args.room x c.args.self.now c.atom.new.self) (sym (c.in_ok-push.ensures.items ∙ ap (λ x. x ++ c.in_ok-atom.field-0 ∷ []) c.new-atoms.ensures.items)) (first_product c.args.room c.in_ok-atom.field-0 c.args.self.now c.atom.new.self c.in_ok-atom.ensures.ok);
  same = c.in_ok-atom.ensures.same;
}

pub prod-returns-in_err-atom-2-clause-misses : goal.prod-returns-in_err-atom-2-clause-misses
prod-returns-in_err-atom-2-clause-misses t c =
    let p = err_from_is_err_and c.from_residual-in_err-atom-2.result c.from_residual-in_err-atom-2.ensures.1 in
    rw (p.1, p.2) (factor_missed c.in_err-atom-2.field-0.0 c.args.room c.loop-alloc.atoms.items c.args.self.now c.loop-alloc.self c.skip.new.self _ c.loop-alloc.invariant.found (c.loop-alloc-test.ensures.taken refl) c.in_err-atom-2.ensures.misses)

pub prod-loop-alloc-smaller : goal.prod-loop-alloc-smaller
prod-loop-alloc-smaller t c =
    let x : FindsAtom c.args.room c.in_ok-atom-2.field-0 c.skip.new.self c.atom-in-loop-alloc.new.self = c.in_ok-atom-2.ensures.ok in
    let s : Takes (codes "*") c.loop-alloc.self c.skip.new.self = c.loop-alloc-test.ensures.taken refl in
    shorter (left c.loop-alloc.self) (left c.skip.new.self) (left c.atom-in-loop-alloc.new.self) s.token (atom_tokens x.tree) s.spelled x.spelled

pub prod-loop-alloc-preserved : goal.prod-loop-alloc-preserved
prod-loop-alloc-preserved t c = record {
  found = subst (λ x. FindsProduct c.args.room x c.args.self.now c.atom-in-loop-alloc.new.self) (sym c.in_ok-push-2.ensures.items)
      (more_product c.args.room c.loop-alloc.atoms.items c.in_ok-atom-2.field-0 c.args.self.now c.loop-alloc.self c.skip.new.self c.atom-in-loop-alloc.new.self c.loop-alloc.invariant.found (c.loop-alloc-test.ensures.taken refl) c.in_ok-atom-2.ensures.ok);
  same = c.in_ok-atom-2.ensures.same ∙ c.loop-alloc-test.ensures.same ∙ c.loop-alloc.invariant.same;
}

pub prod-returns-clause-ok : goal.prod-returns-clause-ok
prod-returns-clause-ok t c = subst (FindsProduct c.args.room c.loop-alloc.atoms.items c.args.self.now) (sym (c.loop-alloc-test.ensures.none refl).0) c.loop-alloc.invariant.found

-- ---- sums

pub sum-loop-op-init : goal.sum-loop-op-init
sum-loop-op-init t c = record {
  found = subst (λ x. FindsTerms c.args.room c.in_ok-first.first x c.args.self.now c.prod.new.self) (sym c.new-rest.ensures.items) (first_terms c.args.room c.in_ok-first.first c.args.self.now c.prod.new.self c.in_ok-first.ensures.ok);
  ends = c.in_ok-first.ensures.ends;
  same = c.in_ok-first.ensures.same;
}

pub sum-returns-in_err-prod-clause-misses : goal.sum-returns-in_err-prod-clause-misses
sum-returns-in_err-prod-clause-misses t c =
    let p = err_from_is_err_and c.from_residual-in_err-prod.result c.from_residual-in_err-prod.ensures.1 in
    rw (p.1, p.2) (term_missed c.in_err-prod.field-0.0 c.args.room c.in_ok-first.first c.loop-op.rest.items c.in-Some.op c.args.self.now c.loop-op.self c.adding.new.self _ c.loop-op.invariant.found c.in-Some.ensures.taken c.in_err-prod.ensures.misses)

pub sum-loop-op-smaller : goal.sum-loop-op-smaller
sum-loop-op-smaller t c =
    let x : FindsProduct c.args.room c.in_ok-prod.prod.atoms.items c.adding.new.self c.prod-in-Some.new.self = c.in_ok-prod.ensures.ok in
    let s : TakesSign added_by c.in-Some.op c.loop-op.self c.adding.new.self = c.in-Some.ensures.taken in
    shorter (left c.loop-op.self) (left c.adding.new.self) (left c.prod-in-Some.new.self) s.token (prod_tokens x.tree) s.spelled x.spelled

pub sum-loop-op-preserved : goal.sum-loop-op-preserved
sum-loop-op-preserved t c = record {
  found = subst (λ x. FindsTerms c.args.room c.in_ok-first.first x c.args.self.now c.prod-in-Some.new.self) (sym c.in_ok-push.ensures.items)
      (more_terms c.args.room c.in_ok-first.first c.loop-op.rest.items _ c.args.self.now c.loop-op.self c.adding.new.self c.prod-in-Some.new.self c.loop-op.invariant.found c.in-Some.ensures.taken c.in_ok-prod.ensures.ok);
  ends = c.in_ok-prod.ensures.ends;
  same = c.in_ok-prod.ensures.same ∙ c.in-Some.ensures.same ∙ c.loop-op.invariant.same;
}

pub sum-returns-clause-ok : goal.sum-returns-clause-ok
sum-returns-clause-ok t c = sum_found c.args.room _ c.in_ok-first.first c.loop-op.rest.items c.args.self.now _ (sum_value c.in_ok-first.first c.loop-op.rest) (sum_well c.args.room c.in_ok-first.first c.loop-op.rest)
    (subst (FindsTerms c.args.room c.in_ok-first.first c.loop-op.rest.items c.args.self.now) (sym c.in_default.ensures.none.0) c.loop-op.invariant.found)

pub sum-returns-clause-ends : goal.sum-returns-clause-ends
sum-returns-clause-ends t c =
    let same = c.in_default.ensures.none.0 in
    (ap (λ r. begins_with (codes "*") (left r)) same ∙ c.loop-op.invariant.ends, ap (λ r. begins_adding (left r)) same ∙ c.in_default.ensures.none.1)

pub sum-returns-clause-same : goal.sum-returns-clause-same
sum-returns-clause-same t c = c.in_default.ensures.same ∙ c.loop-op.invariant.same
