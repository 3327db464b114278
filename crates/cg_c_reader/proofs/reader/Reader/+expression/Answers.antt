use Rattle.std.proofs.Common.{◌-◌, List, refl, sym, ap, ◌∙◌, arith}
use Rattle.cg_c_syntax.specs.declared.expression.Link.{Link}
use Rattle.cg_c_syntax.specs.declared.expression.Expr.{Expr as WrittenExpr}
use mathlib.Core.Path.{fun_ext}
use Rattle.std.proofs.lemmas.Result.{err_from_is_err_and, IfOk-weaker, IfErr-weaker}
use Rattle.cg_c_syntax.specs.Tree.{Expr, Num, Access, Signed, Converted, Input, Choice}
use Rattle.cg_c_syntax.specs.Symbols.{Further, Indices}
use Rattle.cg_c_syntax.specs.Written.{expr_of, exprs_of, linked}
use Rattle.cg_c_syntax.proofs.Listed.{linked_push}
use Rattle.cg_c_reader.specs.Left.{left}
use Rattle.cg_c_reader.proofs.Built.{choice_is, picked_is, before, before_none, before_push, element_value}
use Rattle.cg_c_reader.proofs.Leading.{next, last, valued, starts, read, read_as, missed}
use Rattle.cg_c_reader.proofs.Lines.{expression_bars, expression_begins, chosen_takes, chosen_ends, operators_begin, further_takes, further_ends, sign_bars, sign_takes, bracket_takes, number_takes, name_takes, input_takes, pick_takes, nothing_stops, cast_takes, bracketed_begins, cast_operand_bars, cast_operand_begins, index_takes, indices_end, indices_full, name_is_word, number_is_number, fewer}
use Rattle.cg_c_reader.proofs.reader.Reader.+expression.Goals as goal

-- ---- expressions

pub expression-returns-then-depth-ge-MOST_OPEN-clause-misses : goal.expression-returns-then-depth-ge-MOST_OPEN-clause-misses
expression-returns-then-depth-ge-MOST_OPEN-clause-misses t c = expression_bars c.args.depth (left c.args.self.now) c.if-depth-ge-MOST_OPEN.true

pub expression-returns-in_err-condition-clause-misses : goal.expression-returns-in_err-condition-clause-misses
expression-returns-in_err-condition-clause-misses t c =
    let p = err_from_is_err_and c.from_residual.result c.from_residual.ensures.1 in
    rw (p.1, p.2) (missed _ (expression_begins c.args.depth (left c.args.self.now) c.if-depth-ge-MOST_OPEN.false) _ c.in_err-condition.ensures.misses)

pub expression-returns-clause-ok : goal.expression-returns-clause-ok
expression-returns-clause-ok t c = IfOk-weaker c.chosen.result _ _ (λ e x. read_as (next (next (expression_begins c.args.depth (left c.args.self.now) c.if-depth-ge-MOST_OPEN.false) c.in_ok-condition.ensures.ok) x.reads) x.value) c.chosen.ensures.ok

pub expression-returns-clause-misses : goal.expression-returns-clause-misses
expression-returns-clause-misses t c = IfErr-weaker c.chosen.result _ _ (λ e x. missed e (next (expression_begins c.args.depth (left c.args.self.now) c.if-depth-ge-MOST_OPEN.false) c.in_ok-condition.ensures.ok) _ x) c.chosen.ensures.misses

-- ---- what a condition chooses

pub chosen-returns-then-not-next_is-clause-ok : goal.chosen-returns-then-not-next_is-clause-ok
chosen-returns-then-not-next_is-clause-ok t c = record { after = λ e. e; value = refl; reads = read (chosen_ends c.args.depth (left c.args.self.now) (sym c.next_is.ensures ∙ c.if-not-next_is.true)) }

pub chosen-returns-in_err-chosen-clause-misses : goal.chosen-returns-in_err-chosen-clause-misses
chosen-returns-in_err-chosen-clause-misses t c =
    let p = err_from_is_err_and c.from_residual.result c.from_residual.ensures.1 in
    rw (p.1, p.2) (missed _ (chosen_takes c.args.depth (left c.args.self.now) (left c.take.new.self) (sym c.next_is.ensures ∙ c.if-not-next_is.false) c.take.ensures.taken) _ c.in_err-chosen.ensures.misses)

pub chosen-returns-in_err-mark-clause-misses : goal.chosen-returns-in_err-mark-clause-misses
chosen-returns-in_err-mark-clause-misses t c =
    let p = err_from_is_err_and c.from_residual-in_err-mark.result c.from_residual-in_err-mark.ensures.1 in
    rw (p.1, p.2) (missed _ (next (chosen_takes c.args.depth (left c.args.self.now) (left c.take.new.self) (sym c.next_is.ensures ∙ c.if-not-next_is.false) c.take.ensures.taken) c.in_ok-chosen.ensures.ok) _ c.in_err-mark.ensures.misses)

pub chosen-returns-in_err-other-clause-misses : goal.chosen-returns-in_err-other-clause-misses
chosen-returns-in_err-other-clause-misses t c =
    let p = err_from_is_err_and c.from_residual-in_err-other.result c.from_residual-in_err-other.ensures.1 in
    rw (p.1, p.2) (missed _ (next (next (chosen_takes c.args.depth (left c.args.self.now) (left c.take.new.self) (sym c.next_is.ensures ∙ c.if-not-next_is.false) c.take.ensures.taken) c.in_ok-chosen.ensures.ok) c.in_ok-mark.ensures.ok) _ c.in_err-other.ensures.misses)

pub chosen-returns-clause-ok : goal.chosen-returns-clause-ok
chosen-returns-clause-ok t c = record {
  after = λ e. Choice c.args.self.now.token.place e (expr_of c.in_ok-chosen.chosen) (expr_of c.in_ok-other.other);
  value = choice_is _ _ _ _ _ _ _ c.in_ok-new.ensures.ok c.in_ok-new-2.ensures.ok c.in_ok-new-3.ensures.ok;
  reads = read (next (next (next (chosen_takes c.args.depth (left c.args.self.now) (left c.take.new.self) (sym c.next_is.ensures ∙ c.if-not-next_is.false) c.take.ensures.taken) c.in_ok-chosen.ensures.ok) c.in_ok-mark.ensures.ok) c.in_ok-other.ensures.ok);
}

-- ---- operators

pub operators-returns-in_err-first-clause-misses : goal.operators-returns-in_err-first-clause-misses
operators-returns-in_err-first-clause-misses t c =
    let p = err_from_is_err_and c.from_residual.result c.from_residual.ensures.1 in
    rw (p.1, p.2) (missed _ (operators_begin c.args.level (c.args.level - 1) c.args.depth (left c.args.self.now) (omega arith)) _ c.in_err-first.ensures.misses)

pub operators-returns-clause-ok : goal.operators-returns-clause-ok
operators-returns-clause-ok t c = IfOk-weaker c.further.result _ _ (λ e x. read_as (next (next (operators_begin c.args.level (c.args.level - 1) c.args.depth (left c.args.self.now) (omega arith)) c.in_ok-first.ensures.ok) x.reads) x.value) c.further.ensures.ok

pub operators-returns-clause-misses : goal.operators-returns-clause-misses
operators-returns-clause-misses t c = IfErr-weaker c.further.result _ _ (λ e x. missed e (next (operators_begin c.args.level (c.args.level - 1) c.args.depth (left c.args.self.now) (omega arith)) c.in_ok-first.ensures.ok) _ x) c.further.ensures.misses

pub further-loop-op-init : goal.further-loop-op-init
further-loop-op-init t c = record { leads = valued (λ vs. fun_ext (λ (e : Expr). ap (λ (ls : List Link). vs.0 (linked e ls)) (sym c.new-rest.ensures.items))) (starts (Further c.args.level c.args.depth) (left c.args.self.now)); kept = refl; same = refl }

pub further-returns-in_err-operand-clause-misses : goal.further-returns-in_err-operand-clause-misses
further-returns-in_err-operand-clause-misses t c =
    let p = err_from_is_err_and c.from_residual.result c.from_residual.ensures.1 in
    rw (p.1, p.2) (missed _ (last c.loop-op.invariant.leads (further_takes c.args.level (c.args.level - 1) c.args.depth c.in-Some.op (left c.loop-op.self) (left c.take.new.self) (omega arith) (sym c.operator_at.ensures ∙ c.in-Some.is) c.take.ensures.taken)) _ c.in_err-operand.ensures.misses)

pub further-loop-op-smaller : goal.further-loop-op-smaller
further-loop-op-smaller t c = fewer (left c.loop-op.self) (left c.take.new.self) (left c.operators.new.self) c.in_ok-operand.ensures.ok.front c.take.ensures.taken c.in_ok-operand.ensures.ok.spelled

pub further-loop-op-preserved : goal.further-loop-op-preserved
further-loop-op-preserved t c = record {
  leads = valued (λ vs. fun_ext (λ (e : Expr). ap vs.0 (sym (ap (linked e) c.in_ok-push.ensures.items ∙ linked_push e c.loop-op.rest.items _)))) (last c.loop-op.invariant.leads (next (further_takes c.args.level (c.args.level - 1) c.args.depth c.in-Some.op (left c.loop-op.self) (left c.take.new.self) (omega arith) (sym c.operator_at.ensures ∙ c.in-Some.is) c.take.ensures.taken) c.in_ok-operand.ensures.ok));
  kept = c.loop-op.invariant.kept;
  same = c.operators.ensures.same ∙ c.take.ensures.same ∙ c.loop-op.invariant.same;
}

pub further-returns-clause-ok : goal.further-returns-clause-ok
further-returns-clause-ok t c = record {
  after = λ operand. linked operand c.loop-op.rest.items;
  value = sym (c.in_ok-chain.ensures ∙ ap (λ (x : WrittenExpr). linked (expr_of x) c.loop-op.rest.items) c.loop-op.invariant.kept);
  reads = read (last c.loop-op.invariant.leads (further_ends c.args.level (c.args.level - 1) c.args.depth (left c.loop-op.self) (omega arith) (sym c.operator_at.ensures ∙ c.in_default.is)));
}

-- ---- operands

pub operand-numeral-requires : goal.operand-numeral-requires
operand-numeral-requires t c = number_is_number c.args.self.now.token.kind c.args.self.now.token.text.now (sym c.opening_by.ensures ∙ c.in-Number.is)

pub operand-returns-in-Number-clause-ok : goal.operand-returns-in-Number-clause-ok
operand-returns-in-Number-clause-ok t c = read_as (number_takes c.args.depth (left c.args.self.now) (left c.numeral.new.self) (sym c.opening_by.ensures ∙ c.in-Number.is) c.numeral.ensures.taken) (ap Num (sym c.numeral.ensures.value))

pub operand-returns-in-Nothing-clause-misses : goal.operand-returns-in-Nothing-clause-misses
operand-returns-in-Nothing-clause-misses t c = nothing_stops c.args.depth (left c.args.self.now) (sym c.opening_by.ensures ∙ c.in-Nothing.is)

pub signed-returns-then-depth-ge-MOST_OPEN-clause-misses : goal.signed-returns-then-depth-ge-MOST_OPEN-clause-misses
signed-returns-then-depth-ge-MOST_OPEN-clause-misses t c = sign_bars c.args.depth c.args.sign (left c.args.self.now) c.if-depth-ge-MOST_OPEN.true c.requires.is

pub signed-returns-in_err-operand-clause-misses : goal.signed-returns-in_err-operand-clause-misses
signed-returns-in_err-operand-clause-misses t c =
    let p = err_from_is_err_and c.from_residual.result c.from_residual.ensures.1 in
    rw (p.1, p.2) (missed _ (sign_takes c.args.depth c.args.sign (left c.args.self.now) (left c.take.new.self) c.if-depth-ge-MOST_OPEN.false c.requires.is c.take.ensures.taken) _ c.in_err-operand.ensures.misses)

pub signed-returns-clause-ok : goal.signed-returns-clause-ok
signed-returns-clause-ok t c = read_as (next (sign_takes c.args.depth c.args.sign (left c.args.self.now) (left c.take.new.self) c.if-depth-ge-MOST_OPEN.false c.requires.is c.take.ensures.taken) c.in_ok-operand.ensures.ok) (sym (ap (λ (x : WrittenExpr). Signed c.args.sign c.args.self.now.token.place (expr_of x)) c.in_ok-new.ensures.ok))

-- ---- brackets

pub opened-returns-clause-ok : goal.opened-returns-clause-ok
opened-returns-clause-ok t c = IfOk-weaker c.bracketed.result _ _ (λ e x. read (next (bracket_takes c.args.depth (left c.args.self.now) (left c.take.new.self) c.requires.is c.take.ensures.taken) x)) c.bracketed.ensures.ok

pub opened-returns-clause-misses : goal.opened-returns-clause-misses
opened-returns-clause-misses t c = IfErr-weaker c.bracketed.result _ _ (λ e x. missed e (bracket_takes c.args.depth (left c.args.self.now) (left c.take.new.self) c.requires.is c.take.ensures.taken) _ x) c.bracketed.ensures.misses

pub bracketed-returns-in_err-mark-clause-misses : goal.bracketed-returns-in_err-mark-clause-misses
bracketed-returns-in_err-mark-clause-misses t c =
    let p = err_from_is_err_and c.from_residual.result c.from_residual.ensures.1 in
    rw (p.1, p.2) (missed _ (cast_takes c.args.place c.args.depth c.in-Some.to (left c.args.self.now) (left c.take.new.self) (sym c.cast_by.ensures ∙ c.in-Some.is) c.take.ensures.taken) _ c.in_err-mark.ensures.misses)

pub bracketed-returns-in_err-operand-clause-misses : goal.bracketed-returns-in_err-operand-clause-misses
bracketed-returns-in_err-operand-clause-misses t c =
    let p = err_from_is_err_and c.from_residual-in_err-operand.result c.from_residual-in_err-operand.ensures.1 in
    rw (p.1, p.2) (missed _ (next (cast_takes c.args.place c.args.depth c.in-Some.to (left c.args.self.now) (left c.take.new.self) (sym c.cast_by.ensures ∙ c.in-Some.is) c.take.ensures.taken) c.in_ok-mark.ensures.ok) _ c.in_err-operand.ensures.misses)

pub bracketed-returns-in-Some-clause-ok : goal.bracketed-returns-in-Some-clause-ok
bracketed-returns-in-Some-clause-ok t c = read_as (next (next (cast_takes c.args.place c.args.depth c.in-Some.to (left c.args.self.now) (left c.take.new.self) (sym c.cast_by.ensures ∙ c.in-Some.is) c.take.ensures.taken) c.in_ok-mark.ensures.ok) c.in_ok-operand.ensures.ok) (sym (ap (λ (x : WrittenExpr). Converted c.in-Some.to c.args.place (expr_of x)) c.in_ok-new.ensures.ok))

pub bracketed-returns-in_err-inner-clause-misses : goal.bracketed-returns-in_err-inner-clause-misses
bracketed-returns-in_err-inner-clause-misses t c =
    let p = err_from_is_err_and c.from_residual-in_err-inner.result c.from_residual-in_err-inner.ensures.1 in
    rw (p.1, p.2) (missed _ (bracketed_begins c.args.place c.args.depth (left c.args.self.now) (sym c.cast_by.ensures ∙ c.in_default.is)) _ c.in_err-inner.ensures.misses)

pub bracketed-returns-in_err-mark-2-clause-misses : goal.bracketed-returns-in_err-mark-2-clause-misses
bracketed-returns-in_err-mark-2-clause-misses t c =
    let p = err_from_is_err_and c.from_residual-in_err-mark-2.result c.from_residual-in_err-mark-2.ensures.1 in
    rw (p.1, p.2) (missed _ (next (bracketed_begins c.args.place c.args.depth (left c.args.self.now) (sym c.cast_by.ensures ∙ c.in_default.is)) c.in_ok-inner.ensures.ok) _ c.in_err-mark-2.ensures.misses)

pub bracketed-returns-clause-ok : goal.bracketed-returns-clause-ok
bracketed-returns-clause-ok t c = read (next (next (bracketed_begins c.args.place c.args.depth (left c.args.self.now) (sym c.cast_by.ensures ∙ c.in_default.is)) c.in_ok-inner.ensures.ok) c.in_ok-mark-2.ensures.ok)

pub cast_operand-returns-then-depth-ge-MOST_OPEN-clause-misses : goal.cast_operand-returns-then-depth-ge-MOST_OPEN-clause-misses
cast_operand-returns-then-depth-ge-MOST_OPEN-clause-misses t c = cast_operand_bars c.args.place c.args.depth (left c.args.self.now) c.if-depth-ge-MOST_OPEN.true

pub cast_operand-returns-clause-ok : goal.cast_operand-returns-clause-ok
cast_operand-returns-clause-ok t c = IfOk-weaker c.operand.result _ _ (λ e x. read (next (cast_operand_begins c.args.place c.args.depth (left c.args.self.now) c.if-depth-ge-MOST_OPEN.false) x)) c.operand.ensures.ok

pub cast_operand-returns-clause-misses : goal.cast_operand-returns-clause-misses
cast_operand-returns-clause-misses t c = IfErr-weaker c.operand.result _ _ (λ e x. missed e (cast_operand_begins c.args.place c.args.depth (left c.args.self.now) c.if-depth-ge-MOST_OPEN.false) _ x) c.operand.ensures.misses

-- ---- names and their indices

pub accessed-named-requires : goal.accessed-named-requires
accessed-named-requires t c = name_is_word c.args.self.now.token.kind c.args.self.now.token.text.now c.requires.is

pub accessed-returns-in_err-indices-clause-misses : goal.accessed-returns-in_err-indices-clause-misses
accessed-returns-in_err-indices-clause-misses t c =
    let p = err_from_is_err_and c.from_residual-in_err-indices.result c.from_residual-in_err-indices.ensures.1 in
    rw (p.1, p.2) (missed _ (name_takes c.args.depth (left c.args.self.now) (left c.take.new.self) c.requires.is c.take.ensures.taken) _ c.in_err-indices.ensures.misses)

pub accessed-returns-clause-ok : goal.accessed-returns-clause-ok
accessed-returns-clause-ok t c = read_as (next (name_takes c.args.depth (left c.args.self.now) (left c.take.new.self) c.requires.is c.take.ensures.taken) c.in_ok-indices.ensures.ok) (ap (λ n. Access n (exprs_of c.in_ok-indices.indices.items)) (sym c.in_ok-name.ensures) ∙ sym (element_value c.in_ok-name.name c.in_ok-indices.indices))

pub indices-loop-room-init : goal.indices-loop-room-init
indices-loop-room-init t c = record { leads = valued (λ vs. ap (λ (es : List WrittenExpr). before es vs.0) (sym c.new-indices.ensures.items)) (starts (Indices c.args.most c.args.depth) (left c.args.self.now)); same = refl }

pub indices-returns-then-not-next_is-clause-ok : goal.indices-returns-then-not-next_is-clause-ok
indices-returns-then-not-next_is-clause-ok t c = read_as (last c.loop-room.invariant.leads (indices_end c.loop-room.room c.args.depth (left c.loop-room.self) (sym c.next_is.ensures ∙ c.if-not-next_is.true))) (before_none c.loop-room.indices.items)

pub indices-returns-in_err-expression-clause-misses : goal.indices-returns-in_err-expression-clause-misses
indices-returns-in_err-expression-clause-misses t c =
    let p = err_from_is_err_and c.from_residual.result c.from_residual.ensures.1 in
    rw (p.1, p.2) (missed _ (last c.loop-room.invariant.leads (index_takes c.loop-room.room (c.loop-room.room - 1) c.args.depth (left c.loop-room.self) (left c.take.new.self) (omega arith) (sym c.next_is.ensures ∙ c.if-not-next_is.false) c.take.ensures.taken)) _ c.in_err-expression.ensures.misses)

pub indices-returns-in_err-mark-clause-misses : goal.indices-returns-in_err-mark-clause-misses
indices-returns-in_err-mark-clause-misses t c =
    let p = err_from_is_err_and c.from_residual-in_err-mark.result c.from_residual-in_err-mark.ensures.1 in
    rw (p.1, p.2) (missed _ (next (last c.loop-room.invariant.leads (index_takes c.loop-room.room (c.loop-room.room - 1) c.args.depth (left c.loop-room.self) (left c.take.new.self) (omega arith) (sym c.next_is.ensures ∙ c.if-not-next_is.false) c.take.ensures.taken)) c.in_ok-expression.ensures.ok) _ c.in_err-mark.ensures.misses)

pub indices-loop-room-preserved : goal.indices-loop-room-preserved
indices-loop-room-preserved t c = record {
  leads = valued (λ vs. sym (ap (λ (es : List WrittenExpr). before es vs.0) c.in_ok-push.ensures.items ∙ before_push c.loop-room.indices.items c.in_ok-expression.field-0 vs.0)) (last c.loop-room.invariant.leads (next (next (index_takes c.loop-room.room (c.loop-room.room - 1) c.args.depth (left c.loop-room.self) (left c.take.new.self) (omega arith) (sym c.next_is.ensures ∙ c.if-not-next_is.false) c.take.ensures.taken) c.in_ok-expression.ensures.ok) c.in_ok-mark.ensures.ok));
  same = c.mark.ensures.same ∙ c.expression.ensures.same ∙ c.take.ensures.same ∙ c.loop-room.invariant.same;
}

pub indices-returns-clause-ok : goal.indices-returns-clause-ok
indices-returns-clause-ok t c = read_as (last c.loop-room.invariant.leads (indices_full c.loop-room.room c.args.depth (left c.loop-room.self) (omega arith))) (before_none c.loop-room.indices.items)

-- ---- functions

pub input-returns-in_err-mark-clause-misses : goal.input-returns-in_err-mark-clause-misses
input-returns-in_err-mark-clause-misses t c =
    let p = err_from_is_err_and c.from_residual.result c.from_residual.ensures.1 in
    rw (p.1, p.2) (missed _ (input_takes c.args.depth (left c.args.self.now) (left c.take.new.self) c.requires.is c.take.ensures.taken) _ c.in_err-mark.ensures.misses)

pub input-returns-in_err-port-clause-misses : goal.input-returns-in_err-port-clause-misses
input-returns-in_err-port-clause-misses t c =
    let p = err_from_is_err_and c.from_residual-in_err-port.result c.from_residual-in_err-port.ensures.1 in
    rw (p.1, p.2) (missed _ (next (input_takes c.args.depth (left c.args.self.now) (left c.take.new.self) c.requires.is c.take.ensures.taken) c.in_ok-mark.ensures.ok) _ c.in_err-port.ensures.misses)

pub input-returns-in_err-mark-2-clause-misses : goal.input-returns-in_err-mark-2-clause-misses
input-returns-in_err-mark-2-clause-misses t c =
    let p = err_from_is_err_and c.from_residual-in_err-mark-2.result c.from_residual-in_err-mark-2.ensures.1 in
    rw (p.1, p.2) (missed _ (next (next (input_takes c.args.depth (left c.args.self.now) (left c.take.new.self) c.requires.is c.take.ensures.taken) c.in_ok-mark.ensures.ok) c.in_ok-port.ensures.ok) _ c.in_err-mark-2.ensures.misses)

pub input-returns-clause-ok : goal.input-returns-clause-ok
input-returns-clause-ok t c = read_as (next (next (next (input_takes c.args.depth (left c.args.self.now) (left c.take.new.self) c.requires.is c.take.ensures.taken) c.in_ok-mark.ensures.ok) c.in_ok-port.ensures.ok) c.in_ok-mark-2.ensures.ok) (sym (ap (λ (x : WrittenExpr). Input c.args.self.now.token.place (expr_of x)) c.in_ok-new.ensures.ok))

pub picked-returns-in_err-mark-clause-misses : goal.picked-returns-in_err-mark-clause-misses
picked-returns-in_err-mark-clause-misses t c =
    let p = err_from_is_err_and c.from_residual.result c.from_residual.ensures.1 in
    rw (p.1, p.2) (missed _ (pick_takes c.args.depth c.args.pick (left c.args.self.now) (left c.take.new.self) c.requires.is c.take.ensures.taken) _ c.in_err-mark.ensures.misses)

pub picked-returns-in_err-first-clause-misses : goal.picked-returns-in_err-first-clause-misses
picked-returns-in_err-first-clause-misses t c =
    let p = err_from_is_err_and c.from_residual-in_err-first.result c.from_residual-in_err-first.ensures.1 in
    rw (p.1, p.2) (missed _ (next (pick_takes c.args.depth c.args.pick (left c.args.self.now) (left c.take.new.self) c.requires.is c.take.ensures.taken) c.in_ok-mark.ensures.ok) _ c.in_err-first.ensures.misses)

pub picked-returns-in_err-mark-2-clause-misses : goal.picked-returns-in_err-mark-2-clause-misses
picked-returns-in_err-mark-2-clause-misses t c =
    let p = err_from_is_err_and c.from_residual-in_err-mark-2.result c.from_residual-in_err-mark-2.ensures.1 in
    rw (p.1, p.2) (missed _ (next (next (pick_takes c.args.depth c.args.pick (left c.args.self.now) (left c.take.new.self) c.requires.is c.take.ensures.taken) c.in_ok-mark.ensures.ok) c.in_ok-first.ensures.ok) _ c.in_err-mark-2.ensures.misses)

pub picked-returns-in_err-second-clause-misses : goal.picked-returns-in_err-second-clause-misses
picked-returns-in_err-second-clause-misses t c =
    let p = err_from_is_err_and c.from_residual-in_err-second.result c.from_residual-in_err-second.ensures.1 in
    rw (p.1, p.2) (missed _ (next (next (next (pick_takes c.args.depth c.args.pick (left c.args.self.now) (left c.take.new.self) c.requires.is c.take.ensures.taken) c.in_ok-mark.ensures.ok) c.in_ok-first.ensures.ok) c.in_ok-mark-2.ensures.ok) _ c.in_err-second.ensures.misses)

pub picked-returns-in_err-mark-3-clause-misses : goal.picked-returns-in_err-mark-3-clause-misses
picked-returns-in_err-mark-3-clause-misses t c =
    let p = err_from_is_err_and c.from_residual-in_err-mark-3.result c.from_residual-in_err-mark-3.ensures.1 in
    rw (p.1, p.2) (missed _ (next (next (next (next (pick_takes c.args.depth c.args.pick (left c.args.self.now) (left c.take.new.self) c.requires.is c.take.ensures.taken) c.in_ok-mark.ensures.ok) c.in_ok-first.ensures.ok) c.in_ok-mark-2.ensures.ok) c.in_ok-second.ensures.ok) _ c.in_err-mark-3.ensures.misses)

pub picked-returns-clause-ok : goal.picked-returns-clause-ok
picked-returns-clause-ok t c = read_as (next (next (next (next (next (pick_takes c.args.depth c.args.pick (left c.args.self.now) (left c.take.new.self) c.requires.is c.take.ensures.taken) c.in_ok-mark.ensures.ok) c.in_ok-first.ensures.ok) c.in_ok-mark-2.ensures.ok) c.in_ok-second.ensures.ok) c.in_ok-mark-3.ensures.ok) (picked_is _ _ _ _ _ _ c.in_ok-new.ensures.ok c.in_ok-new-2.ensures.ok)
