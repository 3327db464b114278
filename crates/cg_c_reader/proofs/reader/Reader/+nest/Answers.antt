use Rattle.std.proofs.Common.{refl, ap, sym, ◌∙◌, arith}
use Rattle.std.proofs.lemmas.Result.{err_from_is_err_and}
use Rattle.std.proofs.Common.{◌≡◌, List, [], rules}
use Rattle.std.proofs.lemmas.Result.{IfOk-weaker, IfErr-weaker}
use Rattle.cg_c_syntax.specs.declared.statement.Stmt.{Stmt as WrittenStmt}
use Rattle.cg_c_syntax.specs.Symbols.{Counter, Inside, Nested}
use Rattle.cg_c_syntax.specs.Written.{stmts_of, loop_of, nest_of}
use Rattle.cg_c_reader.specs.Parts.{preceding, head_of}
use Rattle.cg_c_reader.specs.Left.{left}
use Rattle.cg_c_reader.proofs.Single.{if_true, if_false}
use Rattle.cg_c_reader.proofs.Leading.{takes, begins, next, last, valued, starts, read, read_as, missed}
use Rattle.cg_c_reader.proofs.Composed.{fails_stops, fails_bars}
use Rattle.cg_c_reader.proofs.Beginning.{above_limit, for_takes}
use Rattle.cg_c_reader.proofs.Lists.{preceding_push, preceding_bare, preceding_holds}
use Rattle.cg_c_reader.proofs.reader.Reader.+nest.Goals as goal

pub counted-inside-requires : goal.counted-inside-requires
counted-inside-requires t c = (search rules, c.requires)

pub counted-returns-in_err-body-clause-misses : goal.counted-returns-in_err-body-clause-misses
counted-returns-in_err-body-clause-misses t c =
    let p = err_from_is_err_and c.from_residual-in_err-body.result c.from_residual-in_err-body.ensures.1 in
    rw (p.1, p.2) (missed _ (c.in_ok-range.ensures.ok (Counter c.args.depth) _ _ c.in_ok-start.ensures.ok) _ c.in_err-body.ensures.misses)

pub counted-returns-clause-ok : goal.counted-returns-clause-ok
counted-returns-clause-ok t c = record { parts = record { head = head_of c.in_ok-start.start c.in_ok-range.range; body = nest_of c.in_ok-body.body }; value = sym c.whole_loop.ensures; reads = read (next (c.in_ok-range.ensures.ok (Counter c.args.depth) _ _ c.in_ok-start.ensures.ok) c.in_ok-body.ensures.ok) }

pub inside-nested-requires : goal.inside-nested-requires
inside-nested-requires t c = (search rules, c.requires)

pub inside-returns-then-next_is-clause-ok : goal.inside-returns-then-next_is-clause-ok
inside-returns-then-next_is-clause-ok t c = IfOk-weaker c.nested.result _ _ (λ n r. read (next (takes {s = Inside c.args.depth} _ refl (if_true _ _ (sym c.next_is.ensures ∙ c.if-next_is.true)) c.take.ensures.taken) r)) c.nested.ensures.ok

pub inside-returns-then-next_is-clause-misses : goal.inside-returns-then-next_is-clause-misses
inside-returns-then-next_is-clause-misses t c = IfErr-weaker c.nested.result _ _ (λ e m. missed e (takes {s = Inside c.args.depth} _ refl (if_true _ _ (sym c.next_is.ensures ∙ c.if-next_is.true)) c.take.ensures.taken) _ m) c.nested.ensures.misses

pub inside-looped-requires : goal.inside-looped-requires
inside-looped-requires t c = (search rules, c.requires)

pub inside-returns-in_err-inner-clause-misses : goal.inside-returns-in_err-inner-clause-misses
inside-returns-in_err-inner-clause-misses t c =
    let p = err_from_is_err_and c.from_residual.result c.from_residual.ensures.1 in
    rw (p.1, p.2) (missed _ (begins {s = Inside c.args.depth} _ refl (if_false _ _ (sym c.next_is.ensures ∙ c.if-next_is.false) ∙ if_true _ _ (sym c.next_is_word.ensures ∙ c.if-next_is_word.true))) _ c.in_err-inner.ensures.misses)

pub inside-returns-then-next_is_word-clause-ok : goal.inside-returns-then-next_is_word-clause-ok
inside-returns-then-next_is_word-clause-ok t c = read_as (next (begins {s = Inside c.args.depth} _ refl (if_false _ _ (sym c.next_is.ensures ∙ c.if-next_is.false) ∙ if_true _ _ (sym c.next_is_word.ensures ∙ c.if-next_is_word.true))) c.in_ok-inner.ensures.ok) (sym c.in_ok-alone.ensures)

pub inside-returns-in_err-stmt-clause-misses : goal.inside-returns-in_err-stmt-clause-misses
inside-returns-in_err-stmt-clause-misses t c =
    let p = err_from_is_err_and c.from_residual-in_err-stmt.result c.from_residual-in_err-stmt.ensures.1 in
    rw (p.1, p.2) (missed _ (begins {s = Inside c.args.depth} _ refl (if_false _ _ (sym c.next_is.ensures ∙ c.if-next_is.false) ∙ if_false _ _ (sym c.next_is_word.ensures ∙ c.if-next_is_word.false))) _ c.in_err-stmt.ensures.misses)

pub inside-returns-clause-ok : goal.inside-returns-clause-ok
inside-returns-clause-ok t c = read_as (next (begins {s = Inside c.args.depth} _ refl (if_false _ _ (sym c.next_is.ensures ∙ c.if-next_is.false) ∙ if_false _ _ (sym c.next_is_word.ensures ∙ c.if-next_is_word.false))) c.in_ok-stmt.ensures.ok) (sym c.in_ok-single.ensures)

pub looped-returns-then-depth-ge-MOST_OPEN-clause-misses : goal.looped-returns-then-depth-ge-MOST_OPEN-clause-misses
looped-returns-then-depth-ge-MOST_OPEN-clause-misses t c = fails_bars (left c.args.self.now) (if_true _ _ (sym c.next_is_word.ensures ∙ c.if-next_is_word.true) ∙ above_limit c.args.depth (left c.args.self.now).head.place c.if-depth-ge-MOST_OPEN.true)

pub looped-returns-in_err-mark-clause-misses : goal.looped-returns-in_err-mark-clause-misses
looped-returns-in_err-mark-clause-misses t c =
    let p = err_from_is_err_and c.from_residual.result c.from_residual.ensures.1 in
    rw (p.1, p.2) (missed _ (for_takes c.args.depth (left c.args.self.now) (left c.take.new.self) (sym c.next_is_word.ensures ∙ c.if-next_is_word.true) c.if-depth-ge-MOST_OPEN.false c.take.ensures.taken) _ c.in_err-mark.ensures.misses)

pub looped-returns-in_err-counter_type-clause-misses : goal.looped-returns-in_err-counter_type-clause-misses
looped-returns-in_err-counter_type-clause-misses t c =
    let p = err_from_is_err_and c.from_residual-in_err-counter_type.result c.from_residual-in_err-counter_type.ensures.1 in
    rw (p.1, p.2) (missed _ (next (for_takes c.args.depth (left c.args.self.now) (left c.take.new.self) (sym c.next_is_word.ensures ∙ c.if-next_is_word.true) c.if-depth-ge-MOST_OPEN.false c.take.ensures.taken) c.in_ok-mark.ensures.ok) _ c.in_err-counter_type.ensures.misses)

pub looped-counted-requires : goal.looped-counted-requires
looped-counted-requires t c = (search rules, omega arith)

pub looped-returns-in_ok-counter_type-clause-ok : goal.looped-returns-in_ok-counter_type-clause-ok
looped-returns-in_ok-counter_type-clause-ok t c = IfOk-weaker c.counted.result _ _ (λ l f. read_as (next (next (next (for_takes c.args.depth (left c.args.self.now) (left c.take.new.self) (sym c.next_is_word.ensures ∙ c.if-next_is_word.true) c.if-depth-ge-MOST_OPEN.false c.take.ensures.taken) c.in_ok-mark.ensures.ok) c.in_ok-counter_type.ensures.ok) f.reads) f.value) c.counted.ensures.ok

pub looped-returns-in_ok-counter_type-clause-misses : goal.looped-returns-in_ok-counter_type-clause-misses
looped-returns-in_ok-counter_type-clause-misses t c = IfErr-weaker c.counted.result _ _ (λ e m. missed e (next (next (for_takes c.args.depth (left c.args.self.now) (left c.take.new.self) (sym c.next_is_word.ensures ∙ c.if-next_is_word.true) c.if-depth-ge-MOST_OPEN.false c.take.ensures.taken) c.in_ok-mark.ensures.ok) c.in_ok-counter_type.ensures.ok) _ m) c.counted.ensures.misses

pub looped-returns-else-next_is_word-clause-misses : goal.looped-returns-else-next_is_word-clause-misses
looped-returns-else-next_is_word-clause-misses t c = fails_stops _ (if_false _ _ (sym c.next_is_word.ensures ∙ c.if-next_is_word.false)) (if_false _ _ (sym c.next_is_word.ensures ∙ c.if-next_is_word.false))

pub nested-loop-self-init : goal.nested-loop-self-init
nested-loop-self-init t c = record { leads = valued (λ vs. ap (λ (x : List WrittenStmt). preceding x vs.0) (let e : [] ≡ c.new-before.result.items = search rules in e)) (starts (Nested c.args.depth) (left c.args.self.now)); same = refl }

pub nested-looped-requires : goal.nested-looped-requires
nested-looped-requires t c = (search rules, c.requires)

pub nested-returns-in_err-inner-clause-misses : goal.nested-returns-in_err-inner-clause-misses
nested-returns-in_err-inner-clause-misses t c =
    let p = err_from_is_err_and c.from_residual.result c.from_residual.ensures.1 in
    rw (p.1, p.2) (missed _ (last c.loop-self.invariant.leads (begins {s = Nested c.args.depth} _ refl (if_false _ _ (sym c.next_is.ensures ∙ c.loop-self-test.true) ∙ if_true _ _ (sym c.next_is_word.ensures ∙ c.if-next_is_word.true)))) _ c.in_err-inner.ensures.misses)

pub nested-returns-in_err-inner-clause-same : goal.nested-returns-in_err-inner-clause-same
nested-returns-in_err-inner-clause-same t c = c.in_err-inner.ensures.same ∙ c.loop-self.invariant.same

pub nested-returns-in_err-after-clause-misses : goal.nested-returns-in_err-after-clause-misses
nested-returns-in_err-after-clause-misses t c =
    let p = err_from_is_err_and c.from_residual-in_err-after.result c.from_residual-in_err-after.ensures.1 in
    rw (p.1, p.2) (missed _ (last c.loop-self.invariant.leads (next (begins {s = Nested c.args.depth} _ refl (if_false _ _ (sym c.next_is.ensures ∙ c.loop-self-test.true) ∙ if_true _ _ (sym c.next_is_word.ensures ∙ c.if-next_is_word.true))) c.in_ok-inner.ensures.ok)) _ c.in_err-after.ensures.misses)

pub nested-returns-in_err-after-clause-same : goal.nested-returns-in_err-after-clause-same
nested-returns-in_err-after-clause-same t c = c.in_err-after.ensures.same ∙ c.in_ok-inner.ensures.same ∙ c.loop-self.invariant.same

pub nested-returns-in_err-holding-clause-same : goal.nested-returns-in_err-holding-clause-same
nested-returns-in_err-holding-clause-same t c = c.in_ok-after.ensures.same ∙ c.in_ok-inner.ensures.same ∙ c.loop-self.invariant.same

pub nested-returns-then-next_is_word-clause-ok : goal.nested-returns-then-next_is_word-clause-ok
nested-returns-then-next_is_word-clause-ok t c = read_as (last c.loop-self.invariant.leads (next (next (begins {s = Nested c.args.depth} _ refl (if_false _ _ (sym c.next_is.ensures ∙ c.loop-self-test.true) ∙ if_true _ _ (sym c.next_is_word.ensures ∙ c.if-next_is_word.true))) c.in_ok-inner.ensures.ok) c.in_ok-after.ensures.ok)) (preceding_holds c.loop-self.before.items (loop_of c.in_ok-inner.inner) (stmts_of c.in_ok-after.after.items) ∙ sym c.in_ok-holding.ensures)

pub nested-returns-then-next_is_word-clause-same : goal.nested-returns-then-next_is_word-clause-same
nested-returns-then-next_is_word-clause-same t c = c.in_ok-after.ensures.same ∙ c.in_ok-inner.ensures.same ∙ c.loop-self.invariant.same

pub nested-returns-in_err-statement-clause-misses : goal.nested-returns-in_err-statement-clause-misses
nested-returns-in_err-statement-clause-misses t c =
    let p = err_from_is_err_and c.from_residual-in_err-statement.result c.from_residual-in_err-statement.ensures.1 in
    rw (p.1, p.2) (missed _ (last c.loop-self.invariant.leads (begins {s = Nested c.args.depth} _ refl (if_false _ _ (sym c.next_is.ensures ∙ c.loop-self-test.true) ∙ if_false _ _ (sym c.next_is_word.ensures ∙ c.if-next_is_word.false)))) _ c.in_err-statement.ensures.misses)

pub nested-returns-in_err-statement-clause-same : goal.nested-returns-in_err-statement-clause-same
nested-returns-in_err-statement-clause-same t c = c.in_err-statement.ensures.same ∙ c.loop-self.invariant.same

pub nested-loop-self-smaller : goal.nested-loop-self-smaller
nested-loop-self-smaller t c = c.in_ok-statement.ensures.less

pub nested-loop-self-preserved : goal.nested-loop-self-preserved
nested-loop-self-preserved t c = record {
  leads = valued (λ vs. sym (preceding_push c.loop-self.before.items c.in_ok-statement.field-0 vs.0) ∙ ap (λ (x : List WrittenStmt). preceding x vs.0) (sym c.in_ok-push.ensures.items)) (last c.loop-self.invariant.leads (next (begins {s = Nested c.args.depth} _ refl (if_false _ _ (sym c.next_is.ensures ∙ c.loop-self-test.true) ∙ if_false _ _ (sym c.next_is_word.ensures ∙ c.if-next_is_word.false))) c.in_ok-statement.ensures.ok));
  same = c.in_ok-statement.ensures.same ∙ c.loop-self.invariant.same;
}

pub nested-returns-in_err-push-clause-same : goal.nested-returns-in_err-push-clause-same
nested-returns-in_err-push-clause-same t c = c.in_ok-statement.ensures.same ∙ c.loop-self.invariant.same

pub nested-returns-clause-ok : goal.nested-returns-clause-ok
nested-returns-clause-ok t c = read_as (last c.loop-self.invariant.leads (takes {s = Nested c.args.depth} _ refl (if_true _ _ (sym c.next_is.ensures ∙ c.loop-self-test.false)) c.take.ensures.taken)) (preceding_bare c.loop-self.before.items ∙ sym c.bare.ensures)

pub nested-returns-clause-same : goal.nested-returns-clause-same
nested-returns-clause-same t c = c.take.ensures.same ∙ c.loop-self.invariant.same
