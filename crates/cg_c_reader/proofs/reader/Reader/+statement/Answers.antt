use Rattle.std.proofs.Common.{refl, ap, sym, ◌∙◌, arith}
use Rattle.std.proofs.lemmas.Result.{err_from_is_err_and}
use Rattle.std.proofs.Common.{◌≡◌, List, [], rules}
use Rattle.std.proofs.lemmas.Result.{IfOk-weaker, IfErr-weaker}
use Rattle.cg_c_syntax.specs.declared.statement.Stmt.{Stmt as WrittenStmt}
use Rattle.cg_c_syntax.specs.Symbols.{Statement, Statements, Else}
use Rattle.cg_c_syntax.specs.Words.{whole}
use Rattle.cg_c_syntax.specs.Grammar.{statement_step}
use Rattle.cg_c_syntax.specs.Written.{before}
use Rattle.cg_c_reader.specs.Left.{left}
use Rattle.cg_c_reader.proofs.Single.{if_true, if_false}
use Rattle.cg_c_reader.proofs.Leading.{takes, begins, next, last, valued, starts, read, read_as, missed}
use Rattle.cg_c_reader.proofs.Composed.{fails_stops, fails_bars}
use Rattle.cg_c_syntax.specs.declared.opening.Beginning.TheVariants as beginnings
use Rattle.cg_c_reader.proofs.Beginning.{plain_is, plain_free, plain_full, block_takes, if_takes}
use Rattle.cg_c_reader.proofs.Lists.{before_push}
use Rattle.cg_c_reader.proofs.Shorter.{plain_shorter, declared_shorter}
use Rattle.cg_c_reader.proofs.reader.Reader.+statement.Goals as goal

pub block-returns-then-depth-ge-MOST_OPEN-clause-misses : goal.block-returns-then-depth-ge-MOST_OPEN-clause-misses
block-returns-then-depth-ge-MOST_OPEN-clause-misses t c = fails_bars (left c.args.self.now) (plain_full c.args.depth (left c.args.self.now).head beginnings.Block c.requires.is refl c.if-depth-ge-MOST_OPEN.true)

pub block-statements-requires : goal.block-statements-requires
block-statements-requires t c = (search rules, omega arith)

pub block-returns-in_err-stmts-clause-misses : goal.block-returns-in_err-stmts-clause-misses
block-returns-in_err-stmts-clause-misses t c =
    let p = err_from_is_err_and c.from_residual.result c.from_residual.ensures.1 in
    rw (p.1, p.2) (missed _ (block_takes c.args.depth (left c.args.self.now) (left c.take.new.self) c.requires.is c.if-depth-ge-MOST_OPEN.false c.take.ensures.taken) _ c.in_err-stmts.ensures.misses)

pub block-returns-clause-ok : goal.block-returns-clause-ok
block-returns-clause-ok t c = read_as (next (block_takes c.args.depth (left c.args.self.now) (left c.take.new.self) c.requires.is c.if-depth-ge-MOST_OPEN.false c.take.ensures.taken) c.in_ok-stmts.ensures.ok) (sym c.braced.ensures)

pub branched-returns-then-depth-ge-MOST_OPEN-clause-misses : goal.branched-returns-then-depth-ge-MOST_OPEN-clause-misses
branched-returns-then-depth-ge-MOST_OPEN-clause-misses t c = fails_bars (left c.args.self.now) (plain_full c.args.depth (left c.args.self.now).head beginnings.If c.requires.is refl c.if-depth-ge-MOST_OPEN.true)

pub branched-plain-requires : goal.branched-plain-requires
branched-plain-requires t c = (search rules, omega arith)

pub branched-otherwise-requires : goal.branched-otherwise-requires
branched-otherwise-requires t c = (search rules, omega arith)

pub branched-returns-in_err-mark-clause-misses : goal.branched-returns-in_err-mark-clause-misses
branched-returns-in_err-mark-clause-misses t c =
    let p = err_from_is_err_and c.from_residual.result c.from_residual.ensures.1 in
    rw (p.1, p.2) (missed _ (if_takes c.args.depth (left c.args.self.now) (left c.take.new.self) c.requires.is c.if-depth-ge-MOST_OPEN.false c.take.ensures.taken) _ c.in_err-mark.ensures.misses)

pub branched-returns-in_err-condition-clause-misses : goal.branched-returns-in_err-condition-clause-misses
branched-returns-in_err-condition-clause-misses t c =
    let p = err_from_is_err_and c.from_residual-in_err-condition.result c.from_residual-in_err-condition.ensures.1 in
    rw (p.1, p.2) (missed _ (next (if_takes c.args.depth (left c.args.self.now) (left c.take.new.self) c.requires.is c.if-depth-ge-MOST_OPEN.false c.take.ensures.taken) c.in_ok-mark.ensures.ok) _ c.in_err-condition.ensures.misses)

pub branched-returns-in_err-mark-2-clause-misses : goal.branched-returns-in_err-mark-2-clause-misses
branched-returns-in_err-mark-2-clause-misses t c =
    let p = err_from_is_err_and c.from_residual-in_err-mark-2.result c.from_residual-in_err-mark-2.ensures.1 in
    rw (p.1, p.2) (missed _ (next (next (if_takes c.args.depth (left c.args.self.now) (left c.take.new.self) c.requires.is c.if-depth-ge-MOST_OPEN.false c.take.ensures.taken) c.in_ok-mark.ensures.ok) c.in_ok-condition.ensures.ok) _ c.in_err-mark-2.ensures.misses)

pub branched-returns-in_err-chosen-clause-misses : goal.branched-returns-in_err-chosen-clause-misses
branched-returns-in_err-chosen-clause-misses t c =
    let p = err_from_is_err_and c.from_residual-in_err-chosen.result c.from_residual-in_err-chosen.ensures.1 in
    rw (p.1, p.2) (missed _ (next (next (next (if_takes c.args.depth (left c.args.self.now) (left c.take.new.self) c.requires.is c.if-depth-ge-MOST_OPEN.false c.take.ensures.taken) c.in_ok-mark.ensures.ok) c.in_ok-condition.ensures.ok) c.in_ok-mark-2.ensures.ok) _ c.in_err-chosen.ensures.misses)

pub branched-returns-in_err-other-clause-misses : goal.branched-returns-in_err-other-clause-misses
branched-returns-in_err-other-clause-misses t c =
    let p = err_from_is_err_and c.from_residual-in_err-other.result c.from_residual-in_err-other.ensures.1 in
    rw (p.1, p.2) (missed _ (next (next (next (next (if_takes c.args.depth (left c.args.self.now) (left c.take.new.self) c.requires.is c.if-depth-ge-MOST_OPEN.false c.take.ensures.taken) c.in_ok-mark.ensures.ok) c.in_ok-condition.ensures.ok) c.in_ok-mark-2.ensures.ok) c.in_ok-chosen.ensures.ok) _ c.in_err-other.ensures.misses)

pub branched-returns-clause-ok : goal.branched-returns-clause-ok
branched-returns-clause-ok t c = read_as (next (next (next (next (next (if_takes c.args.depth (left c.args.self.now) (left c.take.new.self) c.requires.is c.if-depth-ge-MOST_OPEN.false c.take.ensures.taken) c.in_ok-mark.ensures.ok) c.in_ok-condition.ensures.ok) c.in_ok-mark-2.ensures.ok) c.in_ok-chosen.ensures.ok) c.in_ok-other.ensures.ok) (sym c.in_ok-either.ensures)

pub otherwise-plain-requires : goal.otherwise-plain-requires
otherwise-plain-requires t c = (search rules, omega arith)

pub otherwise-returns-in_err-stmt-clause-misses : goal.otherwise-returns-in_err-stmt-clause-misses
otherwise-returns-in_err-stmt-clause-misses t c =
    let p = err_from_is_err_and c.from_residual.result c.from_residual.ensures.1 in
    rw (p.1, p.2) (missed _ (takes {s = Else c.args.depth} _ refl (if_true _ _ (sym c.next_is_word.ensures ∙ c.if-next_is_word.true)) c.take.ensures.taken) _ c.in_err-stmt.ensures.misses)

pub otherwise-returns-in_ok-stmt-clause-ok : goal.otherwise-returns-in_ok-stmt-clause-ok
otherwise-returns-in_ok-stmt-clause-ok t c = read (next (takes {s = Else c.args.depth} _ refl (if_true _ _ (sym c.next_is_word.ensures ∙ c.if-next_is_word.true)) c.take.ensures.taken) c.in_ok-stmt.ensures.ok)

pub otherwise-returns-else-next_is_word-clause-ok : goal.otherwise-returns-else-next_is_word-clause-ok
otherwise-returns-else-next_is_word-clause-ok t c = read (begins {s = Else c.args.depth} _ refl (if_false _ _ (sym c.next_is_word.ensures ∙ c.if-next_is_word.false)))

pub plain-block-requires : goal.plain-block-requires
plain-block-requires t c = (search rules, (c.requires, (sym c.beginning_by.ensures ∙ c.in-Block.is)))

pub plain-branched-requires : goal.plain-branched-requires
plain-branched-requires t c = (search rules, (c.requires, (sym c.beginning_by.ensures ∙ c.in-If.is)))

pub plain-returns-in-Nothing-clause-misses : goal.plain-returns-in-Nothing-clause-misses
plain-returns-in-Nothing-clause-misses t c = fails_stops (left c.args.self.now) (plain_free c.args.depth (left c.args.self.now).head beginnings.Nothing (sym c.beginning_by.ensures ∙ c.in-Nothing.is) refl) (plain_is c.args.depth (left c.args.self.now).head beginnings.Nothing (sym c.beginning_by.ensures ∙ c.in-Nothing.is))

pub statement-plain-requires : goal.statement-plain-requires
statement-plain-requires t c = (search rules, c.requires)

pub statement-returns-in-None-clause-ok : goal.statement-returns-in-None-clause-ok
statement-returns-in-None-clause-ok t c = IfOk-weaker c.plain.result _ _ (λ s r. read (next (begins {s = Statement c.args.depth} _ refl (ap (statement_step c.args.depth) (ap whole (sym c.cast_by.ensures) ∙ sym c.whole.ensures ∙ c.in-None.is))) r)) c.plain.ensures.ok

pub statement-returns-in-None-clause-less : goal.statement-returns-in-None-clause-less
statement-returns-in-None-clause-less t c = IfOk-weaker c.plain.result _ _ (λ s r. plain_shorter r) c.plain.ensures.ok

pub statement-returns-in-Some-clause-less : goal.statement-returns-in-Some-clause-less
statement-returns-in-Some-clause-less t c = IfOk-weaker c.declared.result _ _ (λ s r. declared_shorter c.in-Some.signedness (ap whole (sym c.cast_by.ensures) ∙ sym c.whole.ensures ∙ c.in-Some.is) r) c.declared.ensures.ok

pub statement-returns-in-None-clause-misses : goal.statement-returns-in-None-clause-misses
statement-returns-in-None-clause-misses t c = IfErr-weaker c.plain.result _ _ (λ e m. missed e (begins {s = Statement c.args.depth} _ refl (ap (statement_step c.args.depth) (ap whole (sym c.cast_by.ensures) ∙ sym c.whole.ensures ∙ c.in-None.is))) _ m) c.plain.ensures.misses

pub statements-loop-alloc-init : goal.statements-loop-alloc-init
statements-loop-alloc-init t c = record { leads = valued (λ vs. ap (λ (x : List WrittenStmt). before x vs.0) (let e : [] ≡ c.new-stmts.result.items = search rules in e)) (starts (Statements c.args.depth) (left c.args.self.now)); same = refl }

pub statements-statement-requires : goal.statements-statement-requires
statements-statement-requires t c = (search rules, c.requires)

pub statements-returns-in_err-statement-clause-misses : goal.statements-returns-in_err-statement-clause-misses
statements-returns-in_err-statement-clause-misses t c =
    let p = err_from_is_err_and c.from_residual.result c.from_residual.ensures.1 in
    rw (p.1, p.2) (missed _ (last c.loop-alloc.invariant.leads (begins {s = Statements c.args.depth} _ refl (if_false _ _ (sym c.next_is.ensures ∙ c.loop-alloc-test.true)))) _ c.in_err-statement.ensures.misses)

pub statements-returns-in_err-statement-clause-same : goal.statements-returns-in_err-statement-clause-same
statements-returns-in_err-statement-clause-same t c = c.in_err-statement.ensures.same ∙ c.loop-alloc.invariant.same

pub statements-loop-alloc-smaller : goal.statements-loop-alloc-smaller
statements-loop-alloc-smaller t c = c.in_ok-statement.ensures.less

pub statements-loop-alloc-preserved : goal.statements-loop-alloc-preserved
statements-loop-alloc-preserved t c = record {
  leads = valued (λ vs. sym (before_push c.loop-alloc.stmts.items c.in_ok-statement.field-0 vs.0) ∙ ap (λ (x : List WrittenStmt). before x vs.0) (sym c.in_ok-push.ensures.items)) (last c.loop-alloc.invariant.leads (next (begins {s = Statements c.args.depth} _ refl (if_false _ _ (sym c.next_is.ensures ∙ c.loop-alloc-test.true))) c.in_ok-statement.ensures.ok));
  same = c.in_ok-statement.ensures.same ∙ c.loop-alloc.invariant.same;
}

pub statements-returns-in_err-push-clause-same : goal.statements-returns-in_err-push-clause-same
statements-returns-in_err-push-clause-same t c = c.in_ok-statement.ensures.same ∙ c.loop-alloc.invariant.same

pub statements-returns-clause-ok : goal.statements-returns-clause-ok
statements-returns-clause-ok t c = read (last c.loop-alloc.invariant.leads (takes {s = Statements c.args.depth} _ refl (if_true _ _ (sym c.next_is.ensures ∙ c.loop-alloc-test.false)) c.take.ensures.taken))

pub statements-returns-clause-same : goal.statements-returns-clause-same
statements-returns-clause-same t c = c.take.ensures.same ∙ c.loop-alloc.invariant.same
