use Rattle.std.proofs.Common.{refl, ap, sym, ◌∙◌}
use Rattle.std.proofs.lemmas.Result.{err_from_is_err_and}
use Rattle.std.proofs.Common.{◌≡◌, List, [], rules}
use Rattle.cg_c_syntax.specs.declared.statement.Stmt.{Stmt as WrittenStmt}
use Rattle.cg_c_syntax.specs.Tree.{Stmts}
use Rattle.cg_c_syntax.specs.Symbols.{Body}
use Rattle.cg_c_syntax.specs.Written.{before}
use Rattle.cg_c_reader.specs.Left.{left}
use Rattle.cg_c_reader.proofs.Single.{if_true, if_false}
use Rattle.cg_c_reader.proofs.Leading.{begins, next, last, valued, starts, read, missed}
use Rattle.cg_c_reader.proofs.Lists.{before_push}
use Rattle.cg_c_reader.proofs.reader.Reader.body.Goals as goal

pub loop-before-init : goal.loop-before-init
loop-before-init c = record { leads = valued (λ vs. ap (λ (x : List WrittenStmt). record { before = before x vs.0.before; outer = vs.0.outer; after = vs.0.after }) (let e : [] ≡ c.new-before.result.items = search rules in e)) (starts Body (left c.args.self.now)); same = refl }

pub returns-in_err-statement-clause-misses : goal.returns-in_err-statement-clause-misses
returns-in_err-statement-clause-misses c =
    let p = err_from_is_err_and c.from_residual.result c.from_residual.ensures.1 in
    rw (p.1, p.2) (missed _ (last c.loop-before.invariant.leads (begins {s = Body} _ refl (if_false _ _ (sym c.next_is_word.ensures ∙ c.loop-before-test.true)))) _ c.in_err-statement.ensures.misses)

pub returns-in_err-statement-clause-same : goal.returns-in_err-statement-clause-same
returns-in_err-statement-clause-same c = c.in_err-statement.ensures.same ∙ c.loop-before.invariant.same

pub loop-before-smaller : goal.loop-before-smaller
loop-before-smaller c = c.in_ok-statement.ensures.less

pub loop-before-preserved : goal.loop-before-preserved
loop-before-preserved c = record {
  leads = valued (λ vs. ap (λ (x : Stmts). record { before = x; outer = vs.0.outer; after = vs.0.after }) (sym (before_push c.loop-before.before.items c.in_ok-statement.field-0 vs.0.before)) ∙ ap (λ (x : List WrittenStmt). record { before = before x vs.0.before; outer = vs.0.outer; after = vs.0.after }) (sym c.in_ok-push.ensures.items)) (last c.loop-before.invariant.leads (next (begins {s = Body} _ refl (if_false _ _ (sym c.next_is_word.ensures ∙ c.loop-before-test.true))) c.in_ok-statement.ensures.ok));
  same = c.in_ok-statement.ensures.same ∙ c.loop-before.invariant.same;
}

pub returns-in_err-push-clause-same : goal.returns-in_err-push-clause-same
returns-in_err-push-clause-same c = c.in_ok-statement.ensures.same ∙ c.loop-before.invariant.same

pub returns-in_err-outer-clause-misses : goal.returns-in_err-outer-clause-misses
returns-in_err-outer-clause-misses c =
    let p = err_from_is_err_and c.from_residual-in_err-outer.result c.from_residual-in_err-outer.ensures.1 in
    rw (p.1, p.2) (missed _ (last c.loop-before.invariant.leads (begins {s = Body} _ refl (if_true _ _ (sym c.next_is_word.ensures ∙ c.loop-before-test.false)))) _ c.in_err-outer.ensures.misses)

pub returns-in_err-outer-clause-same : goal.returns-in_err-outer-clause-same
returns-in_err-outer-clause-same c = c.in_err-outer.ensures.same ∙ c.loop-before.invariant.same

pub returns-in_err-after-clause-misses : goal.returns-in_err-after-clause-misses
returns-in_err-after-clause-misses c =
    let p = err_from_is_err_and c.from_residual-in_err-after.result c.from_residual-in_err-after.ensures.1 in
    rw (p.1, p.2) (missed _ (next (last c.loop-before.invariant.leads (begins {s = Body} _ refl (if_true _ _ (sym c.next_is_word.ensures ∙ c.loop-before-test.false)))) c.in_ok-outer.ensures.ok) _ c.in_err-after.ensures.misses)

pub returns-in_err-after-clause-same : goal.returns-in_err-after-clause-same
returns-in_err-after-clause-same c = c.in_err-after.ensures.same ∙ c.in_ok-outer.ensures.same ∙ c.loop-before.invariant.same

pub returns-clause-ok : goal.returns-clause-ok
returns-clause-ok c = read (last c.loop-before.invariant.leads (next (next (begins {s = Body} _ refl (if_true _ _ (sym c.next_is_word.ensures ∙ c.loop-before-test.false))) c.in_ok-outer.ensures.ok) c.in_ok-after.ensures.ok))

pub returns-clause-same : goal.returns-clause-same
returns-clause-same c = c.in_ok-after.ensures.same ∙ c.in_ok-outer.ensures.same ∙ c.loop-before.invariant.same
