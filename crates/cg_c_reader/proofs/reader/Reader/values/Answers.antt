use Rattle.std.proofs.Common.{refl, ap, sym, ◌∙◌, arith}
use Rattle.std.proofs.lemmas.Result.{err_from_is_err_and}
use Rattle.std.proofs.Common.{◌≡◌, List, [], ◌∷◌, codes, rules}
use Rattle.cg_c_syntax.specs.Symbols.{Braced, MoreValues}
use Rattle.cg_c_syntax.specs.Written.{exprs_before}
use Rattle.cg_c_syntax.specs.declared.expression.Expr.{Expr as WrittenExpr}
use Rattle.cg_c_syntax.specs.Tree.{Items}
use Rattle.cg_c_reader.specs.Left.{left}
use Rattle.cg_c_reader.proofs.Single.{if_true, if_false, mark_missed}
use Rattle.cg_c_reader.proofs.Leading.{takes, next, last, valued, read_as, missed}
use Rattle.cg_c_reader.proofs.Lists.{exprs_push, exprs_none}
use Rattle.cg_c_reader.proofs.Shorter.{taken_shorter, reads_shorter}
use Rattle.cg_c_reader.proofs.reader.Reader.values.Goals as goal

pub returns-in_err-mark-clause-misses : goal.returns-in_err-mark-clause-misses
returns-in_err-mark-clause-misses c =
    let p = err_from_is_err_and c.from_residual.result c.from_residual.ensures.1 in
    rw (p.1, p.2) (mark_missed _ (Braced 0) (codes "{") c.args.self.now _ c.in_err-mark.ensures.other refl (λ h. if_false _ _ h))

pub returns-in_err-expression-clause-misses : goal.returns-in_err-expression-clause-misses
returns-in_err-expression-clause-misses c =
    let p = err_from_is_err_and c.from_residual-in_err-expression.result c.from_residual-in_err-expression.ensures.1 in
    rw (p.1, p.2) (missed _ (takes {s = Braced 0} _ refl (if_true _ _ c.in_ok-mark.ensures.takes.is) c.in_ok-mark.ensures.takes.taken) _ c.in_err-expression.ensures.misses)

pub loop-alloc-init : goal.loop-alloc-init
loop-alloc-init c = record { leads = valued (λ vs. ap (λ (x : List WrittenExpr). Items c.args.self.now.token.place (exprs_before x vs.0)) (let e : c.in_ok-expression.field-0 ∷ [] ≡ c.push.new.self.items = search rules in e)) (next (takes {s = Braced 0} _ refl (if_true _ _ c.in_ok-mark.ensures.takes.is) c.in_ok-mark.ensures.takes.taken) c.in_ok-expression.ensures.ok); same = c.in_ok-expression.ensures.same ∙ c.in_ok-mark.ensures.same }

pub returns-in_err-expression-2-clause-misses : goal.returns-in_err-expression-2-clause-misses
returns-in_err-expression-2-clause-misses c =
    let p = err_from_is_err_and c.from_residual-in_err-expression-2.result c.from_residual-in_err-expression-2.ensures.1 in
    rw (p.1, p.2) (missed _ (last c.loop-alloc.invariant.leads (takes {s = MoreValues} _ refl (if_true _ _ (sym c.next_is.ensures ∙ c.loop-alloc-test.true)) c.take.ensures.taken)) _ c.in_err-expression-2.ensures.misses)

pub returns-in_err-expression-2-clause-same : goal.returns-in_err-expression-2-clause-same
returns-in_err-expression-2-clause-same c = c.in_err-expression-2.ensures.same ∙ c.take.ensures.same ∙ c.loop-alloc.invariant.same

pub loop-alloc-smaller : goal.loop-alloc-smaller
loop-alloc-smaller c = omega (arith, taken_shorter (left c.loop-alloc.self) (left c.take.new.self) c.take.ensures.taken, reads_shorter c.in_ok-expression-2.ensures.ok)

pub loop-alloc-preserved : goal.loop-alloc-preserved
loop-alloc-preserved c = record {
  leads = valued (λ vs. ap (Items c.args.self.now.token.place) (sym (exprs_push c.loop-alloc.values.items c.in_ok-expression-2.field-0 vs.0)) ∙ ap (λ (x : List WrittenExpr). Items c.args.self.now.token.place (exprs_before x vs.0)) (sym c.in_ok-push-2.ensures.items)) (last c.loop-alloc.invariant.leads (next (takes {s = MoreValues} _ refl (if_true _ _ (sym c.next_is.ensures ∙ c.loop-alloc-test.true)) c.take.ensures.taken) c.in_ok-expression-2.ensures.ok));
  same = c.in_ok-expression-2.ensures.same ∙ c.take.ensures.same ∙ c.loop-alloc.invariant.same;
}

pub returns-in_err-push-2-clause-same : goal.returns-in_err-push-2-clause-same
returns-in_err-push-2-clause-same c = c.in_ok-expression-2.ensures.same ∙ c.take.ensures.same ∙ c.loop-alloc.invariant.same

pub returns-in_err-mark-2-clause-misses : goal.returns-in_err-mark-2-clause-misses
returns-in_err-mark-2-clause-misses c =
    let p = err_from_is_err_and c.from_residual-in_err-mark-2.result c.from_residual-in_err-mark-2.ensures.1 in
    rw (p.1, p.2) (missed _ c.loop-alloc.invariant.leads _ (mark_missed _ MoreValues (codes "}") c.loop-alloc.self _ c.in_err-mark-2.ensures.other refl (λ h. if_false _ _ (sym c.next_is.ensures ∙ c.loop-alloc-test.false) ∙ if_false _ _ h)))

pub returns-in_err-mark-2-clause-same : goal.returns-in_err-mark-2-clause-same
returns-in_err-mark-2-clause-same c = c.in_err-mark-2.ensures.same ∙ c.loop-alloc.invariant.same

pub returns-clause-ok : goal.returns-clause-ok
returns-clause-ok c = read_as (last c.loop-alloc.invariant.leads (takes {s = MoreValues} _ refl (if_false _ _ (sym c.next_is.ensures ∙ c.loop-alloc-test.false) ∙ if_true _ _ c.in_ok-mark-2.ensures.takes.is) c.in_ok-mark-2.ensures.takes.taken)) (ap (Items c.args.self.now.token.place) (exprs_none c.loop-alloc.values.items))

pub returns-clause-same : goal.returns-clause-same
returns-clause-same c = c.in_ok-mark-2.ensures.same ∙ c.loop-alloc.invariant.same
