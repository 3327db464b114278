use Rattle.std.proofs.Common.{refl, ap, sym, ◌∙◌}
use Rattle.std.proofs.lemmas.Result.{err_from_is_err_and}
use Rattle.std.proofs.Common.{List, codes}
use Rattle.cg_c_syntax.specs.declared.expression.Named.{Named}
use Rattle.cg_c_syntax.specs.Symbols.{Declarator, Dimensions}
use Rattle.cg_c_syntax.specs.Written.{expr_of, exprs_of}
use Rattle.cg_c_reader.proofs.Single.{if_true, if_false, name_missed, mark_missed}
use Rattle.cg_c_reader.proofs.Leading.{takes, next, last, read_as, missed}
use Rattle.cg_c_syntax.specs.Tree.{MoreExprs}
use Rattle.cg_c_syntax.specs.declared.expression.Expr.{Expr as WrittenExpr}
use Rattle.cg_c_reader.proofs.reader.Reader.array.Goals as goal

pub returns-in_err-name-clause-misses : goal.returns-in_err-name-clause-misses
returns-in_err-name-clause-misses c =
    let p = err_from_is_err_and c.from_residual.result c.from_residual.ensures.1 in
    rw (p.1, p.2) (name_missed _ Declarator c.args.self.now _ c.in_err-name.ensures.misses refl (λ h. if_false _ _ h))

pub returns-in_err-mark-clause-misses : goal.returns-in_err-mark-clause-misses
returns-in_err-mark-clause-misses c =
    let p = err_from_is_err_and c.from_residual-in_err-mark.result c.from_residual-in_err-mark.ensures.1 in
    rw (p.1, p.2) (missed _ (takes {s = Declarator} _ refl (if_true _ _ c.in_ok-name.ensures.ok.is) c.in_ok-name.ensures.ok.taken) _ (mark_missed _ Dimensions (codes "[") c.name.new.self _ c.in_err-mark.ensures.other refl (λ h. if_false _ _ h)))

pub returns-in_err-first-clause-misses : goal.returns-in_err-first-clause-misses
returns-in_err-first-clause-misses c =
    let p = err_from_is_err_and c.from_residual-in_err-first.result c.from_residual-in_err-first.ensures.1 in
    rw (p.1, p.2) (missed _ (last (takes {s = Declarator} _ refl (if_true _ _ c.in_ok-name.ensures.ok.is) c.in_ok-name.ensures.ok.taken) (takes {s = Dimensions} _ refl (if_true _ _ c.in_ok-mark.ensures.takes.is) c.in_ok-mark.ensures.takes.taken)) _ c.in_err-first.ensures.misses)

pub returns-in_err-mark-2-clause-misses : goal.returns-in_err-mark-2-clause-misses
returns-in_err-mark-2-clause-misses c =
    let p = err_from_is_err_and c.from_residual-in_err-mark-2.result c.from_residual-in_err-mark-2.ensures.1 in
    rw (p.1, p.2) (missed _ (next (last (takes {s = Declarator} _ refl (if_true _ _ c.in_ok-name.ensures.ok.is) c.in_ok-name.ensures.ok.taken) (takes {s = Dimensions} _ refl (if_true _ _ c.in_ok-mark.ensures.takes.is) c.in_ok-mark.ensures.takes.taken)) c.in_ok-first.ensures.ok) _ c.in_err-mark-2.ensures.misses)

pub returns-in_err-others-clause-misses : goal.returns-in_err-others-clause-misses
returns-in_err-others-clause-misses c =
    let p = err_from_is_err_and c.from_residual-in_err-others.result c.from_residual-in_err-others.ensures.1 in
    rw (p.1, p.2) (missed _ (next (next (last (takes {s = Declarator} _ refl (if_true _ _ c.in_ok-name.ensures.ok.is) c.in_ok-name.ensures.ok.taken) (takes {s = Dimensions} _ refl (if_true _ _ c.in_ok-mark.ensures.takes.is) c.in_ok-mark.ensures.takes.taken)) c.in_ok-first.ensures.ok) c.in_ok-mark-2.ensures.ok) _ c.in_err-others.ensures.misses)

pub returns-clause-ok : goal.returns-clause-ok
returns-clause-ok c =
    read_as (next (next (next (last (takes {s = Declarator} _ refl (if_true _ _ c.in_ok-name.ensures.ok.is) c.in_ok-name.ensures.ok.taken) (takes {s = Dimensions} _ refl (if_true _ _ c.in_ok-mark.ensures.takes.is) c.in_ok-mark.ensures.takes.taken)) c.in_ok-first.ensures.ok) c.in_ok-mark-2.ensures.ok) c.in_ok-others.ensures.ok)
    (ap (λ (n : Named). record { name = n; dimensions = MoreExprs (expr_of c.in_ok-first.first) (exprs_of c.in_ok-others.others.items) }) (sym c.in_ok-name.ensures.ok.value)
    ∙ ap (λ (x : List WrittenExpr). record { name = c.in_ok-name.name; dimensions = exprs_of x }) (sym c.in_ok-dimensions.ensures))
