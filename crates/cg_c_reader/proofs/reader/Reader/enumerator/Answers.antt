use Rattle.std.proofs.Common.{refl, ap, sym}
use Rattle.std.proofs.lemmas.Result.{err_from_is_err_and}
use Rattle.cg_c_syntax.specs.declared.expression.Named.{Named}
use Rattle.cg_c_syntax.specs.Symbols.{Enumerator}
use Rattle.cg_c_syntax.specs.Written.{expr_of}
use Rattle.cg_c_reader.proofs.Single.{if_true, if_false, name_missed}
use Rattle.cg_c_reader.proofs.Leading.{takes, next, read_as, missed}
use Rattle.cg_c_reader.proofs.reader.Reader.enumerator.Goals as goal

pub returns-in_err-name-clause-misses : goal.returns-in_err-name-clause-misses
returns-in_err-name-clause-misses c =
    let p = err_from_is_err_and c.from_residual.result c.from_residual.ensures.1 in
    rw (p.1, p.2) (name_missed _ Enumerator c.args.self.now _ c.in_err-name.ensures.misses refl (λ h. if_false _ _ h))

pub returns-in_err-mark-clause-misses : goal.returns-in_err-mark-clause-misses
returns-in_err-mark-clause-misses c =
    let p = err_from_is_err_and c.from_residual-in_err-mark.result c.from_residual-in_err-mark.ensures.1 in
    rw (p.1, p.2) (missed _ (takes {s = Enumerator} _ refl (if_true _ _ c.in_ok-name.ensures.ok.is) c.in_ok-name.ensures.ok.taken) _ c.in_err-mark.ensures.misses)

pub returns-in_err-value-clause-misses : goal.returns-in_err-value-clause-misses
returns-in_err-value-clause-misses c =
    let p = err_from_is_err_and c.from_residual-in_err-value.result c.from_residual-in_err-value.ensures.1 in
    rw (p.1, p.2) (missed _ (next (takes {s = Enumerator} _ refl (if_true _ _ c.in_ok-name.ensures.ok.is) c.in_ok-name.ensures.ok.taken) c.in_ok-mark.ensures.ok) _ c.in_err-value.ensures.misses)

pub returns-clause-ok : goal.returns-clause-ok
returns-clause-ok c = read_as (next (next (takes {s = Enumerator} _ refl (if_true _ _ c.in_ok-name.ensures.ok.is) c.in_ok-name.ensures.ok.taken) c.in_ok-mark.ensures.ok) c.in_ok-value.ensures.ok) (ap (λ (n : Named). record { name = n; value = expr_of c.in_ok-value.value }) (sym c.in_ok-name.ensures.ok.value))
