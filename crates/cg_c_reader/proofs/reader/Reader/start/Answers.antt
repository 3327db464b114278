use Rattle.std.proofs.Common.{refl, ap, sym}
use Rattle.std.proofs.lemmas.Result.{err_from_is_err_and}
use Rattle.cg_c_syntax.specs.declared.expression.Named.{Named}
use Rattle.cg_c_syntax.specs.Symbols.{Counter}
use Rattle.cg_c_syntax.specs.Written.{expr_of}
use Rattle.cg_c_reader.proofs.Single.{if_true, if_false, name_missed}
use Rattle.cg_c_reader.proofs.Leading.{takes, next, valued, missed}
use Rattle.cg_c_reader.proofs.reader.Reader.start.Goals as goal

pub returns-in_err-counter-clause-misses : goal.returns-in_err-counter-clause-misses
returns-in_err-counter-clause-misses c =
    let p = err_from_is_err_and c.from_residual.result c.from_residual.ensures.1 in
    rw (p.1, p.2) (name_missed _ (Counter c.args.depth) c.args.self.now _ c.in_err-counter.ensures.misses refl (λ h. if_false _ _ h))

pub returns-in_err-mark-clause-misses : goal.returns-in_err-mark-clause-misses
returns-in_err-mark-clause-misses c =
    let p = err_from_is_err_and c.from_residual-in_err-mark.result c.from_residual-in_err-mark.ensures.1 in
    rw (p.1, p.2) (missed _ (takes {s = Counter c.args.depth} _ refl (if_true _ _ c.in_ok-counter.ensures.ok.is) c.in_ok-counter.ensures.ok.taken) _ c.in_err-mark.ensures.misses)

pub returns-in_err-start-clause-misses : goal.returns-in_err-start-clause-misses
returns-in_err-start-clause-misses c =
    let p = err_from_is_err_and c.from_residual-in_err-start.result c.from_residual-in_err-start.ensures.1 in
    rw (p.1, p.2) (missed _ (next (takes {s = Counter c.args.depth} _ refl (if_true _ _ c.in_ok-counter.ensures.ok.is) c.in_ok-counter.ensures.ok.taken) c.in_ok-mark.ensures.ok) _ c.in_err-start.ensures.misses)

pub returns-in_err-mark-2-clause-misses : goal.returns-in_err-mark-2-clause-misses
returns-in_err-mark-2-clause-misses c =
    let p = err_from_is_err_and c.from_residual-in_err-mark-2.result c.from_residual-in_err-mark-2.ensures.1 in
    rw (p.1, p.2) (missed _ (next (next (takes {s = Counter c.args.depth} _ refl (if_true _ _ c.in_ok-counter.ensures.ok.is) c.in_ok-counter.ensures.ok.taken) c.in_ok-mark.ensures.ok) c.in_ok-start.ensures.ok) _ c.in_err-mark-2.ensures.misses)

pub returns-clause-ok : goal.returns-clause-ok
returns-clause-ok c =
    valued
    (λ v. ap (λ (n : Named). record { head = record { counter = n; start = expr_of c.in_ok-start.start; inclusive = v.1.0; bound = v.1.1.0; step = v.1.1.1.1.1.0 }; body = v.1.1.1.1.1.1.1.0 }) (sym c.in_ok-counter.ensures.ok.value))
    (next (next (next (takes {s = Counter c.args.depth} _ refl (if_true _ _ c.in_ok-counter.ensures.ok.is) c.in_ok-counter.ensures.ok.taken) c.in_ok-mark.ensures.ok) c.in_ok-start.ensures.ok) c.in_ok-mark-2.ensures.ok)
