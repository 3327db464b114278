use Rattle.std.proofs.lemmas.Result.{err_from_is_err_and}
use Rattle.cg_c_reader.proofs.Leading.{next, missed}
use Rattle.cg_c_reader.proofs.reader.Reader.range.Goals as goal

pub returns-in_err-the_word-clause-misses : goal.returns-in_err-the_word-clause-misses
returns-in_err-the_word-clause-misses c =
    let p = err_from_is_err_and c.from_residual.result c.from_residual.ensures.1 in
    rw (p.1, p.2) (λ s f r l. missed _ (l) _ c.in_err-the_word.ensures.misses)

pub returns-in_err-inclusive-clause-misses : goal.returns-in_err-inclusive-clause-misses
returns-in_err-inclusive-clause-misses c =
    let p = err_from_is_err_and c.from_residual-in_err-inclusive.result c.from_residual-in_err-inclusive.ensures.1 in
    rw (p.1, p.2) (λ s f r l. missed _ (next (l) c.in_ok-the_word.ensures.ok) _ c.in_err-inclusive.ensures.misses)

pub returns-in_err-bound-clause-misses : goal.returns-in_err-bound-clause-misses
returns-in_err-bound-clause-misses c =
    let p = err_from_is_err_and c.from_residual-in_err-bound.result c.from_residual-in_err-bound.ensures.1 in
    rw (p.1, p.2) (λ s f r l. missed _ (next (next (l) c.in_ok-the_word.ensures.ok) c.in_ok-inclusive.ensures.ok) _ c.in_err-bound.ensures.misses)

pub returns-in_err-mark-clause-misses : goal.returns-in_err-mark-clause-misses
returns-in_err-mark-clause-misses c =
    let p = err_from_is_err_and c.from_residual-in_err-mark.result c.from_residual-in_err-mark.ensures.1 in
    rw (p.1, p.2) (λ s f r l. missed _ (next (next (next (l) c.in_ok-the_word.ensures.ok) c.in_ok-inclusive.ensures.ok) c.in_ok-bound.ensures.ok) _ c.in_err-mark.ensures.misses)

pub returns-in_err-the_word-2-clause-misses : goal.returns-in_err-the_word-2-clause-misses
returns-in_err-the_word-2-clause-misses c =
    let p = err_from_is_err_and c.from_residual-in_err-the_word-2.result c.from_residual-in_err-the_word-2.ensures.1 in
    rw (p.1, p.2) (λ s f r l. missed _ (next (next (next (next (l) c.in_ok-the_word.ensures.ok) c.in_ok-inclusive.ensures.ok) c.in_ok-bound.ensures.ok) c.in_ok-mark.ensures.ok) _ c.in_err-the_word-2.ensures.misses)

pub returns-in_err-step-clause-misses : goal.returns-in_err-step-clause-misses
returns-in_err-step-clause-misses c =
    let p = err_from_is_err_and c.from_residual-in_err-step.result c.from_residual-in_err-step.ensures.1 in
    rw (p.1, p.2) (λ s f r l. missed _ (next (next (next (next (next (l) c.in_ok-the_word.ensures.ok) c.in_ok-inclusive.ensures.ok) c.in_ok-bound.ensures.ok) c.in_ok-mark.ensures.ok) c.in_ok-the_word-2.ensures.ok) _ c.in_err-step.ensures.misses)

pub returns-in_err-mark-2-clause-misses : goal.returns-in_err-mark-2-clause-misses
returns-in_err-mark-2-clause-misses c =
    let p = err_from_is_err_and c.from_residual-in_err-mark-2.result c.from_residual-in_err-mark-2.ensures.1 in
    rw (p.1, p.2) (λ s f r l. missed _ (next (next (next (next (next (next (l) c.in_ok-the_word.ensures.ok) c.in_ok-inclusive.ensures.ok) c.in_ok-bound.ensures.ok) c.in_ok-mark.ensures.ok) c.in_ok-the_word-2.ensures.ok) c.in_ok-step.ensures.ok) _ c.in_err-mark-2.ensures.misses)

pub returns-clause-ok : goal.returns-clause-ok
returns-clause-ok c = λ s f r l. next (next (next (next (next (next (next (l) c.in_ok-the_word.ensures.ok) c.in_ok-inclusive.ensures.ok) c.in_ok-bound.ensures.ok) c.in_ok-mark.ensures.ok) c.in_ok-the_word-2.ensures.ok) c.in_ok-step.ensures.ok) c.in_ok-mark-2.ensures.ok
