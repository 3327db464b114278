use Rattle.std.proofs.Common.{refl}
use Rattle.std.proofs.lemmas.Result.{err_from_is_err_and}
use Rattle.cg_c_syntax.specs.Symbols.{Name}
use Rattle.cg_c_reader.proofs.Single.{if_false, name_missed}
use Rattle.cg_c_reader.proofs.Leading.{next, missed}
use Rattle.cg_c_reader.proofs.Declaring.{name_read}
use Rattle.cg_c_reader.proofs.reader.Reader.header.Goals as goal

pub returns-in_err-name-clause-misses : goal.returns-in_err-name-clause-misses
returns-in_err-name-clause-misses c =
    let p = err_from_is_err_and c.from_residual.result c.from_residual.ensures.1 in
    rw (p.1, p.2) (λ s f r l. missed _ l _ (name_missed _ Name c.args.self.now _ c.in_err-name.ensures.misses refl (λ h. if_false _ _ h)))

pub returns-in_err-mark-clause-misses : goal.returns-in_err-mark-clause-misses
returns-in_err-mark-clause-misses c =
    let p = err_from_is_err_and c.from_residual-in_err-mark.result c.from_residual-in_err-mark.ensures.1 in
    rw (p.1, p.2) (λ s f r l. missed _ (next (l) (name_read c.in_ok-name.ensures.ok)) _ c.in_err-mark.ensures.misses)

pub returns-in_err-the_word-clause-misses : goal.returns-in_err-the_word-clause-misses
returns-in_err-the_word-clause-misses c =
    let p = err_from_is_err_and c.from_residual-in_err-the_word.result c.from_residual-in_err-the_word.ensures.1 in
    rw (p.1, p.2) (λ s f r l. missed _ (next (next (l) (name_read c.in_ok-name.ensures.ok)) c.in_ok-mark.ensures.ok) _ c.in_err-the_word.ensures.misses)

pub returns-in_err-mark-2-clause-misses : goal.returns-in_err-mark-2-clause-misses
returns-in_err-mark-2-clause-misses c =
    let p = err_from_is_err_and c.from_residual-in_err-mark-2.result c.from_residual-in_err-mark-2.ensures.1 in
    rw (p.1, p.2) (λ s f r l. missed _ (next (next (next (l) (name_read c.in_ok-name.ensures.ok)) c.in_ok-mark.ensures.ok) c.in_ok-the_word.ensures.ok) _ c.in_err-mark-2.ensures.misses)

pub returns-in_err-mark-3-clause-misses : goal.returns-in_err-mark-3-clause-misses
returns-in_err-mark-3-clause-misses c =
    let p = err_from_is_err_and c.from_residual-in_err-mark-3.result c.from_residual-in_err-mark-3.ensures.1 in
    rw (p.1, p.2) (λ s f r l. missed _ (next (next (next (next (l) (name_read c.in_ok-name.ensures.ok)) c.in_ok-mark.ensures.ok) c.in_ok-the_word.ensures.ok) c.in_ok-mark-2.ensures.ok) _ c.in_err-mark-3.ensures.misses)

pub returns-clause-ok : goal.returns-clause-ok
returns-clause-ok c = λ s f r l. next (next (next (next (next (l) (name_read c.in_ok-name.ensures.ok)) c.in_ok-mark.ensures.ok) c.in_ok-the_word.ensures.ok) c.in_ok-mark-2.ensures.ok) c.in_ok-mark-3.ensures.ok
