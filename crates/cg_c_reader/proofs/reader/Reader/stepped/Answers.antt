use Rattle.std.proofs.Common.{refl, sym, ◌∙◌}
use Rattle.std.proofs.lemmas.Result.{err_from_is_err_and}
use Rattle.cg_c_syntax.specs.Symbols.{Stepped}
use Rattle.cg_c_reader.proofs.Single.{if_true, if_false}
use Rattle.cg_c_reader.proofs.Leading.{takes, next, read, missed}
use Rattle.cg_c_reader.proofs.Composed.{fails_stops}
use Rattle.cg_c_reader.proofs.reader.Reader.stepped.Goals as goal

pub returns-then-next_is-clause-ok : goal.returns-then-next_is-clause-ok
returns-then-next_is-clause-ok c = read (takes {s = Stepped c.args.depth} _ refl (if_true _ _ (sym c.next_is.ensures ∙ c.if-next_is.true)) c.take.ensures.taken)

pub returns-in_err-step-clause-misses : goal.returns-in_err-step-clause-misses
returns-in_err-step-clause-misses c =
    let p = err_from_is_err_and c.from_residual.result c.from_residual.ensures.1 in
    rw (p.1, p.2) (missed _ (takes {s = Stepped c.args.depth} _ refl (if_false _ _ (sym c.next_is.ensures ∙ c.if-next_is.false) ∙ if_true _ _ (sym c.next_is-2.ensures ∙ c.if-next_is-2.true)) c.take-then-next_is-2.ensures.taken) _ c.in_err-step.ensures.misses)

pub returns-then-next_is-2-clause-ok : goal.returns-then-next_is-2-clause-ok
returns-then-next_is-2-clause-ok c = read (next (takes {s = Stepped c.args.depth} _ refl (if_false _ _ (sym c.next_is.ensures ∙ c.if-next_is.false) ∙ if_true _ _ (sym c.next_is-2.ensures ∙ c.if-next_is-2.true)) c.take-then-next_is-2.ensures.taken) c.in_ok-step.ensures.ok)

pub returns-clause-misses : goal.returns-clause-misses
returns-clause-misses c = fails_stops _ refl (if_false _ _ (sym c.next_is.ensures ∙ c.if-next_is.false) ∙ if_false _ _ (sym c.next_is-2.ensures ∙ c.if-next_is-2.false))
