use Rattle.std.proofs.Common.{refl, ap, sym, ◌∙◌}
use Rattle.std.proofs.lemmas.Result.{err_from_is_err_and}
use Rattle.std.proofs.Common.{◌+◌}
use Rattle.cg_c_syntax.specs.Symbols.{DefinedValue}
use Rattle.cg_c_reader.proofs.Single.{if_true, if_false}
use Rattle.cg_c_reader.proofs.Leading.{takes, next, read_as, missed}
use Rattle.cg_c_reader.proofs.Composed.{fails_stops}
use Rattle.cg_c_reader.proofs.Declaring.{both_true, first_false, second_false}
use Rattle.cg_c_syntax.specs.Tree.{Num}
use Rattle.cg_c_reader.proofs.reader.Reader.defined_value.Goals as goal

pub returns-then-is_number-clause-ok : goal.returns-then-is_number-clause-ok
returns-then-is_number-clause-ok c = read_as (takes {s = DefinedValue (c.args.place + c.args.length)} _ refl (if_true _ _ (sym c.is_number.ensures ∙ c.if-is_number.true)) c.numeral.ensures.taken) (ap Num (sym c.numeral.ensures.value))

pub returns-then-is_behind-clause-misses : goal.returns-then-is_behind-clause-misses
returns-then-is_behind-clause-misses c = fails_stops _ refl (if_false _ _ (sym c.is_number.ensures ∙ c.if-is_number.false) ∙ if_false _ _ (second_false _ (sym c.is_behind.ensures ∙ c.if-is_behind.true)))

pub returns-in_err-mark-clause-misses : goal.returns-in_err-mark-clause-misses
returns-in_err-mark-clause-misses c =
    let p = err_from_is_err_and c.from_residual.result c.from_residual.ensures.1 in
    rw (p.1, p.2) (missed _ (takes {s = DefinedValue (c.args.place + c.args.length)} _ refl (if_false _ _ (sym c.is_number.ensures ∙ c.if-is_number.false) ∙ if_true _ _ (both_true (sym c.next_is.ensures ∙ c.if-next_is.true) (sym c.is_behind.ensures ∙ c.if-is_behind.false))) c.take.ensures.taken) _ c.in_err-mark.ensures.misses)

pub returns-in_err-number-clause-misses : goal.returns-in_err-number-clause-misses
returns-in_err-number-clause-misses c =
    let p = err_from_is_err_and c.from_residual-in_err-number.result c.from_residual-in_err-number.ensures.1 in
    rw (p.1, p.2) (missed _ (next (takes {s = DefinedValue (c.args.place + c.args.length)} _ refl (if_false _ _ (sym c.is_number.ensures ∙ c.if-is_number.false) ∙ if_true _ _ (both_true (sym c.next_is.ensures ∙ c.if-next_is.true) (sym c.is_behind.ensures ∙ c.if-is_behind.false))) c.take.ensures.taken) c.in_ok-mark.ensures.ok) _ c.in_err-number.ensures.misses)

pub returns-in_err-mark-2-clause-misses : goal.returns-in_err-mark-2-clause-misses
returns-in_err-mark-2-clause-misses c =
    let p = err_from_is_err_and c.from_residual-in_err-mark-2.result c.from_residual-in_err-mark-2.ensures.1 in
    rw (p.1, p.2) (missed _ (next (next (takes {s = DefinedValue (c.args.place + c.args.length)} _ refl (if_false _ _ (sym c.is_number.ensures ∙ c.if-is_number.false) ∙ if_true _ _ (both_true (sym c.next_is.ensures ∙ c.if-next_is.true) (sym c.is_behind.ensures ∙ c.if-is_behind.false))) c.take.ensures.taken) c.in_ok-mark.ensures.ok) c.in_ok-number.ensures.ok) _ c.in_err-mark-2.ensures.misses)

pub returns-then-next_is-clause-ok : goal.returns-then-next_is-clause-ok
returns-then-next_is-clause-ok c = read_as (next (next (next (takes {s = DefinedValue (c.args.place + c.args.length)} _ refl (if_false _ _ (sym c.is_number.ensures ∙ c.if-is_number.false) ∙ if_true _ _ (both_true (sym c.next_is.ensures ∙ c.if-next_is.true) (sym c.is_behind.ensures ∙ c.if-is_behind.false))) c.take.ensures.taken) c.in_ok-mark.ensures.ok) c.in_ok-number.ensures.ok) c.in_ok-mark-2.ensures.ok) (sym c.in_ok-negative.ensures)

pub returns-clause-misses : goal.returns-clause-misses
returns-clause-misses c = fails_stops _ refl (if_false _ _ (sym c.is_number.ensures ∙ c.if-is_number.false) ∙ if_false _ _ (first_false _ (sym c.next_is.ensures ∙ c.if-next_is.false)))
