use Rattle.std.proofs.Common.{refl, ap, sym, ◌∙◌}
use Rattle.std.proofs.lemmas.Result.{err_from_is_err_and}
use Rattle.std.specs.Prelude.{Some}
use Rattle.cg_c_syntax.specs.Tree.{Expr}
use Rattle.cg_c_syntax.specs.Symbols.{Assigned}
use Rattle.cg_c_syntax.specs.Grammar.{assigned_step}
use Rattle.cg_c_reader.specs.Left.{left}
use Rattle.cg_c_reader.proofs.Leading.{takes, next, read, read_as, missed}
use Rattle.cg_c_reader.proofs.Composed.{fails_stops}
use Rattle.cg_c_reader.proofs.Beginning.{change_goes_on}
use Rattle.cg_c_reader.proofs.reader.Reader.assigned.Goals as goal

pub returns-in_default-clause-misses : goal.returns-in_default-clause-misses
returns-in_default-clause-misses c = fails_stops _ refl (ap (assigned_step c.args.place c.args.depth) (sym c.change_by.ensures ∙ c.in_default.is))

pub take-requires : goal.take-requires
take-requires c = change_goes_on (left c.args.self.now).head _ (sym c.change_by.ensures ∙ c.in-Some.is)

pub returns-in_err-mark-in-Step-clause-misses : goal.returns-in_err-mark-in-Step-clause-misses
returns-in_err-mark-in-Step-clause-misses c =
    let p = err_from_is_err_and c.from_residual.result c.from_residual.ensures.1 in
    rw (p.1, p.2) (missed _ (takes {s = Assigned c.args.place c.args.depth} _ refl (ap (assigned_step c.args.place c.args.depth) ((sym c.change_by.ensures ∙ c.in-Some.is) ∙ ap Some c.in-Step.is)) c.take.ensures.taken) _ c.in_err-mark-in-Step.ensures.misses)

pub returns-in_err-value-in-Set-clause-misses : goal.returns-in_err-value-in-Set-clause-misses
returns-in_err-value-in-Set-clause-misses c =
    let p = err_from_is_err_and c.from_residual-in_err-value-in-Set.result c.from_residual-in_err-value-in-Set.ensures.1 in
    rw (p.1, p.2) (missed _ (takes {s = Assigned c.args.place c.args.depth} _ refl (ap (assigned_step c.args.place c.args.depth) ((sym c.change_by.ensures ∙ c.in-Some.is) ∙ ap Some c.in-Set.is)) c.take.ensures.taken) _ c.in_err-value-in-Set.ensures.misses)

pub returns-in_err-mark-in-Set-clause-misses : goal.returns-in_err-mark-in-Set-clause-misses
returns-in_err-mark-in-Set-clause-misses c =
    let p = err_from_is_err_and c.from_residual-in_err-mark-in-Set.result c.from_residual-in_err-mark-in-Set.ensures.1 in
    rw (p.1, p.2) (missed _ (next (takes {s = Assigned c.args.place c.args.depth} _ refl (ap (assigned_step c.args.place c.args.depth) ((sym c.change_by.ensures ∙ c.in-Some.is) ∙ ap Some c.in-Set.is)) c.take.ensures.taken) c.in_ok-value-in-Set.ensures.ok) _ c.in_err-mark-in-Set.ensures.misses)

pub returns-in_ok-mark-in-Step-clause-ok : goal.returns-in_ok-mark-in-Step-clause-ok
returns-in_ok-mark-in-Step-clause-ok c =
    read_as (next (takes {s = Assigned c.args.place c.args.depth} _ refl (ap (assigned_step c.args.place c.args.depth) ((sym c.change_by.ensures ∙ c.in-Some.is) ∙ ap Some c.in-Step.is)) c.take.ensures.taken) c.in_ok-mark-in-Step.ensures.ok)
    (ap (λ (e : Expr). record { op = Some c.in-Step.op; value = e }) (sym c.unit.ensures))

pub returns-in_ok-mark-in-Set-clause-ok : goal.returns-in_ok-mark-in-Set-clause-ok
returns-in_ok-mark-in-Set-clause-ok c = read (next (next (takes {s = Assigned c.args.place c.args.depth} _ refl (ap (assigned_step c.args.place c.args.depth) ((sym c.change_by.ensures ∙ c.in-Some.is) ∙ ap Some c.in-Set.is)) c.take.ensures.taken) c.in_ok-value-in-Set.ensures.ok) c.in_ok-mark-in-Set.ensures.ok)
