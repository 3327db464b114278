use Rattle.std.proofs.Common.{refl, ap, sym, ◌∙◌, arith}
use Rattle.std.proofs.lemmas.Result.{err_from_is_err_and}
use Rattle.std.proofs.Common.{◌≡◌, List, [], ◌∷◌, codes, rules}
use Rattle.cg_c_syntax.specs.declared.expression.Named.{Named}
use Rattle.cg_c_syntax.specs.Symbols.{Tabled, TableName, TableDimensions, MoreTable}
use Rattle.cg_c_syntax.specs.Written.{expr_of, rows_of, exprs_before}
use Rattle.cg_c_syntax.specs.declared.expression.Expr.{Expr as WrittenExpr}
use Rattle.cg_c_syntax.specs.Tree.{Exprs, MoreExprs}
use Rattle.cg_c_syntax.specs.Words.{whole}
use Rattle.cg_c_syntax.specs.Grammar.{tabled_step}
use Rattle.cg_c_reader.proofs.Beginning.{type_goes_on}
use Rattle.cg_c_reader.specs.Left.{left}
use Rattle.cg_c_reader.proofs.Single.{if_true, if_false, name_missed, mark_missed}
use Rattle.cg_c_reader.proofs.Leading.{takes, next, last, valued, read_as, missed}
use Rattle.cg_c_reader.proofs.Composed.{fails_stops}
use Rattle.cg_c_reader.proofs.Lists.{exprs_push, exprs_none}
use Rattle.cg_c_reader.proofs.Shorter.{taken_shorter, reads_shorter}
use Rattle.cg_c_reader.proofs.reader.Reader.table.Goals as goal

pub returns-in_default-clause-misses : goal.returns-in_default-clause-misses
returns-in_default-clause-misses c = fails_stops _ refl (ap tabled_step (ap whole (sym c.cast_by.ensures) ∙ sym c.whole.ensures ∙ c.in_default.is))

pub take-requires : goal.take-requires
take-requires c = type_goes_on (left c.args.self.now).head _ (ap whole (sym c.cast_by.ensures) ∙ sym c.whole.ensures ∙ c.in-Some.is)

pub returns-in_err-name-clause-misses : goal.returns-in_err-name-clause-misses
returns-in_err-name-clause-misses c =
    let p = err_from_is_err_and c.from_residual.result c.from_residual.ensures.1 in
    rw (p.1, p.2) (missed _ (takes {s = Tabled} _ refl (ap tabled_step (ap whole (sym c.cast_by.ensures) ∙ sym c.whole.ensures ∙ c.in-Some.is)) c.take.ensures.taken) _ (name_missed _ TableName c.take.new.self _ c.in_err-name.ensures.misses refl (λ h. if_false _ _ h)))

pub returns-in_err-mark-clause-misses : goal.returns-in_err-mark-clause-misses
returns-in_err-mark-clause-misses c =
    let p = err_from_is_err_and c.from_residual-in_err-mark.result c.from_residual-in_err-mark.ensures.1 in
    rw (p.1, p.2) (missed _ (last (takes {s = Tabled} _ refl (ap tabled_step (ap whole (sym c.cast_by.ensures) ∙ sym c.whole.ensures ∙ c.in-Some.is)) c.take.ensures.taken) (takes {s = TableName} _ refl (if_true _ _ c.in_ok-name.ensures.ok.is) c.in_ok-name.ensures.ok.taken)) _ (mark_missed _ TableDimensions (codes "[") c.name.new.self _ c.in_err-mark.ensures.other refl (λ h. if_false _ _ h)))

pub returns-in_err-expression-clause-misses : goal.returns-in_err-expression-clause-misses
returns-in_err-expression-clause-misses c =
    let p = err_from_is_err_and c.from_residual-in_err-expression.result c.from_residual-in_err-expression.ensures.1 in
    rw (p.1, p.2) (missed _ (last (last (takes {s = Tabled} _ refl (ap tabled_step (ap whole (sym c.cast_by.ensures) ∙ sym c.whole.ensures ∙ c.in-Some.is)) c.take.ensures.taken) (takes {s = TableName} _ refl (if_true _ _ c.in_ok-name.ensures.ok.is) c.in_ok-name.ensures.ok.taken)) (takes {s = TableDimensions} _ refl (if_true _ _ c.in_ok-mark.ensures.takes.is) c.in_ok-mark.ensures.takes.taken)) _ c.in_err-expression.ensures.misses)

pub returns-in_err-mark-2-clause-misses : goal.returns-in_err-mark-2-clause-misses
returns-in_err-mark-2-clause-misses c =
    let p = err_from_is_err_and c.from_residual-in_err-mark-2.result c.from_residual-in_err-mark-2.ensures.1 in
    rw (p.1, p.2) (missed _ (next (last (last (takes {s = Tabled} _ refl (ap tabled_step (ap whole (sym c.cast_by.ensures) ∙ sym c.whole.ensures ∙ c.in-Some.is)) c.take.ensures.taken) (takes {s = TableName} _ refl (if_true _ _ c.in_ok-name.ensures.ok.is) c.in_ok-name.ensures.ok.taken)) (takes {s = TableDimensions} _ refl (if_true _ _ c.in_ok-mark.ensures.takes.is) c.in_ok-mark.ensures.takes.taken)) c.in_ok-expression.ensures.ok) _ c.in_err-mark-2.ensures.misses)

pub loop-self-init : goal.loop-self-init
loop-self-init c = record {
  leads = valued (λ vs. ap (λ (n : Named). record { signedness = c.in-Some.signedness; array = record { name = n; dimensions = MoreExprs (expr_of c.in_ok-expression.field-0) vs.0.dimensions }; rows = vs.0.rows }) (sym c.in_ok-name.ensures.ok.value) ∙ ap (λ (x : List WrittenExpr). record { signedness = c.in-Some.signedness; array = record { name = c.in_ok-name.name; dimensions = exprs_before x vs.0.dimensions }; rows = vs.0.rows }) (let e : c.in_ok-expression.field-0 ∷ [] ≡ c.push.new.self.items = search rules in e)) (next (next (last (last (takes {s = Tabled} _ refl (ap tabled_step (ap whole (sym c.cast_by.ensures) ∙ sym c.whole.ensures ∙ c.in-Some.is)) c.take.ensures.taken) (takes {s = TableName} _ refl (if_true _ _ c.in_ok-name.ensures.ok.is) c.in_ok-name.ensures.ok.taken)) (takes {s = TableDimensions} _ refl (if_true _ _ c.in_ok-mark.ensures.takes.is) c.in_ok-mark.ensures.takes.taken)) c.in_ok-expression.ensures.ok) c.in_ok-mark-2.ensures.ok);
  same = c.in_ok-mark-2.ensures.same ∙ c.in_ok-expression.ensures.same ∙ c.in_ok-mark.ensures.same ∙ c.in_ok-name.ensures.same ∙ c.take.ensures.same;
}

pub returns-in_err-expression-2-clause-misses : goal.returns-in_err-expression-2-clause-misses
returns-in_err-expression-2-clause-misses c =
    let p = err_from_is_err_and c.from_residual-in_err-expression-2.result c.from_residual-in_err-expression-2.ensures.1 in
    rw (p.1, p.2) (missed _ (last c.loop-self.invariant.leads (takes {s = MoreTable c.loop-self.more} _ refl (if_true _ _ (sym c.next_is_dimension.ensures ∙ c.loop-self-test.true)) c.take-in-loop-self.ensures.taken)) _ c.in_err-expression-2.ensures.misses)

pub returns-in_err-expression-2-clause-same : goal.returns-in_err-expression-2-clause-same
returns-in_err-expression-2-clause-same c = c.in_err-expression-2.ensures.same ∙ c.take-in-loop-self.ensures.same ∙ c.loop-self.invariant.same

pub returns-in_err-push-2-clause-same : goal.returns-in_err-push-2-clause-same
returns-in_err-push-2-clause-same c = c.in_ok-expression-2.ensures.same ∙ c.take-in-loop-self.ensures.same ∙ c.loop-self.invariant.same

pub returns-in_err-mark-3-clause-misses : goal.returns-in_err-mark-3-clause-misses
returns-in_err-mark-3-clause-misses c =
    let p = err_from_is_err_and c.from_residual-in_err-mark-3.result c.from_residual-in_err-mark-3.ensures.1 in
    rw (p.1, p.2) (missed _ (next (last c.loop-self.invariant.leads (takes {s = MoreTable c.loop-self.more} _ refl (if_true _ _ (sym c.next_is_dimension.ensures ∙ c.loop-self-test.true)) c.take-in-loop-self.ensures.taken)) c.in_ok-expression-2.ensures.ok) _ c.in_err-mark-3.ensures.misses)

pub returns-in_err-mark-3-clause-same : goal.returns-in_err-mark-3-clause-same
returns-in_err-mark-3-clause-same c = c.in_err-mark-3.ensures.same ∙ c.in_ok-expression-2.ensures.same ∙ c.take-in-loop-self.ensures.same ∙ c.loop-self.invariant.same

pub loop-self-smaller : goal.loop-self-smaller
loop-self-smaller c = omega (arith, taken_shorter (left c.loop-self.self) (left c.take-in-loop-self.new.self) c.take-in-loop-self.ensures.taken, reads_shorter c.in_ok-expression-2.ensures.ok, reads_shorter c.in_ok-mark-3.ensures.ok)

pub loop-self-preserved : goal.loop-self-preserved
loop-self-preserved c = record {
  leads = valued (λ vs. ap (λ (x : Exprs). record { signedness = c.in-Some.signedness; array = record { name = c.in_ok-name.name; dimensions = x }; rows = vs.0.rows }) (sym (exprs_push c.loop-self.dimensions.items c.in_ok-expression-2.field-0 vs.0.dimensions)) ∙ ap (λ (x : List WrittenExpr). record { signedness = c.in-Some.signedness; array = record { name = c.in_ok-name.name; dimensions = exprs_before x vs.0.dimensions }; rows = vs.0.rows }) (sym c.in_ok-push-2.ensures.items))
      (last c.loop-self.invariant.leads (next (next (takes {s = MoreTable c.loop-self.more} _ refl (if_true _ _ (sym c.next_is_dimension.ensures ∙ c.loop-self-test.true)) c.take-in-loop-self.ensures.taken) c.in_ok-expression-2.ensures.ok) c.in_ok-mark-3.ensures.ok));
  same = c.in_ok-mark-3.ensures.same ∙ c.in_ok-expression-2.ensures.same ∙ c.take-in-loop-self.ensures.same ∙ c.loop-self.invariant.same;
}

pub returns-in_err-mark-4-clause-misses : goal.returns-in_err-mark-4-clause-misses
returns-in_err-mark-4-clause-misses c =
    let p = err_from_is_err_and c.from_residual-in_err-mark-4.result c.from_residual-in_err-mark-4.ensures.1 in
    rw (p.1, p.2) (missed _ c.loop-self.invariant.leads _ (mark_missed _ (MoreTable c.loop-self.more) (codes "=") c.loop-self.self _ c.in_err-mark-4.ensures.other refl (λ h. if_false _ _ (sym c.next_is_dimension.ensures ∙ c.loop-self-test.false) ∙ if_false _ _ h)))

pub returns-in_err-mark-4-clause-same : goal.returns-in_err-mark-4-clause-same
returns-in_err-mark-4-clause-same c = c.in_err-mark-4.ensures.same ∙ c.loop-self.invariant.same

pub returns-in_err-rows-clause-misses : goal.returns-in_err-rows-clause-misses
returns-in_err-rows-clause-misses c =
    let p = err_from_is_err_and c.from_residual-in_err-rows.result c.from_residual-in_err-rows.ensures.1 in
    rw (p.1, p.2) (missed _ (last c.loop-self.invariant.leads (takes {s = MoreTable c.loop-self.more} _ refl (if_false _ _ (sym c.next_is_dimension.ensures ∙ c.loop-self-test.false) ∙ if_true _ _ c.in_ok-mark-4.ensures.takes.is) c.in_ok-mark-4.ensures.takes.taken)) _ c.in_err-rows.ensures.misses)

pub returns-in_err-rows-clause-same : goal.returns-in_err-rows-clause-same
returns-in_err-rows-clause-same c = c.in_err-rows.ensures.same ∙ c.in_ok-mark-4.ensures.same ∙ c.loop-self.invariant.same

pub returns-in_err-mark-5-clause-misses : goal.returns-in_err-mark-5-clause-misses
returns-in_err-mark-5-clause-misses c =
    let p = err_from_is_err_and c.from_residual-in_err-mark-5.result c.from_residual-in_err-mark-5.ensures.1 in
    rw (p.1, p.2) (missed _ (next (last c.loop-self.invariant.leads (takes {s = MoreTable c.loop-self.more} _ refl (if_false _ _ (sym c.next_is_dimension.ensures ∙ c.loop-self-test.false) ∙ if_true _ _ c.in_ok-mark-4.ensures.takes.is) c.in_ok-mark-4.ensures.takes.taken)) c.in_ok-rows.ensures.ok) _ c.in_err-mark-5.ensures.misses)

pub returns-in_err-mark-5-clause-same : goal.returns-in_err-mark-5-clause-same
returns-in_err-mark-5-clause-same c = c.in_err-mark-5.ensures.same ∙ c.in_ok-rows.ensures.same ∙ c.in_ok-mark-4.ensures.same ∙ c.loop-self.invariant.same

pub returns-clause-ok : goal.returns-clause-ok
returns-clause-ok c = read_as (last c.loop-self.invariant.leads (next (next (takes {s = MoreTable c.loop-self.more} _ refl (if_false _ _ (sym c.next_is_dimension.ensures ∙ c.loop-self-test.false) ∙ if_true _ _ c.in_ok-mark-4.ensures.takes.is) c.in_ok-mark-4.ensures.takes.taken) c.in_ok-rows.ensures.ok) c.in_ok-mark-5.ensures.ok)) (ap (λ (x : Exprs). record { signedness = c.in-Some.signedness; array = record { name = c.in_ok-name.name; dimensions = x }; rows = rows_of c.in_ok-rows.rows }) (exprs_none c.loop-self.dimensions.items))

pub returns-clause-same : goal.returns-clause-same
returns-clause-same c = c.in_ok-mark-5.ensures.same ∙ c.in_ok-rows.ensures.same ∙ c.in_ok-mark-4.ensures.same ∙ c.loop-self.invariant.same
