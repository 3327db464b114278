use Rattle.std.proofs.Common.{refl, ap, sym, ◌∙◌, arith}
use Rattle.std.proofs.lemmas.Result.{err_from_is_err_and}
use Rattle.std.proofs.Common.{◌≡◌, List, [], ◌∷◌, codes, rules, suc, ◌-◌}
use Rattle.cg_c_syntax.specs.Symbols.{MoreRows}
use Rattle.cg_c_syntax.specs.Written.{rows_before}
use Rattle.cg_c_syntax.specs.declared.source.Rows.{Rows as WrittenRows}
use Rattle.cg_c_syntax.specs.Tree.{Inner}
use Rattle.cg_c_reader.proofs.Declaring.{row_takes, row_missed}
use Rattle.cg_c_reader.specs.Left.{left}
use Rattle.cg_c_reader.proofs.Single.{if_true, if_false, mark_missed}
use Rattle.cg_c_reader.proofs.Leading.{takes, next, last, valued, read_as, missed}
use Rattle.cg_c_reader.proofs.Lists.{rows_push, rows_none}
use Rattle.cg_c_reader.proofs.Shorter.{taken_shorter, reads_shorter}
use Rattle.cg_c_reader.proofs.reader.Reader.+rows.Goals as goal

pub inner_rows-returns-in_err-mark-clause-misses : goal.inner_rows-returns-in_err-mark-clause-misses
inner_rows-returns-in_err-mark-clause-misses t c =
    let p = err_from_is_err_and c.from_residual.result c.from_residual.ensures.1 in
    rw (p.1, p.2) (row_missed _ c.args.more (c.args.more - 1) c.args.self.now _ (let e : c.args.more ≡ suc (c.args.more - 1) = omega arith in e) c.in_err-mark.ensures.other)

pub inner_rows-rows-requires : goal.inner_rows-rows-requires
inner_rows-rows-requires t c = search rules

pub inner_rows-returns-in_err-rows-clause-misses : goal.inner_rows-returns-in_err-rows-clause-misses
inner_rows-returns-in_err-rows-clause-misses t c =
    let p = err_from_is_err_and c.from_residual-in_err-rows.result c.from_residual-in_err-rows.ensures.1 in
    rw (p.1, p.2) (missed _ (row_takes c.args.more (c.args.more - 1) (left c.args.self.now) (left c.mark.new.self) (let e : c.args.more ≡ suc (c.args.more - 1) = omega arith in e) c.in_ok-mark.ensures.takes.is c.in_ok-mark.ensures.takes.taken) _ c.in_err-rows.ensures.misses)

pub inner_rows-loop-alloc-init : goal.inner_rows-loop-alloc-init
inner_rows-loop-alloc-init t c = record { leads = valued (λ vs. ap (λ (x : List WrittenRows). Inner c.args.self.now.token.place (rows_before x vs.0)) (let e : c.in_ok-rows.field-0 ∷ [] ≡ c.push.new.self.items = search rules in e)) (next (row_takes c.args.more (c.args.more - 1) (left c.args.self.now) (left c.mark.new.self) (let e : c.args.more ≡ suc (c.args.more - 1) = omega arith in e) c.in_ok-mark.ensures.takes.is c.in_ok-mark.ensures.takes.taken) c.in_ok-rows.ensures.ok); same = c.in_ok-rows.ensures.same ∙ c.in_ok-mark.ensures.same }

pub inner_rows-returns-in_err-rows-2-clause-misses : goal.inner_rows-returns-in_err-rows-2-clause-misses
inner_rows-returns-in_err-rows-2-clause-misses t c =
    let p = err_from_is_err_and c.from_residual-in_err-rows-2.result c.from_residual-in_err-rows-2.ensures.1 in
    rw (p.1, p.2) (missed _ (last c.loop-alloc.invariant.leads (takes {s = MoreRows (c.args.more - 1)} _ refl (if_true _ _ (sym c.next_is.ensures ∙ c.loop-alloc-test.true)) c.take.ensures.taken)) _ c.in_err-rows-2.ensures.misses)

pub inner_rows-returns-in_err-rows-2-clause-same : goal.inner_rows-returns-in_err-rows-2-clause-same
inner_rows-returns-in_err-rows-2-clause-same t c = c.in_err-rows-2.ensures.same ∙ c.take.ensures.same ∙ c.loop-alloc.invariant.same

pub inner_rows-loop-alloc-smaller : goal.inner_rows-loop-alloc-smaller
inner_rows-loop-alloc-smaller t c = omega (arith, taken_shorter (left c.loop-alloc.self) (left c.take.new.self) c.take.ensures.taken, reads_shorter c.in_ok-rows-2.ensures.ok)

pub inner_rows-loop-alloc-preserved : goal.inner_rows-loop-alloc-preserved
inner_rows-loop-alloc-preserved t c = record {
  leads = valued (λ vs. ap (Inner c.args.self.now.token.place) (sym (rows_push c.loop-alloc.rows.items c.in_ok-rows-2.field-0 vs.0)) ∙ ap (λ (x : List WrittenRows). Inner c.args.self.now.token.place (rows_before x vs.0)) (sym c.in_ok-push-2.ensures.items)) (last c.loop-alloc.invariant.leads (next (takes {s = MoreRows (c.args.more - 1)} _ refl (if_true _ _ (sym c.next_is.ensures ∙ c.loop-alloc-test.true)) c.take.ensures.taken) c.in_ok-rows-2.ensures.ok));
  same = c.in_ok-rows-2.ensures.same ∙ c.take.ensures.same ∙ c.loop-alloc.invariant.same;
}

pub inner_rows-returns-in_err-push-2-clause-same : goal.inner_rows-returns-in_err-push-2-clause-same
inner_rows-returns-in_err-push-2-clause-same t c = c.in_ok-rows-2.ensures.same ∙ c.take.ensures.same ∙ c.loop-alloc.invariant.same

pub inner_rows-returns-in_err-mark-2-clause-misses : goal.inner_rows-returns-in_err-mark-2-clause-misses
inner_rows-returns-in_err-mark-2-clause-misses t c =
    let p = err_from_is_err_and c.from_residual-in_err-mark-2.result c.from_residual-in_err-mark-2.ensures.1 in
    rw (p.1, p.2) (missed _ c.loop-alloc.invariant.leads _ (mark_missed _ (MoreRows (c.args.more - 1)) (codes "}") c.loop-alloc.self _ c.in_err-mark-2.ensures.other refl (λ h. if_false _ _ (sym c.next_is.ensures ∙ c.loop-alloc-test.false) ∙ if_false _ _ h)))

pub inner_rows-returns-in_err-mark-2-clause-same : goal.inner_rows-returns-in_err-mark-2-clause-same
inner_rows-returns-in_err-mark-2-clause-same t c = c.in_err-mark-2.ensures.same ∙ c.loop-alloc.invariant.same

pub inner_rows-returns-clause-ok : goal.inner_rows-returns-clause-ok
inner_rows-returns-clause-ok t c = read_as (last c.loop-alloc.invariant.leads (takes {s = MoreRows (c.args.more - 1)} _ refl (if_false _ _ (sym c.next_is.ensures ∙ c.loop-alloc-test.false) ∙ if_true _ _ c.in_ok-mark-2.ensures.takes.is) c.in_ok-mark-2.ensures.takes.taken)) (ap (Inner c.args.self.now.token.place) (rows_none c.loop-alloc.rows.items) ∙ sym c.listed.ensures)

pub inner_rows-returns-clause-same : goal.inner_rows-returns-clause-same
inner_rows-returns-clause-same t c = c.in_ok-mark-2.ensures.same ∙ c.loop-alloc.invariant.same

pub rows-inner_rows-requires : goal.rows-inner_rows-requires
rows-inner_rows-requires t c = (search rules, omega arith)
