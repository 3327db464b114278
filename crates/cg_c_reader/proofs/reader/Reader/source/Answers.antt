use Rattle.std.proofs.Common.{refl, ap, sym, ◌∙◌}
use Rattle.std.proofs.lemmas.Result.{err_from_is_err_and}
use Rattle.std.proofs.Common.{◌≡◌, List, [], rules}
use Rattle.cg_c_syntax.specs.declared.source.Global.{Global as WrittenGlobal}
use Rattle.cg_c_syntax.specs.Symbols.{Declarations}
use Rattle.cg_c_reader.specs.Parts.{with_globals}
use Rattle.cg_c_reader.proofs.Single.{if_true, if_false}
use Rattle.cg_c_reader.proofs.Leading.{takes, begins, next, last, valued, read_as, missed}
use Rattle.cg_c_reader.proofs.Globals.{globals_push, globals_all}
use Rattle.cg_c_reader.proofs.Shorter.{declaration_shorter}
use Rattle.cg_c_reader.proofs.reader.Reader.source.Goals as goal

pub loop-globals-init : goal.loop-globals-init
loop-globals-init c = record { leads = valued (λ vs. ap (λ (x : List WrittenGlobal). with_globals x vs.0) (let e : [] ≡ c.new-globals.result.items = search rules in e)) c.in_ok-includes.ensures.ok; same = c.in_ok-includes.ensures.same }

pub returns-in_err-declaration-clause-misses : goal.returns-in_err-declaration-clause-misses
returns-in_err-declaration-clause-misses c =
    let p = err_from_is_err_and c.from_residual-in_err-declaration.result c.from_residual-in_err-declaration.ensures.1 in
    rw (p.1, p.2) (missed _ (last c.loop-globals.invariant.leads (begins {s = Declarations} _ refl (if_false _ _ (sym c.next_is_word.ensures ∙ c.loop-globals-test.true)))) _ c.in_err-declaration.ensures.misses)

pub returns-in_err-declaration-clause-same : goal.returns-in_err-declaration-clause-same
returns-in_err-declaration-clause-same c = c.in_err-declaration.ensures.same ∙ c.loop-globals.invariant.same

pub loop-globals-smaller : goal.loop-globals-smaller
loop-globals-smaller c = declaration_shorter c.in_ok-declaration.ensures.ok

pub loop-globals-preserved : goal.loop-globals-preserved
loop-globals-preserved c = record {
  leads = valued (λ vs. sym (globals_push c.loop-globals.globals.items c.in_ok-declaration.field-0 vs.0) ∙ ap (λ (x : List WrittenGlobal). with_globals x vs.0) (sym c.in_ok-push.ensures.items)) (last c.loop-globals.invariant.leads (next (begins {s = Declarations} _ refl (if_false _ _ (sym c.next_is_word.ensures ∙ c.loop-globals-test.true))) c.in_ok-declaration.ensures.ok));
  same = c.in_ok-declaration.ensures.same ∙ c.loop-globals.invariant.same;
}

pub returns-in_err-push-clause-same : goal.returns-in_err-push-clause-same
returns-in_err-push-clause-same c = c.in_ok-declaration.ensures.same ∙ c.loop-globals.invariant.same

pub returns-in_err-name-clause-misses : goal.returns-in_err-name-clause-misses
returns-in_err-name-clause-misses c =
    let p = err_from_is_err_and c.from_residual-in_err-name.result c.from_residual-in_err-name.ensures.1 in
    rw (p.1, p.2) (missed _ c.loop-globals.invariant.leads _ (c.in_err-name.ensures.misses Declarations _ _ (takes {s = Declarations} _ refl (if_true _ _ (sym c.next_is_word.ensures ∙ c.loop-globals-test.false)) c.take.ensures.taken)))

pub returns-in_err-name-clause-same : goal.returns-in_err-name-clause-same
returns-in_err-name-clause-same c = c.in_err-name.ensures.same ∙ c.take.ensures.same ∙ c.loop-globals.invariant.same

pub returns-in_err-body-clause-misses : goal.returns-in_err-body-clause-misses
returns-in_err-body-clause-misses c =
    let p = err_from_is_err_and c.from_residual-in_err-body.result c.from_residual-in_err-body.ensures.1 in
    rw (p.1, p.2) (missed _ (last c.loop-globals.invariant.leads (c.in_ok-name.ensures.ok Declarations _ _ (takes {s = Declarations} _ refl (if_true _ _ (sym c.next_is_word.ensures ∙ c.loop-globals-test.false)) c.take.ensures.taken))) _ c.in_err-body.ensures.misses)

pub returns-in_err-body-clause-same : goal.returns-in_err-body-clause-same
returns-in_err-body-clause-same c = c.in_err-body.ensures.same ∙ c.in_ok-name.ensures.same ∙ c.take.ensures.same ∙ c.loop-globals.invariant.same

pub returns-clause-ok : goal.returns-clause-ok
returns-clause-ok c = read_as (last c.loop-globals.invariant.leads (next (c.in_ok-name.ensures.ok Declarations _ _ (takes {s = Declarations} _ refl (if_true _ _ (sym c.next_is_word.ensures ∙ c.loop-globals-test.false)) c.take.ensures.taken)) c.in_ok-body.ensures.ok)) (globals_all c.loop-globals.globals.items c.in_ok-name.name c.in_ok-body.body ∙ sym c.whole_source.ensures)

pub returns-clause-same : goal.returns-clause-same
returns-clause-same c = c.in_ok-body.ensures.same ∙ c.in_ok-name.ensures.same ∙ c.take.ensures.same ∙ c.loop-globals.invariant.same
