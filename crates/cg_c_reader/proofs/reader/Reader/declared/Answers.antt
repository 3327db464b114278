use Rattle.std.proofs.Common.{refl, ap, sym, ◌∙◌, arith}
use Rattle.std.proofs.lemmas.Result.{err_from_is_err_and}
use Rattle.std.proofs.Common.{◌≡◌, List, [], ◌∷◌, ◌++◌, codes, rules}
use Rattle.std.specs.Prelude.{map}
use Rattle.std.proofs.lemmas.List.{append-nil}
use Rattle.cg_c_syntax.specs.declared.statement.Word.{Word as WrittenWord}
use Rattle.cg_c_syntax.specs.Tree.{Words}
use Rattle.cg_c_syntax.specs.Written.{word_of}
use Rattle.cg_c_syntax.specs.Symbols.{Statement, MoreDeclared}
use Rattle.cg_c_syntax.specs.Grammar.{statement_step}
use Rattle.cg_c_reader.specs.Left.{left}
use Rattle.cg_c_reader.proofs.Single.{if_true, if_false, mark_missed}
use Rattle.cg_c_reader.proofs.Leading.{takes, next, last, valued, read_as, missed}
use Rattle.cg_c_reader.proofs.Beginning.{type_goes_on}
use Rattle.cg_c_reader.proofs.Lists.{map_push}
use Rattle.cg_c_reader.proofs.Shorter.{taken_shorter, reads_shorter}
use Rattle.cg_c_reader.proofs.reader.Reader.declared.Goals as goal

pub take-requires : goal.take-requires
take-requires c = type_goes_on (left c.args.self.now).head _ c.requires.is

pub returns-in_err-word-clause-misses : goal.returns-in_err-word-clause-misses
returns-in_err-word-clause-misses c =
    let p = err_from_is_err_and c.from_residual.result c.from_residual.ensures.1 in
    rw (p.1, p.2) (missed _ (takes {s = Statement c.args.depth} _ refl (ap (statement_step c.args.depth) c.requires.is) c.take.ensures.taken) _ c.in_err-word.ensures.misses)

pub loop-alloc-init : goal.loop-alloc-init
loop-alloc-init c = record { leads = valued (λ vs. ap (λ (x : List WrittenWord). Words c.args.signedness (map word_of x ++ vs.0)) (let e : c.in_ok-word.field-0 ∷ [] ≡ c.push.new.self.items = search rules in e)) (next (takes {s = Statement c.args.depth} _ refl (ap (statement_step c.args.depth) c.requires.is) c.take.ensures.taken) c.in_ok-word.ensures.ok); same = c.in_ok-word.ensures.same ∙ c.take.ensures.same }

pub returns-in_err-word-2-clause-misses : goal.returns-in_err-word-2-clause-misses
returns-in_err-word-2-clause-misses c =
    let p = err_from_is_err_and c.from_residual-in_err-word-2.result c.from_residual-in_err-word-2.ensures.1 in
    rw (p.1, p.2) (missed _ (last c.loop-alloc.invariant.leads (takes {s = MoreDeclared c.args.depth} _ refl (if_true _ _ (sym c.next_is.ensures ∙ c.loop-alloc-test.true)) c.take-in-loop-alloc.ensures.taken)) _ c.in_err-word-2.ensures.misses)

pub returns-in_err-word-2-clause-same : goal.returns-in_err-word-2-clause-same
returns-in_err-word-2-clause-same c = c.in_err-word-2.ensures.same ∙ c.take-in-loop-alloc.ensures.same ∙ c.loop-alloc.invariant.same

pub loop-alloc-smaller : goal.loop-alloc-smaller
loop-alloc-smaller c = omega (arith, taken_shorter (left c.loop-alloc.self) (left c.take-in-loop-alloc.new.self) c.take-in-loop-alloc.ensures.taken, reads_shorter c.in_ok-word-2.ensures.ok)

pub loop-alloc-preserved : goal.loop-alloc-preserved
loop-alloc-preserved c = record {
  leads = valued (λ vs. ap (Words c.args.signedness) (sym (map_push word_of c.loop-alloc.words.items c.in_ok-word-2.field-0 vs.0)) ∙ ap (λ (x : List WrittenWord). Words c.args.signedness (map word_of x ++ vs.0)) (sym c.in_ok-push-2.ensures.items)) (last c.loop-alloc.invariant.leads (next (takes {s = MoreDeclared c.args.depth} _ refl (if_true _ _ (sym c.next_is.ensures ∙ c.loop-alloc-test.true)) c.take-in-loop-alloc.ensures.taken) c.in_ok-word-2.ensures.ok));
  same = c.in_ok-word-2.ensures.same ∙ c.take-in-loop-alloc.ensures.same ∙ c.loop-alloc.invariant.same;
}

pub returns-in_err-push-2-clause-same : goal.returns-in_err-push-2-clause-same
returns-in_err-push-2-clause-same c = c.in_ok-word-2.ensures.same ∙ c.take-in-loop-alloc.ensures.same ∙ c.loop-alloc.invariant.same

pub returns-in_err-mark-clause-misses : goal.returns-in_err-mark-clause-misses
returns-in_err-mark-clause-misses c =
    let p = err_from_is_err_and c.from_residual-in_err-mark.result c.from_residual-in_err-mark.ensures.1 in
    rw (p.1, p.2) (missed _ c.loop-alloc.invariant.leads _ (mark_missed _ (MoreDeclared c.args.depth) (codes ";") c.loop-alloc.self _ c.in_err-mark.ensures.other refl (λ h. if_false _ _ (sym c.next_is.ensures ∙ c.loop-alloc-test.false) ∙ if_false _ _ h)))

pub returns-in_err-mark-clause-same : goal.returns-in_err-mark-clause-same
returns-in_err-mark-clause-same c = c.in_err-mark.ensures.same ∙ c.loop-alloc.invariant.same

pub returns-clause-ok : goal.returns-clause-ok
returns-clause-ok c =
    read_as (last c.loop-alloc.invariant.leads (takes {s = MoreDeclared c.args.depth} _ refl (if_false _ _ (sym c.next_is.ensures ∙ c.loop-alloc-test.false) ∙ if_true _ _ c.in_ok-mark.ensures.takes.is) c.in_ok-mark.ensures.takes.taken))
    (ap (Words c.args.signedness) (append-nil (map word_of c.loop-alloc.words.items)))

pub returns-clause-same : goal.returns-clause-same
returns-clause-same c = c.in_ok-mark.ensures.same ∙ c.loop-alloc.invariant.same
