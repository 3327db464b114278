use Rattle.std.proofs.Common.{refl, sym, ◌∙◌}
use Rattle.std.proofs.lemmas.Result.{err_from_is_err_and}
use Rattle.std.proofs.Common.{codes}
use Rattle.cg_c_syntax.specs.Symbols.{Declaration}
use Rattle.cg_c_reader.proofs.Single.{word_goes_on}
use Rattle.cg_c_reader.specs.Left.{left}
use Rattle.cg_c_reader.proofs.Single.{if_true, if_false}
use Rattle.cg_c_reader.proofs.Leading.{takes, next, read, missed}
use Rattle.cg_c_reader.proofs.Declaring.{define_lasts}
use Rattle.cg_c_reader.proofs.reader.Reader.declaration.Goals as goal

pub take-requires : goal.take-requires
take-requires c = define_lasts _ (sym c.is_define.ensures ∙ c.if-is_define.true)

pub returns-in_err-constant-clause-misses : goal.returns-in_err-constant-clause-misses
returns-in_err-constant-clause-misses c =
    let p = err_from_is_err_and c.from_residual.result c.from_residual.ensures.1 in
    rw (p.1, p.2) (missed _ (takes {s = Declaration} _ refl (if_true _ _ (sym c.is_define.ensures ∙ c.if-is_define.true)) c.take.ensures.taken) _ c.in_err-constant.ensures.misses)

pub returns-then-is_define-clause-ok : goal.returns-then-is_define-clause-ok
returns-then-is_define-clause-ok c = read (next (takes {s = Declaration} _ refl (if_true _ _ (sym c.is_define.ensures ∙ c.if-is_define.true)) c.take.ensures.taken) c.in_ok-constant.ensures.ok)

pub enumeration-requires : goal.enumeration-requires
enumeration-requires c = record { is = if_false _ _ (sym c.is_define.ensures ∙ c.if-is_define.false) ∙ if_true _ _ (sym c.next_is_word.ensures ∙ c.if-next_is_word.true); goes_on = word_goes_on (codes "enum") (left c.args.self.now).head (sym c.next_is_word.ensures ∙ c.if-next_is_word.true) }

pub returns-in_err-the_word-clause-misses : goal.returns-in_err-the_word-clause-misses
returns-in_err-the_word-clause-misses c =
    let p = err_from_is_err_and c.from_residual-in_err-the_word.result c.from_residual-in_err-the_word.ensures.1 in
    rw (p.1, p.2) (missed _ (takes {s = Declaration} _ refl (if_false _ _ (sym c.is_define.ensures ∙ c.if-is_define.false) ∙ if_false _ _ (sym c.next_is_word.ensures ∙ c.if-next_is_word.false) ∙ if_true _ _ (sym c.next_is_word-2.ensures ∙ c.if-next_is_word-2.true)) c.take-then-next_is_word-2.ensures.taken) _ c.in_err-the_word.ensures.misses)

pub returns-in_err-table-clause-misses : goal.returns-in_err-table-clause-misses
returns-in_err-table-clause-misses c =
    let p = err_from_is_err_and c.from_residual-in_err-table.result c.from_residual-in_err-table.ensures.1 in
    rw (p.1, p.2) (missed _ (next (takes {s = Declaration} _ refl (if_false _ _ (sym c.is_define.ensures ∙ c.if-is_define.false) ∙ if_false _ _ (sym c.next_is_word.ensures ∙ c.if-next_is_word.false) ∙ if_true _ _ (sym c.next_is_word-2.ensures ∙ c.if-next_is_word-2.true)) c.take-then-next_is_word-2.ensures.taken) c.in_ok-the_word.ensures.ok) _ c.in_err-table.ensures.misses)

pub returns-then-next_is_word-2-clause-ok : goal.returns-then-next_is_word-2-clause-ok
returns-then-next_is_word-2-clause-ok c = read (next (next (takes {s = Declaration} _ refl (if_false _ _ (sym c.is_define.ensures ∙ c.if-is_define.false) ∙ if_false _ _ (sym c.next_is_word.ensures ∙ c.if-next_is_word.false) ∙ if_true _ _ (sym c.next_is_word-2.ensures ∙ c.if-next_is_word-2.true)) c.take-then-next_is_word-2.ensures.taken) c.in_ok-the_word.ensures.ok) c.in_ok-table.ensures.ok)

pub returns-in_err-table-2-clause-misses : goal.returns-in_err-table-2-clause-misses
returns-in_err-table-2-clause-misses c =
    let p = err_from_is_err_and c.from_residual-in_err-table-2.result c.from_residual-in_err-table-2.ensures.1 in
    rw (p.1, p.2) (missed _ (takes {s = Declaration} _ refl (if_false _ _ (sym c.is_define.ensures ∙ c.if-is_define.false) ∙ if_false _ _ (sym c.next_is_word.ensures ∙ c.if-next_is_word.false) ∙ if_false _ _ (sym c.next_is_word-2.ensures ∙ c.if-next_is_word-2.false) ∙ if_true _ _ (sym c.next_is_word-3.ensures ∙ c.if-next_is_word-3.true)) c.take-then-next_is_word-3.ensures.taken) _ c.in_err-table-2.ensures.misses)

pub returns-then-next_is_word-3-clause-ok : goal.returns-then-next_is_word-3-clause-ok
returns-then-next_is_word-3-clause-ok c = read (next (takes {s = Declaration} _ refl (if_false _ _ (sym c.is_define.ensures ∙ c.if-is_define.false) ∙ if_false _ _ (sym c.next_is_word.ensures ∙ c.if-next_is_word.false) ∙ if_false _ _ (sym c.next_is_word-2.ensures ∙ c.if-next_is_word-2.false) ∙ if_true _ _ (sym c.next_is_word-3.ensures ∙ c.if-next_is_word-3.true)) c.take-then-next_is_word-3.ensures.taken) c.in_ok-table-2.ensures.ok)

pub arrays-requires : goal.arrays-requires
arrays-requires c = if_false _ _ (sym c.is_define.ensures ∙ c.if-is_define.false) ∙ if_false _ _ (sym c.next_is_word.ensures ∙ c.if-next_is_word.false) ∙ if_false _ _ (sym c.next_is_word-2.ensures ∙ c.if-next_is_word-2.false) ∙ if_false _ _ (sym c.next_is_word-3.ensures ∙ c.if-next_is_word-3.false)
