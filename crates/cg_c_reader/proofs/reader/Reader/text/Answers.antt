use Rattle.std.proofs.Common.{sym, ◌∙◌}
use Rattle.std.proofs.lemmas.Result.{err_from_is_err_and}
use Rattle.cg_c_reader.proofs.Whole.{source_missed, ending_reads, ending_stops, last_left}
use Rattle.cg_c_reader.proofs.reader.Reader.text.Goals as goal

pub returns-in_err-source-clause-misses : goal.returns-in_err-source-clause-misses
returns-in_err-source-clause-misses c =
    let p = err_from_is_err_and c.from_residual.result c.from_residual.ensures.1 in
    rw (p.1, p.2) (source_missed _ _ _ c.in_err-source.ensures.misses)

pub returns-then-is_text_end-clause-ok : goal.returns-then-is_text_end-clause-ok
returns-then-is_text_end-clause-ok c = ending_reads c.in_ok-source.ensures.ok (sym c.is_text_end.ensures ∙ c.if-is_text_end.true)

pub returns-then-is_text_end-clause-ends : goal.returns-then-is_text_end-clause-ends
returns-then-is_text_end-clause-ends c = last_left c.source.new.self (sym c.is_text_end.ensures ∙ c.if-is_text_end.true)

pub returns-else-is_text_end-clause-misses : goal.returns-else-is_text_end-clause-misses
returns-else-is_text_end-clause-misses c = ending_stops c.in_ok-source.ensures.ok (sym c.is_text_end.ensures ∙ c.if-is_text_end.false)
