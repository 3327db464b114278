use Rattle.std.proofs.Common.{refl, ap}
use Rattle.std.proofs.lemmas.Result.{err_from_is_err_and}
use Rattle.cg_c_syntax.specs.Symbols.{File}
use Rattle.cg_c_syntax.specs.Grammar.{file_step}
use Rattle.cg_c_reader.proofs.Whole.{file_stops}
use Rattle.cg_c_reader.proofs.Leading.{takes, next, missed}
use Rattle.cg_c_reader.proofs.Composed.{fails_stops}
use Rattle.cg_c_reader.proofs.reader.Reader.includes.Goals as goal

pub returns-in_err-line_end-in-Stdint-clause-misses : goal.returns-in_err-line_end-in-Stdint-clause-misses
returns-in_err-line_end-in-Stdint-clause-misses c =
    let p = err_from_is_err_and c.from_residual.result c.from_residual.ensures.1 in
    rw (p.1, p.2) (missed _ (takes {s = File} _ refl (ap file_step c.in-Stdint.is) c.take.ensures.taken) _ c.in_err-line_end-in-Stdint.ensures.misses)

pub returns-in_err-cgra_include-in-Stdint-clause-misses : goal.returns-in_err-cgra_include-in-Stdint-clause-misses
returns-in_err-cgra_include-in-Stdint-clause-misses c =
    let p = err_from_is_err_and c.from_residual-in_err-cgra_include-in-Stdint.result c.from_residual-in_err-cgra_include-in-Stdint.ensures.1 in
    rw (p.1, p.2) (missed _ (next (takes {s = File} _ refl (ap file_step c.in-Stdint.is) c.take.ensures.taken) c.in_ok-line_end-in-Stdint.ensures.ok) _ c.in_err-cgra_include-in-Stdint.ensures.misses)

pub returns-in_err-line_end-in-Stdint-2-clause-misses : goal.returns-in_err-line_end-in-Stdint-2-clause-misses
returns-in_err-line_end-in-Stdint-2-clause-misses c =
    let p = err_from_is_err_and c.from_residual-in_err-line_end-in-Stdint-2.result c.from_residual-in_err-line_end-in-Stdint-2.ensures.1 in
    rw (p.1, p.2) (missed _ (next (next (takes {s = File} _ refl (ap file_step c.in-Stdint.is) c.take.ensures.taken) c.in_ok-line_end-in-Stdint.ensures.ok) c.in_ok-cgra_include-in-Stdint.ensures.ok) _ c.in_err-line_end-in-Stdint-2.ensures.misses)

pub returns-in_err-line_end-in-Cgra-clause-misses : goal.returns-in_err-line_end-in-Cgra-clause-misses
returns-in_err-line_end-in-Cgra-clause-misses c =
    let p = err_from_is_err_and c.from_residual-in_err-line_end-in-Cgra.result c.from_residual-in_err-line_end-in-Cgra.ensures.1 in
    rw (p.1, p.2) (missed _ (takes {s = File} _ refl (ap file_step c.in-Cgra.is) c.take-in-Cgra.ensures.taken) _ c.in_err-line_end-in-Cgra.ensures.misses)

pub returns-in_ok-line_end-in-Stdint-2-clause-ok : goal.returns-in_ok-line_end-in-Stdint-2-clause-ok
returns-in_ok-line_end-in-Stdint-2-clause-ok c = next (next (next (takes {s = File} _ refl (ap file_step c.in-Stdint.is) c.take.ensures.taken) c.in_ok-line_end-in-Stdint.ensures.ok) c.in_ok-cgra_include-in-Stdint.ensures.ok) c.in_ok-line_end-in-Stdint-2.ensures.ok

pub returns-in_default-clause-misses : goal.returns-in_default-clause-misses
returns-in_default-clause-misses c = fails_stops _ refl (file_stops _ c.in_default.not-Stdint c.in_default.not-Cgra)

pub returns-in_ok-line_end-in-Cgra-clause-ok : goal.returns-in_ok-line_end-in-Cgra-clause-ok
returns-in_ok-line_end-in-Cgra-clause-ok c = next (takes {s = File} _ refl (ap file_step c.in-Cgra.is) c.take-in-Cgra.ensures.taken) c.in_ok-line_end-in-Cgra.ensures.ok
