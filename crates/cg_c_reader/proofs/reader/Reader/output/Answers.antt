use Rattle.std.proofs.Common.{refl}
use Rattle.std.proofs.lemmas.Result.{err_from_is_err_and}
use Rattle.cg_c_syntax.specs.Symbols.{Plain}
use Rattle.cg_c_reader.specs.Left.{left}
use Rattle.cg_c_reader.proofs.Leading.{takes, next, read, missed}
use Rattle.cg_c_syntax.specs.declared.opening.Beginning.TheVariants as beginnings
use Rattle.cg_c_reader.proofs.Beginning.{beginning_goes_on, plain_is, plain_free}
use Rattle.cg_c_reader.proofs.reader.Reader.output.Goals as goal

pub take-requires : goal.take-requires
take-requires c = beginning_goes_on (left c.args.self.now).head _ c.requires.is (λ h. cc)

pub returns-in_err-mark-clause-misses : goal.returns-in_err-mark-clause-misses
returns-in_err-mark-clause-misses c =
    let p = err_from_is_err_and c.from_residual.result c.from_residual.ensures.1 in
    rw (p.1, p.2) (missed _ (takes {s = Plain c.args.depth} _ (plain_free c.args.depth (left c.args.self.now).head beginnings.Output c.requires.is refl) (plain_is c.args.depth (left c.args.self.now).head beginnings.Output c.requires.is) c.take.ensures.taken) _ c.in_err-mark.ensures.misses)

pub returns-in_err-port-clause-misses : goal.returns-in_err-port-clause-misses
returns-in_err-port-clause-misses c =
    let p = err_from_is_err_and c.from_residual-in_err-port.result c.from_residual-in_err-port.ensures.1 in
    rw (p.1, p.2) (missed _ (next (takes {s = Plain c.args.depth} _ (plain_free c.args.depth (left c.args.self.now).head beginnings.Output c.requires.is refl) (plain_is c.args.depth (left c.args.self.now).head beginnings.Output c.requires.is) c.take.ensures.taken) c.in_ok-mark.ensures.ok) _ c.in_err-port.ensures.misses)

pub returns-in_err-mark-2-clause-misses : goal.returns-in_err-mark-2-clause-misses
returns-in_err-mark-2-clause-misses c =
    let p = err_from_is_err_and c.from_residual-in_err-mark-2.result c.from_residual-in_err-mark-2.ensures.1 in
    rw (p.1, p.2) (missed _ (next (next (takes {s = Plain c.args.depth} _ (plain_free c.args.depth (left c.args.self.now).head beginnings.Output c.requires.is refl) (plain_is c.args.depth (left c.args.self.now).head beginnings.Output c.requires.is) c.take.ensures.taken) c.in_ok-mark.ensures.ok) c.in_ok-port.ensures.ok) _ c.in_err-mark-2.ensures.misses)

pub returns-in_err-value-clause-misses : goal.returns-in_err-value-clause-misses
returns-in_err-value-clause-misses c =
    let p = err_from_is_err_and c.from_residual-in_err-value.result c.from_residual-in_err-value.ensures.1 in
    rw (p.1, p.2) (missed _ (next (next (next (takes {s = Plain c.args.depth} _ (plain_free c.args.depth (left c.args.self.now).head beginnings.Output c.requires.is refl) (plain_is c.args.depth (left c.args.self.now).head beginnings.Output c.requires.is) c.take.ensures.taken) c.in_ok-mark.ensures.ok) c.in_ok-port.ensures.ok) c.in_ok-mark-2.ensures.ok) _ c.in_err-value.ensures.misses)

pub returns-in_err-mark-3-clause-misses : goal.returns-in_err-mark-3-clause-misses
returns-in_err-mark-3-clause-misses c =
    let p = err_from_is_err_and c.from_residual-in_err-mark-3.result c.from_residual-in_err-mark-3.ensures.1 in
    rw (p.1, p.2) (missed _ (next (next (next (next (takes {s = Plain c.args.depth} _ (plain_free c.args.depth (left c.args.self.now).head beginnings.Output c.requires.is refl) (plain_is c.args.depth (left c.args.self.now).head beginnings.Output c.requires.is) c.take.ensures.taken) c.in_ok-mark.ensures.ok) c.in_ok-port.ensures.ok) c.in_ok-mark-2.ensures.ok) c.in_ok-value.ensures.ok) _ c.in_err-mark-3.ensures.misses)

pub returns-in_err-mark-4-clause-misses : goal.returns-in_err-mark-4-clause-misses
returns-in_err-mark-4-clause-misses c =
    let p = err_from_is_err_and c.from_residual-in_err-mark-4.result c.from_residual-in_err-mark-4.ensures.1 in
    rw (p.1, p.2) (missed _ (next (next (next (next (next (takes {s = Plain c.args.depth} _ (plain_free c.args.depth (left c.args.self.now).head beginnings.Output c.requires.is refl) (plain_is c.args.depth (left c.args.self.now).head beginnings.Output c.requires.is) c.take.ensures.taken) c.in_ok-mark.ensures.ok) c.in_ok-port.ensures.ok) c.in_ok-mark-2.ensures.ok) c.in_ok-value.ensures.ok) c.in_ok-mark-3.ensures.ok) _ c.in_err-mark-4.ensures.misses)

pub returns-clause-ok : goal.returns-clause-ok
returns-clause-ok c = read (next (next (next (next (next (next (takes {s = Plain c.args.depth} _ (plain_free c.args.depth (left c.args.self.now).head beginnings.Output c.requires.is refl) (plain_is c.args.depth (left c.args.self.now).head beginnings.Output c.requires.is) c.take.ensures.taken) c.in_ok-mark.ensures.ok) c.in_ok-port.ensures.ok) c.in_ok-mark-2.ensures.ok) c.in_ok-value.ensures.ok) c.in_ok-mark-3.ensures.ok) c.in_ok-mark-4.ensures.ok)
