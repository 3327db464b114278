use Rattle.std.proofs.Common.{refl, ap, sym}
use Rattle.std.proofs.lemmas.Result.{err_from_is_err_and}
use Rattle.cg_c_syntax.specs.declared.expression.Named.{Named}
use Rattle.cg_c_syntax.specs.Symbols.{Plain}
use Rattle.cg_c_syntax.specs.Tree.{Assign}
use Rattle.cg_c_syntax.specs.Written.{expr_of, exprs_of}
use Rattle.cg_c_reader.specs.Left.{left}
use Rattle.cg_c_reader.proofs.Leading.{takes, next, read_as, missed}
use Rattle.cg_c_syntax.specs.declared.opening.Beginning.TheVariants as beginnings
use Rattle.cg_c_reader.proofs.Beginning.{beginning_goes_on, beginning_word, plain_is, plain_free}
use Rattle.cg_c_reader.proofs.reader.Reader.assignment.Goals as goal

pub named-requires : goal.named-requires
named-requires c = beginning_word (left c.args.self.now).head c.requires.is

pub take-requires : goal.take-requires
take-requires c = beginning_goes_on (left c.args.self.now).head _ c.requires.is (λ h. cc)

pub returns-in_err-indices-clause-misses : goal.returns-in_err-indices-clause-misses
returns-in_err-indices-clause-misses c =
    let p = err_from_is_err_and c.from_residual-in_err-indices.result c.from_residual-in_err-indices.ensures.1 in
    rw (p.1, p.2) (missed _ (takes {s = Plain c.args.depth} _ (plain_free c.args.depth (left c.args.self.now).head beginnings.Name c.requires.is refl) (plain_is c.args.depth (left c.args.self.now).head beginnings.Name c.requires.is) c.take.ensures.taken) _ c.in_err-indices.ensures.misses)

pub returns-in_err-op-clause-misses : goal.returns-in_err-op-clause-misses
returns-in_err-op-clause-misses c =
    let p = err_from_is_err_and c.from_residual-in_err-op.result c.from_residual-in_err-op.ensures.1 in
    rw (p.1, p.2) (missed _ (next (takes {s = Plain c.args.depth} _ (plain_free c.args.depth (left c.args.self.now).head beginnings.Name c.requires.is refl) (plain_is c.args.depth (left c.args.self.now).head beginnings.Name c.requires.is) c.take.ensures.taken) c.in_ok-indices.ensures.ok) _ c.in_err-op.ensures.misses)

pub returns-clause-ok : goal.returns-clause-ok
returns-clause-ok c =
    read_as (next (next (takes {s = Plain c.args.depth} _ (plain_free c.args.depth (left c.args.self.now).head beginnings.Name c.requires.is refl) (plain_is c.args.depth (left c.args.self.now).head beginnings.Name c.requires.is) c.take.ensures.taken) c.in_ok-indices.ensures.ok) c.in_ok-op.ensures.ok)
    (ap (λ (n : Named). Assign (record { name = n; indices = exprs_of c.in_ok-indices.indices.items }) c.in_ok-op.field-0.op (expr_of c.in_ok-op.field-0.value)) (sym c.in_ok-name.ensures))
