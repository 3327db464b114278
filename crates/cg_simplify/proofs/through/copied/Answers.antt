use Rattle.std.proofs.Common.{◌≡◌, Some}
use Rattle.std.specs.Prelude.{slice_get}
use Rattle.cg_simplify.specs.Operands.{IsValueOf}
use Rattle.cg_simplify.proofs.Throughs.{if_some, of_const}
use Rattle.cg_simplify.proofs.through.copied.Goals as goal

pub returns : goal.returns
returns c = λ nodes tops.
    if_some c.operand_at.result (λ x. slice_get c.args.node.now.operands 0 ≡ Some x.now) (λ x. IsValueOf nodes tops c.args.node.now x.now)
    (λ x h. of_const nodes tops c.args.node.now x.now c.requires h) c.operand_at.ensures
