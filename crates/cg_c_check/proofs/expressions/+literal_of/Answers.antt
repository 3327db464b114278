use Rattle.std.proofs.Common.{◌∙◌, ap, arith}
use Rattle.std.proofs.lemmas.Grind.{common_steps}
use Rattle.cg_c_check.specs.Expressions.{literal_of}
use Rattle.cg_c_check.specs.Written.{expr_of}
use Rattle.cg_c_check.proofs.Typed.{first_literal, chain_literal}
use Rattle.cg_c_check.proofs.expressions.+literal_of.Goals as goal

pub returns-then-is_empty : goal.returns-then-is_empty
returns-then-is_empty t c =
    c.literal_of.ensures ∙ ap (λ z. literal_of (expr_of z)) c.deref.ensures ∙ first_literal c.args.expr.now c.in-Chain.first c.in-Chain.rest c.in-Chain.is (grind (arith, common_steps))

pub returns-else-is_empty : goal.returns-else-is_empty
returns-else-is_empty t c = chain_literal c.args.expr.now c.in-Chain.first c.in-Chain.rest c.in-Chain.is (grind (arith, common_steps))
