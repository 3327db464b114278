use Rattle.std.proofs.Common.{◌∙◌, ap}
use Rattle.cg_c_check.specs.Program.{signedness_of}
use Rattle.cg_c_check.specs.Written.{expr_of}
use Rattle.cg_c_check.proofs.Typed.{chain_signedness, first_signedness}
use Rattle.cg_c_check.proofs.expressions.+signedness_of.Goals as goal

pub returns-in-Some : goal.returns-in-Some
returns-in-Some t c =
    c.value_signedness.ensures
    ∙ chain_signedness c.args.expr.now c.in-Chain.first c.in-Chain.rest c.deref.result.now c.in-Some.link.now c.in-Chain.is c.deref.ensures.value c.in-Some.ensures.item.3.0 c.in-Some.ensures.item.1

pub returns-in-None : goal.returns-in-None
returns-in-None t c =
    c.signedness_of.ensures ∙ ap (λ z. signedness_of (expr_of z)) c.deref-in-None.ensures
    ∙ first_signedness c.args.expr.now c.in-Chain.first c.in-Chain.rest c.deref.result.now c.in-Chain.is c.deref.ensures.value c.in-None.ensures.item.3
