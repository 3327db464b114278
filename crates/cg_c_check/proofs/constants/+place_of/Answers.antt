use Rattle.std.proofs.Common.{◌∙◌, ap}
use Rattle.cg_c_check.specs.Constants.{place_of}
use Rattle.cg_c_syntax.specs.Written.{expr_of}
use Rattle.cg_c_check.proofs.Rows.{place_chain, place_first}
use Rattle.cg_c_check.proofs.constants.+place_of.Goals as goal

pub returns-in-Some : goal.returns-in-Some
returns-in-Some t c =
    place_chain c.args.expr.now c.in-Chain.first c.in-Chain.rest c.deref.result.now c.in-Some.link.now c.in-Chain.is c.deref.ensures.value c.in-Some.ensures.item.3.0 c.in-Some.ensures.item.1

pub returns-in-None : goal.returns-in-None
returns-in-None t c =
    c.place_of.ensures ∙ ap (λ z. place_of (expr_of z)) c.deref-in-None.ensures ∙ place_first c.args.expr.now c.in-Chain.first c.in-Chain.rest c.deref.result.now c.in-Chain.is c.deref.ensures.value c.in-None.ensures.item.3
