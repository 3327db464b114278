use Rattle.std.proofs.Common.{◌∙◌, ap}
use Rattle.cg_c_check.specs.Written.{expr_of, linked}
use Rattle.cg_c_check.proofs.Typed.{chain_is}
use Rattle.cg_c_check.proofs.expressions.Joined.into_expr.Goals as goal

pub returns : goal.returns
returns c = chain_is c.in_ok-new.field-0 c.args.self.rest ∙ ap (λ z. linked (expr_of z) c.args.self.rest.items) c.in_ok-new.ensures.ok
