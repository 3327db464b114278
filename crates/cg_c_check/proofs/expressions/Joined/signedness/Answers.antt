use Rattle.std.proofs.Common.{◌∙◌}
use Rattle.cg_c_check.specs.Written.{expr_of}
use Rattle.cg_c_check.proofs.Typed.{signedness_last}
use Rattle.cg_c_check.proofs.expressions.Joined.signedness.Goals as goal

pub returns-in-Some : goal.returns-in-Some
returns-in-Some c =
    c.value_signedness.ensures
    ∙ signedness_last (expr_of c.args.self.now.first) c.args.self.now.rest.items c.deref.result.now c.in-Some.link.now c.deref.ensures.value c.in-Some.ensures.item.3.0 c.in-Some.ensures.item.1
