use Rattle.std.proofs.Common.{sym, arith}
use Rattle.std.proofs.lemmas.Grind.{common_steps}
use Rattle.cg_c_check.specs.Written.{expr_of}
use Rattle.cg_c_check.proofs.Typed.{no_literal}
use Rattle.cg_c_check.proofs.expressions.Joined.literal.Goals as goal

pub returns-else-is_empty : goal.returns-else-is_empty
returns-else-is_empty c = sym (no_literal (expr_of c.args.self.now.first) c.args.self.now.rest.items (grind (arith, common_steps)))
