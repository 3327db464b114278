use Rattle.cg_c_values.specs.Listed.{listed}
use Rattle.cg_c_turn.proofs.Turning.{digit_is, both_ok}
use Rattle.std.proofs.lemmas.Result.{IfOk-weaker}
use Rattle.cg_c_turn.proofs.turn.digit.Goals as goal

pub returns-else-radix-eq1-clause-digit : goal.returns-else-radix-eq1-clause-digit
returns-else-radix-eq1-clause-digit c = IfOk-weaker c.insert.result _ _ (λ v h. digit_is (listed c.insert.new.self) v c.args.divisor c.args.radix h.0 h.1) (both_ok c.insert.result _ _ c.insert.ensures.within c.insert.ensures.added)
