use Rattle.std.proofs.Common.{arith}
use Rattle.cg_word.specs.declared.op.Op.TheVariants as ops
use Rattle.cg_c_values.proofs.Comparing.{lts_greatest, lts_itself, lts_least}
use Rattle.cg_c_values.proofs.Planning.{number_as, number_at, number_if_equal}
use Rattle.cg_c_values.proofs.values.Values.plan_lts.Goals as goal
use Rattle.cg_c_values.proofs.values.Values.plan_lts.Goals.{then-first-second-via-then-first-second, then-first-second-via-else-first-second+then-is_number, then-first-second-via-else-first-second+else-is_number+then-is_number-2}

pub returns-then-first-second : goal.returns-then-first-second
returns-then-first-second c =
    elim c.then-first-second.branch [
      | then-first-second-via-then-first-second w ↦ number_if_equal c.args.self.now.values.keys ops.Lts c.args.first c.args.second c.requires.first 0 (omega arith) w.if-first-second.true (λ y l. lts_itself y)
      | then-first-second-via-else-first-second+then-is_number w ↦ number_at c.args.self.now.values.keys ops.Lts c.args.first c.args.second c.requires.first 2147483648 0 (omega arith) (w.is_number.ensures w.if-is_number.true) (λ y l. lts_least y)
      | then-first-second-via-else-first-second+else-is_number+then-is_number-2 w ↦ number_as c.args.self.now.values.keys ops.Lts c.args.first c.args.second c.requires.first 2147483647 0 (omega arith) (w.is_number-else-is_number.ensures w.if-is_number-2.true) lts_greatest c.requires.second
    ]
