use Rattle.cg_word.specs.declared.op.Op.TheVariants as ops
use Rattle.cg_c_values.proofs.Bits.{or_all, or_itself, or_zero}
use Rattle.cg_c_values.proofs.Planning.{first_at, first_if_equal, second_at}
use Rattle.cg_c_values.proofs.values.Values.plan_or.Goals as goal
use Rattle.cg_c_values.proofs.values.Values.plan_or.Goals.{then-first-second-via-then-first-second, then-first-second-via-else-first-second+then-is_number}

pub returns-then-first-second : goal.returns-then-first-second
returns-then-first-second c =
    elim c.then-first-second.branch [
      | then-first-second-via-then-first-second w ↦ first_if_equal c.args.self.now.values.keys ops.Or c.args.first c.args.second c.requires.first w.if-first-second.true (λ y l. or_itself y)
      | then-first-second-via-else-first-second+then-is_number w ↦ first_at c.args.self.now.values.keys ops.Or c.args.first c.args.second c.requires.first 0 (w.is_number.ensures w.if-is_number.true) (λ y l. or_zero y)
    ]

pub returns-then-is_number-2 : goal.returns-then-is_number-2
returns-then-is_number-2 c = second_at c.args.self.now.values.keys ops.Or c.args.first c.args.second c.requires.first 4294967295 (c.is_number-2.ensures c.if-is_number-2.true) or_all
