use Rattle.cg_c_values.proofs.Shifting.{shift_zero}
use Rattle.cg_c_values.proofs.Planning.{first_as}
use Rattle.cg_c_values.proofs.values.Values.plan_shift.Goals as goal

pub returns-then-is_number : goal.returns-then-is_number
returns-then-is_number c = first_as c.args.self.now.values.keys c.args.op c.args.first c.args.second c.requires.first 0 (c.is_number.ensures c.if-is_number.true) (λ y l. shift_zero c.args.op y c.requires.shift) c.requires.second
