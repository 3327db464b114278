use Rattle.std.proofs.Common.{arith, refl}
use Rattle.cg_c_values.proofs.Shifting.{shift_none, shift_plain, shift_rest}
use Rattle.cg_c_values.proofs.Planning.{again_with, first_at, shifts_give}
use Rattle.cg_c_values.proofs.values.Values.plan_shift_by.Goals as goal

pub returns-then-bits-eq0 : goal.returns-then-bits-eq0
returns-then-bits-eq0 c = first_at c.args.self.now.values.keys c.args.op c.args.first c.args.second c.requires.first c.args.bits c.requires.number (λ y l. shift_none c.args.op y c.args.bits c.requires.shift l c.if-bits-eq0.true)

pub returns-then-bits-gt31 : goal.returns-then-bits-gt31
returns-then-bits-gt31 c = again_with c.args.self.now.values.keys c.args.op c.args.first c.args.second c.requires.first c.args.op c.args.bits _ (shift_plain c.args.op c.requires.shift) (omega arith) c.requires.number (λ y l m. shift_rest c.args.op y c.args.bits c.requires.shift)

pub returns-in-Some : goal.returns-in-Some
returns-in-Some c =
    shifts_give c.args.self.now.values.keys c.args.op c.args.first c.args.second c.in-Some.x c.in-Some.other c.args.bits _ c.plan_shifts.result c.requires.shift c.in-Some.ensures.within (omega arith) c.in-Some.ensures.means c.requires.number refl c.plan_shifts.ensures
