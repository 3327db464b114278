use Rattle.std.proofs.Common.{arith}
use Rattle.cg_c_values.proofs.Shifting.{others_out, shift_plain, shift_twice, signs_out}
use Rattle.cg_c_values.proofs.shifts.plan_shifts.Goals as goal

pub returns-then-bits-lt32 : goal.returns-then-bits-lt32
returns-then-bits-lt32 c =
    record {
      within = λ n l. (shift_plain c.args.op c.requires.shift, l, omega arith);
      is = λ E b d l m k e. shift_twice c.args.op (E c.args.first) b d c.args.bits c.requires.shift l m k e c.if-bits-lt32.true;
    }

pub returns-in-Sar : goal.returns-in-Sar
returns-in-Sar c =
    record {
      within = λ n l. (shift_plain c.args.op c.requires.shift, l, omega arith);
      is = λ E b d l m k e. signs_out c.args.op (E c.args.first) b d c.args.bits c.in-Sar.is l m k e c.if-bits-lt32.false;
    }

pub returns-in_default : goal.returns-in_default
returns-in_default c =
    record {
      within = λ n l. omega arith;
      is = λ E b d l m k e. others_out c.args.op (E c.args.first) b d c.args.bits c.requires.shift c.in_default.not-Sar l m k e c.if-bits-lt32.false;
    }
