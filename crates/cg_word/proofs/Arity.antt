-- How many operands operations take.
use Rattle.std.proofs.Common.{◌≤◌, arith}
use Rattle.cg_word.specs.declared.op.Op.{Op}
use Rattle.cg_word.specs.declared.op.Op.TheVariants.{Const, Iter, Input, Select, Load, Output, StoreIf}
use Rattle.cg_word.specs.Word.{arity}

pub arity_few : (op : Op) → arity op ≤ 3
arity_few Const = omega arith
arity_few Iter = omega arith
arity_few Input = omega arith
arity_few Select = omega arith
arity_few Load = omega arith
arity_few Output = omega arith
arity_few StoreIf = omega arith
arity_few _ = omega arith
