-- The names of operations are short, and of ASCII signs.
use Rattle.std.proofs.Common.{◌≡◌, ℕ, ◌≤◌, List, length, true, refl, arith}
use Rattle.std.specs.Prelude.{nat_lt}
use Rattle.std.specs.List.{list_all}
use Rattle.cg_word.specs.declared.op.Op.{Op}
use Rattle.cg_word.specs.declared.op.Op.TheVariants.{Const, Iter, Input, Add, Sub, Mul, And, Or, Xor, Shl, Shr, Sar, Eq, Ne, Lts, Ltu, Mins, Maxs, Select, Load, Store, Output, LoadIf, StoreIf, OutputIf}
use Rattle.cg_word.specs.Word.{name_of}

-- each sign is one of ASCII
abbrev pub IsLow : List ℕ → Type 0
IsLow bs = list_all (λ b. nat_lt b 128) bs ≡ true

pub low_op : (op : Op) → IsLow (name_of op)
low_op Const = refl
low_op Iter = refl
low_op Input = refl
low_op Add = refl
low_op Sub = refl
low_op Mul = refl
low_op And = refl
low_op Or = refl
low_op Xor = refl
low_op Shl = refl
low_op Shr = refl
low_op Sar = refl
low_op Eq = refl
low_op Ne = refl
low_op Lts = refl
low_op Ltu = refl
low_op Mins = refl
low_op Maxs = refl
low_op Select = refl
low_op Load = refl
low_op Store = refl
low_op Output = refl
low_op LoadIf = refl
low_op StoreIf = refl
low_op OutputIf = refl

pub short_op : (op : Op) → length (name_of op) ≤ 8
short_op Const = omega arith
short_op Iter = omega arith
short_op Input = omega arith
short_op Add = omega arith
short_op Sub = omega arith
short_op Mul = omega arith
short_op And = omega arith
short_op Or = omega arith
short_op Xor = omega arith
short_op Shl = omega arith
short_op Shr = omega arith
short_op Sar = omega arith
short_op Eq = omega arith
short_op Ne = omega arith
short_op Lts = omega arith
short_op Ltu = omega arith
short_op Mins = omega arith
short_op Maxs = omega arith
short_op Select = omega arith
short_op Load = omega arith
short_op Store = omega arith
short_op Output = omega arith
short_op LoadIf = omega arith
short_op StoreIf = omega arith
short_op OutputIf = omega arith
