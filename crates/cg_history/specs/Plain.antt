-- Operations that need no more than their operands.
use Rattle.std.specs.Prelude.{Bool, true, false}
use Rattle.cg_word.specs.declared.op.Op.{Op}
use Rattle.cg_word.specs.declared.op.Op.TheVariants.{Iter, Input, Load, Store, Output, LoadIf, StoreIf, OutputIf}

-- the operation gives its value by its operands alone, and has no effect
abbrev pub is_plain : Op → Bool
is_plain Iter = false
is_plain Input = false
is_plain Load = false
is_plain Store = false
is_plain Output = false
is_plain LoadIf = false
is_plain StoreIf = false
is_plain OutputIf = false
is_plain op = true
