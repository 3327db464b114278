-- The differences between the versions of the bit format, operation codes, and the layout of a slot.
use Rattle.std.specs.Prelude.{ℕ, ◌+◌, ◌*◌, nat_le, if◌then◌else◌, length, Option, Some, None}
use Rattle.cg_word.specs.declared.op.Op.{Op}
use Rattle.cg_word.specs.Word as operations
use Rattle.cg_model.specs.Array.{Arch, unit}
use Rattle.cg_flat.specs.Slots.{total, select_at}
use Rattle.cg_bits.specs.declared.format.Format.{Format}

-- `CGB1`, the format before guarded operations, with the first 22 operations
abbrev pub cgb1 : Format
cgb1 = record { sign = 49; op_bits = 5; greatest = 22 }

-- `CGB2`, with all 25 operations
abbrev pub cgb2 : Format
cgb2 = record { sign = 50; op_bits = 6; greatest = 25 }

-- the code of an operation, 0 for off
abbrev pub code_of : Option Op → ℕ
code_of None = 0
code_of (Some op) = operations.code op

-- the operation of a code; None for 0, and for codes above the format's greatest one
unfoldable pub op_of : Format → ℕ → Option Op
op_of F c = if nat_le c F.greatest then operations.op_of c else None

-- the number of a unit's ports
abbrev pub ports : Arch → ℕ → ℕ
ports A x = length (unit A x).ports

-- the number of bits of an argument: 1 for the mode, 3 for the count and 32 for each of four words
abbrev pub arg_len : ℕ
arg_len = 132

-- where the arguments of a unit begin: after the operation, the stage, the port and the immediate
abbrev pub args_at : Format → ℕ
args_at F = F.op_bits + 52

-- the number of bits of unit x
abbrev pub unit_len : Format → Arch → ℕ → ℕ
unit_len F A x = args_at F + ports A x * arg_len

-- where unit x begins in a slot: after all selects and the units before it
abbrev pub unit_at : Format → Arch → ℕ → ℕ
unit_at F A x = select_at A (length A.resources) + total (unit_len F A) x

-- the number of bits of a slot
abbrev pub slot_len : Format → Arch → ℕ
slot_len F A = unit_at F A (length A.units)
