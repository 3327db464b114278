-- The texts of the faults of bits in reports.
use Rattle.std.specs.Prelude.{ℕ, List, [], ◌++◌, codes, decimal}
use Rattle.hex.specs.Hex.{encode_lower}
use Rattle.cg_bits.specs.declared.fault.BitsFault.{BitsFault}
use Rattle.cg_bits.specs.declared.fault.BitsFault.TheVariants.{Memory, Magic, Truncated, ArchMismatch, BadHeader, BadSelect, BadOp, NotOffered, NotCanonical, BadPadding, Trailing, RepeatedPort}

-- the code, the name and the place, where codes begin with a letter
abbrev pub fault_text : List ℕ → BitsFault → List ℕ
fault_text letter Memory = []
fault_text letter Magic = letter ++ codes "1 Magic byte 0"
fault_text letter (Truncated n) = letter ++ (codes "2 Truncated length " ++ decimal n)
fault_text letter (ArchMismatch file architecture) =
    letter ++ (codes "3 ArchMismatch file " ++ (encode_lower file ++ (codes " architecture " ++ encode_lower architecture)))
fault_text letter (BadHeader ii stages) = letter ++ (codes "4 BadHeader ii " ++ (decimal ii ++ (codes " stages " ++ decimal stages)))
fault_text letter (BadSelect n) = letter ++ (codes "5 BadSelect bit " ++ decimal n)
fault_text letter (BadOp n) = letter ++ (codes "6 BadOp bit " ++ decimal n)
fault_text letter (NotOffered n) = letter ++ (codes "7 NotOffered bit " ++ decimal n)
fault_text letter (NotCanonical n) = letter ++ (codes "8 NotCanonical bit " ++ decimal n)
fault_text letter (BadPadding n) = letter ++ (codes "9 BadPadding bit " ++ decimal n)
fault_text letter (Trailing n) = letter ++ (codes "10 Trailing byte " ++ decimal n)
fault_text letter (RepeatedPort n) = letter ++ (codes "11 RepeatedPort bit " ++ decimal n)

-- the codes of the current format begin with B
abbrev pub bits_fault_text : BitsFault → List ℕ
bits_fault_text f = fault_text (codes "B") f

-- the codes of the first format begin with C
abbrev pub first_fault_text : BitsFault → List ℕ
first_fault_text f = fault_text (codes "C") f
