use Rattle.std.proofs.Common.{◌≡◌, take}
use Rattle.cg_bits.specs.Numbers.{number, bits_of_bytes}
use Rattle.cg_bits.proofs.field.few_bytes.Given as goal

abbrev pub invariant-loop-byte : goal.invariant-loop-byte
invariant-loop-byte l = l.number ≡ number (bits_of_bytes (take l.byte-index l.bytes))
