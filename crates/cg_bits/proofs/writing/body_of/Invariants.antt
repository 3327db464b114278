use Rattle.std.proofs.Common.{◌≡◌}
use Rattle.cg_bits.specs.Parts.{joined}
use Rattle.cg_bits.specs.Format.{cgb2}
use Rattle.cg_bits.specs.Spelling.{slot_bits}
use Rattle.cg_bits.proofs.writing.body_of.Given as goal

abbrev pub invariant-loop-slot : goal.invariant-loop-slot
invariant-loop-slot l = l.writer ≡ joined (slot_bits cgb2 l.arch l.config) l.slot
