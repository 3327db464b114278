use Rattle.std.proofs.Common.{◌≡◌, ◌++◌}
use Rattle.cg_model.specs.Config.{select}
use Rattle.cg_flat.specs.Slots.{select_bits}
use Rattle.cg_bits.specs.Numbers.{bits_of}
use Rattle.cg_bits.specs.Parts.{joined}
use Rattle.cg_bits.proofs.writing.push_selects.Given as goal

abbrev pub invariant-loop-r : goal.invariant-loop-r
invariant-loop-r l = l.writer ≡ l.fn.writer ++ joined (λ r. bits_of (select_bits l.arch r) (select l.fn.config r l.fn.slot)) l.r
