use Rattle.std.proofs.Common.{◌≡◌, ◌++◌}
use Rattle.cg_model.specs.Config.{fields}
use Rattle.cg_bits.specs.Parts.{joined}
use Rattle.cg_bits.specs.Format.{cgb2, ports}
use Rattle.cg_bits.specs.Spelling.{unit_bits}
use Rattle.cg_bits.proofs.writing.push_fields.Given as goal

abbrev pub invariant-loop-x : goal.invariant-loop-x
invariant-loop-x l = l.writer ≡ l.fn.writer ++ joined (λ x. unit_bits cgb2 (ports l.fn.arch x) (fields l.fn.config x l.fn.slot)) l.x
