use Rattle.std.proofs.Common.{◌≡◌, ◌++◌}
use Rattle.cg_bits.specs.Numbers.{bits_of}
use Rattle.cg_bits.specs.Parts.{joined}
use Rattle.cg_bits.specs.Format.{code_of}
use Rattle.cg_model.specs.Config.{arg}
use Rattle.cg_bits.specs.Spelling.{arg_bits}
use Rattle.cg_bits.proofs.writing.push_unit.Given as goal

abbrev pub invariant-loop-arg : goal.invariant-loop-arg
invariant-loop-arg l =
    l.writer ≡ ((((l.fn.writer ++ bits_of 6 (code_of l.fn.fields.op)) ++ bits_of 16 l.fn.fields.stage) ++ bits_of 4 l.fn.fields.port) ++ bits_of 32 l.fn.fields.immediate)
    ++ joined (λ p. arg_bits (arg l.fn.fields p)) l.arg-index
