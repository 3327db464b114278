use Rattle.std.proofs.Common.{arith}
use Rattle.cg_bits.specs.Format.{cgb1}
use Rattle.cg_bits.specs.Reading.{config_at}
use Rattle.cg_bits.specs.Answers.{faults_in}
use Rattle.cg_bits.proofs.Answered.{is_cgb1, none_first, first_config_is, none_gives, first_bits_given}
use Rattle.cg_bits.proofs.reading_all.read_bits_1.Goals as goal

pub read-requires : goal.read-requires
read-requires c = is_cgb1

pub returns-clause-bits : goal.returns-clause-bits
returns-clause-bits c =
    first_bits_given c.read.result c.args.arch.now c.args.bytes.now c.read.ensures.valid c.read.ensures.sized (λ i. let h = c.type_inv.bytes i in omega arith) c.read.ensures.answer

pub returns-clause-all : goal.returns-clause-all
returns-clause-all c = λ C bits.
    none_gives c.read.result (config_at cgb1 c.args.arch.now c.args.bytes.now) C (faults_in cgb1 c.args.arch.now c.args.bytes.now)
    (none_first c.args.arch.now C c.args.bytes.now c.read.ensures.valid c.read.ensures.sized bits)
    (first_config_is c.args.arch.now C c.args.bytes.now c.read.ensures.valid c.read.ensures.sized bits)
    c.read.ensures.answer
