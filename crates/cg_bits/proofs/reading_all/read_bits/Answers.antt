use Rattle.std.proofs.Common.{arith}
use Rattle.cg_bits.specs.Answers.{faults_of, config_of}
use Rattle.cg_bits.proofs.Answered.{is_cgb2, none_of, config_is, none_gives, bits_given}
use Rattle.cg_bits.proofs.reading_all.read_bits.Goals as goal

pub read-requires : goal.read-requires
read-requires c = is_cgb2

pub returns-clause-bits : goal.returns-clause-bits
returns-clause-bits c =
    bits_given c.read.result c.args.arch.now c.args.bytes.now c.read.ensures.valid c.read.ensures.sized (λ i. let h = c.type_inv.bytes i in omega arith) c.read.ensures.answer

pub returns-clause-all : goal.returns-clause-all
returns-clause-all c = λ C bits.
    none_gives c.read.result (config_of c.args.arch.now c.args.bytes.now) C (faults_of c.args.arch.now c.args.bytes.now)
    (none_of c.args.arch.now C c.args.bytes.now c.read.ensures.valid c.read.ensures.sized bits)
    (config_is c.args.arch.now C c.args.bytes.now c.read.ensures.valid c.read.ensures.sized bits)
    c.read.ensures.answer
