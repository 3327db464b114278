use Rattle.std.proofs.Common.{Ok, sym, ap, ◌∙◌}
use Rattle.cg_arch.specs.Kept.{digest_of}
use Rattle.cg_bits.specs.Reading.{config_at}
use Rattle.cg_bits.specs.Answers.{faults_in, unless_fault}
use Rattle.cg_bits.proofs.Started.{none_started}
use Rattle.cg_bits.proofs.Answered.{fault_gives}
use Rattle.cg_bits.proofs.reading_all.read.Goals as goal

pub tables-requires-clause-whole : goal.tables-requires-clause-whole
tables-requires-clause-whole c =
    (none_started c.args.format c.requires c.args.arch.now (digest_of c.args.arch.now) c.args.bytes.now c.in-Ok.ensures.faults).whole

pub tables-requires-clause-header : goal.tables-requires-clause-header
tables-requires-clause-header c =
    (none_started c.args.format c.requires c.args.arch.now (digest_of c.args.arch.now) c.args.bytes.now c.in-Ok.ensures.faults).header

pub returns-in_ok-tables-in-Ok-clause-answer : goal.returns-in_ok-tables-in-Ok-clause-answer
returns-in_ok-tables-in-Ok-clause-answer c =
    ap (λ z. Ok z) c.in_ok-tables-in-Ok.ensures ∙ sym (ap (λ fs. unless_fault fs (config_at c.args.format c.args.arch.now c.args.bytes.now)) c.in-Ok.ensures.faults)

pub returns-in-Err-clause-answer : goal.returns-in-Err-clause-answer
returns-in-Err-clause-answer c =
    fault_gives (config_at c.args.format c.args.arch.now c.args.bytes.now) c.in-Err.fault (faults_in c.args.format c.args.arch.now c.args.bytes.now) c.in-Err.ensures.faults
