use Rattle.std.proofs.Common.{sym, ap, arith}
use Rattle.cg_arch.specs.Kept.{digest_of}
use Rattle.cg_bits.specs.Format.{cgb2}
use Rattle.cg_bits.specs.Answers.{faults_of, config_of, unless_fault}
use Rattle.cg_bits.proofs.Started.{none_started}
use Rattle.cg_bits.proofs.Answered.{is_cgb2, none_answered, fault_answered}
use Rattle.cg_view.proofs.config_view.ConfigView.of.Goals as goal

pub invariant_of-result : goal.invariant_of-result
invariant_of-result c =
    let A = c.args.arch.now in
    let bytes = c.args.bytes.now in
    let none = none_answered _ _ (faults_of A bytes) c.in-Ok.ensures.answer in
    let started = none_started cgb2 is_cgb2 A (digest_of A) bytes none in
    record {
      held = record { valid = c.check_bits.ensures.valid; header = started.header; whole = started.whole; canonical = c.in-Ok.ensures.bits.canonical };
      slot = c.slot_bits.ensures;
      short = omega arith;
    }

pub returns-in-Ok-clause-answer : goal.returns-in-Ok-clause-answer
returns-in-Ok-clause-answer c =
    let A = c.args.arch.now in
    let bytes = c.args.bytes.now in
    sym (ap (λ fs. unless_fault fs (config_of A bytes)) (none_answered _ _ (faults_of A bytes) c.in-Ok.ensures.answer))

pub returns-in-Err-clause-answer : goal.returns-in-Err-clause-answer
returns-in-Err-clause-answer c = fault_answered _ (config_of c.args.arch.now c.args.bytes.now) c.in-Err.fault (faults_of c.args.arch.now c.args.bytes.now) c.in-Err.ensures.answer
