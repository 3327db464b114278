use Rattle.std.proofs.Common.{rules, ◌≡◌, ◌≢◌, Err, sym, subst}
use Rattle.cg_effects.specs.Outcome.{file_of}
use Rattle.cg_effects.specs.Refusals.{malformed_of}
use Rattle.cg_cause.proofs.Allowed.{ends_weaker}
use Rattle.cg_bits.specs.Answers as bits
use Rattle.cg_bits.specs.Texts.{bits_fault_text}
use Rattle.cg_bits.specs.declared.fault.BitsFault.TheVariants as bits_fault
use Rattle.cg_inputs.specs.Refused.{RefusesBits}
use Rattle.cg_inputs.proofs.readers.config_in.Goals as goal

pub returns-in-Err : goal.returns-in-Err
returns-in-Err c =
    let A = c.args.arch.now in
    let file = file_of c.args.file.now in
    let fault = c.in-Err.fault in
    let other : fault ≢ bits_fault.Memory = search rules in
    let is : bits.answer_of A file.bytes ≡ Err fault =
    sym (subst (λ bytes. Err fault ≡ bits.answer_of A bytes) c.as_slice.ensures.value (c.in-Err.ensures.answer other)) in
    record {
      given = tt;
      refused =
          ends_weaker (λ o. o ≡ malformed_of file.name (bits_fault_text fault)) (RefusesBits A file) c.refused.result
          (λ o e. record { fault = fault; is_fault = is; no_memory = other; outcome = e })
          c.refused.ensures;
      canonical = tt;
    }
