use Rattle.std.proofs.Common.{◌≡◌, ◌<◌, ℕ, length, Err, ap, ◌∙◌, arith, ⊎_elim, refl}
use Rattle.std.proofs.lemmas.Bool.{cases_lt}
use Rattle.cg_effects.specs.Outcome.{file_of}
use Rattle.cg_effects.specs.Refusals.{malformed_of}
use Rattle.cg_cause.proofs.Allowed.{ends_weaker}
use Rattle.cg_datapath.specs.Texts.{sim_fault_text}
use Rattle.cg_datapath.specs.declared.fault.SimFault.{SimFault}
use Rattle.cg_datapath.specs.declared.fault.SimFault.TheVariants.{ImageTooLarge}
use Rattle.cg_command_run.specs.Run as spec
use Rattle.cg_command_run.proofs.simulating.end_of.Goals as goal

pub returns-in-Ok-clause-fits : goal.returns-in-Ok-clause-fits
returns-in-Ok-clause-fits c =
    let memory = c.args.arch.now.memory in
    let words = length c.args.image.now.memory in
    let turns = c.requires.turns in
    ⊎_elim (λ more. absurd (let bad = (c.in-Ok.ensures.large words).1 (refl, turns, more) in cc)) (λ few. few) (cases_lt memory words)

pub too_large-requires : goal.too_large-requires
too_large-requires c = λ t is.
    let turns = c.requires.turns in
    let many = ((c.in-Err.ensures.many t).0 (ap Err is)).1 in
    absurd (omega arith)

pub returns-in-Err-clause-large : goal.returns-in-Err-clause-large
returns-in-Err-clause-large c =
    let input = file_of c.args.call.now.image.now in
    let A = c.args.arch.now in
    let image = c.args.image.now in
    ends_weaker (λ o. (w : ℕ) × (c.in-Err.fault ≡ ImageTooLarge w) × (o ≡ malformed_of input.name (sim_fault_text c.in-Err.fault)))
    (λ o. (A.memory < length image.memory) × (o ≡ spec.too_large input.name image)) c.too_large.result
    (λ o h.
    let large = (c.in-Err.ensures.large h.0).0 (ap Err h.1) in
    let more : A.memory < length image.memory = (let a = large.0 in let b = large.2 in omega arith) in
    (more, h.2 ∙ ap (λ (f : SimFault). malformed_of input.name (sim_fault_text f)) (h.1 ∙ ap ImageTooLarge large.0)))
    c.too_large.ensures
