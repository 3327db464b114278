use Rattle.std.proofs.Common.{◌≡◌, ◌<◌, ◌≤◌, ℕ, length, Err, sym, ap, ◌∙◌, arith, ⊎_elim, refl, subst}
use Rattle.std.proofs.lemmas.Bool.{cases_lt}
use Rattle.cg_effects.specs.Outcome.{file_of}
use Rattle.cg_cause.specs.Allowed.{Allows}
use Rattle.cg_effects.specs.Refusals.{malformed_of}
use Rattle.cg_cause.proofs.Allowed.{allows_weaker, ends_weaker}
use Rattle.cg_datapath.specs.Texts.{sim_fault_text}
use Rattle.cg_datapath.specs.declared.fault.SimFault.{SimFault}
use Rattle.cg_datapath.specs.declared.fault.SimFault.TheVariants.{ImageTooLarge}
use Rattle.cg_gates_run.specs.Run.{Run}
use Rattle.cg_command_run.specs.Run.{run_by_size}
use Rattle.cg_command_run.specs.Netlist.{gates_ran}
use Rattle.cg_command_run.proofs.RunAnswers.{run_fits, run_too_large}
use Rattle.cg_command_run.proofs.running_gates.run_gates.Goals as goal

pub returns-in-Ok : goal.returns-in-Ok
returns-in-Ok c =
    let input = file_of c.args.call.now.image.now in
    let A = c.args.gates.now.arch in
    let N = c.args.gates.now.netlist in
    let C = c.args.config.now in
    let image = c.args.image.now in
    let turns = c.requires.turns in
    let fits : length image.memory ≤ A.memory =
    ⊎_elim (λ more. absurd (let bad = (c.in-Ok.ensures.large (length image.memory)).1 (refl, turns, more) in cc)) (λ few. few) (cases_lt A.memory (length image.memory)) in
    let ran = gates_ran c.args.call.now.turns A N C image c.args.call.now.out.now in
    allows_weaker (λ o. o ≡ ran) (λ o. o ≡ run_by_size A input.name image ran) c.gates_ran.result
    (λ o e. e ∙ sym (run_fits A input.name image ran fits))
    (subst (λ (r : Run). Allows (λ o. o ≡ gates_ran r.n r.arch r.netlist r.config r.image c.args.call.now.out.now) c.gates_ran.result) c.in-Ok.ensures.ok c.gates_ran.ensures)

pub too_large-requires : goal.too_large-requires
too_large-requires c = λ t is.
    let turns = c.requires.turns in
    let many = ((c.in-Err.ensures.many t).0 (ap Err is)).1 in
    absurd (omega arith)

pub returns-in-Err : goal.returns-in-Err
returns-in-Err c =
    let input = file_of c.args.call.now.image.now in
    let A = c.args.gates.now.arch in
    let N = c.args.gates.now.netlist in
    let C = c.args.config.now in
    let image = c.args.image.now in
    let ran = gates_ran c.args.call.now.turns A N C image c.args.call.now.out.now in
    ends_weaker (λ o. (w : ℕ) × (c.in-Err.fault ≡ ImageTooLarge w) × (o ≡ malformed_of input.name (sim_fault_text c.in-Err.fault)))
    (λ o. o ≡ run_by_size A input.name image ran) c.too_large.result
    (λ o h.
    let large = (c.in-Err.ensures.large h.0).0 (ap Err h.1) in
    let more : A.memory < length image.memory = (let a = large.0 in let b = large.2 in omega arith) in
    h.2 ∙ ap (λ (f : SimFault). malformed_of input.name (sim_fault_text f)) (h.1 ∙ ap ImageTooLarge large.0) ∙ sym (run_too_large A input.name image ran more))
    c.too_large.ensures
