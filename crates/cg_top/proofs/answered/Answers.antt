use Rattle.std.proofs.Common.{rules, ◌≡◌, Some, map, string_bytes}
use Rattle.cg_files.specs.Causes.{Rose}
use Rattle.cg_effects.specs.Outcome.{file_of, outcome_of}
use Rattle.cg_command.specs.Command.{denoted, inputs_of}
use Rattle.cg_command.specs.Files.{filled}
use Rattle.cg_commands.specs.Commands.{IsAnswer}
use Rattle.cg_top.specs.TopCall.{IsPlannedBytes}
use Rattle.cg_top.proofs.Planned.{answered, if_ok_weaker}
use Rattle.cg_top.proofs.answered.Goals as goal

pub returns-in-Ok-clause-planned : goal.returns-in-Ok-clause-planned
returns-in-Ok-clause-planned g c =
    let held = g.S.Store.held c.args.store.now in
    let rose : Type 0 = Rose (g.S.Store.read_faults c.args.store.now) (g.S.Store.read_faults c.read_all.new.store) in
    let plan = denoted c.args.command.now in
    let command = filled c.fill.result in
    let names : map string_bytes c.as_slice.result.now ≡ inputs_of plan = search rules in
    let given : c.as_slice-files.result.now ≡ c.in-Ok.files.items = search rules in
    if_ok_weaker (λ o. IsAnswer command (outcome_of o)) (λ o. IsPlannedBytes held rose (Some plan) (outcome_of o)) c.answer_to.result
    (λ o a. answered held rose plan (map file_of c.in-Ok.files.items) command (outcome_of o) (rw names at c.in-Ok.ensures.ok) c.in-Ok.ensures.bytes
    (rw given at c.fill.ensures.inputs) c.fill.ensures.named a)
    c.answer_to.ensures
