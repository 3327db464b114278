use Rattle.std.proofs.Common.{◌+◌, ◌<◌, ◌^◌, length, subst, sym}
use Rattle.cg_inputs.specs.Sources.{Pair}
use Rattle.cg_command_map.specs.Map.{IsAnswerOf}
use Rattle.cg_command_map.proofs.MapAnswers.{costs_few}
use Rattle.cg_command_map.proofs.mapping.answered.Goals as goal

pub left_report-requires : goal.left_report-requires
left_report-requires c =
    let s = c.args.call.now.request in
    let p : Pair = record { arch = c.args.arch.now; kernel = c.args.kernel.now } in
    let found = subst (IsAnswerOf s p) c.in-Unmapped.is c.requires.answer in
    subst (λ costs. c.in-Unmapped.left.first + length costs < 2 ^ 32) (sym c.as_slice.ensures.value)
    (costs_few s p c.in-Unmapped.left c.requires.valid c.requires.range c.requires.within found)
