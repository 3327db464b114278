use Rattle.std.proofs.Common.{subst}
use Rattle.std.proofs.lemmas.Result.{IfOk-weaker}
use Rattle.cg_inputs.specs.Sources.{Pair}
use Rattle.cg_intervals.specs.declared.answering.Answer.TheVariants as answer
use Rattle.cg_command_map.specs.Search.{IsAnswerOf}
use Rattle.cg_command_map.proofs.SearchAnswers.{reportable}
use Rattle.cg_command_map.proofs.searching.answered.Goals as goal

pub failure_report-requires : goal.failure_report-requires
failure_report-requires c =
    let s = c.args.call.now.request in
    let p : Pair = record { arch = c.args.arch.now; kernel = c.args.kernel.now } in
    let found = subst (IsAnswerOf s p) c.in-Unmapped.is c.requires.answer in
    reportable s p c.in-Unmapped.failure c.requires.valid c.requires.range c.requires.within found

pub returns-in-Mapped : goal.returns-in-Mapped
returns-in-Mapped c =
    let s = c.args.call.now.request in
    let p : Pair = record { arch = c.args.arch.now; kernel = c.args.kernel.now } in
    let found = subst (IsAnswerOf s p) c.in-Mapped.is c.requires.answer in
    IfOk-weaker c.found.result _ _ (λ o written. record { answer = answer.Mapped c.in-Mapped.mapping c.in-Mapped.found_by; is_answer = found; outcome = written })
    c.found.ensures
