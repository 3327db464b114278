use Rattle.std.proofs.Common.{sym, ◌∙◌}
use Rattle.std.proofs.lemmas.Result.{IfOk-weaker}
use Rattle.clap.specs.Words.{found_of, rows_of}
use Rattle.cg_command.proofs.Judged.{arguments-rows, arguments-refused}
use Rattle.cg_command.proofs.arguments.arguments_of.Goals as goal

pub returns-in-Ok : goal.returns-in-Ok
returns-in-Ok c =
    IfOk-weaker c.arguments_in.result _ _ (λ o h. h ∙ sym (arguments-rows c.args.words.now (rows_of (found_of c.in-Ok.matches)) c.in-Ok.ensures.ok.0 c.in-Ok.ensures.ok.1)) c.arguments_in.ensures

pub returns : goal.returns
returns c = sym (arguments-refused c.args.words.now c.in-Err.error c.in-Err.ensures.err (λ memory. c.in_default.not-OutOfMemory (c.kind.ensures ∙ memory)))
