use Rattle.std.proofs.lemmas.Result.{IfOk-weaker}
use Rattle.cg_bound_routes.specs.Question.{IsAnswer}
use Rattle.cg_bound_routes.proofs.answers.ask_shared.Goals as goal

pub returns-clause-answer : goal.returns-clause-answer
returns-clause-answer c =
    IfOk-weaker c.ask.result (IsAnswer c.args.arch.now c.shared.result) (IsAnswer c.args.arch.now c.args.question) c.shared.ensures c.ask.ensures.answer
