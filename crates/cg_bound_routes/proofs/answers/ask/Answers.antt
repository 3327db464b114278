use Rattle.std.proofs.Common.{◌<◌, length, sym, ap, ◌∙◌, subst, get_or}
use Rattle.cg_bound_routes.specs.Question.{AreAnswers}
use Rattle.cg_bound_routes.proofs.Questions.{kept_answer, keep_answer}
use Rattle.cg_bound_routes.proofs.answers.ask.Goals as goal

pub returns-in-Some-clause-answer : goal.returns-in-Some-clause-answer
returns-in-Some-clause-answer c =
    let place = c.in-Some.place in
    let a = c.index.result.now in
    let found = c.in-Some.ensures in
    kept_answer c.args.arch.now c.args.answers.now.items place a c.args.question c.requires (subst (λ z. place < length z) c.deref.ensures.value found.0) c.index.ensures
    (ap (λ z. z.question) c.index.ensures ∙ ap (λ z. (get_or z place a).question) (sym c.deref.ensures.value) ∙ found.1 a)

pub returns-clause-kept : goal.returns-clause-kept
returns-clause-kept c =
    subst (AreAnswers c.args.arch.now) (sym c.in_ok-push.ensures.items)
    (keep_answer c.args.arch.now c.args.answers.now.items c.args.question c.in_ok-hops.hops c.requires c.in_ok-hops.ensures)
