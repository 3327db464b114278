use Rattle.cg_bound_routes.proofs.Questions.{found_same}
use Rattle.cg_bound_routes.proofs.answers.find.Goals as goal

pub returns-then-is_same : goal.returns-then-is_same
returns-then-is_same c =
    (c.loop-place-test.true, λ a. found_same c.args.answers.now c.loop-place.place _ a c.args.question c.loop-place-test.true (c.is_same.ensures c.if-is_same.true))
