use Rattle.cg_bound_routes.proofs.Shared.{alike_answer}
use Rattle.cg_bound_routes.proofs.alike.shared.Goals as goal

pub returns : goal.returns
returns c = alike_answer c.args.arch.now c.args.question _ _ c.first_alike.ensures c.first_alike-2.ensures
