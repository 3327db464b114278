use Rattle.cg_bound_routes.proofs.alike.first_alike.Goals as goal

pub returns : goal.returns
returns c = λ x. (λ offered. offered, λ offered. offered)
