use Rattle.cg_route.proofs.search.Search.pass.Goals as goal

pub returns-then-delay_into-delay-clause-below : goal.returns-then-delay_into-delay-clause-below
returns-then-delay_into-delay-clause-below c = λ high le old. c.offer.ensures.below high (le c.in-Some.step c.in-Some.is) old
