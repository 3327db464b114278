use Rattle.cg_c_quotients.proofs.Exact.{exact}
use Rattle.cg_c_quotients.proofs.quotients.quotient_of.Goals as goal

pub returns-clause-quotient : goal.returns-clause-quotient
returns-clause-quotient c =
    exact c.args.divisor c.args.turns c.choice_of.result c.requires.positive c.requires.within c.requires.limited c.choice_of.ensures
