use Rattle.cg_netlist.proofs.Called.{after_some, after_none}
use Rattle.cg_netlist.proofs.said.after.Goals as goal

pub returns-in-Some : goal.returns-in-Some
returns-in-Some c = after_some c.args.name.now c.args.prefix.now c.in-Some.rest.now c.in-Some.ensures.cases.0 c.in-Some.ensures.cases.1

pub returns-in-None : goal.returns-in-None
returns-in-None c = λ rest e. after_none c.args.name.now c.args.prefix.now rest c.in-None.ensures.cases e
