use Rattle.cg_netlist.proofs.Called.{no_latency, rest_is}
use Rattle.cg_netlist.proofs.said.unit_with.Goals as goal

pub returns-in-None : goal.returns-in-None
returns-in-None c = no_latency c.args.numbers.now _ (rest_is c.args.numbers.now) c.in-None.ensures
