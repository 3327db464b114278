use Rattle.cg_netlist.proofs.Called.{no_ports}
use Rattle.cg_netlist.proofs.said.unit_form.Goals as goal

pub returns-in-None : goal.returns-in-None
returns-in-None c = no_ports c.args.numbers.now c.in-None.ensures
