use Rattle.cg_netlist.proofs.Called.{form_only}
use Rattle.cg_netlist.proofs.said.form_of.Goals as goal

pub returns-clause-only : goal.returns-clause-only
returns-clause-only c = form_only
