use Rattle.cg_netlist_reader.proofs.Answered.{only_of, answer_of, exact_of}
use Rattle.cg_netlist_reader.proofs.read.read_verilog.Goals as goal

pub returns-clause-only : goal.returns-clause-only
returns-clause-only c = only_of c.args.bytes.now c.read.result c.read.ensures.found c.read.ensures.fault

pub returns-clause-exact : goal.returns-clause-exact
returns-clause-exact c = exact_of c.args.bytes.now c.read.result (answer_of c.args.bytes.now c.read.result c.read.ensures.found c.read.ensures.valid c.read.ensures.fault)

pub returns-clause-answer : goal.returns-clause-answer
returns-clause-answer c = answer_of c.args.bytes.now c.read.result c.read.ensures.found c.read.ensures.valid c.read.ensures.fault
