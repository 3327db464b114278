use Rattle.cg_loop_reader.proofs.Answered.{only_of, exact_of}
use Rattle.cg_loop_reader.proofs.read.read_loop.Goals as goal

pub returns-clause-only : goal.returns-clause-only
returns-clause-only c = only_of c.args.bytes.now c.read.result c.read.ensures.found c.read.ensures.fault

pub returns-clause-exact : goal.returns-clause-exact
returns-clause-exact c = exact_of c.args.bytes.now c.read.result c.read.ensures.found c.read.ensures.fault
