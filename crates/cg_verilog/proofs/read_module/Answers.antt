use Rattle.cg_verilog.proofs.Printing.{printed_of}
use Rattle.cg_verilog.proofs.Unique.{only_of}
use Rattle.cg_verilog.proofs.read_module.Goals as goal

pub returns-clause-only : goal.returns-clause-only
returns-clause-only c = only_of c.args.bytes.now c.read.result c.read.ensures.found c.read.ensures.fault

pub returns-clause-printed : goal.returns-clause-printed
returns-clause-printed c = printed_of c.args.bytes.now c.read.result (only_of c.args.bytes.now c.read.result c.read.ensures.found c.read.ensures.fault)
