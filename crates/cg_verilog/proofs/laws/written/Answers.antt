use Rattle.cg_verilog.proofs.Printing.{written}
use Rattle.cg_verilog.proofs.laws.written.Goals as goal

pub returns : goal.returns
returns c = written
