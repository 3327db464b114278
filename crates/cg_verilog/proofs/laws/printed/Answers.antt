use Rattle.cg_verilog.proofs.Printing.{printed}
use Rattle.cg_verilog.proofs.laws.printed.Goals as goal

pub returns : goal.returns
returns c = printed
