use Rattle.cg_verilog.proofs.Unique.{one_module}
use Rattle.cg_verilog.proofs.Printing.{one_in_print}
use Rattle.cg_verilog.proofs.laws.one_module.Goals as goal

pub returns-clause-tokens : goal.returns-clause-tokens
returns-clause-tokens c = one_module

pub returns-clause-text : goal.returns-clause-text
returns-clause-text c = one_in_print
