use Rattle.std.proofs.Common.{ap}
use Rattle.cg_tokens.specs.Tokens.{texts}
use Rattle.cg_verilog.specs.Read.{left, module_of}
use Rattle.cg_verilog.proofs.Steps.{misses_more}
use Rattle.cg_verilog.proofs.reader.Reader.module.Goals as goal

pub returns-in-Some-clause-misses : goal.returns-in-Some-clause-misses
returns-in-Some-clause-misses c =
    misses_more (module_of c.in_ok-module.module) (left c.args.self.now) (left c.header.new.self) (left c.lines.new.self) _ _
    c.in_ok-module.ensures.ok.0 c.in_ok-header.ensures.ok c.in_ok-module.ensures.ok.1 (ap texts c.in-Some.ensures.next)
