use Rattle.std.proofs.Common.{◌∙◌, ap, Some}
use Rattle.cg_netlist.proofs.Digits.{numeral_back}
use Rattle.cg_netlist.proofs.written.parsed_text.Goals as goal

pub returns-in-Ok : goal.returns-in-Ok
returns-in-Ok c = λ n low e. ap Some (c.in-Ok.ensures.value.1 ∙ (numeral_back c.args.base c.args.text.now n c.requires.low c.requires.high low e).1)

pub returns-in-Err : goal.returns-in-Err
returns-in-Err c = λ n low e. absurd (c.in-Err.ensures.value (numeral_back c.args.base c.args.text.now n c.requires.low c.requires.high low e).0)
