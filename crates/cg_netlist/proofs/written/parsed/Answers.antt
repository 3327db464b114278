use Rattle.std.proofs.Common.{sym, subst, arith}
use Rattle.std.specs.Str.{IsUtf8}
use Rattle.cg_netlist.proofs.Digits.{digits_utf8}
use Rattle.cg_netlist.proofs.written.parsed.Goals as goal

pub returns-in-Err : goal.returns-in-Err
returns-in-Err c = λ n low e. absurd (c.in-Err.ensures.cases.0 (subst IsUtf8 (sym e) (digits_utf8 c.args.base n (let some = c.requires.low in omega (arith, some)) c.requires.high)))
