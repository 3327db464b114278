use Rattle.std.proofs.Common.{arith, rules}
use Rattle.cg_netlist.proofs.Digits.{out_of_range}
use Rattle.cg_netlist.proofs.said.count_of.Goals as goal
use Rattle.cg_netlist.proofs.said.count_of.Goals.{else-number-gt0-via-then-number-gt0+else-number-most, else-number-gt0-via-else-number-gt0}

pub returns-else-number-gt0 : goal.returns-else-number-gt0
returns-else-number-gt0 c =
    out_of_range c.args.most c.in-Some.number c.args.text.now (search rules) c.in-Some.ensures
    (λ some few. elim c.else-number-gt0.branch [
      | else-number-gt0-via-then-number-gt0+else-number-most w ↦ let more = w.if-number-most.false in absurd (omega (arith, more, few))
      | else-number-gt0-via-else-number-gt0 w ↦ let none = w.if-number-gt0.false in absurd (omega (arith, none, some))
    ])
