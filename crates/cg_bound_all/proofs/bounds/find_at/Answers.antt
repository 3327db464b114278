use Rattle.std.proofs.Common.{IfOk, sym, subst}
use Rattle.cg_bound_registers.specs.Sums.{table}
use Rattle.cg_bound_all.specs.Why.{AreNumbers}
use Rattle.cg_bound_all.specs.declared.numbers.Numbers.{Numbers}
use Rattle.cg_bound_all.specs.Scan.{IsFound}
use Rattle.cg_bound_all.proofs.bounds.find_at.Goals as goal

pub find_reason-requires-clause-numbers : goal.find_reason-requires-clause-numbers
find_reason-requires-clause-numbers c =
    subst (AreNumbers c.args.search.instance.arch.now c.args.search.instance.kernel.now c.args.ii) (sym c.at-numbers.ensures) c.requires.numbers

pub returns : goal.returns
returns c =
    subst (λ (n : Numbers). IfOk c.find_reason.result (IsFound c.args.search.instance.arch.now c.args.search.instance.kernel.now (table n.hops.items) c.args.ii c.args.search.kind)) c.at-numbers.ensures c.find_reason.ensures
