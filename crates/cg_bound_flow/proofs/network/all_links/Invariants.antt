use Rattle.cg_bound_registers.specs.Sums.{table}
use Rattle.cg_bound_flow.proofs.Standing.{IsBegun, IsOrdered}
use Rattle.cg_bound_flow.proofs.network.all_links.Given as goal

abbrev pub invariant-loop-w : goal.invariant-loop-w
invariant-loop-w l = IsBegun l.instance.arch.now l.instance.kernel.now (table l.instance.hops.now) l.instance.ii l.w l.links.items

abbrev pub invariant-loop-e : goal.invariant-loop-e
invariant-loop-e l = IsOrdered l.instance.arch.now l.instance.kernel.now (table l.instance.hops.now) l.instance.ii l.e l.links.items
