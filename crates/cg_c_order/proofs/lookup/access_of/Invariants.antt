use Rattle.std.proofs.Common.{◌≡◌, take}
use Rattle.std.specs.Prelude.{None, eqb, find}
use Rattle.cg_c_order.proofs.lookup.access_of.Given as goal

abbrev pub invariant-loop-access : goal.invariant-loop-access
invariant-loop-access l = find (λ a. eqb a.node l.node) (take l.access-index l.accesses) ≡ None
