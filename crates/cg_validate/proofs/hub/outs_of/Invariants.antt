use Rattle.std.proofs.Common.{◌≡◌, map, take}
use Rattle.cg_validate.proofs.hub.outs_of.Given as goal

abbrev pub invariant-loop-unit : goal.invariant-loop-unit
invariant-loop-unit l = l.list.items ≡ map (λ u. u.out) (take l.unit-index l.units)
