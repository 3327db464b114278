use Rattle.std.proofs.Common.{◌≡◌, eqb, take}
use Rattle.std.specs.Prelude.{filter}
use Rattle.cg_model.specs.Array.{delay}
use Rattle.cg_mrrg.proofs.registers.registers_among.Given as goal

abbrev pub invariant-loop-resource : goal.invariant-loop-resource
invariant-loop-resource l = l.registers.items ≡ filter (λ r. eqb (delay l.arch r) 1) (take l.resource-index l.resources)
