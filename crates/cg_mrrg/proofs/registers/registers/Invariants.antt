use Rattle.cg_mrrg.specs.Users.{AreRegisters}
use Rattle.cg_mrrg.proofs.registers.registers.Given as goal

abbrev pub invariant-loop-resource : goal.invariant-loop-resource
invariant-loop-resource l = AreRegisters l.arch l.resource l.lists.items
