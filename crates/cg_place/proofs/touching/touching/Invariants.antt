use Rattle.std.proofs.Common.{take}
use Rattle.cg_model.specs.Kernel.{size}
use Rattle.cg_place.specs.Touching.{AreTouching}
use Rattle.cg_place.proofs.touching.touching.Given as goal

abbrev pub invariant-loop-edge : goal.invariant-loop-edge
invariant-loop-edge l = AreTouching (size l.kernel) (take l.edge-index l.kernel.order) l.lists.items
