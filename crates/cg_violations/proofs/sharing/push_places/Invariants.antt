use Rattle.std.proofs.Common.{◌≡◌, ◌++◌, take}
use Rattle.cg_list_laws.specs.Below.{lists_below}
use Rattle.cg_check.specs.Slots.{AreMarks}
use Rattle.cg_violations.specs.Cells.{shared_violation}
use Rattle.cg_violations.proofs.sharing.push_places.Given as goal

abbrev pub invariant-loop-node : goal.invariant-loop-node
invariant-loop-node l = record {
  marks : AreMarks l.ii l.units (take l.node l.places) l.taken;
  found : l.found.items ≡ l.fn.found.items ++ lists_below (shared_violation l.ii l.places) l.node;
}
