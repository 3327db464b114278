use Rattle.std.proofs.Common.{◌≡◌, length, take}
use Rattle.cg_loop_reader.specs.Assigned.{IsLastAssigned}
use Rattle.cg_loop_reader.proofs.assignments.last_assigned.Given as goal

-- the last assignments so far
abbrev pub invariant-loop-index : goal.invariant-loop-index
invariant-loop-index l = record {
  last : IsLastAssigned l.last.items (take l.index l.numbered.uses.items);
  length : length l.last.items ≡ l.numbered.names;
}
