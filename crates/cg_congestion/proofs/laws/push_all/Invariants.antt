use Rattle.std.proofs.Common.{◌≡◌, ◌++◌, ◌≤◌, length, take}
use Rattle.cg_model.specs.Mapping.{positions_on}
use Rattle.cg_congestion.specs.Plain.{plains}
use Rattle.cg_congestion.proofs.Along.{IsAlong}
use Rattle.cg_congestion.proofs.laws.push_all.Given as goal

abbrev pub invariant-loop-resource : goal.invariant-loop-resource
invariant-loop-resource l = record {
  added : plains l.positions.items ≡ plains l.fn.positions.items ++ positions_on l.arch l.source l.start (take l.resource-index l.path);
  first : take (length l.fn.positions.items) l.positions.items ≡ l.fn.positions.items;
  longer : length l.fn.positions.items ≤ length l.positions.items;
  along : IsAlong l.arch l.source l.start l.path l.resource-index l.from l.time;
}
