use Rattle.std.proofs.Common.{◌≡◌, ◌+◌, length, take}
use Rattle.cg_model.specs.Mapping.{Position, positions_on}
use Rattle.cg_congestion.specs.Claims.{uses}
use Rattle.cg_congestion.specs.Plain.{plains}
use Rattle.cg_congestion.proofs.Along.{IsAlong}
use Rattle.cg_congestion.proofs.laws.take_path.Given as goal

abbrev pub invariant-loop-resource : goal.invariant-loop-resource
invariant-loop-resource l = record {
  taken : (p : Position) → uses (plains l.fn.positions.items) p ≡ uses (plains l.positions.items) p + uses (positions_on l.arch l.source l.start (take l.resource-index l.path)) p;
  count : length l.fn.positions.items ≡ length l.positions.items + l.resource-index;
  along : IsAlong l.arch l.source l.start l.path l.resource-index l.from l.time;
}
