use Rattle.std.proofs.Common.{take}
use Rattle.cg_model.specs.Mapping.{positions_on}
use Rattle.cg_congestion.specs.Table.{IsMore}
use Rattle.cg_congestion.specs.Nodes.{IsListed}
use Rattle.cg_congestion.proofs.Along.{IsAlong}
use Rattle.cg_congestion.proofs.usage.Usage.take.Given as goal

abbrev pub invariant-loop-resource : goal.invariant-loop-resource
invariant-loop-resource l = record {
  more : IsMore l.self l.fn.self (positions_on l.arch l.source l.start (take l.resource-index l.path));
  along : IsAlong l.arch l.source l.start l.path l.resource-index l.before l.time;
  listed : IsListed l.self;
}
