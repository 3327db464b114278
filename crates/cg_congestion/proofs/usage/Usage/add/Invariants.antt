use Rattle.std.proofs.Common.{take}
use Rattle.cg_model.specs.Mapping.{positions_on}
use Rattle.cg_congestion.specs.Table.{IsMore}
use Rattle.cg_congestion.proofs.Along.{IsAlong}
use Rattle.cg_congestion.proofs.usage.Usage.add.Given as goal

abbrev pub invariant-loop-place : goal.invariant-loop-place
invariant-loop-place l = record {
  more : IsMore l.fn.self l.self (positions_on l.arch l.source l.start (take l.place l.path));
  along : IsAlong l.arch l.source l.start l.path l.place l.before l.time;
}
