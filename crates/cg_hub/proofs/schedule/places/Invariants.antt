use Rattle.std.proofs.Common.{◌≡◌, map}
use Rattle.std.specs.List.{range_with_len}
use Rattle.cg_hub.specs.Hub.{start, hub_place}
use Rattle.cg_hub.proofs.schedule.places.Given as goal

abbrev pub invariant-loop-v : goal.invariant-loop-v
invariant-loop-v l = record {
  places : l.places.items ≡ map (hub_place l.arch l.kernel) (range_with_len 0 l.v);
  time : l.time ≡ start l.arch l.kernel l.v;
}
