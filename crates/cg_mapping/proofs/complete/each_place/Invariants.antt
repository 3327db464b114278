use Rattle.std.proofs.Common.{◌≡◌, ◌-◌, length}
use Rattle.std.specs.List.{range_with_len}
use Rattle.cg_reading.proofs.Lists.{before}
use Rattle.cg_mapping.specs.Complete.{each_or_fault, only_place, node_fault}
use Rattle.cg_mapping.proofs.complete.each_place.Given as goal

abbrev pub invariant-loop-number : goal.invariant-loop-number
invariant-loop-number l =
    before l.places.items (each_or_fault (only_place l.named) (node_fault l.nodes) (range_with_len l.number (length l.nodes - l.number)))
    ≡ each_or_fault (only_place l.named) (node_fault l.nodes) (range_with_len 0 (length l.nodes))
