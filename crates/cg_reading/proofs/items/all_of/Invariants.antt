use Rattle.std.proofs.Common.{◌≡◌, drop, map}
use Rattle.cg_reading.specs.Items.{all_of}
use Rattle.cg_reading.proofs.Lists.{after}
use Rattle.cg_reading.proofs.items.all_of.Given as goal

abbrev pub invariant-loop-value : goal.invariant-loop-value
invariant-loop-value g l =
    let read = g.R.ItemReader.item_in in
    let data_of = g.R.ItemReader.data_of in
    after l.items.items (all_of read (map data_of (drop l.value-index l.values))) ≡ all_of read (map data_of l.values)
