use Rattle.std.proofs.Common.{◌≡◌, drop, map}
use Rattle.cg_reading.specs.Items.{all_or_first}
use Rattle.cg_reading.proofs.Lists.{before}
use Rattle.cg_reading.proofs.items.all_or_first.Given as goal

abbrev pub invariant-loop-number : goal.invariant-loop-number
invariant-loop-number g l =
    let read = g.R.ItemReader.item_in in
    let data_of = g.R.ItemReader.data_of in
    before l.items.items (all_or_first read l.number (map data_of (drop l.number l.values))) ≡ all_or_first read 0 (map data_of l.values)
