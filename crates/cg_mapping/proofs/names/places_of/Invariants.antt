use Rattle.std.proofs.Common.{◌≡◌, drop}
use Rattle.cg_reading.specs.Items.{all_or_first}
use Rattle.cg_reading.proofs.Lists.{before}
use Rattle.cg_mapping.specs.Names.{place_of}
use Rattle.cg_mapping.proofs.names.places_of.Given as goal

abbrev pub invariant-loop-number : goal.invariant-loop-number
invariant-loop-number l =
    let read = place_of l.directory.arch l.directory.kernel in
    before l.places.items (all_or_first read l.number (drop l.number l.written)) ≡ all_or_first read 0 l.written
