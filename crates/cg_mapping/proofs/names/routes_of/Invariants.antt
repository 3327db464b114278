use Rattle.std.proofs.Common.{◌≡◌, drop}
use Rattle.cg_reading.specs.Items.{all_or_first}
use Rattle.cg_reading.proofs.Lists.{before}
use Rattle.cg_mapping.specs.Names.{route_of}
use Rattle.cg_mapping.proofs.names.routes_of.Given as goal

abbrev pub invariant-loop-number : goal.invariant-loop-number
invariant-loop-number l =
    let read = route_of l.directory.arch l.directory.kernel in
    before l.routes.items (all_or_first read l.number (drop l.number l.written)) ≡ all_or_first read 0 l.written
