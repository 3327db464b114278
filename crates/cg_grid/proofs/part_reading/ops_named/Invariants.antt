use Rattle.std.proofs.Common.{◌≡◌, drop, fold}
use Rattle.cg_grid.specs.Parts.{with_named, ops_named}
use Rattle.cg_grid.proofs.part_reading.ops_named.Given as goal

abbrev pub invariant-loop-text : goal.invariant-loop-text
invariant-loop-text l = fold with_named l.ops (drop l.text-index l.texts) ≡ ops_named l.texts
