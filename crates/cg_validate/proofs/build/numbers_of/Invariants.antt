use Rattle.std.proofs.Common.{◌≡◌, map, take}
use Rattle.cg_validate.specs.Flat.{number_in}
use Rattle.cg_validate.proofs.build.numbers_of.Given as goal

abbrev pub invariant-loop-name : goal.invariant-loop-name
invariant-loop-name l = l.list.items ≡ map (number_in l.resources) (take l.name-index l.names)
