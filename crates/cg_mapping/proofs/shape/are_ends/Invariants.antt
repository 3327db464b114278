use Rattle.std.proofs.Common.{◌≡◌, map, take}
use Rattle.cg_model.specs.Mapping.{end_of}
use Rattle.cg_mapping.specs.Ends.{as_end}
use Rattle.cg_mapping.proofs.shape.are_ends.Given as goal

abbrev pub invariant-loop-i : goal.invariant-loop-i
invariant-loop-i l = map end_of (take l.i l.routes) ≡ map as_end (take l.i l.ends)
