use Rattle.std.proofs.Common.{◌≡◌, ◌++◌}
use Rattle.cg_list_laws.specs.Below.{lists_below}
use Rattle.cg_show.specs.Panels.{tile_part}
use Rattle.cg_show.proofs.shared.push_tiles.Given as goal

abbrev pub invariant-loop-resource : goal.invariant-loop-resource
invariant-loop-resource l = l.text.items ≡ l.fn.text.items ++ lists_below (tile_part l.layout) l.resource
