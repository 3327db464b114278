use Rattle.std.proofs.Common.{◌≡◌, ◌+◌, drop}
use Rattle.cg_model.specs.Array.{links}
use Rattle.cg_command_run.proofs.flattening.count_links.Given as goal

abbrev pub invariant-loop-resource : goal.invariant-loop-resource
invariant-loop-resource l = l.count + links (drop l.resource-index l.resources) ≡ links l.resources
