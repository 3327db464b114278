use Rattle.std.proofs.Common.{◌≡◌, drop}
use Rattle.cg_reading.specs.Items.{all_of}
use Rattle.cg_reading.proofs.Lists.{after}
use Rattle.cg_mapping.specs.Names.{resource_number}
use Rattle.cg_mapping.proofs.names.path_of.Given as goal

abbrev pub invariant-loop-name : goal.invariant-loop-name
invariant-loop-name l = after l.path.items (all_of (resource_number l.directory.arch) (drop l.name-index l.names)) ≡ all_of (resource_number l.directory.arch) l.names
