-- The numbers of nodes, units and resources by their names.
use Rattle.std.specs.Prelude.{ℕ, Some, String}
use Rattle.std.specs.declared.alloc.Global.{Global}
use Rattle.indexmap.specs.IndexMap.{IndexMap}
use Rattle.cg_model.specs.Array.{Arch}
use Rattle.cg_model.specs.Kernel.{Kernel}
use Rattle.cg_reading.specs.Numbers.{IsNumbering}

-- the maps have the numbers of the first node, unit and resource of each name
pub record IsDirectory {R S T : Type 0} (A : Arch) (K : Kernel) (nodes : IndexMap (String Global) ℕ R) (units : IndexMap (String Global) ℕ S) (resources : IndexMap (String Global) ℕ T) : Type 0 where
  pub of_nodes : IsNumbering nodes (λ n. Some n.name) K.nodes
  pub of_units : IsNumbering units (λ u. Some u.name) A.units
  pub of_resources : IsNumbering resources (λ r. Some r.name) A.resources
