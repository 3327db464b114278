-- The numbers of nodes by their names.
use Rattle.std.specs.Prelude.{ℕ, List, Some, String}
use Rattle.std.specs.declared.alloc.Global.{Global}
use Rattle.indexmap.specs.IndexMap.{IndexMap}
use Rattle.cg_reading.specs.Numbers.{IsNumbering}
use Rattle.cg_kernel.specs.Written.{WrittenNode}

-- the map has the number of the first node of each name
abbrev pub IsIndex : {S : Type 0} → IndexMap (String Global) ℕ S → List WrittenNode → Type 0
IsIndex numbers nodes = IsNumbering numbers (λ n. Some n.name) nodes
