-- Node u moved to just before node v, a later one: the nodes between come one place earlier.
use Rattle.std.specs.Prelude.{ℕ, ◌+◌, ◌-◌, nat_lt, eqb, if◌then◌else◌, map}
use Rattle.cg_model.specs.declared.kernel.Node.{Node}
use Rattle.cg_model.specs.declared.kernel.Operand.{Operand}
use Rattle.cg_model.specs.declared.kernel.Operand.TheVariants.{Const as Constant, Edge}

-- the new place of node w
abbrev pub number_of : ℕ → ℕ → ℕ → ℕ
number_of u v w = if nat_lt w u then w else if nat_lt w v then if eqb w u then v - 1 else w - 1 else w

-- the node that comes to place k
abbrev pub place_from : ℕ → ℕ → ℕ → ℕ
place_from u v k = if nat_lt k u then k else if nat_lt k v then if eqb (k + 1) v then u else k + 1 else k

-- an operand and a node with the new numbers
abbrev pub moved : ℕ → ℕ → Operand → Operand
moved u v (Constant w) = Constant w
moved u v (Edge s d init) = Edge (number_of u v s) d init

abbrev pub moved_node : ℕ → ℕ → Node → Node
moved_node u v N = record { name = N.name; op = N.op; port = N.port; operands = map (moved u v) N.operands }
