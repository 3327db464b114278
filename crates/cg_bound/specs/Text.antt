-- The text of reports on an impossible interval.
use Rattle.std.specs.Prelude.{ℕ, List, ◌∷◌, ◌++◌, flat_map, codes, decimal, Option, Some, None}
use Rattle.cg_word.specs.declared.op.Op.{Op}
use Rattle.cg_model.specs.Kernel.{Kernel, node}
use Rattle.cg_model.specs.Array.{Arch}
use Rattle.cg_flat.specs.Text.{op_words}
use Rattle.cg_recur.specs.declared.edge.EdgeId.{EdgeId}
use Rattle.cg_recur.specs.declared.edge.EdgeId.TheVariants.{Arg, Order}
use Rattle.cg_recur.specs.Edges.{edge_of}
use Rattle.cg_recur.specs.Chain.{latencies, distances}
use Rattle.cg_class.specs.Class.{nodes_in, units_for}
use Rattle.cg_bound.specs.declared.interval.Certificate.{Certificate}
use Rattle.cg_bound.specs.declared.interval.Certificate.TheVariants.{Cycle, Class}

-- a data edge by the name of the node that takes the value and the number of the operand; an order edge by its number
abbrev pub edge_text : Kernel → EdgeId → List ℕ
edge_text K (Arg v p) = (node K v).name ++ (codes "." ++ decimal p)
edge_text K (Order e) = codes "order." ++ decimal e

-- edges, each after a blank
abbrev pub edge_word : Kernel → EdgeId → List ℕ
edge_word K id = 32 ∷ edge_text K id

abbrev pub edge_words : Kernel → List EdgeId → List ℕ
edge_words K ids = flat_map (edge_word K) ids

-- the interval: that of `ii` cycles, or every one
abbrev pub interval_text : Option ℕ → List ℕ
interval_text (Some ii) = codes "impossible at ii " ++ (decimal ii ++ codes ": ")
interval_text None = codes "impossible at every ii: "

-- sums, and counts
abbrev pub sums_text : ℕ → ℕ → List ℕ
sums_text latency distance = codes " latency " ++ (decimal latency ++ (codes " distance " ++ decimal distance))

abbrev pub counts_text : ℕ → ℕ → List ℕ
counts_text nodes units = codes " nodes " ++ (decimal nodes ++ (codes " units " ++ decimal units))

-- the edges of a chain with the sums of its latencies and distances
abbrev pub chain_text : Arch → Kernel → List EdgeId → List ℕ
chain_text A K ids = edge_words K ids ++ sums_text (latencies (edge_of A K) ids) (distances (edge_of A K) ids)

-- a set of operations in the order of their codes, with the numbers of its nodes and units
abbrev pub set_text : Arch → Kernel → List Op → List ℕ
set_text A K set = op_words set ++ counts_text (nodes_in K.nodes set) (units_for A.units set)

-- a closed chain, and a class of operations
abbrev pub cycle_text : Arch → Kernel → List EdgeId → List ℕ
cycle_text A K ids = codes "cycle" ++ chain_text A K ids

abbrev pub class_text : Arch → Kernel → List Op → List ℕ
class_text A K set = codes "class" ++ set_text A K set

abbrev pub cause_text : Arch → Kernel → Certificate → List ℕ
cause_text A K (Cycle ids) = cycle_text A K ids.items
cause_text A K (Class set) = class_text A K set

-- why an interval, or every one, is impossible
abbrev pub certificate_text : Arch → Kernel → Option ℕ → Certificate → List ℕ
certificate_text A K at certificate = interval_text at ++ cause_text A K certificate
