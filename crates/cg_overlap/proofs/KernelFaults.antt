-- Kernels that aren't valid, each for one fault of the table.
use Rattle.std.proofs.Common.{◌≡◌, ℕ, ◌<◌, ◌≤◌, true, false, List, [], ◌∷◌, replicate, refl, arith}
use Rattle.std.specs.Prelude.{codes}
use Rattle.cg_word.specs.declared.op.Op.{Op}
use Rattle.cg_word.specs.declared.op.Op.TheVariants.{Const, Iter, Add, Store, Output, OutputIf}
use Rattle.cg_model.specs.declared.kernel.Node.{Node}
use Rattle.cg_model.specs.declared.kernel.Operand.{Operand}
use Rattle.cg_model.specs.declared.kernel.Operand.TheVariants.{Const as Constant, Edge}
use Rattle.cg_model.specs.Kernel.{Kernel, IsKernel}

abbrev i : Node
i = record { name = codes "i"; op = Iter; port = 0; operands = [] }

-- a second node, of that operation, port and operands
abbrev a : Op → ℕ → List Operand → Node
a op port operands = record { name = codes "a"; op = op; port = port; operands = operands }

abbrev two : Node → Kernel
two n = record { nodes = i ∷ n ∷ []; order = [] }

-- one order edge between two nodes
abbrev ordered : ℕ → ℕ → ℕ → Kernel
ordered u v d = record { nodes = i ∷ a Iter 0 [] ∷ []; order = record { from = u; to = v; distance = d } ∷ [] }

-- ---- K4 to K6

too_many_nodes : IsKernel (record { nodes = replicate 1025 i; order = [] }) → ⊥
too_many_nodes good = let z : 1025 ≤ 1024 = good.few in omega arith

too_many_order_edges : IsKernel (record { nodes = i ∷ []; order = replicate 4097 (record { from = 0; to = 0; distance = 1 }) }) → ⊥
too_many_order_edges good = let z : 4097 ≤ 4096 = good.order.few in omega arith

node_without_name : IsKernel (two (record i { name = [] })) → ⊥
node_without_name good = let z : 0 < 0 = (good.named.names 1 (omega arith)).some in omega arith

node_name_of_33_characters : IsKernel (two (record i { name = replicate 33 97 })) → ⊥
node_name_of_33_characters good = let z : 33 ≤ 32 = (good.named.names 1 (omega arith)).short in omega arith

two_nodes_of_one_name : IsKernel (two i) → ⊥
two_nodes_of_one_name good = let z : ◌≡◌ {A = ℕ} 0 1 = good.named.apart 0 1 (omega arith) (omega arith) refl in omega arith

-- ---- K8 to K11

add_of_one_operand : IsKernel (two (a Add 0 (Edge 0 0 [] ∷ []))) → ⊥
add_of_one_operand good = let z : ◌≡◌ {A = ℕ} 1 2 = good.arities 1 (omega arith) in omega arith

edge_from_no_node : IsKernel (two (a Const 0 (Edge 2 1 (0 ∷ []) ∷ []))) → ⊥
edge_from_no_node good = let z : 2 < 2 = good.wired.sources 1 0 2 1 (0 ∷ []) (omega arith) refl in omega arith

order_edge_to_no_node : IsKernel (ordered 0 2 0) → ⊥
order_edge_to_no_node good = let z : 2 < 2 = (good.order.known 0 0 2 0 refl).1 in omega arith

-- the output takes its own value of one turn ago
value_of_an_output : IsKernel (two (a Output 0 (Edge 1 1 (0 ∷ []) ∷ []))) → ⊥
value_of_an_output good = let z : false ≡ true = good.valued 1 0 1 1 (0 ∷ []) (omega arith) refl in cc

value_of_a_store : IsKernel (two (a Store 0 (Constant 0 ∷ Edge 1 1 (0 ∷ []) ∷ []))) → ⊥
value_of_a_store good = let z : false ≡ true = good.valued 1 1 1 1 (0 ∷ []) (omega arith) refl in cc

value_of_an_outputif : IsKernel (two (a OutputIf 0 (Edge 0 0 [] ∷ Edge 1 1 (0 ∷ []) ∷ []))) → ⊥
value_of_an_outputif good = let z : false ≡ true = good.valued 1 1 1 1 (0 ∷ []) (omega arith) refl in cc

own_value_of_the_turn : IsKernel (two (a Const 0 (Edge 1 0 [] ∷ []))) → ⊥
own_value_of_the_turn good = let z : 1 < 1 = good.wired.forward 1 0 1 [] (omega arith) refl in omega arith

order_edge_back_within_the_turn : IsKernel (ordered 1 0 0) → ⊥
order_edge_back_within_the_turn good = let z : 1 < 0 = good.order.forward 0 1 0 refl in omega arith

-- ---- K12 to K14

distance_of_5 : IsKernel (two (a Const 0 (Edge 0 5 (replicate 5 0) ∷ []))) → ⊥
distance_of_5 good = let z : 5 ≤ 4 = good.near 1 0 0 5 (replicate 5 0) (omega arith) refl in omega arith

order_distance_of_256 : IsKernel (ordered 0 1 256) → ⊥
order_distance_of_256 good = let z : 256 ≤ 255 = good.order.near 0 0 1 256 refl in omega arith

too_few_initial_words : IsKernel (two (a Const 0 (Edge 0 2 (7 ∷ []) ∷ []))) → ⊥
too_few_initial_words good = let z : ◌≡◌ {A = ℕ} 1 2 = good.inits 1 0 0 2 (7 ∷ []) (omega arith) refl in omega arith

too_many_initial_words : IsKernel (two (a Const 0 (Edge 0 1 (7 ∷ 8 ∷ []) ∷ []))) → ⊥
too_many_initial_words good = let z : ◌≡◌ {A = ℕ} 2 1 = good.inits 1 0 0 1 (7 ∷ 8 ∷ []) (omega arith) refl in omega arith

initial_word_of_33_bits : IsKernel (two (a Const 0 (Edge 0 1 (4294967296 ∷ []) ∷ []))) → ⊥
initial_word_of_33_bits good = let z : 4294967296 < 4294967296 = good.init_words 1 0 0 1 0 (4294967296 ∷ []) (omega arith) refl in omega arith

constant_of_33_bits : IsKernel (two (a Const 0 (Constant 4294967296 ∷ []))) → ⊥
constant_of_33_bits good = let z : 4294967296 < 4294967296 = good.wired.constants 1 0 4294967296 (omega arith) refl in omega arith

two_constants : IsKernel (two (a Add 0 (Constant 1 ∷ Constant 2 ∷ []))) → ⊥
two_constants good = let z : ◌≡◌ {A = ℕ} 0 1 = good.one_constant 1 0 1 1 2 (omega arith) refl refl in omega arith

-- ---- K15 and K16

port_of_16 : IsKernel (two (a Output 16 (Edge 0 0 [] ∷ []))) → ⊥
port_of_16 good = let z : 16 ≤ 15 = good.ports 1 (omega arith) in omega arith

port_of_an_add : IsKernel (two (a Add 3 (Edge 0 0 [] ∷ Constant 1 ∷ []))) → ⊥
port_of_an_add good = let z : ◌≡◌ {A = ℕ} 3 0 = good.no_ports 1 (omega arith) refl in omega arith

-- an output and a guarded output to port 3
abbrev two_outputs : Kernel
two_outputs = record {
  nodes =
      i
      ∷ record { name = codes "o"; op = Output; port = 3; operands = Edge 0 0 [] ∷ [] }
      ∷ a OutputIf 3 (Edge 0 0 [] ∷ Edge 0 0 [] ∷ [])
      ∷ [];
  order = [];
}

two_outputs_to_one_port : IsKernel two_outputs → ⊥
two_outputs_to_one_port good = let z : ◌≡◌ {A = ℕ} 1 2 = good.one_output 1 2 (omega arith) (omega arith) refl refl refl in omega arith
