-- What is printed has no float, and is shallow.
use Rattle.std.proofs.Common.{◌≡◌, ℕ, ◌≤◌, ◌||◌, List, map, Bool, true, false, cond, codes, refl, ap, ◌∙◌, arith}
use Rattle.serde_json.specs.Data.{no_members, member, depth, items_depth, members_depth}
use Rattle.serde_json.specs.View.{items_of}
use Rattle.serde_json.specs.Written.{has_float, items_have_float, members_have_float}
use Rattle.cg_json.proofs.Depths.{items_no_float, items_depth-at_most}
use Rattle.cg_word.specs.Word as word
use Rattle.cg_model.specs.Kernel.{Kernel}
use Rattle.cg_model.specs.declared.kernel.Node.{Node}
use Rattle.cg_model.specs.declared.kernel.Operand.{Operand}
use Rattle.cg_model.specs.declared.kernel.Operand.TheVariants.{Const, Edge}
use Rattle.cg_kernel_text.specs.Printed.{word_data, operand_data, port_members, node_data, edge_data, data_of}

operand_no_float : (nodes : List Node) (o : Operand) → has_float (operand_data nodes o) ≡ false
operand_no_float nodes (Const c) = refl
operand_no_float nodes (Edge u d init) = ap (λ b. b || false) (items_no_float word_data init (λ _. refl))

port_no_float : (b : Bool) (p : ℕ) → members_have_float (cond b (member (codes "port") (word_data p) no_members) no_members) ≡ false
port_no_float true p = refl
port_no_float false p = refl

node_no_float : (nodes : List Node) (n : Node) → has_float (node_data nodes n) ≡ false
node_no_float nodes n = ap (λ b. b || members_have_float (port_members n)) (items_no_float (operand_data nodes) n.operands (operand_no_float nodes)) ∙ port_no_float (word.has_port n.op) n.port

pub data_of-no_float : (K : Kernel) → has_float (data_of K) ≡ false
unfolding data_of
data_of-no_float K =
    ap (λ b. b || (items_have_float (items_of (map (edge_data K.nodes) K.order)) || false)) (items_no_float (node_data K.nodes) K.nodes (node_no_float K.nodes))
    ∙ ap (λ b. b || false) (items_no_float (edge_data K.nodes) K.order (λ _. refl))

operand_depth : (nodes : List Node) (o : Operand) → depth (operand_data nodes o) ≤ 2
operand_depth nodes (Const c) = omega arith
operand_depth nodes (Edge u d init) = let words = items_depth-at_most word_data 0 init (λ _. omega arith) in omega (arith, words)

port_depth : (b : Bool) (p : ℕ) → members_depth (cond b (member (codes "port") (word_data p) no_members) no_members) ≤ 0
port_depth true p = omega arith
port_depth false p = omega arith

node_depth : (nodes : List Node) (n : Node) → depth (node_data nodes n) ≤ 4
node_depth nodes n =
    let args = items_depth-at_most (operand_data nodes) 2 n.operands (operand_depth nodes) in
    let port = port_depth (word.has_port n.op) n.port in
    omega (arith, args, port)

pub data_of-depth : (K : Kernel) → depth (data_of K) ≤ 127
unfolding data_of
data_of-depth K =
    let nodes = items_depth-at_most (node_data K.nodes) 4 K.nodes (node_depth K.nodes) in
    let order = items_depth-at_most (edge_data K.nodes) 1 K.order (λ _. omega arith) in
    omega (arith, nodes, order)
