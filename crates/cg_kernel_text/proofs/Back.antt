-- What is printed writes the kernel.
use Rattle.std.proofs.Common.{◌≡◌, ℕ, ◌<◌, ◌≤◌, ◌^◌, List, [], ◌∷◌, map, codes, Some, None, Ok, Bool, true, false, cond, refl, ap, ◌∙◌, arith, lit<}
use Rattle.std.specs.Prelude.{slice_get, slice_index}
use Rattle.std.specs.Option.{option_map, option_map_or, option_or}
use Rattle.std.proofs.lemmas.Option.{slice_get_within, get_or_from_slice_get}
use Rattle.serde_json.specs.Data.{no_members, member, array, object, string}
use Rattle.serde_json.specs.Find.{get_member}
use Rattle.serde_json.specs.View.{items_of}
use Rattle.cg_word.specs.Word as word
use Rattle.cg_model.specs.Kernel.{Kernel, size, node, no_node, HasOperand, IsKernel}
use Rattle.cg_model.specs.declared.kernel.Node.{Node}
use Rattle.cg_model.specs.declared.kernel.Operand.{Operand}
use Rattle.cg_model.specs.declared.kernel.Operand.TheVariants.{Const, Edge}
use Rattle.cg_model.specs.declared.kernel.OrderEdge.{OrderEdge}
use Rattle.cg_reading.specs.Items.{all_of, all_or_first}
use Rattle.cg_reading.specs.Keys.{has_other}
use Rattle.cg_json.specs.Members.{word_in, listed, optional_word_at, keys_in, has_other_keys}
use Rattle.cg_kernel.specs.declared.written.WrittenArg.{WrittenArg}
use Rattle.cg_kernel.specs.declared.written.WrittenNode.{WrittenNode}
use Rattle.cg_kernel.specs.declared.written.WrittenEdge.{WrittenEdge}
use Rattle.cg_kernel.specs.declared.written.WrittenKernel.{WrittenKernel}
use Rattle.cg_kernel.specs.Written.{arg_in, source_from, node_in, node_from, edge_in, edge_from, joined, written_of}
use Rattle.cg_kernel.specs.declared.written.Format.TheVariants.{Second}
use Rattle.cg_kernel.specs.declared.written.WrittenArg.TheVariants.{Number, Source}
use Rattle.cg_kernel_text.specs.Printed.{word_data, name_at, operand_data, node_data, edge_data, data_of}
use Rattle.cg_json.proofs.Elements.{all_of-map, all_or_first-map, map-same, word_back}

-- ---- what is written of a kernel

abbrev pub written_arg : List Node → Operand → WrittenArg
written_arg nodes (Const c) = Number c
written_arg nodes (Edge u d init) = Source (name_at nodes u) d init false

abbrev pub written_node : List Node → Node → WrittenNode
written_node nodes n = record { name = n.name; op = word.name_of n.op; args = map (written_arg nodes) n.operands; port = (cond (word.has_port n.op) (Some n.port) None); other_keys = false }

abbrev pub written_edge : List Node → OrderEdge → WrittenEdge
written_edge nodes e = record { from = name_at nodes e.from; to = name_at nodes e.to; distance = e.distance; other_keys = false }

abbrev pub written : Kernel → WrittenKernel
written K = record { format = Second; nodes = map (written_node K.nodes) K.nodes; order = map (written_edge K.nodes) K.order; other_keys = false }

-- ---- elements of a kernel

pub node_is : (K : Kernel) (v : ℕ) (n : Node) → slice_get K.nodes v ≡ Some n → node K v ≡ n
node_is K v n at = get_or_from_slice_get K.nodes v n no_node at

pub has : (K : Kernel) (v p : ℕ) (n : Node) (o : Operand) → slice_get K.nodes v ≡ Some n → slice_get n.operands p ≡ Some o → HasOperand K v p o
has K v p n o at arg = ap (λ m. slice_get m.operands p) (node_is K v n at) ∙ arg

pub below : (K : Kernel) (v : ℕ) (n : Node) → slice_get K.nodes v ≡ Some n → v < size K
below K v n at = slice_get_within K.nodes v n at

-- ---- each part reads back

small : (n m : ℕ) → n ≤ m → m < 2 ^ 32 → n < 2 ^ 32
small n m h k = omega (arith, h, k)

words_back : (ws : List ℕ) → ((i w : ℕ) → slice_get ws i ≡ Some w → w < 2 ^ 32) → all_of word_in (listed (items_of (map word_data ws))) ≡ Some ws
words_back ws h = all_of-map word_in word_data (λ w. w) ws (λ i w at. word_back w (h i w at)) ∙ ap Some (map-same (λ w. w) ws (λ _ _ _. refl))

constant_back : (c : ℕ) → c < 2 ^ 32 → arg_in (word_data c) ≡ Some (Number c)
constant_back c h = ap (λ o. option_or (option_map Number o) None) (word_back c h)

edge_back : (name : List ℕ) (d : ℕ) (init : List ℕ) → d < 2 ^ 32 → ((i w : ℕ) → slice_get init i ≡ Some w → w < 2 ^ 32)
    → arg_in (object (member (codes "distance") (word_data d) (member (codes "from") (string name) (member (codes "init") (array (items_of (map word_data init))) no_members)))) ≡ Some (Source name d init false)
edge_back name d init hd hi =
    ap (λ o. source_from (Some name) o (all_of word_in (listed (items_of (map word_data init)))) false) (word_back d hd)
    ∙ ap (λ o. source_from (Some name) (Some d) o false) (words_back init hi)

pub word_at : (init : List ℕ) (i w : ℕ) → slice_get init i ≡ Some w → ((k : ℕ) → slice_index init k < 2 ^ 32) → w < 2 ^ 32
word_at init i w at h = let below = h i in let same = get_or_from_slice_get init i w 0 at in omega (arith, below, same)

operand_back : (K : Kernel) → IsKernel K → (v p : ℕ) (n : Node) (o : Operand) → slice_get K.nodes v ≡ Some n → slice_get n.operands p ≡ Some o → arg_in (operand_data K.nodes o) ≡ Some (written_arg K.nodes o)
operand_back K valid v p n (Const c) at arg = constant_back c (valid.wired.constants v p c (below K v n at) (has K v p n (Const c) at arg))
operand_back K valid v p n (Edge u d init) at arg =
    let here = has K v p n (Edge u d init) at arg in
    let near = valid.near v p u d init (below K v n at) here in
    edge_back (name_at K.nodes u) d init (small d 4 near (lit< tt))
    (λ i w at'. word_at init i w at' (λ k. valid.init_words v p u d k init (below K v n at) here))

port_back : (b : Bool) (p : ℕ) → p < 2 ^ 32 → option_map_or (λ found. option_map Some (word_in found)) (get_member (codes "port") (cond b (member (codes "port") (word_data p) no_members) no_members)) (Some None) ≡ Some (cond b (Some p) None)
port_back true p h = ap (option_map Some) (word_back p h)
port_back false p h = refl

port_known : (b : Bool) (p : ℕ) → has_other (codes "name" ∷ codes "op" ∷ codes "args" ∷ codes "port" ∷ []) (keys_in (cond b (member (codes "port") (word_data p) no_members) no_members)) ≡ false
port_known true p = refl
port_known false p = refl

node_back : (K : Kernel) → IsKernel K → (v : ℕ) (n : Node) → slice_get K.nodes v ≡ Some n → node_in (node_data K.nodes n) ≡ Some (written_node K.nodes n)
node_back K valid v n at =
    let few = valid.ports v (below K v n at) in
    let is = ap (λ m. m.port) (node_is K v n at) in
    let small_port : n.port < 2 ^ 32 = small n.port 15 (omega (arith, few, is)) (lit< tt) in
    ap (λ o. node_from (Some n.name) (Some (word.name_of n.op)) o (optional_word_at (codes "port") (node_data K.nodes n)) (has_other_keys (codes "name" ∷ codes "op" ∷ codes "args" ∷ codes "port" ∷ []) (node_data K.nodes n)))
    (all_of-map arg_in (operand_data K.nodes) (written_arg K.nodes) n.operands (λ p o arg. operand_back K valid v p n o at arg))
    ∙ ap (λ o. node_from (Some n.name) (Some (word.name_of n.op)) (Some (map (written_arg K.nodes) n.operands)) o (has_other_keys (codes "name" ∷ codes "op" ∷ codes "args" ∷ codes "port" ∷ []) (node_data K.nodes n)))
    (port_back (word.has_port n.op) n.port small_port)
    ∙ ap (λ b. node_from (Some n.name) (Some (word.name_of n.op)) (Some (map (written_arg K.nodes) n.operands)) (Some (cond (word.has_port n.op) (Some n.port) None)) b)
    (port_known (word.has_port n.op) n.port)

order_back : (K : Kernel) → IsKernel K → (i : ℕ) (e : OrderEdge) → slice_get K.order i ≡ Some e → edge_in (edge_data K.nodes e) ≡ Some (written_edge K.nodes e)
order_back K valid i e at =
    let near = valid.order.near i e.from e.to e.distance at in
    ap (λ o. edge_from (Some (name_at K.nodes e.from)) (Some (name_at K.nodes e.to)) o false) (word_back e.distance (small e.distance 255 near (lit< tt)))

-- the value that a valid kernel is printed as writes it
pub written_of-data_of : (K : Kernel) → IsKernel K → written_of (data_of K) ≡ Ok (written K)
unfolding written_of data_of
written_of-data_of K valid =
    ap (λ ns. joined Second false ns (all_or_first edge_in 0 (listed (items_of (map (edge_data K.nodes) K.order)))))
    (all_or_first-map node_in (node_data K.nodes) (written_node K.nodes) 0 K.nodes (λ v n at. node_back K valid v n at))
    ∙ ap (λ es. joined Second false (Ok (map (written_node K.nodes) K.nodes)) es)
    (all_or_first-map edge_in (edge_data K.nodes) (written_edge K.nodes) 0 K.order (λ i e at. order_back K valid i e at))
