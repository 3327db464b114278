-- In what a valid kernel is written as, no fault applies.
use Rattle.std.proofs.Common.{◌≡◌, ℕ, ◌<◌, ◌≤◌, ◌==◌, ◌||◌, not, map, take, List, [], ◌∷◌, length, Option, Some, None, Ok, Bool, true, false, cond, refl, ap, ◌∙◌, sym, arith, bytes_eq, subst, IsUtf8}
use Rattle.std.specs.Prelude.{nat_lt, slice_get, unwrap_or, count_by}
use Rattle.std.specs.Option.{is_none, option_map, option_and_then, option_map_or, option_or}
use Rattle.std.specs.List.{list_any}
use Rattle.std.proofs.lemmas.Bool.{lt-ltb, eq-eqb, eqb-true, le-ltb, not_from_true, ne_eqb}
use Rattle.std.proofs.lemmas.Option.{slice_get-get_or}
use Rattle.std.proofs.lemmas.List.{length-map}
use Rattle.std.proofs.lemmas.Slice.Eq.{bytes_eq-Decides}
use Rattle.cg_word.specs.declared.op.Op.{Op}
use Rattle.cg_word.specs.declared.op.Op.TheVariants as op
use Rattle.cg_word.specs.Word as word
use Rattle.cg_word.proofs.Codes.{op_named_again}
use Rattle.cg_model.specs.Names.{IsName}
use Rattle.cg_model.specs.First.{first_from, is_before}
use Rattle.cg_model.specs.Kernel.{Kernel, size, node, no_node, IsKernel}
use Rattle.cg_model.specs.declared.kernel.Node.{Node}
use Rattle.cg_model.specs.declared.kernel.Operand.{Operand}
use Rattle.cg_model.specs.declared.kernel.Operand.TheVariants.{Const, Edge}
use Rattle.cg_model.specs.declared.kernel.OrderEdge.{OrderEdge}
use Rattle.cg_model.proofs.Identifiers.{is_name-back}
use Rattle.cg_model.proofs.Elements.{map_get}
use Rattle.cg_model.proofs.Positions.{position_from-reached, position_from-found}
use Rattle.cg_model.proofs.Counts.{count_by-one}
use Rattle.cg_kernel.specs.declared.written.WrittenNode.{WrittenNode}
use Rattle.cg_kernel.specs.declared.rule.Rule.{Rule}
use Rattle.cg_kernel.specs.declared.rule.Rule.TheVariants.{UnknownKey, TooLarge, BadName, RepeatedName, UnknownOp, WrongOperandCount, UnknownNode, NoValue, BackEdgeWithoutDistance, BadDistance, InitCount, TwoConstants, BadPort, RepeatedOutputPort}
use Rattle.cg_kernel.specs.declared.fault.KernelPlace.TheVariants as place
use Rattle.cg_kernel.specs.Rules.{number_of, op_of, source_op, applies_to_arg, applies_to_node, applies_to_edge, applies_to_file, is_number, is_bad_port, output_port, outputs_to, first_place, fault_at, first_fault, all_rules}
use Rattle.cg_kernel.specs.Answer.{node_number, operand_of, node_of, edge_of, kernel_of, judged, unless, answer_of, answer_in, answer_written}
use Rattle.serde_json.specs.Read.{read}
use Rattle.cg_json.proofs.Reading.{value_of-read}
use Rattle.cg_kernel_text.specs.Printed.{name_at, data_of}
use Rattle.cg_json.proofs.Elements.{list_any-none, take_get-back, map-back}
use Rattle.cg_kernel_text.proofs.Back.{written_arg, written_node, written_edge, written, node_is, has, below, written_of-data_of}
use Rattle.cg_model.proofs.Bools.{and_not}
use Rattle.cg_model.proofs.Lookups.{get_map, first_from-none}

-- ---- tests

-- ---- names and operations

named_at : (K : Kernel) (v : ℕ) (n : Node) → slice_get K.nodes v ≡ Some n → name_at K.nodes v ≡ n.name
named_at K v n at = ap (λ m. m.name) (node_is K v n at)

-- node v is the first of its name
number_back : (K : Kernel) → IsKernel K → (v : ℕ) (n : Node) → slice_get K.nodes v ≡ Some n → number_of (map (written_node K.nodes) K.nodes) n.name ≡ Some v
number_back K valid v n at =
    let test = λ (m : WrittenNode). bytes_eq m.name n.name in
    let reached = position_from-reached test 0 (map (written_node K.nodes) K.nodes) v v (written_node K.nodes n) (get_map (written_node K.nodes) K.nodes v n at) ((bytes_eq-Decides n.name n.name).1 refl) (omega arith) in
    let found = position_from-found test 0 (map (written_node K.nodes) K.nodes) reached.0 reached.1.0 in
    let m = map_get (written_node K.nodes) K.nodes found.0 found.1.0 found.1.1.1.0 in
    let names : m.0.name ≡ n.name = ap (λ x. x.name) m.1.1 ∙ (bytes_eq-Decides found.1.0.name n.name).0 found.1.1.1.1 in
    let same = valid.named.apart found.0 v (below K found.0 m.0 m.1.0) (below K v n at) (named_at K found.0 m.0 m.1.0 ∙ names ∙ sym (named_at K v n at)) in
    let here : reached.0 ≡ v = omega (arith, found.1.1.0, same) in
    reached.1.0 ∙ ap Some here

-- node u exists
node_there : (K : Kernel) (u : ℕ) → u < size K → slice_get K.nodes u ≡ Some (node K u)
node_there K u h = slice_get-get_or K.nodes u no_node h

number_of_node : (K : Kernel) → IsKernel K → (u : ℕ) → u < size K → number_of (map (written_node K.nodes) K.nodes) (name_at K.nodes u) ≡ Some u
number_of_node K valid u h = number_back K valid u (node K u) (node_there K u h)

op_back : (K : Kernel) (n : Node) → op_of (written K) (written_node K.nodes n) ≡ Some n.op
op_back K n = ap (option_and_then (λ o. Some o)) (op_named_again n.op)

-- ---- each fault is absent

-- none of a node's arguments has a fault that no operand has
args_clear : (K : Kernel) (rule : Rule) (v : ℕ) (n : Node) → ((p : ℕ) (o : Operand) → slice_get n.operands p ≡ Some o → applies_to_arg rule (written K) v (written_arg K.nodes o) ≡ false)
    → list_any (applies_to_arg rule (written K) v) (map (written_arg K.nodes) n.operands) ≡ false
args_clear K rule v n h = list_any-none (applies_to_arg rule (written K) v) (map (written_arg K.nodes) n.operands)
    (λ p a at. let found = map_get (written_arg K.nodes) n.operands p a at in ap (applies_to_arg rule (written K) v) (sym found.1.1) ∙ h p found.0 found.1.0)

unknown_key_arg : (K : Kernel) (v : ℕ) (o : Operand) → applies_to_arg UnknownKey (written K) v (written_arg K.nodes o) ≡ false
unknown_key_arg K v (Const c) = refl
unknown_key_arg K v (Edge u d init) = refl

source_there : (K : Kernel) → IsKernel K → (v p : ℕ) (n : Node) (u d : ℕ) (init : List ℕ) → slice_get K.nodes v ≡ Some n → slice_get n.operands p ≡ Some (Edge u d init) → u < size K
source_there K valid v p n u d init at arg = valid.wired.sources v p u d init (below K v n at) (has K v p n (Edge u d init) at arg)

unknown_node_arg : (K : Kernel) → IsKernel K → (v p : ℕ) (n : Node) (o : Operand) → slice_get K.nodes v ≡ Some n → slice_get n.operands p ≡ Some o → applies_to_arg UnknownNode (written K) v (written_arg K.nodes o) ≡ false
unknown_node_arg K valid v p n (Const c) at arg = refl
unknown_node_arg K valid v p n (Edge u d init) at arg = ap is_none (number_of_node K valid u (source_there K valid v p n u d init at arg))

source_op_back : (K : Kernel) → IsKernel K → (u : ℕ) → u < size K → source_op (written K) (name_at K.nodes u) ≡ Some (node K u).op
source_op_back K valid u h =
    ap (option_and_then (λ u. option_and_then (op_of (written K)) (slice_get (map (written_node K.nodes) K.nodes) u))) (number_of_node K valid u h)
    ∙ ap (option_and_then (op_of (written K))) (get_map (written_node K.nodes) K.nodes u (node K u) (node_there K u h))
    ∙ op_back K (node K u)

no_value_arg : (K : Kernel) → IsKernel K → (v p : ℕ) (n : Node) (o : Operand) → slice_get K.nodes v ≡ Some n → slice_get n.operands p ≡ Some o → applies_to_arg NoValue (written K) v (written_arg K.nodes o) ≡ false
no_value_arg K valid v p n (Const c) at arg = refl
no_value_arg K valid v p n (Edge u d init) at arg =
    ap (λ o. option_map_or (λ op. not (word.has_value op)) o false) (source_op_back K valid u (source_there K valid v p n u d init at arg))
    ∙ not_from_true _ (valid.valued v p u d init (below K v n at) (has K v p n (Edge u d init) at arg))

before_back : (o : Option ℕ) (u v : ℕ) → o ≡ Some u → u < v → not (is_before o v) ≡ false
before_back o u v e h = ap (λ x. not (is_before x v)) e ∙ not_from_true _ (lt-ltb u v h)

back_edge_arg : (K : Kernel) → IsKernel K → (v p : ℕ) (n : Node) (o : Operand) → slice_get K.nodes v ≡ Some n → slice_get n.operands p ≡ Some o → applies_to_arg BackEdgeWithoutDistance (written K) v (written_arg K.nodes o) ≡ false
back_edge_arg K valid v p n (Const c) at arg = refl
back_edge_arg K valid v p n (Edge u d init) at arg = and_not (d == 0) _
    (λ none. before_back _ u v (number_of_node K valid u (source_there K valid v p n u d init at arg))
    (valid.wired.forward v p u init (below K v n at) (ap (λ m. slice_get m.operands p) (node_is K v n at) ∙ arg ∙ ap (λ x. Some (Edge u x init)) (eqb-true d 0 none))))

too_far_arg : (K : Kernel) → IsKernel K → (v p : ℕ) (n : Node) (o : Operand) → slice_get K.nodes v ≡ Some n → slice_get n.operands p ≡ Some o → applies_to_arg BadDistance (written K) v (written_arg K.nodes o) ≡ false
too_far_arg K valid v p n (Const c) at arg = refl
too_far_arg K valid v p n (Edge u d init) at arg = le-ltb 4 d (valid.near v p u d init (below K v n at) (has K v p n (Edge u d init) at arg))

init_arg : (K : Kernel) → IsKernel K → (v p : ℕ) (n : Node) (o : Operand) → slice_get K.nodes v ≡ Some n → slice_get n.operands p ≡ Some o → applies_to_arg InitCount (written K) v (written_arg K.nodes o) ≡ false
init_arg K valid v p n (Const c) at arg = refl
init_arg K valid v p n (Edge u d init) at arg = not_from_true _ (eq-eqb (length init) d (valid.inits v p u d init (below K v n at) (has K v p n (Edge u d init) at arg)))

number_there : (K : Kernel) (o : Operand) → is_number (written_arg K.nodes o) ≡ true → (c : ℕ) × (o ≡ Const c)
number_there K (Const c) e = (c, refl)
number_there K (Edge u d init) e = let bad : false ≡ true = e in absurd (cc)

one_constant : (K : Kernel) → IsKernel K → (v : ℕ) (n : Node) → slice_get K.nodes v ≡ Some n → count_by is_number (map (written_arg K.nodes) n.operands) ≤ 1
one_constant K valid v n at = count_by-one is_number (map (written_arg K.nodes) n.operands)
    (λ p q a b first passes second passes'.
    let x = map_get (written_arg K.nodes) n.operands p a first in
    let y = map_get (written_arg K.nodes) n.operands q b second in
    let c = number_there K x.0 (ap is_number x.1.1 ∙ passes) in
    let d = number_there K y.0 (ap is_number y.1.1 ∙ passes') in
    valid.one_constant v p q c.0 d.0 (below K v n at) (has K v p n (Const c.0) at (x.1.0 ∙ ap Some c.1)) (has K v q n (Const d.0) at (y.1.0 ∙ ap Some d.1)))

port_clear : (b : Bool) (o : Op) (p : ℕ) → word.has_port o ≡ b → p ≤ 15 → is_bad_port o (cond b (Some p) None) ≡ false
port_clear true o p e h = ap (λ b. not b || nat_lt 15 p) e ∙ le-ltb 15 p h
port_clear false o p e h = e

outputs_have_ports : (o : Op) → word.is_output o ≡ true → word.has_port o ≡ true
outputs_have_ports op.Output e = refl
outputs_have_ports op.OutputIf e = refl
outputs_have_ports _ e = let bad : false ≡ true = e in absurd (cc)

output_port_back : (K : Kernel) (n : Node) (b : Bool) → word.is_output n.op ≡ b → output_port (written K) (written_node K.nodes n) ≡ cond b (Some n.port) None
output_port_back K n true e =
    ap (option_and_then (λ o. cond (word.is_output o) (cond (word.has_port n.op) (Some n.port) None) None)) (op_back K n)
    ∙ ap (λ b. cond b (cond (word.has_port n.op) (Some n.port) None) None) e ∙ ap (λ b. cond b (Some n.port) None) (outputs_have_ports n.op e)
output_port_back K n false e =
    ap (option_and_then (λ o. cond (word.is_output o) (cond (word.has_port n.op) (Some n.port) None) None)) (op_back K n)
    ∙ ap (λ b. cond b (cond (word.has_port n.op) (Some n.port) None) None) e

-- an earlier node outputs to no port of a later output
other_port : (K : Kernel) → IsKernel K → (v u : ℕ) (n m : Node) (b : Bool) → slice_get K.nodes v ≡ Some n → slice_get K.nodes u ≡ Some m → word.is_output n.op ≡ true → u < v → word.is_output m.op ≡ b
    → outputs_to (written K) n.port (written_node K.nodes m) ≡ false
other_port K valid v u n m false at at' out lt e = ap (λ o. option_map_or (λ other. other == n.port) o false) (output_port_back K m false e)
other_port K valid v u n m true at at' out lt e =
    ap (λ o. option_map_or (λ other. other == n.port) o false) (output_port_back K m true e)
    ∙ ne_eqb m.port n.port (λ same.
    let one = valid.one_output u v (below K u m at') (below K v n at) (ap (λ x. word.is_output x.op) (node_is K u m at') ∙ e) (ap (λ x. word.is_output x.op) (node_is K v n at) ∙ out)
    (ap (λ x. x.port) (node_is K u m at') ∙ same ∙ ap (λ x. x.port) (sym (node_is K v n at))) in
    omega (arith, one, lt))

repeat_clear : (K : Kernel) → IsKernel K → (v : ℕ) (n : Node) (b : Bool) → slice_get K.nodes v ≡ Some n → word.is_output n.op ≡ b
    → option_map_or (λ port. list_any (outputs_to (written K) port) (take v (map (written_node K.nodes) K.nodes))) (output_port (written K) (written_node K.nodes n)) false ≡ false
repeat_clear K valid v n false at e = ap (λ o. option_map_or (λ port. list_any (outputs_to (written K) port) (take v (map (written_node K.nodes) K.nodes))) o false) (output_port_back K n false e)
repeat_clear K valid v n true at e =
    ap (λ o. option_map_or (λ port. list_any (outputs_to (written K) port) (take v (map (written_node K.nodes) K.nodes))) o false) (output_port_back K n true e)
    ∙ list_any-none (outputs_to (written K) n.port) (take v (map (written_node K.nodes) K.nodes))
    (λ u x at'.
    let back = take_get-back (map (written_node K.nodes) K.nodes) v u x at' in
    let m = map_get (written_node K.nodes) K.nodes u x back.1 in
    ap (outputs_to (written K) n.port) (sym m.1.1) ∙ other_port K valid v u n m.0 (word.is_output m.0.op) at m.1.0 e back.0 refl)

-- ---- the whole

node_clear : (K : Kernel) → IsKernel K → (rule : Rule) (v : ℕ) (n : Node) → slice_get K.nodes v ≡ Some n → applies_to_node rule (written K) v (written_node K.nodes n) ≡ false
node_clear K valid UnknownKey v n at = args_clear K UnknownKey v n (λ p o arg. unknown_key_arg K v o)
node_clear K valid TooLarge v n at = refl
node_clear K valid BadName v n at =
    let P : List ℕ → Type 0 = IsName 32 in
    not_from_true _ (is_name-back 32 n.name (subst P (named_at K v n at) (valid.named.names v (below K v n at))))
node_clear K valid RepeatedName v n at = ap (λ o. is_before o v) (number_back K valid v n at) ∙ le-ltb v v (omega arith)
node_clear K valid UnknownOp v n at = ap is_none (op_back K n)
node_clear K valid WrongOperandCount v n at =
    let count : word.arity n.op ≡ length (map (written_arg K.nodes) n.operands) =
    sym (length-map n.operands (written_arg K.nodes) ∙ ap (λ m. length m.operands) (sym (node_is K v n at)) ∙ valid.arities v (below K v n at) ∙ ap (λ m. word.arity m.op) (node_is K v n at)) in
    ap (λ o. option_map_or (λ op. not (word.arity op == length (map (written_arg K.nodes) n.operands))) o false) (op_back K n) ∙ not_from_true _ (eq-eqb _ _ count)
node_clear K valid UnknownNode v n at = args_clear K UnknownNode v n (λ p o arg. unknown_node_arg K valid v p n o at arg)
node_clear K valid NoValue v n at = args_clear K NoValue v n (λ p o arg. no_value_arg K valid v p n o at arg)
node_clear K valid BackEdgeWithoutDistance v n at = args_clear K BackEdgeWithoutDistance v n (λ p o arg. back_edge_arg K valid v p n o at arg)
node_clear K valid BadDistance v n at = args_clear K BadDistance v n (λ p o arg. too_far_arg K valid v p n o at arg)
node_clear K valid InitCount v n at = args_clear K InitCount v n (λ p o arg. init_arg K valid v p n o at arg)
node_clear K valid TwoConstants v n at = le-ltb 1 _ (one_constant K valid v n at)
node_clear K valid BadPort v n at =
    let few = valid.ports v (below K v n at) in
    let is = ap (λ m. m.port) (node_is K v n at) in
    ap (λ o. option_map_or (λ op. is_bad_port op (cond (word.has_port n.op) (Some n.port) None)) o false) (op_back K n)
    ∙ port_clear (word.has_port n.op) n.op n.port refl (omega (arith, few, is))
node_clear K valid RepeatedOutputPort v n at = repeat_clear K valid v n (word.is_output n.op) at refl

edge_clear : (K : Kernel) → IsKernel K → (rule : Rule) (i : ℕ) (e : OrderEdge) → slice_get K.order i ≡ Some e → applies_to_edge rule (written K) (written_edge K.nodes e) ≡ false
edge_clear K valid UnknownNode i e at =
    let known = valid.order.known i e.from e.to e.distance at in
    ap (λ o. is_none o || is_none (number_of (map (written_node K.nodes) K.nodes) (name_at K.nodes e.to))) (number_of_node K valid e.from known.0)
    ∙ ap is_none (number_of_node K valid e.to known.1)
edge_clear K valid BackEdgeWithoutDistance i e at =
    let known = valid.order.known i e.from e.to e.distance at in
    and_not (e.distance == 0) _ (λ none.
    ap (λ o. option_map_or (λ v. not (is_before (number_of (map (written_node K.nodes) K.nodes) (name_at K.nodes e.from)) v)) o false) (number_of_node K valid e.to known.1)
    ∙ before_back _ e.from e.to (number_of_node K valid e.from known.0)
    (valid.order.forward i e.from e.to (at ∙ ap (λ d. Some (record { from = e.from; to = e.to; distance = d })) (eqb-true e.distance 0 none))))
edge_clear K valid BadDistance i e at = le-ltb 255 e.distance (valid.order.near i e.from e.to e.distance at)
edge_clear K valid _ i e at = refl

file_clear : (K : Kernel) → IsKernel K → (rule : Rule) → applies_to_file rule (written K) ≡ false
file_clear K valid TooLarge =
    ap (λ b. b || nat_lt 4096 (length (map (written_edge K.nodes) K.order))) (le-ltb 1024 _ (omega (arith, valid.few, length-map K.nodes (written_node K.nodes))))
    ∙ le-ltb 4096 _ (omega (arith, valid.order.few, length-map K.order (written_edge K.nodes)))
file_clear K valid _ = refl

place_clear : (K : Kernel) → IsKernel K → (rule : Rule) → first_place rule (written K) ≡ None
unfolding first_place
place_clear K valid rule =
    ap (λ b. option_or (cond b (Some place.File) None) (option_or (option_map place.Node (first_from (applies_to_node rule (written K)) 0 (map (written_node K.nodes) K.nodes))) (option_map place.Order (first_from (λ e edge. applies_to_edge rule (written K) edge) 0 (map (written_edge K.nodes) K.order))))) (file_clear K valid rule)
    ∙ ap (λ o. option_or (option_map place.Node o) (option_map place.Order (first_from (λ e edge. applies_to_edge rule (written K) edge) 0 (map (written_edge K.nodes) K.order))))
    (first_from-none (applies_to_node rule (written K)) 0 (map (written_node K.nodes) K.nodes)
    (λ k j x at here.
    let found = map_get (written_node K.nodes) K.nodes k x at in
    let same : j ≡ k = omega arith in
    ap (λ v. applies_to_node rule (written K) v x) same ∙ ap (applies_to_node rule (written K) k) (sym found.1.1) ∙ node_clear K valid rule k found.0 found.1.0))
    ∙ ap (option_map place.Order)
    (first_from-none (λ e edge. applies_to_edge rule (written K) edge) 0 (map (written_edge K.nodes) K.order)
    (λ k j x at here.
    let found = map_get (written_edge K.nodes) K.order k x at in
    ap (applies_to_edge rule (written K)) (sym found.1.1) ∙ edge_clear K valid rule k found.0 found.1.0))

fault_clear : (K : Kernel) → IsKernel K → (rules : List Rule) → first_fault rules (written K) ≡ None
fault_clear K valid [] = refl
fault_clear K valid (rule ∷ rules) = ap (λ o. option_or (option_map (fault_at rule) o) (first_fault rules (written K))) (place_clear K valid rule) ∙ fault_clear K valid rules

-- ---- the kernel that is written

operand_again : (K : Kernel) → IsKernel K → (v p : ℕ) (n : Node) (o : Operand) → slice_get K.nodes v ≡ Some n → slice_get n.operands p ≡ Some o → operand_of (written K) (written_arg K.nodes o) ≡ o
operand_again K valid v p n (Const c) at arg = refl
operand_again K valid v p n (Edge u d init) at arg = ap (λ o. Edge (unwrap_or o 0) d init) (number_of_node K valid u (source_there K valid v p n u d init at arg))

port_again : (b : Bool) (p : ℕ) → (b ≡ false → p ≡ 0) → unwrap_or (cond b (Some p) None) 0 ≡ p
port_again true p h = refl
port_again false p h = sym (h refl)

node_again : (K : Kernel) → IsKernel K → (v : ℕ) (n : Node) → slice_get K.nodes v ≡ Some n → node_of (written K) (written_node K.nodes n) ≡ n
node_again K valid v n at =
    ap (λ o. record { name = n.name; op = unwrap_or o op.Const; port = unwrap_or (cond (word.has_port n.op) (Some n.port) None) 0; operands = map (operand_of (written K)) (map (written_arg K.nodes) n.operands) }) (op_back K n)
    ∙ ap (λ p. record { name = n.name; op = n.op; port = p; operands = map (operand_of (written K)) (map (written_arg K.nodes) n.operands) })
    (port_again (word.has_port n.op) n.port (λ none. ap (λ m. m.port) (sym (node_is K v n at)) ∙ valid.no_ports v (below K v n at) (ap (λ m. word.has_port m.op) (node_is K v n at) ∙ none)))
    ∙ ap (λ os. record { name = n.name; op = n.op; port = n.port; operands = os }) (map-back (written_arg K.nodes) (operand_of (written K)) n.operands (λ p o arg. operand_again K valid v p n o at arg))

edge_again : (K : Kernel) → IsKernel K → (i : ℕ) (e : OrderEdge) → slice_get K.order i ≡ Some e → edge_of (written K) (written_edge K.nodes e) ≡ e
edge_again K valid i e at =
    let known = valid.order.known i e.from e.to e.distance at in
    ap (λ o. record { from = unwrap_or o 0; to = node_number (written K) (name_at K.nodes e.to); distance = e.distance }) (number_of_node K valid e.from known.0)
    ∙ ap (λ o. record { from = e.from; to = unwrap_or o 0; distance = e.distance }) (number_of_node K valid e.to known.1)

-- what a valid kernel is written as is judged to be that kernel
pub judged-written : (K : Kernel) → IsKernel K → judged (written K) ≡ Ok K
unfolding judged kernel_of
judged-written K valid =
    ap (λ o. unless o (kernel_of (written K))) (fault_clear K valid all_rules)
    ∙ ap (λ ns. Ok (record { nodes = ns; order = map (edge_of (written K)) (map (written_edge K.nodes) K.order) })) (map-back (written_node K.nodes) (node_of (written K)) K.nodes (λ v n at. node_again K valid v n at))
    ∙ ap (λ es. Ok (record { nodes = K.nodes; order = es })) (map-back (written_edge K.nodes) (edge_of (written K)) K.order (λ i e at. edge_again K valid i e at))

-- bytes that stand for the value of a valid kernel are answered with that kernel
pub answer-back : (K : Kernel) → IsKernel K → (bytes : List ℕ) → IsUtf8 bytes → read bytes ≡ Some (data_of K) → answer_of bytes ≡ Ok K
unfolding answer_of
answer-back K valid bytes utf8 is = ap answer_in (value_of-read bytes (data_of K) utf8 is) ∙ ap answer_written (written_of-data_of K valid) ∙ judged-written K valid
