-- Where each of the faults K3 to K16 applies: at the file, at node v, at an order edge.
use Rattle.std.specs.Prelude.{ℕ, ◌==◌, ◌&&◌, ◌||◌, Bool, true, false, not, List, [], ◌∷◌, length, take, Option, Some, None, nat_lt, nat_le, count_by, slice_get, option_map, option_and_then, if◌then◌else◌}
use Rattle.std.specs.Option.{option_or, option_map_or, is_none}
use Rattle.std.specs.List.{list_any}
use Rattle.cg_model.specs.Limits.{last_port, longest_node_name, most_distance, most_nodes, most_order_distance, most_order_edges}
use Rattle.cg_word.specs.declared.op.Op.{Op}
use Rattle.cg_word.specs.Word.{arity, code, has_value, has_port, is_output, op_named}
use Rattle.cg_model.specs.Names.{is_name}
use Rattle.cg_model.specs.First.{first_from, is_before}
use Rattle.cg_model.specs.Limits.{most_nodes, most_order_edges}
use Rattle.cg_reading.specs.Numbers as numbers
use Rattle.cg_kernel.specs.Written.{KernelPlace, Format, WrittenArg, WrittenNode, WrittenEdge, WrittenKernel}
use Rattle.cg_kernel.specs.declared.fault.KernelFault.{KernelFault}
use Rattle.cg_kernel.specs.declared.fault.KernelFault.TheVariants as fault
use Rattle.cg_kernel.specs.declared.fault.KernelPlace.TheVariants as place
use Rattle.cg_kernel.specs.declared.written.Format.TheVariants.{First, Second}
use Rattle.cg_kernel.specs.declared.written.WrittenArg.TheVariants.{Number, Source}
pub use Rattle.cg_kernel.specs.declared.rule.Rule.{Rule}
use Rattle.cg_kernel.specs.declared.rule.Rule.TheVariants.{UnknownKey, TooLarge, BadName, RepeatedName, UnknownOp, WrongOperandCount, UnknownNode, NoValue, BackEdgeWithoutDistance, BadDistance, InitCount, TwoConstants, BadPort, RepeatedOutputPort}

-- ---- names and operations

-- the number of the first node of that name
abbrev pub number_of : List WrittenNode → List ℕ → Option ℕ
number_of nodes name = numbers.number_of (λ n. Some n.name) nodes name

-- the first format has the operations with codes 1 to 22, the second one all
abbrev pub knows : Format → Op → Bool
knows First op = nat_le (code op) 22
knows Second op = true

-- the operation of that name, if the format has it
abbrev pub op_in : Format → List ℕ → Option Op
op_in format name = option_and_then (λ op. if knows format op then Some op else None) (op_named name)

abbrev pub op_of : WrittenKernel → WrittenNode → Option Op
op_of w n = op_in w.format n.op

-- the operation of the node of that name
abbrev pub source_op : WrittenKernel → List ℕ → Option Op
source_op w name = option_and_then (λ u. option_and_then (op_of w) (slice_get w.nodes u)) (number_of w.nodes name)

-- ---- one definition for each fault number

-- K3 UnknownKey: an object has a key that the format doesn't have there
abbrev pub arg_has_other_keys : WrittenArg → Bool
arg_has_other_keys (Number c) = false
arg_has_other_keys (Source from distance init other) = other

-- K4 TooLarge: more than 1,024 nodes or 4,096 order edges
abbrev pub is_too_large : WrittenKernel → Bool
is_too_large w = nat_lt most_nodes (length w.nodes) || nat_lt most_order_edges (length w.order)

-- K5 BadName: the node's name breaks the rule: a letter or `_`, then letters, digits or `_`, 1 to 32 characters
abbrev pub has_bad_name : WrittenNode → Bool
has_bad_name n = not (is_name longest_node_name n.name)

-- K6 RepeatedName: an earlier node has the name
abbrev pub repeats_name : WrittenKernel → ℕ → WrittenNode → Bool
repeats_name w v n = is_before (number_of w.nodes n.name) v

-- K7 UnknownOp: the format has no operation of that name
abbrev pub has_unknown_op : WrittenKernel → WrittenNode → Bool
has_unknown_op w n = is_none (op_of w n)

-- K8 WrongOperandCount: the number of the node's arguments isn't its operation's arity
abbrev pub has_wrong_count : WrittenKernel → WrittenNode → Bool
has_wrong_count w n = option_map_or (λ op. not (arity op == length n.args)) (op_of w n) false

-- K9 UnknownNode: an argument or an order edge names a node that doesn't exist
abbrev pub names_no_node : WrittenKernel → WrittenArg → Bool
names_no_node w (Number c) = false
names_no_node w (Source from distance init other) = is_none (number_of w.nodes from)

abbrev pub joins_no_nodes : WrittenKernel → WrittenEdge → Bool
joins_no_nodes w e = is_none (number_of w.nodes e.from) || is_none (number_of w.nodes e.to)

-- K10 NoValue: the operation of an argument's source has no value
abbrev pub has_no_value : WrittenKernel → WrittenArg → Bool
has_no_value w (Number c) = false
has_no_value w (Source from distance init other) = option_map_or (λ op. not (has_value op)) (source_op w from) false

-- K11 BackEdgeWithoutDistance: the source of an edge of distance 0 isn't a node before its target
abbrev pub arg_goes_back : WrittenKernel → ℕ → WrittenArg → Bool
arg_goes_back w v (Number c) = false
arg_goes_back w v (Source from distance init other) = (distance == 0) && not (is_before (number_of w.nodes from) v)

abbrev pub edge_goes_back : WrittenKernel → WrittenEdge → Bool
edge_goes_back w e = (e.distance == 0) && option_map_or (λ v. not (is_before (number_of w.nodes e.from) v)) (number_of w.nodes e.to) false

-- K12 BadDistance: a data distance above 4, an order distance above 255
abbrev pub is_too_far : WrittenArg → Bool
is_too_far (Number c) = false
is_too_far (Source from distance init other) = nat_lt most_distance distance

abbrev pub edge_is_too_far : WrittenEdge → Bool
edge_is_too_far e = nat_lt most_order_distance e.distance

-- K13 InitCount: the number of initial words isn't the distance
abbrev pub has_wrong_init : WrittenArg → Bool
has_wrong_init (Number c) = false
has_wrong_init (Source from distance init other) = not (length init == distance)

-- K14 TwoConstants: more than one argument is a number
abbrev pub is_number : WrittenArg → Bool
is_number (Number c) = true
is_number (Source from distance init other) = false

abbrev pub has_two_constants : WrittenNode → Bool
has_two_constants n = nat_lt 1 (count_by is_number n.args)

-- K15 BadPort: a port is missing where the operation has one, given where it has none, or above 15
abbrev pub is_bad_port : Op → Option ℕ → Bool
is_bad_port op None = has_port op
is_bad_port op (Some port) = not (has_port op) || nat_lt last_port port

abbrev pub has_bad_port : WrittenKernel → WrittenNode → Bool
has_bad_port w n = option_map_or (λ op. is_bad_port op n.port) (op_of w n) false

-- K16 RepeatedOutputPort: an output has the port of an earlier output
abbrev pub output_port : WrittenKernel → WrittenNode → Option ℕ
output_port w n = option_and_then (λ op. if is_output op then n.port else None) (op_of w n)

abbrev pub outputs_to : WrittenKernel → ℕ → WrittenNode → Bool
outputs_to w port n = option_map_or (λ other. other == port) (output_port w n) false

abbrev pub repeats_port : WrittenKernel → ℕ → WrittenNode → Bool
repeats_port w v n = option_map_or (λ port. list_any (outputs_to w port) (take v w.nodes)) (output_port w n) false

-- ---- the places of each fault

abbrev pub applies_to_arg : Rule → WrittenKernel → ℕ → WrittenArg → Bool
applies_to_arg UnknownKey w v a = arg_has_other_keys a
applies_to_arg UnknownNode w v a = names_no_node w a
applies_to_arg NoValue w v a = has_no_value w a
applies_to_arg BackEdgeWithoutDistance w v a = arg_goes_back w v a
applies_to_arg BadDistance w v a = is_too_far a
applies_to_arg InitCount w v a = has_wrong_init a
applies_to_arg _ w v a = false

abbrev pub applies_to_node : Rule → WrittenKernel → ℕ → WrittenNode → Bool
applies_to_node UnknownKey w v n = n.other_keys || list_any (applies_to_arg UnknownKey w v) n.args
applies_to_node TooLarge w v n = false
applies_to_node BadName w v n = has_bad_name n
applies_to_node RepeatedName w v n = repeats_name w v n
applies_to_node UnknownOp w v n = has_unknown_op w n
applies_to_node WrongOperandCount w v n = has_wrong_count w n
applies_to_node TwoConstants w v n = has_two_constants n
applies_to_node BadPort w v n = has_bad_port w n
applies_to_node RepeatedOutputPort w v n = repeats_port w v n
applies_to_node rule w v n = list_any (applies_to_arg rule w v) n.args

abbrev pub applies_to_edge : Rule → WrittenKernel → WrittenEdge → Bool
applies_to_edge UnknownKey w e = e.other_keys
applies_to_edge UnknownNode w e = joins_no_nodes w e
applies_to_edge BackEdgeWithoutDistance w e = edge_goes_back w e
applies_to_edge BadDistance w e = edge_is_too_far e
applies_to_edge _ w e = false

abbrev pub applies_to_file : Rule → WrittenKernel → Bool
applies_to_file UnknownKey w = w.other_keys
applies_to_file TooLarge w = is_too_large w
applies_to_file _ w = false

-- the first place where the fault applies: the file, then the nodes in order, then the order edges
unfoldable pub first_place : Rule → WrittenKernel → Option KernelPlace
first_place rule w = option_or
    (if applies_to_file rule w then Some place.File else None)
    (option_or (option_map place.Node (first_from (applies_to_node rule w) 0 w.nodes))
    (option_map place.Order (first_from (λ e edge. applies_to_edge rule w edge) 0 w.order)))

-- ---- the lowest of the faults

-- all faults, in the order of their numbers
abbrev pub all_rules : List Rule
all_rules = UnknownKey ∷ TooLarge ∷ BadName ∷ RepeatedName ∷ UnknownOp ∷ WrongOperandCount ∷ UnknownNode ∷ NoValue ∷ BackEdgeWithoutDistance ∷ BadDistance ∷ InitCount ∷ TwoConstants ∷ BadPort ∷ RepeatedOutputPort ∷ []

-- the fault with that number, at that place
abbrev pub fault_at : Rule → KernelPlace → KernelFault
fault_at UnknownKey p = fault.UnknownKey p
fault_at TooLarge p = fault.TooLarge
fault_at BadName p = fault.BadName p
fault_at RepeatedName p = fault.RepeatedName p
fault_at UnknownOp p = fault.UnknownOp p
fault_at WrongOperandCount p = fault.WrongOperandCount p
fault_at UnknownNode p = fault.UnknownNode p
fault_at NoValue p = fault.NoValue p
fault_at BackEdgeWithoutDistance p = fault.BackEdgeWithoutDistance p
fault_at BadDistance p = fault.BadDistance p
fault_at InitCount p = fault.InitCount p
fault_at TwoConstants p = fault.TwoConstants p
fault_at BadPort p = fault.BadPort p
fault_at RepeatedOutputPort p = fault.RepeatedOutputPort p

-- the first of the faults that applies anywhere, at its first place
abbrev pub first_fault : List Rule → WrittenKernel → Option KernelFault
first_fault [] w = None
first_fault (rule ∷ rules) w = option_or (option_map (fault_at rule) (first_place rule w)) (first_fault rules w)
