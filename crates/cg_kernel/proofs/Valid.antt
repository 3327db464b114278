-- A kernel that is written without a fault is valid.
use Rattle.std.proofs.Common.{◌≡◌, ℕ, ◌<◌, ◌≤◌, ◌==◌, ◌&&◌, not, map, take, List, [], length, Option, Some, None, Bool, true, false, cond, refl, ap, ◌∙◌, sym, arith, bytes_eq, get_or, subst}
use Rattle.std.specs.Prelude.{slice_get, unwrap_or, count_by}
use Rattle.std.specs.Option.{option_and_then, option_map_or}
use Rattle.std.specs.List.{list_any}
use Rattle.std.proofs.lemmas.Option.{slice_get-get_or}
use Rattle.std.proofs.lemmas.List.{get_or-map, length-map}
use Rattle.std.proofs.lemmas.Slice.Eq.{bytes_eq-Decides}
use Rattle.std.proofs.lemmas.Bool.{or_parts, not-false, ltb-false, eqb-true, eq-eqb}
use Rattle.cg_word.specs.declared.op.Op.{Op}
use Rattle.cg_word.specs.declared.op.Op.TheVariants.{Const, Output, OutputIf}
use Rattle.cg_word.specs.Word.{arity, has_value, has_port, is_output}
use Rattle.cg_model.specs.Names.{IsName}
use Rattle.cg_model.specs.First.{is_before}
use Rattle.cg_model.specs.Kernel.{Kernel, size, node, no_node, HasOperand, HasOrder, IsKernel, IsNamed, IsWired, IsOrder}
use Rattle.cg_model.specs.declared.kernel.Operand.TheVariants.{Const as Constant, Edge}
use Rattle.cg_model.proofs.Identifiers.{is_name-IsName}
use Rattle.cg_model.proofs.Options.{some_of}
use Rattle.cg_model.proofs.Elements.{any_false, map_get, take_get}
use Rattle.cg_model.proofs.Positions.{position_from-within, position_from-reached, before_at, not_before}
use Rattle.cg_model.proofs.Counts.{count_by-two}
use Rattle.cg_kernel.specs.Written.{WrittenArg, WrittenNode, WrittenEdge, WrittenKernel}
use Rattle.cg_kernel.specs.declared.written.WrittenArg.TheVariants.{Number, Source}
use Rattle.cg_kernel.specs.Rules.{number_of, op_of, source_op, applies_to_arg, is_number, is_bad_port, output_port, outputs_to}
use Rattle.cg_kernel.specs.declared.rule.Rule.TheVariants.{UnknownNode, NoValue, BackEdgeWithoutDistance, BadDistance, InitCount}
use Rattle.cg_kernel.specs.Answer.{node_number, operand_of, node_of, edge_of, kernel_of}
use Rattle.cg_kernel.specs.Words.{HasAllWords}
use Rattle.cg_kernel.proofs.Clean.{IsClean}

-- the kernel, laid open
abbrev built : WrittenKernel → Kernel
built w = record { nodes = map (node_of w) w.nodes; order = map (edge_of w) w.order }

-- ---- names

-- ---- nodes and their operands

-- node v of the kernel is that node as it is written
record IsAt (w : WrittenKernel) (v : ℕ) (n : WrittenNode) : Type 0 where
  at : slice_get w.nodes v ≡ Some n
  is : node (built w) v ≡ node_of w n

within : (w : WrittenKernel) (v : ℕ) → v < size (built w) → v < length w.nodes
within w v h = omega (arith, length-map w.nodes (node_of w))

abbrev blank : WrittenNode
blank = record { name = []; op = []; args = []; port = None; other_keys = false }

node_at : (w : WrittenKernel) (v : ℕ) → v < size (built w) → (n : WrittenNode) × IsAt w v n
node_at w v h = (
  get_or w.nodes v blank,
  record {
    at = slice_get-get_or w.nodes v blank (within w v h);
    is = get_or-map (node_of w) w.nodes v blank no_node (within w v h);
  },
)

-- an operand that is an edge is a source as it is written
record IsSource (w : WrittenKernel) (v p u d : ℕ) (init : List ℕ) : Type 0 where
  n : WrittenNode
  from : List ℕ
  other : Bool
  at : slice_get w.nodes v ≡ Some n
  arg : slice_get n.args p ≡ Some (Source from d init other)
  number : node_number w from ≡ u

source_arg : (w : WrittenKernel) (v p u d : ℕ) (init : List ℕ) (n : WrittenNode) (a : WrittenArg) → slice_get w.nodes v ≡ Some n → slice_get n.args p ≡ Some a → operand_of w a ≡ Edge u d init → IsSource w v p u d init
source_arg w v p u d init n (Number c) at arg e = let bad : Constant c ≡ Edge u d init = e in absurd (cc)
source_arg w v p u d init n (Source from d' init' other) at arg e = record {
  n = n;
  from = from;
  other = other;
  at = at;
  arg = let made : Edge (node_number w from) d' init' ≡ Edge u d init = e in cc;
  number = let made : Edge (node_number w from) d' init' ≡ Edge u d init = e in cc;
}

source : (w : WrittenKernel) (v p u d : ℕ) (init : List ℕ) → v < size (built w) → HasOperand (built w) v p (Edge u d init) → IsSource w v p u d init
source w v p u d init h has =
    let n = node_at w v h in
    let arg = map_get (operand_of w) n.0.args p (Edge u d init) (ap (λ m. slice_get m.operands p) (sym n.1.is) ∙ has) in
    source_arg w v p u d init n.0 arg.0 n.1.at arg.1.0 arg.1.1

-- an operand that is a constant is a number as it is written
constant_arg : (w : WrittenKernel) (c : ℕ) (a : WrittenArg) → operand_of w a ≡ Constant c → a ≡ Number c
constant_arg w c (Source from d init other) e = let bad : Edge (node_number w from) d init ≡ Constant c = e in absurd (cc)
constant_arg w c (Number c') e = let made : Constant c' ≡ Constant c = e in cc

constant : (w : WrittenKernel) (v p c : ℕ) (n : WrittenNode) → IsAt w v n → HasOperand (built w) v p (Constant c) → slice_get n.args p ≡ Some (Number c)
constant w v p c n at has =
    let arg = map_get (operand_of w) n.args p (Constant c) (ap (λ m. slice_get m.operands p) (sym at.is) ∙ has) in
    arg.1.0 ∙ ap Some (constant_arg w c arg.0 arg.1.1)

-- ---- what each absent fault gives

-- the source of an edge is that node
known_source : (w : WrittenKernel) → IsClean w → (v p u d : ℕ) (init : List ℕ) → (s : IsSource w v p u d init) → number_of w.nodes s.from ≡ Some u
known_source w clean v p u d init s =
    some_of (number_of w.nodes s.from) 0 u (any_false (applies_to_arg UnknownNode w v) s.n.args p _ s.arg (clean.unknown_node.nodes v s.n s.at)) s.number

numbered : (w : WrittenKernel) (name : List ℕ) (u : ℕ) → number_of w.nodes name ≡ Some u → u < length w.nodes
numbered w name u e = let h = position_from-within (λ n. bytes_eq n.name name) 0 w.nodes u e in omega (arith, h)

numbered_size : (w : WrittenKernel) (name : List ℕ) (u : ℕ) → number_of w.nodes name ≡ Some u → u < size (built w)
numbered_size w name u e = omega (arith, numbered w name u e, length-map w.nodes (node_of w))

-- the operation is known
known_op : (w : WrittenKernel) → IsClean w → (v : ℕ) (n : WrittenNode) → slice_get w.nodes v ≡ Some n → op_of w n ≡ Some (node_of w n).op
known_op w clean v n at = some_of (op_of w n) Const (node_of w n).op (clean.unknown_op.nodes v n at) refl

-- a node's name is first found at the node
own_number : (w : WrittenKernel) → IsClean w → (v : ℕ) (n : WrittenNode) → slice_get w.nodes v ≡ Some n → number_of w.nodes n.name ≡ Some v
own_number w clean v n at =
    let found = position_from-reached (λ m. bytes_eq m.name n.name) 0 w.nodes v v n at ((bytes_eq-Decides n.name n.name).1 refl) (omega arith) in
    let least = not_before (number_of w.nodes n.name) found.0 v found.1.0 (clean.repeated_name.nodes v n at) in
    let same : found.0 ≡ v = omega (arith, found.1.1, least) in
    found.1.0 ∙ ap Some same

-- ---- the parts of a valid kernel

named : (w : WrittenKernel) → IsClean w → IsNamed (built w)
named w clean = record {
  names = λ v h. let n = node_at w v h in let P : List ℕ → Type 0 = IsName 32 in
      subst P (ap (λ m. m.name) (sym n.1.is)) (is_name-IsName 32 n.0.name (not-false _ (clean.bad_name.nodes v n.0 n.1.at)));
  apart = λ v u hv hu same.
      let n = node_at w v hv in
      let m = node_at w u hu in
      let names : n.0.name ≡ m.0.name = ap (λ x. x.name) (sym n.1.is) ∙ same ∙ ap (λ x. x.name) m.1.is in
      let both : Some v ≡ Some u = sym (own_number w clean v n.0 n.1.at) ∙ ap (number_of w.nodes) names ∙ own_number w clean u m.0 m.1.at in
      cc;
}

wired : (w : WrittenKernel) → IsClean w → HasAllWords w → IsWired (built w)
wired w clean all = record {
  sources = λ v p u d init h has. let s = source w v p u d init h has in numbered_size w s.from u (known_source w clean v p u d init s);
  forward = λ v p u init h has.
      let s = source w v p u 0 init h has in
      let goes = any_false (applies_to_arg BackEdgeWithoutDistance w v) s.n.args p _ s.arg (clean.back_edge.nodes v s.n s.at) in
      before_at (number_of w.nodes s.from) u v (known_source w clean v p u 0 init s) (not-false _ goes);
  constants = λ v p c h has.
      let n = node_at w v h in
      (all.at v p n.0 (Number c) n.1.at (constant w v p c n.0 n.1 has)).number c refl;
}

-- an order edge as it is written
edge_at : (w : WrittenKernel) → IsClean w → (e u v d : ℕ) → HasOrder (built w) e u v d
    → (x : WrittenEdge) × ((slice_get w.order e ≡ Some x) × (number_of w.nodes x.from ≡ Some u) × (number_of w.nodes x.to ≡ Some v) × (x.distance ≡ d))
edge_at w clean e u v d has =
    let found = map_get (edge_of w) w.order e (record { from = u; to = v; distance = d }) has in
    let known = or_parts _ _ (clean.unknown_node.edges e found.0 found.1.0) in
    (found.0, (found.1.0, some_of _ 0 u known.0 (ap (λ o. o.from) found.1.1), some_of _ 0 v known.1 (ap (λ o. o.to) found.1.1), ap (λ o. o.distance) found.1.1))

back_at : (o : Option ℕ) (from : Option ℕ) (b : Bool) (v : ℕ) → b ≡ true → o ≡ Some v → (b && option_map_or (λ v. not (is_before from v)) o false) ≡ false → is_before from v ≡ true
back_at o from false v here to e = let bad : false ≡ true = here in absurd (cc)
back_at None from true v here to e = let bad : None ≡ Some v = to in absurd (cc)
back_at (Some u) from true v here to e = let same : u ≡ v = cc in ap (is_before from) (sym same) ∙ not-false _ e

ordered : (w : WrittenKernel) → IsClean w → IsOrder (built w)
ordered w clean = record {
  few = let few : length w.order ≤ 4096 = ltb-false 4096 (length w.order) (or_parts _ _ clean.too_large.file).1 in omega (arith, few, length-map w.order (edge_of w));
  known = λ e u v d has. let x = edge_at w clean e u v d has in (numbered_size w x.0.from u x.1.1, numbered_size w x.0.to v x.1.2);
  forward = λ e u v has.
      let x = edge_at w clean e u v 0 has in
      before_at (number_of w.nodes x.0.from) u v x.1.1 (back_at (number_of w.nodes x.0.to) (number_of w.nodes x.0.from) (x.0.distance == 0) v (ap (λ d. d == 0) x.1.3 ∙ eq-eqb 0 0 refl) x.1.2 (clean.back_edge.edges e x.0 x.1.0));
  near = λ e u v d has. let x = edge_at w clean e u v d has in let near = ltb-false 255 x.0.distance (clean.bad_distance.edges e x.0 x.1.0) in omega (arith, near, x.1.3);
}

arity_at : (o : Option Op) (op : Op) (n : ℕ) → o ≡ Some op → option_map_or (λ x. not (arity x == n)) o false ≡ false → n ≡ arity op
arity_at None op n e h = let bad : None ≡ Some op = e in absurd (cc)
arity_at (Some x) op n e h = let same : x ≡ op = cc in sym (eqb-true (arity x) n (not-false _ h)) ∙ ap arity same

value_at : (o : Option Op) (op : Op) → o ≡ Some op → option_map_or (λ x. not (has_value x)) o false ≡ false → has_value op ≡ true
value_at None op e h = let bad : None ≡ Some op = e in absurd (cc)
value_at (Some x) op e h = let same : x ≡ op = cc in ap has_value (sym same) ∙ not-false _ h

port_at : (o : Option Op) (op : Op) (port : Option ℕ) → o ≡ Some op → option_map_or (λ x. is_bad_port x port) o false ≡ false → is_bad_port op port ≡ false
port_at None op port e h = let bad : None ≡ Some op = e in absurd (cc)
port_at (Some x) op port e h = let same : x ≡ op = cc in ap (λ y. is_bad_port y port) (sym same) ∙ h

port_few : (op : Op) (port : Option ℕ) → is_bad_port op port ≡ false → unwrap_or port 0 ≤ 15
port_few op None h = omega arith
port_few op (Some p) h = ltb-false 15 p (or_parts _ _ h).1

port_none : (op : Op) (port : Option ℕ) → is_bad_port op port ≡ false → has_port op ≡ false → unwrap_or port 0 ≡ 0
port_none op None h none = refl
port_none op (Some p) h none = let bad : true ≡ false = sym (not-false _ (or_parts _ _ h).0) ∙ none in absurd (cc)

port_some : (op : Op) (port : Option ℕ) → is_bad_port op port ≡ false → has_port op ≡ true → port ≡ Some (unwrap_or port 0)
port_some op None h some = let bad : true ≡ false = sym some ∙ h in absurd (cc)
port_some op (Some p) h some = refl

outputs_have_ports : (op : Op) → is_output op ≡ true → has_port op ≡ true
outputs_have_ports Output e = refl
outputs_have_ports OutputIf e = refl
outputs_have_ports _ e = let bad : false ≡ true = e in absurd (cc)

same_place : (p q : ℕ) → (p < q → ⊥) → (q < p → ⊥) → p ≡ q
same_place p q h k = omega arith

-- an output's port as it is written
output_port_at : (w : WrittenKernel) → IsClean w → (v : ℕ) (n : WrittenNode) → slice_get w.nodes v ≡ Some n → is_output (node_of w n).op ≡ true → output_port w n ≡ Some (node_of w n).port
output_port_at w clean v n at out =
    let op = (node_of w n).op in
    ap (option_and_then (λ op. cond (is_output op) n.port None)) (known_op w clean v n at) ∙ ap (λ b. cond b n.port None) out
    ∙ port_some op n.port (port_at (op_of w n) op n.port (known_op w clean v n at) (clean.bad_port.nodes v n at)) (outputs_have_ports op out)

at_some : (o : Option ℕ) (q : ℕ) (t : ℕ → Bool) → o ≡ Some q → option_map_or t o false ≡ false → t q ≡ false
at_some None q t e h = let bad : None ≡ Some q = e in absurd (cc)
at_some (Some q') q t e h = let same : q' ≡ q = cc in ap t (sym same) ∙ h

-- no later output has the port of an earlier one
apart_ports : (w : WrittenKernel) → IsClean w → (v u q : ℕ) (n m : WrittenNode) → slice_get w.nodes v ≡ Some n → slice_get w.nodes u ≡ Some m → output_port w n ≡ Some q → output_port w m ≡ Some q → v < u → ⊥
apart_ports w clean v u q n m at at' port port' lt =
    let none = at_some (output_port w m) q (λ q. list_any (outputs_to w q) (take u w.nodes)) port' (clean.repeated_port.nodes u m at') in
    let not_here = any_false (outputs_to w q) (take u w.nodes) v n (take_get w.nodes u v n at lt) none in
    let bad : true ≡ false = sym (eq-eqb q q refl) ∙ at_some (output_port w n) q (λ other. other == q) port not_here in cc

valid_built : (w : WrittenKernel) → IsClean w → HasAllWords w → IsKernel (built w)
valid_built w clean all = record {
  few = let few = ltb-false 1024 (length w.nodes) (or_parts _ _ clean.too_large.file).0 in omega (arith, few, length-map w.nodes (node_of w));
  named = named w clean;
  wired = wired w clean all;
  order = ordered w clean;
  arities = λ v h. let n = node_at w v h in
      ap (λ m. length m.operands) n.1.is ∙ length-map n.0.args (operand_of w)
      ∙ arity_at (op_of w n.0) (node_of w n.0).op (length n.0.args) (known_op w clean v n.0 n.1.at) (clean.wrong_count.nodes v n.0 n.1.at) ∙ ap (λ m. arity m.op) (sym n.1.is);
  valued = λ v p u d init h has.
      let s = source w v p u d init h has in
      let m = node_at w u (numbered_size w s.from u (known_source w clean v p u d init s)) in
      let of : source_op w s.from ≡ Some (node_of w m.0).op =
      ap (option_and_then (λ u. option_and_then (op_of w) (slice_get w.nodes u))) (known_source w clean v p u d init s) ∙ ap (option_and_then (op_of w)) m.1.at ∙ known_op w clean u m.0 m.1.at in
      ap (λ x. has_value x.op) m.1.is ∙ value_at (source_op w s.from) (node_of w m.0).op of (any_false (applies_to_arg NoValue w v) s.n.args p _ s.arg (clean.no_value.nodes v s.n s.at));
  near = λ v p u d init h has. let s = source w v p u d init h has in ltb-false 4 d (any_false (applies_to_arg BadDistance w v) s.n.args p _ s.arg (clean.bad_distance.nodes v s.n s.at));
  inits = λ v p u d init h has. let s = source w v p u d init h has in
      eqb-true (length init) d (not-false _ (any_false (applies_to_arg InitCount w v) s.n.args p _ s.arg (clean.init_count.nodes v s.n s.at)));
  init_words = λ v p u d k init h has. let s = source w v p u d init h has in (all.at v p s.n _ s.at s.arg).init s.from d k init s.other refl;
  one_constant = λ v p q a b h has has'.
      let n = node_at w v h in
      let one = ltb-false 1 (count_by is_number n.0.args) (clean.two_constants.nodes v n.0 n.1.at) in
      let first = constant w v p a n.0 n.1 has in
      let second = constant w v q b n.0 n.1 has' in
      same_place p q
      (λ lt. let two = count_by-two is_number n.0.args p q (Number a) (Number b) first refl second refl lt in absurd (omega (arith, one, two)))
      (λ lt. let two = count_by-two is_number n.0.args q p (Number b) (Number a) second refl first refl lt in absurd (omega (arith, one, two)));
  ports = λ v h. let n = node_at w v h in
      let few = port_few (node_of w n.0).op n.0.port (port_at (op_of w n.0) (node_of w n.0).op n.0.port (known_op w clean v n.0 n.1.at) (clean.bad_port.nodes v n.0 n.1.at)) in
      let is = ap (λ m. m.port) n.1.is in omega (arith, few, is);
  no_ports = λ v h none. let n = node_at w v h in
      ap (λ m. m.port) n.1.is ∙ port_none (node_of w n.0).op n.0.port (port_at (op_of w n.0) (node_of w n.0).op n.0.port (known_op w clean v n.0 n.1.at) (clean.bad_port.nodes v n.0 n.1.at)) (ap (λ m. has_port m.op) (sym n.1.is) ∙ none);
  one_output = λ v u hv hu out out' same.
      let n = node_at w v hv in
      let m = node_at w u hu in
      let port = output_port_at w clean v n.0 n.1.at (ap (λ x. is_output x.op) (sym n.1.is) ∙ out) in
      let ports : (node_of w m.0).port ≡ (node_of w n.0).port = ap (λ x. x.port) (sym m.1.is) ∙ sym same ∙ ap (λ x. x.port) n.1.is in
      let port' = output_port_at w clean u m.0 m.1.at (ap (λ x. is_output x.op) (sym m.1.is) ∙ out') ∙ ap Some ports in
      same_place v u
      (apart_ports w clean v u (node_of w n.0).port n.0 m.0 n.1.at m.1.at port port')
      (apart_ports w clean u v (node_of w n.0).port m.0 n.0 m.1.at n.1.at port' port);
}

-- the kernel that is written, where no fault applies and its numbers are words
pub valid : (w : WrittenKernel) → IsClean w → HasAllWords w → IsKernel (kernel_of w)
unfolding kernel_of
valid w clean all = valid_built w clean all
