use Rattle.std.proofs.Common.{◌≡◌, ◌<◌, List, length, Some, ap, ◌∙◌, subst, refl, arith}
use Rattle.std.specs.Prelude.{IfSome, slice_get, slice_index_or}
use Rattle.std.proofs.lemmas.Option.{slice_get_read}
use Rattle.cg_model.specs.declared.kernel.Node.{Node}
use Rattle.cg_model.specs.declared.kernel.Operand.{Operand}
use Rattle.cg_model.specs.declared.kernel.Operand.TheVariants.{Edge}
use Rattle.cg_model.specs.Kernel.{HasOperand, no_node, node, size}
use Rattle.cg_simplify.specs.Operands.{IsThrough}
use Rattle.cg_simplify.proofs.Throughs.{through}
use Rattle.cg_simplify.proofs.settle.Walk.next.Goals as goal

pub returns-in-Some-2 : goal.returns-in-Some-2
returns-in-Some-2 c =
    let D = c.args.self.now.draft in
    let v = c.args.frame.node in
    let p = c.args.frame.place in
    let e : Operand = Edge c.in-Edge.from c.in-Edge.distance c.in-Edge.init in
    let x = c.in-Some-source_of.source.now in
    let o = c.in-Some-2.exchanged in
    let given = c.as_slice-operands.result.now in
    let h = c.in-Some.ensures.lookup in
    let l : v < size D = subst (λ (xs : List Node). v < length xs) c.nodes.ensures.nodes h.3.0 in
    let is : c.in-Some.node.now ≡ node D v = h.3.1 no_node ∙ ap (λ (xs : List Node). slice_index_or xs v no_node) c.nodes.ensures.nodes in
    let ops : given ≡ (node D v).operands = c.as_slice-operands.ensures ∙ ap (λ (n : Node). n.operands) is in
    let read : slice_get given p ≡ Some c.index-operands-frame.result = slice_get_read given (length given) p c.index-operands-frame.result refl (omega arith) c.index-operands-frame.is in
    let has : HasOperand D v p e =
    subst (λ (y : Operand). HasOperand D v p y) c.in-Edge.is (subst (λ (ys : List Operand). slice_get ys p ≡ Some c.index-operands-frame.result) ops read) in
    let found : IsThrough given c.index-operands-frame.result x o =
    subst (λ z. IfSome z (IsThrough given c.index-operands-frame.result x)) c.in-Some-2.is c.in_ok-exchanged.ensures in
    let goes : IsThrough (node D v).operands e x o =
    subst (λ (y : Operand). IsThrough (node D v).operands y x o) c.in-Edge.is (subst (λ (ys : List Operand). IsThrough ys c.index-operands-frame.result x o) ops found) in
    through c.args.self.now.tops.items D c.nodes.ensures.valid v p c.in-Edge.from c.in-Edge.distance c.in-Edge.init l has x o c.in-Some-source_of.ensures goes
