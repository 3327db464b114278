use Rattle.std.proofs.Common.{◌≡◌, ◌<◌, ◌∙◌, List, [], ◌∷◌, refl, arith, length, ap, subst, sym}
use Rattle.std.specs.Prelude.{slice_index_or}
use Rattle.cg_model.specs.declared.kernel.Node.{Node}
use Rattle.cg_model.specs.Kernel.{no_node, node, size}
use Rattle.std.proofs.lemmas.Option.{slice_get_read}
use Rattle.cg_simplify.proofs.Guarded.{select_text, three_items}
use Rattle.cg_simplify.proofs.guards.without_eq.Goals as goal

pub returns-in_ok-three-in-Some-selected_by : goal.returns-in_ok-three-in-Some-selected_by
returns-in_ok-three-in-Some-selected_by c = λ K.
    let D = c.args.draft.now in
    let v = c.args.number in
    let ts = c.args.tops.now in
    let h = c.in-Some.ensures.lookup in
    let l : v < size D = subst (λ (xs : List Node). v < length xs) c.nodes.ensures.nodes h.3.0 in
    let is : c.in-Some.node.now ≡ node D v = h.3.1 no_node ∙ ap (λ (xs : List Node). slice_index_or xs v no_node) c.nodes.ensures.nodes in
    let ops : c.as_slice.result.now ≡ (node D v).operands = c.as_slice.ensures ∙ ap (λ (n : Node). n.operands) is in
    let given = c.as_slice.result.now in
    let all : given ≡ c.by-item.result ∷ c.first-item.result ∷ c.second-item.result ∷ [] =
    three_items given c.by-item.result c.first-item.result c.second-item.result (omega (arith, c.in-len3.len_at_least, c.in-len3.len_below))
    (slice_get_read given (length given) 0 c.by-item.result refl (omega (arith, c.in-len3.len_at_least)) c.by-item.is)
    (slice_get_read given (length given) 1 c.first-item.result refl (omega (arith, c.in-len3.len_at_least)) c.first-item.is)
    (slice_get_read given (length given) 2 c.second-item.result refl (omega (arith, c.in-len3.len_at_least)) c.second-item.is) in
    select_text ts D v c.nodes.ensures.valid l (ap (λ (n : Node). n.op) (sym is) ∙ c.in-Select.is) c.by-item.result c.first-item.result c.second-item.result c.in-Some-selected_by.operand.now (sym ops ∙ all)
    c.in-Some-selected_by.ensures K _ refl (ap (λ (n : Node). n.port) is) c.in_ok-three-in-Some-selected_by.ensures
