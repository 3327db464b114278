use Rattle.std.proofs.Common.{◌≡◌, ℕ, ◌∷◌, ◌++◌, [], List, sym, ap, ◌∙◌, arith, length, subst, get_or, map}
use Rattle.std.specs.Prelude.{slice_index}
use Rattle.std.specs.List.{range_with_len}
use Rattle.std.proofs.lemmas.List.{get_or_read_under}
use Rattle.std.proofs.lemmas.List.FromFn.{map-range_with_len_more}
use Rattle.cg_model.specs.declared.kernel.Node.{Node}
use Rattle.cg_model.specs.declared.mapping.Place.{Place}
use Rattle.cg_model.specs.Kernel.{node, no_node}
use Rattle.cg_place.specs.Placed.{offering, first_place}
use Rattle.cg_place.proofs.places.first_places.Goals as goal

pub loop-node-preserved : goal.loop-node-preserved
loop-node-preserved c =
    let A = c.args.arch.now in
    let K = c.args.kernel.now in
    let early = c.args.early.now in
    let v : ℕ = c.loop-node.node in
    let read : c.index-nodes-node.result ≡ node K v = get_or_read_under K.nodes v _ c.index-nodes-node.result no_node (subst (λ (z : List Node). c.index-nodes-node.result ≡ get_or z v c.index-nodes-node.result) c.nodes-nodes.ensures.nodes c.index-nodes-node.is) c.loop-node-test.true (ap length c.nodes-nodes.ensures.nodes) in
    let unit : c.offering_unit.result ≡ slice_index (offering A (node K v).op) 0 = c.offering_unit.ensures.value ∙ ap (λ (z : Node). slice_index (offering A z.op) 0) (sym c.index-nodes-node.is ∙ read) in
    let place : Place = record { unit = c.offering_unit.result; time = slice_index early v } in
    let is : place ≡ first_place A K early v = ap (λ z. record { unit = z; time = slice_index early v }) unit in
    c.in_ok-push.ensures.items ∙ ap (λ (z : List Place). z ++ place ∷ []) c.loop-node.invariant ∙ ap (λ z. map (first_place A K early) (range_with_len 0 v) ++ z ∷ []) is ∙ sym (map-range_with_len_more (first_place A K early) 0 v v (omega arith))
