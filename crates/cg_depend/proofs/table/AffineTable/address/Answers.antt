use Rattle.std.proofs.Common.{◌<◌, List, Option, length, refl, sym, ap, ◌∙◌, subst, arith}
use Rattle.std.proofs.lemmas.List.{length-take-le}
use Rattle.cg_model.specs.Kernel.{Kernel, size}
use Rattle.cg_depend.specs.Affine.{AffinePair, address_pair}
use Rattle.cg_depend.proofs.PairTable.{pairs_long, address_found}
use Rattle.cg_depend.proofs.table.AffineTable.address.Goals as goal

pub slice_bounds-earlier-end : goal.slice_bounds-earlier-end
slice_bounds-earlier-end c =
    let K = c.self.inside.kernel.now in
    let long = ap (λ (xs : List (Option AffinePair)). length xs) (c.deref.ensures.value ∙ c.self.invariant.1) ∙ pairs_long K (size K) in
    let within : c.args.node < size K = subst (λ (z : Kernel). c.args.node < size z) (sym c.self.view_is) c.requires in
    sym (length-take-le c.args.node c.deref.result.now (omega arith))

pub returns : goal.returns
returns c =
    let K = c.self.inside.kernel.now in
    let within : c.args.node < size K = subst (λ (z : Kernel). c.args.node < size z) (sym c.self.view_is) c.requires in
    address_found K c.args.node c.index-nodes-node.result c.nodes.result.now c.deref.result.now _ c.as_slice.result.now c.address_arg.result c.arg_pair.result
    c.nodes.ensures.nodes within c.index-nodes-node.is (c.deref.ensures.value ∙ c.self.invariant.1) refl c.as_slice.ensures c.address_arg.ensures.place c.arg_pair.ensures
    ∙ ap (λ (z : Kernel). address_pair z c.args.node) c.self.view_is
