use Rattle.std.proofs.Common.{◌<◌, get_or, sym, subst}
use Rattle.std.proofs.lemmas.List.Elements.{Contains-get_or}
use Rattle.cg_simplify_order.specs.Found.{edge}
use Rattle.cg_simplify_order.proofs.chains.note_needs.Goals as goal

pub note-requires-clause-from : goal.note-requires-clause-from
note-requires-clause-from c =
    let k = c.loop-number.number in
    subst (λ z. (get_or c.args.needs.now k (edge 0 0 0)).from < z) (sym c.loop-number.invariant) (c.requires (get_or c.args.needs.now k (edge 0 0 0)) (Contains-get_or c.args.needs.now k (edge 0 0 0) c.loop-number-test.true)).0

pub note-requires-clause-to : goal.note-requires-clause-to
note-requires-clause-to c =
    let k = c.loop-number.number in
    subst (λ z. (get_or c.args.needs.now k (edge 0 0 0)).to < z) (sym c.loop-number.invariant) (c.requires (get_or c.args.needs.now k (edge 0 0 0)) (Contains-get_or c.args.needs.now k (edge 0 0 0) c.loop-number-test.true)).1
