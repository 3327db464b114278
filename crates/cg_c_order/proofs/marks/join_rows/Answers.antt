use Rattle.std.proofs.Common.{◌≢◌, ◌<◌, [], ◌∙◌, arith, below_more, get_or-set_other, get_or-set_same, length, subst, sym}
use Rattle.std.specs.Prelude.{Bool, slice_index_or}
use Rattle.std.proofs.lemmas.List.{get_or_default}
use Rattle.cg_c_order.specs.Marks.{IsJoined, has, row, takes}
use Rattle.cg_c_order.proofs.marks.join_rows.Goals as goal

pub loop-source-preserved : goal.loop-source-preserved
loop-source-preserved c =
    let rows = c.loop-source.rows in
    let s = c.loop-source.source in
    let new = c.lead.new.self in
    let to = c.args.to in
    let targets = c.args.targets.now in
    let given = c.args.rows.now in
    let lt : s < length rows = omega arith in
    let was = get_or_default rows s c.index-rows-source.result [] lt ∙ c.loop-source.invariant.rest s (omega arith) in
    let here : IsJoined (takes (has c.args.sources.now s) to (row given s)) targets (row given s) new =
    subst (λ z. IsJoined (takes (has c.args.sources.now s) to z) targets z new) was (subst (λ (b : Bool). IsJoined (takes b to (slice_index_or rows s c.index-rows-source.result)) targets (slice_index_or rows s c.index-rows-source.result) new) c.has.ensures c.lead.ensures) in
    record {
      done = below_more _ _
          (λ x l. let ne : x ≢ s = omega arith in subst (λ z. IsJoined (takes (has c.args.sources.now x) to (row given x)) targets (row given x) z) (sym (get_or-set_other rows s x new [] ne)) (c.loop-source.invariant.done x l))
          (subst (λ z. IsJoined (takes (has c.args.sources.now s) to (row given s)) targets (row given s) z) (sym (get_or-set_same rows s new [] lt)) here);
      rest = λ x l. let ne : x ≢ s = omega arith in get_or-set_other rows s x new [] ne ∙ c.loop-source.invariant.rest x (omega arith);
    }
