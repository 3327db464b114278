use Rattle.std.proofs.Common.{◌≡◌, ◌<◌, List, length, subst, ◌∙◌}
use Rattle.cg_loop_reader.specs.declared.numbering.NumberedUse.{NumberedUse}
use Rattle.cg_loop_reader.proofs.Assigned.{last_more}
use Rattle.cg_loop_reader.proofs.Steps.{no_use}
use Rattle.cg_loop_reader.proofs.assignments.last_assigned.Goals as goal

pub loop-index-preserved : goal.loop-index-preserved
loop-index-preserved c =
    let xs = c.deref-used-items.result.now in
    let us = c.args.numbered.now.uses.items in
    let same : xs ≡ us = c.deref-used-items.ensures.value in
    let i = c.loop-index.index in
    let within : i < length us = subst (λ (ys : List NumberedUse). i < length ys) same c.loop-index-test.true in
    record {
      last = last_more us xs i no_use c.loop-index.last.items c.note_last.new.last.items same within c.loop-index.invariant.last c.note_last.ensures.last;
      length = c.note_last.ensures.length ∙ c.loop-index.invariant.length;
    }
