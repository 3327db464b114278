use Rattle.std.proofs.Common.{◌-◌, true, ◌||◌, eqb, sym, ap, ◌∙◌}
use Rattle.std.specs.Prelude.{slice_set}
use Rattle.cg_word.specs.Word.{code}
use Rattle.cg_word.specs.Sets.{among}
use Rattle.cg_word.specs.Sets.{has_is}
use Rattle.cg_word.proofs.Marks.{marked_set, ops_with-marked}
use Rattle.cg_word.proofs.set.OpSet.with.Goals as goal

pub returns-clause-value : goal.returns-clause-value
returns-clause-value c =
    ops_with-marked (slice_set c.self.inside.marks (c.code.result - 1) true) (λ o. eqb (code c.args.op) (code o) || among c.args.self o)
    (λ o.
    marked_set c.self.inside.marks c.args.op o (c.code.result - 1) (ap (λ k. k - 1) c.code.ensures) c.self.invariant
    ∙ ap (λ b. eqb (code c.args.op) (code o) || b) (sym (has_is c.self.inside.marks o) ∙ ap (λ ops. among ops o) c.self.view_is))

pub returns-clause-has : goal.returns-clause-has
returns-clause-has c =
    λ o.
    has_is (slice_set c.self.inside.marks (c.code.result - 1) true) o
    ∙ marked_set c.self.inside.marks c.args.op o (c.code.result - 1) (ap (λ k. k - 1) c.code.ensures) c.self.invariant
    ∙ ap (λ b. eqb (code c.args.op) (code o) || b) (sym (has_is c.self.inside.marks o) ∙ ap (λ ops. among ops o) c.self.view_is)
