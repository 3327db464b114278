use Rattle.std.proofs.Common.{◌-◌, false, sym, ap, ◌∙◌}
use Rattle.std.specs.Prelude.{slice_index_or}
use Rattle.cg_word.specs.Sets.{among}
use Rattle.cg_word.specs.Sets.{has_is}
use Rattle.cg_word.proofs.set.OpSet.has.Goals as goal

pub returns : goal.returns
returns c =
    ap (λ k. slice_index_or c.self.inside.marks (k - 1) false) c.code.ensures ∙ sym (has_is c.self.inside.marks c.args.op) ∙ ap (λ ops. among ops c.args.op) c.self.view_is
