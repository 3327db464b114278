use Rattle.std.proofs.Common.{find, sym, ap, ◌∙◌}
use Rattle.cg_word.specs.Word.{all_ops}
use Rattle.cg_bound.specs.Search.{is_unoffered}
use Rattle.cg_bound.proofs.Offers.{first_found}
use Rattle.cg_bound.proofs.unoffered.first_unoffered.Goals as goal

pub returns : goal.returns
returns c =
    let A = c.args.arch.now in
    let K = c.args.kernel.now in
    first_found A K c.find_unoffered.result
    (sym (c.find_unoffered.ensures ∙ ap (λ units. find (is_unoffered units c.nodes.result.now) all_ops) c.units.ensures.units ∙ ap (λ nodes. find (is_unoffered A.units nodes) all_ops) c.nodes.ensures.nodes))
