use Rattle.std.proofs.Common.{not, Some, ap, sym, ◌∙◌}
use Rattle.cg_bits.specs.declared.fault.BitsFault.TheVariants.{BadHeader}
use Rattle.cg_bits.specs.Reading.{config_in, stages_in}
use Rattle.cg_bits.proofs.None.{unless_none, both_none}
use Rattle.cg_bits.proofs.First.{first_unless}
use Rattle.cg_bits.proofs.Breaches.{skip}
use Rattle.cg_bits.proofs.Started.{same_digest, header_test}
use Rattle.cg_bits.proofs.header.check_header.Goals as goal

pub returns-then-header_wrong : goal.returns-then-header_wrong
unfolding config_in
returns-then-header_wrong c =
    let same = same_digest c.ne.result _ _ _ _ c.ne.ensures c.if-ne.false c.digest_in-file.ensures c.requires.digest in
    let wrong = header_test c.header_wrong.result _ _ _ _ _ _ c.header_wrong.ensures c.contexts.ensures.contexts c.ii_in-ii.ensures.value c.stages_in-stages.ensures in
    skip _ _ _ (unless_none _ _ same) (first_unless _ _ (ap not (sym wrong ∙ c.if-header_wrong.true))
    ∙ ap (λ z. Some (BadHeader z (stages_in c.args.bytes.now))) (sym c.ii_in-ii.ensures.value) ∙ ap (λ z. Some (BadHeader c.ii_in-ii.result z)) (sym c.stages_in-stages.ensures))

pub returns : goal.returns
unfolding config_in
returns c =
    let same = same_digest c.ne.result _ _ _ _ c.ne.ensures c.if-ne.false c.digest_in-file.ensures c.requires.digest in
    let right = header_test c.header_wrong.result _ _ _ _ _ _ c.header_wrong.ensures c.contexts.ensures.contexts c.ii_in-ii.ensures.value c.stages_in-stages.ensures in
    both_none _ _ (unless_none _ _ same) (unless_none _ _ (ap not (sym right ∙ c.if-header_wrong.false)))
