use Rattle.std.proofs.Common.{◌∙◌}
use Rattle.cg_bits.proofs.texts.digests_text.Goals as goal

pub returns : goal.returns
returns c =
    let e = c.as_str-file.ensures.value ∙ c.in_ok-file.ensures in
    let g = c.as_str-architecture.ensures.value ∙ c.in_ok-architecture.ensures in
    rw (e, g) at c.format.ensures.ok
