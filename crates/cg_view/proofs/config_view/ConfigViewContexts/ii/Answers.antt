use Rattle.std.proofs.Common.{ap, ◌∙◌}
use Rattle.cg_model.specs.Config.{Config}
use Rattle.cg_bits.specs.Reading.{config_in}
use Rattle.cg_view.proofs.config_view.ConfigViewContexts.ii.Goals as goal

pub returns : goal.returns
unfolding config_in
returns c = c.ii_in.ensures.value ∙ ap (λ (z : Config). z.ii) c.self.view_is
