use Rattle.std.proofs.Common.{ap, ◌∙◌}
use Rattle.cg_model.specs.Mapping.{Mapping}
use Rattle.cg_model.specs.Configured.{configuration_of, stages_of}
use Rattle.cg_emit.proofs.emission.stages.Goals as goal

pub returns : goal.returns
unfolding configuration_of
returns c =
    c.stages_of.ensures ∙ ap (λ z. stages_of z c.places.result.now) (c.ii.ensures ∙ ap (λ (m : Mapping). m.ii) c.mapping-mapping.ensures.mapping)
    ∙ ap (stages_of c.args.legal.now.mapping.ii) (c.places.ensures ∙ ap (λ (m : Mapping). m.places) c.mapping-mapping.ensures.mapping)
