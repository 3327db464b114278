use Rattle.std.proofs.Common.{replicate, length, subst, ap, ◌∙◌}
use Rattle.cg_model.specs.Array.{Arch}
use Rattle.cg_model.specs.Config.{Config}
use Rattle.cg_model.specs.Kernel.{IsKernel}
use Rattle.cg_model.specs.Mapping.{Mapping}
use Rattle.cg_emit.proofs.Overlapped.{built}
use Rattle.cg_emit.proofs.emission.configuration.Goals as goal

pub returns-clause-mapped : goal.returns-clause-mapped
returns-clause-mapped c =
    let A = c.args.legal.now.arch in
    let K = c.args.legal.now.kernel in
    let M = c.args.legal.now.mapping in
    let legal = c.mapping.ensures.legal in
    let good = subst IsKernel c.kernel.ensures c.nodes-nodes.ensures.valid in
    let ii-is = c.ii.ensures ∙ ap (λ (m : Mapping). m.ii) c.mapping.ensures.mapping in
    let idle =
    c.set_nodes.ensures.selects ∙ ap (λ (z : Config). z.selects) c.in_ok-config.ensures.off
    ∙ ap (λ z. replicate z (replicate (length c.arch.result.now.resources) 0)) ii-is
    ∙ ap (λ (a : Arch). replicate M.ii (replicate (length a.resources) 0)) c.arch.ensures in
    built A K M legal c.set_nodes.new.config c.set_routes.new.config c.set_nodes.ensures.canonical c.set_routes.ensures.canonical c.set_nodes.ensures.nodes idle c.set_routes.ensures.set
    (c.configures.ensures A K M good legal)
