use Rattle.std.proofs.Common.{◌∙◌, sym, ap, subst}
use Rattle.cg_model.specs.Mapping.{IsLegal}
use Rattle.cg_hub.specs.Hub.{hub_map}
use Rattle.cg_hub.specs.Scheduled.{Scheduled}
use Rattle.cg_hub.proofs.Legal.{hub_legal}
use Rattle.cg_hub.proofs.mapping.hub_mapping.Goals as goal

pub new-requires-2 : goal.new-requires-2
new-requires-2 c =
    let A = c.args.arch.now in
    let K = c.args.kernel.now in
    let is = c.in_ok-mapping.ensures ∙ ap (λ (z : Scheduled). hub_map z.arch z.kernel z.ii) c.in_ok-schedule.ensures in
    subst (IsLegal A K) (sym is) (hub_legal A K c.args.ii c.contexts.ensures.valid c.nodes.ensures.valid c.requires.enough)
