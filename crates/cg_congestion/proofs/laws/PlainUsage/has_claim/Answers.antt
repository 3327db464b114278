use Rattle.std.proofs.Common.{◌∙◌, List, Some, ap}
use Rattle.std.specs.List.{list_any}
use Rattle.cg_model.specs.Mapping.{Position}
use Rattle.cg_congestion.specs.declared.laws.PlainPosition.{PlainPosition}
use Rattle.cg_congestion.specs.Claims.{same}
use Rattle.cg_congestion.specs.Plain.{plain}
use Rattle.cg_congestion.specs.Table.{Table}
use Rattle.cg_congestion.proofs.Plain.{any_map}
use Rattle.cg_congestion.proofs.laws.PlainUsage.has_claim.Goals as goal

pub returns : goal.returns
returns c =
    let g = c.self.inside in
    let p : Position = record { source = c.args.source; resource = c.args.resource; time = c.args.time; from = Some c.args.before } in
    c.has.ensures ∙ ap (λ (l : List PlainPosition). list_any (λ q. same p (plain q)) l) c.deref.ensures.value
    ∙ any_map (same p) plain g.positions.items ∙ ap (λ (T : Table). list_any (same p) T.positions) c.self.view_is
