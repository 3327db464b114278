use Rattle.std.proofs.Common.{◌∙◌, Bool, eqb, List, ap}
use Rattle.std.specs.Prelude.{◌&&◌}
use Rattle.std.specs.List.{list_any}
use Rattle.cg_model.specs.Mapping.{Position}
use Rattle.cg_congestion.specs.declared.laws.PlainPosition.{PlainPosition}
use Rattle.cg_congestion.specs.Plain.{plain}
use Rattle.cg_congestion.specs.Table.{Table}
use Rattle.cg_congestion.proofs.Plain.{any_map}
use Rattle.cg_congestion.proofs.laws.PlainUsage.has_value.Goals as goal

pub returns : goal.returns
returns c =
    let g = c.self.inside in
    let test : Position → Bool = λ p. eqb p.source c.args.source && eqb p.resource c.args.resource && eqb p.time c.args.time in
    c.any_value.ensures ∙ ap (λ (l : List PlainPosition). list_any (λ q. test (plain q)) l) c.deref.ensures.value
    ∙ any_map test plain g.positions.items ∙ ap (λ (T : Table). list_any test T.positions) c.self.view_is
