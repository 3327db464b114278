use Rattle.std.proofs.Common.{◌≡◌, ◌%◌, Some, subst, refl}
use Rattle.std.specs.List.{list_any}
use Rattle.cg_model.specs.Mapping.{Position}
use Rattle.cg_mrrg.specs.declared.links.MNode.{MNode}
use Rattle.cg_congestion.specs.Claims.{same}
use Rattle.cg_route.specs.Layers.{Sought}
use Rattle.cg_route.proofs.Offers.{link_is}
use Rattle.cg_route.proofs.search.Search.link.Goals as goal
use Rattle.cg_route.proofs.search.Search.link.Goals.{else-shared-via-then-shared+else-has_claim, else-shared-via-else-shared}

pub returns-then-has_claim-clause-link : goal.returns-then-has_claim-clause-link
returns-then-has_claim-clause-link c =
    let S = c.args.self.now in
    let p : Position = record { source = S.source; resource = c.args.resource; time = c.args.time; from = Some c.args.driver } in
    let n : MNode = record { resource = c.args.resource; slot = c.args.time % S.table.interval } in
    let claimed : c.has_claim.result ≡ list_any (same p) S.table.positions =
    subst (λ (S : Sought). c.has_claim.result ≡ list_any (same (record { source = S.source; resource = c.args.resource; time = c.args.time; from = Some c.args.driver })) S.table.positions) c.self.view_is c.has_claim.ensures in
    link_is S.table p n 0 c.args.shared c.has_claim.result c.requires.shared claimed refl (rw (c.if-shared.true, c.if-has_claim.true) refl)

pub returns-else-shared-clause-link : goal.returns-else-shared-clause-link
returns-else-shared-clause-link c =
    let S = c.args.self.now in
    let p : Position = record { source = S.source; resource = c.args.resource; time = c.args.time; from = Some c.args.driver } in
    let n : MNode = record { resource = c.args.resource; slot = c.args.time % S.table.interval } in
    elim c.else-shared.branch [
      | else-shared-via-then-shared+else-has_claim w ↦
          let claimed : w.has_claim.result ≡ list_any (same p) S.table.positions =
          subst (λ (S : Sought). w.has_claim.result ≡ list_any (same (record { source = S.source; resource = c.args.resource; time = c.args.time; from = Some c.args.driver })) S.table.positions) c.self.view_is w.has_claim.ensures in
          link_is S.table p n c.args.toll c.args.shared w.has_claim.result c.requires.shared claimed refl (rw (w.if-shared.true, w.if-has_claim.false) c.requires.toll)
      | else-shared-via-else-shared w ↦
          link_is S.table p n c.args.toll c.args.shared (list_any (same p) S.table.positions) c.requires.shared refl refl (rw w.if-shared.false c.requires.toll)
    ]
