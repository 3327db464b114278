use Rattle.std.proofs.Common.{◌≡◌, ◌∙◌, ◌+◌, max, ap, length, arith}
use Rattle.cg_list_laws.specs.Below.{greatest_below}
use Rattle.std.specs.Prelude.{if◌then◌else◌}
use Rattle.cg_model.specs.Array.{resource}
use Rattle.cg_occupancy.specs.Counts.{same_kind}
use Rattle.cg_layout.specs.Layout.{rank}
use Rattle.cg_list_laws.proofs.Gathered.{none_great, greater, larger}
use Rattle.cg_layout.proofs.tiled.Tiled.most_of.Goals as goal

pub loop-resource-init : goal.loop-resource-init
loop-resource-init c = (none_great (λ r. if same_kind (resource c.args.self.now r).kind c.args.kind then rank c.args.self.now r + 1 else 0), omega arith)

pub loop-resource-preserved : goal.loop-resource-preserved
loop-resource-preserved c =
    let most = c.loop-resource.invariant.1 in
    let is : c.max-most.result ≡ max c.loop-resource.most c.number_in_kind.result = c.max-most.ensures ∙ larger c.loop-resource.most c.number_in_kind.result in
    let here = c.number_in_kind.ensures.few in
    (greater (λ r. if same_kind (resource c.args.self.now r).kind c.args.kind then rank c.args.self.now r + 1 else 0) c.loop-resource.resource c.loop-resource.most _ _ c.loop-resource.invariant.0 c.number_in_kind.ensures.value is, omega (arith, most, here, is))

pub returns-clause-value : goal.returns-clause-value
returns-clause-value c =
    let last : c.loop-resource.resource ≡ length c.args.self.now.resources = omega (arith, c.resource_count-resource-end.ensures.value) in
    c.loop-resource.invariant.0 ∙ ap (greatest_below (λ r. if same_kind (resource c.args.self.now r).kind c.args.kind then rank c.args.self.now r + 1 else 0)) last
