use Rattle.std.proofs.Common.{◌≡◌, ◌∙◌, ◌∷◌, [], ◌++◌, sym, ap, subst, length, below_more, arith}
use Rattle.cg_layout.specs.Layout.{seat}
use Rattle.cg_layout.specs.Places.{IsNear}
use Rattle.cg_list_laws.proofs.Grown.{begun, grown_alone}
use Rattle.cg_layout.proofs.Listed.{seats_listed}
use Rattle.cg_layout.proofs.seats.seats.Goals as goal

pub loop-resource-init : goal.loop-resource-init
loop-resource-init c = record {
  list = c.new-spots.ensures.items ∙ sym (begun (λ r. seat c.args.tiled.now c.args.frame r ∷ []));
  near = λ k h. absurd (omega arith);
}

pub loop-resource-preserved : goal.loop-resource-preserved
loop-resource-preserved c = record {
  list = grown_alone (λ r. seat c.args.tiled.now c.args.frame r ∷ []) c.loop-resource.resource _ _ c.loop-resource.invariant.list
      (c.in_ok-push.ensures.items ∙ ap (λ z. c.loop-resource.spots.items ++ z ∷ []) c.seat.ensures.value);
  near = below_more _ _ c.loop-resource.invariant.near (subst IsNear c.seat.ensures.value c.seat.ensures.near);
}

pub returns : goal.returns
returns c =
    let all : c.loop-resource.resource ≡ length c.args.tiled.now.resources = omega (arith, c.resource_count-resource-end.ensures.value) in
    seats_listed c.args.tiled.now c.args.frame c.loop-resource.resource c.loop-resource.spots.items all c.loop-resource.invariant.list c.loop-resource.invariant.near
