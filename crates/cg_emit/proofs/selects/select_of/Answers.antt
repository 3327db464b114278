use Rattle.std.proofs.Common.{◌≡◌, suc, length, ap, subst, ◌∙◌, arith}
use Rattle.cg_model.specs.declared.array.Resource.{Resource}
use Rattle.cg_model.specs.Array.{resource}
use Rattle.cg_model.specs.Configured.{place_of}
use Rattle.cg_emit.proofs.Paths.{resource_is, few_drivers, placed_within}
use Rattle.cg_emit.proofs.selects.select_of.Goals as goal
use Rattle.cg_model.proofs.Mappings.{driven_known}

pub place_in-requires : goal.place_in-requires
place_in-requires c =
    let known = driven_known c.args.arch.now c.args.resource c.args.driver c.requires in
    let same = resource_is c.args.arch.now c.resources.result.now _ c.index-resources-resource.result c.index-resources-resource.is c.resources.ensures.resources known in
    let few = few_drivers c.args.arch.now c.resources.ensures.valid c.args.resource known in
    let long = ap length (c.as_slice.ensures ∙ ap (λ (z : Resource). z.drivers) same) in
    omega arith

pub returns-clause-few : goal.returns-clause-few
returns-clause-few c =
    let known = driven_known c.args.arch.now c.args.resource c.args.driver c.requires in
    let same = resource_is c.args.arch.now c.resources.result.now _ c.index-resources-resource.result c.index-resources-resource.is c.resources.ensures.resources known in
    let placed = subst (λ ds. c.place_in.result ≡ suc (place_of c.args.driver ds)) (c.as_slice.ensures ∙ ap (λ (z : Resource). z.drivers) same) c.place_in.ensures in
    let within = placed_within c.args.driver (resource c.args.arch.now c.args.resource).drivers c.requires in
    omega arith
