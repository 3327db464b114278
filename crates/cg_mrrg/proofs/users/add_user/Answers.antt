use Rattle.std.proofs.Common.{◌≡◌, ℕ, ◌+◌, ◌<◌, List, length, sym, ap, ◌∙◌, ◌++◌, ◌∷◌, [], set, subst, arith, get_or}
use Rattle.std.proofs.lemmas.List.Elements.{Contains-get_or}
use Rattle.cg_model.specs.Array.{IsArch, resource}
use Rattle.cg_mrrg.specs.Users.{AreUsers, users_of}
use Rattle.cg_mrrg.proofs.Drivers.{driver_seen, drivers_read, next}
use Rattle.cg_mrrg.proofs.users.add_user.Goals as goal

pub add-requires : goal.add-requires
add-requires c =
    let A = c.args.arch.now in
    let good : IsArch A = c.resources.ensures.valid in
    let read = drivers_read A c.index-resources-resource.result c.resources.result.now c.as_slice-drivers.result.now c.args.resource c.resources.ensures.resources c.requires.resource c.index-resources-resource.is c.as_slice-drivers.ensures in
    let long = ap length read in
    let each = c.loop-place.invariant.each in
    let known : get_or (resource A c.args.resource).drivers c.loop-place.place 0 < length A.resources = good.known _ c.args.resource (Contains-get_or (resource A c.args.resource).drivers c.loop-place.place 0 (omega arith)) in
    let same : get_or c.as_slice-drivers.result.now c.loop-place.place 0 ≡ get_or (resource A c.args.resource).drivers c.loop-place.place 0 = ap (λ (z : List ℕ). get_or z c.loop-place.place 0) read in
    omega arith

pub loop-place-preserved : goal.loop-place-preserved
loop-place-preserved c =
    let A = c.args.arch.now in
    let good : IsArch A = c.resources.ensures.valid in
    let read = drivers_read A c.index-resources-resource.result c.resources.result.now c.as_slice-drivers.result.now c.args.resource c.resources.ensures.resources c.requires.resource c.index-resources-resource.is c.as_slice-drivers.ensures in
    let long = ap length read in
    let known : get_or (resource A c.args.resource).drivers c.loop-place.place 0 < length A.resources = good.known _ c.args.resource (Contains-get_or (resource A c.args.resource).drivers c.loop-place.place 0 (omega arith)) in
    let same : get_or (resource A c.args.resource).drivers c.loop-place.place 0 ≡ get_or c.as_slice-drivers.result.now c.loop-place.place 0 = ap (λ (z : List ℕ). get_or z c.loop-place.place 0) (sym read) in
    subst (AreUsers A c.args.resource (c.loop-place.place + 1)) (ap (λ z. set c.loop-place.users z (users_of c.loop-place.users z ++ c.args.resource ∷ [])) same ∙ sym c.in_ok-add.ensures)
    (driver_seen A good c.args.resource c.loop-place.place c.loop-place.users (omega arith) known c.loop-place.invariant)

pub returns : goal.returns
returns c =
    let A = c.args.arch.now in
    let read = drivers_read A c.index-resources-resource.result c.resources.result.now c.as_slice-drivers.result.now c.args.resource c.resources.ensures.resources c.requires.resource c.index-resources-resource.is c.as_slice-drivers.ensures in
    let long = ap length read in
    next A c.args.resource c.loop-place.place c.loop-place.users (omega arith) c.loop-place.invariant
