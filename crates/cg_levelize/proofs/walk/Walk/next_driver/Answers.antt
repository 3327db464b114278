use Rattle.std.proofs.Common.{◌≡◌, length, ap, refl, List}
use Rattle.std.specs.Vec.{with_item}
use Rattle.cg_levelize.specs.declared.walk.Mark.{Mark}
use Rattle.cg_levelize.specs.declared.walk.Walk.{Walk}
use Rattle.cg_levelize.specs.Walk.{inputs}
use Rattle.cg_levelize.proofs.Reading.{inputs_read, taken_known, done_before, walk_passed, all_done}
use Rattle.cg_levelize.proofs.walk.Walk.next_driver.Goals as goal

pub first_waiting-place-requires : goal.first_waiting-place-requires
first_waiting-place-requires c =
    let rs = c.args.resources.now in
    let takes : c.inputs-drivers.result.now ≡ inputs rs c.args.resource = inputs_read rs c.args.resource c.index-resources-resource.result c.inputs-drivers.result.now c.requires.resource c.index-resources-resource.is c.inputs-drivers.ensures in
    let long : length c.deref.result.now ≡ length c.args.self.now.marks.items = ap (λ (xs : List Mark). length xs) c.deref.ensures.value in
    taken_known rs c.args.self.now (length c.deref.result.now) c.args.resource c.inputs-drivers.result.now c.requires.known c.requires.walk long takes

pub returns-then-place-drivers-clause-walk : goal.returns-then-place-drivers-clause-walk
returns-then-place-drivers-clause-walk c =
    let rs = c.args.resources.now in
    let w : Walk = c.args.self.now in
    let takes : c.inputs-drivers.result.now ≡ inputs rs c.args.resource = inputs_read rs c.args.resource c.index-resources-resource.result c.inputs-drivers.result.now c.requires.resource c.index-resources-resource.is c.inputs-drivers.ensures in
    let done = done_before rs w c.deref.result.now c.args.resource c.index.result.now c.first_waiting-place.result c.inputs-drivers.result.now c.requires.walk c.requires.resource c.deref.ensures.value takes c.index.ensures c.first_waiting-place.ensures.done in
    let new : Walk = record w { passed = with_item w.passed c.args.resource c.first_waiting-place.result } in
    walk_passed rs w new c.args.resource c.first_waiting-place.result c.inputs-drivers.result.now c.requires.walk c.requires.resource takes done record { path = refl; marks = refl; order = refl } refl

pub returns-else-place-drivers-clause-walk : goal.returns-else-place-drivers-clause-walk
returns-else-place-drivers-clause-walk c =
    let rs = c.args.resources.now in
    let w : Walk = c.args.self.now in
    let takes : c.inputs-drivers.result.now ≡ inputs rs c.args.resource = inputs_read rs c.args.resource c.index-resources-resource.result c.inputs-drivers.result.now c.requires.resource c.index-resources-resource.is c.inputs-drivers.ensures in
    let done = done_before rs w c.deref.result.now c.args.resource c.index.result.now c.first_waiting-place.result c.inputs-drivers.result.now c.requires.walk c.requires.resource c.deref.ensures.value takes c.index.ensures c.first_waiting-place.ensures.done in
    let new : Walk = record w { passed = with_item w.passed c.args.resource c.first_waiting-place.result } in
    walk_passed rs w new c.args.resource c.first_waiting-place.result c.inputs-drivers.result.now c.requires.walk c.requires.resource takes done record { path = refl; marks = refl; order = refl } refl

pub returns-else-place-drivers-clause-none : goal.returns-else-place-drivers-clause-none
returns-else-place-drivers-clause-none c =
    let rs = c.args.resources.now in
    let w : Walk = c.args.self.now in
    let takes : c.inputs-drivers.result.now ≡ inputs rs c.args.resource = inputs_read rs c.args.resource c.index-resources-resource.result c.inputs-drivers.result.now c.requires.resource c.index-resources-resource.is c.inputs-drivers.ensures in
    let done = done_before rs w c.deref.result.now c.args.resource c.index.result.now c.first_waiting-place.result c.inputs-drivers.result.now c.requires.walk c.requires.resource c.deref.ensures.value takes c.index.ensures c.first_waiting-place.ensures.done in
    all_done rs w w c.args.resource c.first_waiting-place.result c.inputs-drivers.result.now takes done record { path = refl; marks = refl; order = refl } c.if-place-drivers.false
