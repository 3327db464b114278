use Rattle.std.proofs.Common.{◌≡◌, ◌+◌, length, leb, sym, ap, ◌∙◌, arith}
use Rattle.cg_model.specs.declared.array.Resource.{Resource}
use Rattle.cg_model.specs.Array.{resource}
use Rattle.cg_flat.specs.Slots.{select_bits}
use Rattle.cg_bits.specs.Numbers.{number_at, bits_of_bytes}
use Rattle.cg_bits.specs.Reading.{select_place}
use Rattle.cg_bits.specs.Faults.{unless}
use Rattle.cg_bits.proofs.First.{first_joined, joined_none_zero, joined_none_more}
use Rattle.cg_bits.proofs.Room.{room_of}
use Rattle.cg_bits.proofs.Places.{resource_is, width_few, above, not_above}
use Rattle.cg_bits.proofs.all_slots.Slots.bad_select_in.Goals as goal

pub loop-r-init : goal.loop-r-init
loop-r-init c = joined_none_zero _

pub number_at-value-requires-clause-narrow : goal.number_at-value-requires-clause-narrow
number_at-value-requires-clause-narrow c =
    let A = c.args.self.now.arch.now in
    let many = ap length c.resources-resource-items.ensures.resources in
    width_few (length (resource A c.loop-r.r).drivers) c.select_bits.result c.select_bits.ensures.least ((room_of A c.resources-resource-items.ensures.valid).links c.loop-r.r (omega arith))

pub returns-then-value-as_slice : goal.returns-then-value-as_slice
returns-then-value-as_slice c =
    let s = c.args.self.now in
    let A = s.arch.now in
    let bits = bits_of_bytes s.body.now in
    let r = c.loop-r.r in
    let many = ap length c.resources-resource-items.ensures.resources in
    let its = resource_is c.resources-resource-items.result.now A r c.resource-item.result c.resource-item.is c.resources-resource-items.ensures.resources c.loop-r-test.true in
    let read : c.number_at-value.result ≡ number_at bits (select_place s.format A r c.args.slot) (select_bits A r) =
    c.number_at-value.ensures ∙ ap (λ z. number_at bits z c.select_bits.result) c.select_place-place.ensures.place ∙ ap (number_at bits (select_place s.format A r c.args.slot)) c.select_bits.ensures.value in
    let drivers : length c.as_slice.result.now ≡ length (resource A r).drivers = ap length c.as_slice.ensures ∙ ap (λ (z : Resource). length z.drivers) its in
    sym (first_joined (λ q. unless (leb (number_at bits (select_place s.format A q c.args.slot) (select_bits A q)) (length (resource A q).drivers)) (320 + select_place s.format A q c.args.slot))
    (length A.resources) r _ c.loop-r.invariant (omega arith)
    (above c.number_at-value.result _ (length c.as_slice.result.now) _ c.select_place-place.result _ c.if-value-as_slice.true read drivers c.select_place-place.ensures.place))

pub loop-r-preserved : goal.loop-r-preserved
loop-r-preserved c =
    let s = c.args.self.now in
    let A = s.arch.now in
    let bits = bits_of_bytes s.body.now in
    let r = c.loop-r.r in
    let its = resource_is c.resources-resource-items.result.now A r c.resource-item.result c.resource-item.is c.resources-resource-items.ensures.resources c.loop-r-test.true in
    let read : c.number_at-value.result ≡ number_at bits (select_place s.format A r c.args.slot) (select_bits A r) =
    c.number_at-value.ensures ∙ ap (λ z. number_at bits z c.select_bits.result) c.select_place-place.ensures.place ∙ ap (number_at bits (select_place s.format A r c.args.slot)) c.select_bits.ensures.value in
    let drivers : length c.as_slice.result.now ≡ length (resource A r).drivers = ap length c.as_slice.ensures ∙ ap (λ (z : Resource). length z.drivers) its in
    joined_none_more _ r c.loop-r.invariant (not_above c.number_at-value.result _ (length c.as_slice.result.now) _ _ c.if-value-as_slice.false read drivers)
