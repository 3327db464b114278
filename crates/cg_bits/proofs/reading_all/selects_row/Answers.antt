use Rattle.std.proofs.Common.{◌≡◌, ℕ, map, length, ap, ◌∙◌, arith}
use Rattle.std.specs.List.{range_with_len}
use Rattle.cg_model.specs.Array.{resource}
use Rattle.cg_flat.specs.Slots.{select_bits}
use Rattle.cg_bits.specs.Numbers.{number_at, bits_of_bytes}
use Rattle.cg_bits.specs.Reading.{select_place}
use Rattle.cg_bits.proofs.Room.{room_of}
use Rattle.cg_bits.proofs.Places.{width_few}
use Rattle.cg_bits.proofs.Tables.{row_more}
use Rattle.cg_bits.proofs.reading_all.selects_row.Goals as goal

pub number_at-requires-clause-narrow : goal.number_at-requires-clause-narrow
number_at-requires-clause-narrow c =
    let A = c.args.slots.now.arch.now in
    let many = ap length c.resources-r-end.ensures.resources in
    width_few (length (resource A c.loop-r.r).drivers) c.select_bits.result c.select_bits.ensures.least ((room_of A c.resources-r-end.ensures.valid).links c.loop-r.r (omega arith))

pub loop-r-preserved : goal.loop-r-preserved
loop-r-preserved c =
    let s = c.args.slots.now in
    let A = s.arch.now in
    let bits = bits_of_bytes s.body.now in
    let r = c.loop-r.r in
    let f = λ (q : ℕ). number_at bits (select_place s.format A q c.args.slot) (select_bits A q) in
    let one : c.number_at.result ≡ f r = c.number_at.ensures ∙ ap (λ z. number_at bits z c.select_bits.result) c.select_place-place.ensures.place ∙ ap (number_at bits (select_place s.format A r c.args.slot)) c.select_bits.ensures.value in
    row_more f r c.loop-r.row.items _ c.number_at.result c.loop-r.invariant c.in_ok-push.ensures.items one

pub returns : goal.returns
returns c =
    let s = c.args.slots.now in
    let A = s.arch.now in
    let bits = bits_of_bytes s.body.now in
    let last : c.loop-r.r ≡ length A.resources = omega (arith, ap length c.resources-r-end.ensures.resources) in
    c.new.ensures ∙ c.loop-r.invariant ∙ ap (λ n. map (λ q. number_at bits (select_place s.format A q c.args.slot) (select_bits A q)) (range_with_len 0 n)) last
