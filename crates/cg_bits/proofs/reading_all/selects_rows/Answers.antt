use Rattle.std.proofs.Common.{map, length}
use Rattle.std.specs.List.{range_with_len}
use Rattle.cg_flat.specs.Slots.{select_bits}
use Rattle.cg_bits.specs.Numbers.{number_at, bits_of_bytes}
use Rattle.cg_bits.specs.Reading.{select_place}
use Rattle.cg_bits.proofs.Tables.{row_more}
use Rattle.cg_bits.proofs.reading_all.selects_rows.Goals as goal

pub loop-slot-preserved : goal.loop-slot-preserved
loop-slot-preserved c =
    let s = c.args.slots.now in
    let A = s.arch.now in
    row_more (λ slot. map (λ r. number_at (bits_of_bytes s.body.now) (select_place s.format A r slot) (select_bits A r)) (range_with_len 0 (length A.resources))) c.loop-slot.slot c.loop-slot.rows.items _ _
    c.loop-slot.invariant c.in_ok-push.ensures.items c.in_ok-selects_row.ensures
