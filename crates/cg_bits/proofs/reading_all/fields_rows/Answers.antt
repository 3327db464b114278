use Rattle.std.proofs.Common.{map, length}
use Rattle.std.specs.List.{range_with_len}
use Rattle.cg_bits.specs.Numbers.{bits_of_bytes}
use Rattle.cg_bits.specs.Checks.{fields_there}
use Rattle.cg_bits.proofs.Tables.{row_more}
use Rattle.cg_bits.proofs.reading_all.fields_rows.Goals as goal

pub loop-slot-preserved : goal.loop-slot-preserved
loop-slot-preserved c =
    let s = c.args.slots.now in
    let A = s.arch.now in
    row_more (λ slot. map (fields_there s.format A (bits_of_bytes s.body.now) slot) (range_with_len 0 (length A.units))) c.loop-slot.slot c.loop-slot.rows.items _ _
    c.loop-slot.invariant c.in_ok-push.ensures.items c.in_ok-fields_row.ensures
