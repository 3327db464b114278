use Rattle.cg_bits.proofs.Places.{select_inside}
use Rattle.cg_bits.proofs.all_slots.Slots.select_place.Goals as goal

pub returns-clause-inside : goal.returns-clause-inside
returns-clause-inside c =
    let s = c.args.self.now in
    rw (s.fit.len_is, c.select_at.ensures) (select_inside s.format s.arch.now c.args.resource c.args.slot s.ii c.requires.resource c.requires.slot)
