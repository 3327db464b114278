use Rattle.std.proofs.Common.{◌+◌, take, sym, subst}
use Rattle.cg_check.specs.Slots.{AreMarks}
use Rattle.cg_check.proofs.Marks.{one_marked}
use Rattle.cg_violations.proofs.sharing.is_taken.Goals as goal

pub returns-clause-marks : goal.returns-clause-marks
returns-clause-marks c =
    subst (AreMarks c.args.ii c.args.units (take (c.args.node + 1) c.args.places.now)) (sym c.take_slot.ensures.marks)
    (one_marked c.args.ii c.args.units c.args.node c.args.places.now c.args.taken.now c.requires.interval c.requires.node c.if-place-units.false c.requires.marks)
