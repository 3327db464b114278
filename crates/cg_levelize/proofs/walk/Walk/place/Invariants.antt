use Rattle.std.proofs.Common.{◌≢◌}
use Rattle.cg_levelize.specs.declared.walk.Mark.TheVariants.{New}
use Rattle.cg_levelize.specs.Walk.{mark, IsWalk, Keeps, left}
use Rattle.cg_levelize.proofs.walk.Walk.place.Given as goal

abbrev pub invariant-steps : goal.invariant-steps
invariant-steps l =
    record {
      walk : IsWalk l.resources l.self;
      keeps : Keeps l.fn.self l.self;
      met : mark l.self.marks.items l.start ≢ New;
    }

abbrev pub decreases-steps : goal.decreases-steps
decreases-steps l = left l.self
