use Rattle.std.proofs.Common.{take}
use Rattle.cg_place.specs.Reservations.{IsTable}
use Rattle.cg_place.proofs.reservations.Reservations.of.Given as goal

abbrev pub invariant-loop-place : goal.invariant-loop-place
invariant-loop-place l = IsTable l.units l.interval (take l.place-index l.places) l.table
