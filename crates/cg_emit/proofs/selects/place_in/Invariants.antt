use Rattle.std.proofs.Common.{◌≡◌, ◌+◌, suc, drop}
use Rattle.cg_model.specs.Configured.{place_of}
use Rattle.cg_emit.proofs.selects.place_in.Given as goal

abbrev pub invariant-loop-driver : goal.invariant-loop-driver
invariant-loop-driver l =
    (l.place ≡ l.driver-index + 1) ×
    (l.place + place_of l.from (drop l.driver-index l.drivers) ≡ suc (place_of l.from l.drivers))
