use Rattle.std.proofs.Common.{◌≡◌, map, drop}
use Rattle.std.specs.Prelude.{◌&&◌, not}
use Rattle.cg_model.specs.First.{first_such}
use Rattle.cg_check.specs.Rules.{is_on}
use Rattle.cg_check.specs.Claims.{position_of, alike}
use Rattle.cg_violations.proofs.meeting.first_apart.Given as goal

abbrev pub invariant-loop-stop : goal.invariant-loop-stop
invariant-loop-stop l =
    first_such (λ q. is_on l.spot.ii l.spot.resource l.spot.slot q && not (alike l.sharing (position_of l.first) q)) (map position_of (drop l.stop-index l.stops))
    ≡ first_such (λ q. is_on l.spot.ii l.spot.resource l.spot.slot q && not (alike l.sharing (position_of l.first) q)) (map position_of l.stops)
