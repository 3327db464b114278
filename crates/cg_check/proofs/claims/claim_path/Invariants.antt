use Rattle.std.proofs.Common.{◌≡◌, ◌+◌, ◌≤◌, ◌∷◌, drop}
use Rattle.cg_model.specs.Mapping.{positions_after}
use Rattle.cg_check.specs.Claims.{claims, position_of}
use Rattle.cg_check.proofs.claims.claim_path.Given as goal

abbrev pub invariant-loop-resource : goal.invariant-loop-resource
invariant-loop-resource l =
    (claims l.claiming.sharing l.claiming.mapping.now.ii l.table (positions_after l.claiming.arch.now l.stop.source l.stop.resource l.stop.time (drop l.resource-index l.rest))
    ≡ claims l.claiming.sharing l.claiming.mapping.now.ii l.fn.table (position_of l.fn.start ∷ positions_after l.claiming.arch.now l.fn.start.source l.fn.start.resource l.fn.start.time l.rest))
    × (l.stop.time ≤ l.fn.start.time + l.resource-index)
