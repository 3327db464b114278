-- The parameters of a search for a mapping.
use Rattle.std.specs.Prelude.{◌≤◌, IfSome}
use Rattle.cg_model.specs.Limits.{most_moves}
use Rattle.cg_model.specs.declared.request.Request.{Request}

-- the numbers of a request are in their ranges
pub record IsInRange (request : Request) : Type 0 where
  pub some : IfSome request.ii (λ ii. 1 ≤ ii)
  pub few : request.moves ≤ most_moves
