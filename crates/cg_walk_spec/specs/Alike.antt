-- Use tables that agree: the functions of the walk depend on the numbers of uses alone.
use Rattle.std.specs.Prelude.{◌≡◌}
use Rattle.cg_model.specs.Mapping.{Position}
use Rattle.cg_congestion.specs.Claims.{uses}
use Rattle.cg_congestion.specs.Table.{Table}

-- two tables of one architecture, interval and history, in which each claim is used equally often
pub record AreAlike (T R : Table) : Type 0 where
  pub arch : T.arch ≡ R.arch
  pub interval : T.interval ≡ R.interval
  pub history : T.history ≡ R.history
  pub uses : (p : Position) → uses T.positions p ≡ uses R.positions p
