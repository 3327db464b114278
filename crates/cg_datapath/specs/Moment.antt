-- The position of a cycle in a run.
use Rattle.std.specs.Prelude.{◌≡◌, ℕ, ◌/◌, ◌%◌}
use Rattle.cg_datapath.specs.declared.moment.Moment.{Moment}

-- the moment is the position of cycle c
pub record IsMoment (m : Moment) (ii c : ℕ) : Type 0 where
  pub slot : m.slot ≡ c % ii
  pub round : m.round ≡ c / ii
  pub row : m.row ≡ c % 4
