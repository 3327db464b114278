-- Sizes of tables, which are bounded.
use Rattle.std.specs.Prelude.{◌≡◌, ℕ, ◌+◌, ◌≤◌, is_some}
use Rattle.cg_check.specs.Legal.{Mapped}
use Rattle.cg_list_laws.specs.Below.{count_below}
use Rattle.cg_occupancy.specs.Marks.{start_at}
use Rattle.cg_show_table.specs.declared.columns.Grid.{Grid}

-- a table of few slots and short rows, with at least one column
pub record IsSmall (g : Grid) : Type 0 where
  pub first : g.first ≤ 42
  pub pitch : g.pitch ≤ 62
  pub some : 1 ≤ g.across
  pub across : g.across ≤ 60
  pub slots : g.slots ≤ 64

-- the table has the slots of the mapping
pub record IsGridOf (m : Mapped) (g : Grid) : Type 0 where
  pub small : IsSmall g
  pub slots : g.slots ≡ m.mapping.ii

-- the number of slots, of n slots from a on, in which unit x begins a node
abbrev pub starts_from : Mapped → ℕ → ℕ → ℕ → ℕ
starts_from m x a n = count_below (λ j. is_some (start_at m x (a + j))) n
