-- Bounds on the resources and units from which cells are made, and on the nets and cells that are printed.
use Rattle.std.specs.Prelude.{ℕ, ◌<◌, ◌≤◌, length, slice_index}
use Rattle.cg_model.specs.declared.array.Resource.{Resource}
use Rattle.cg_model.specs.declared.array.Unit.{Unit}
use Rattle.cg_model.specs.Array.{Arch}
use Rattle.cg_netlist.specs.declared.parts.Net.{Net}
use Rattle.cg_netlist.specs.declared.parts.Cell.{Cell}

-- a resource has no more drivers than a valid architecture has links, and its drivers are resources
pub record IsDriven (A : Arch) (r : Resource) : Type 0 where
  pub few : length r.drivers ≤ 65536
  pub known : (k : ℕ) → k < length r.drivers → slice_index r.drivers k < length A.resources

-- a unit has at most three ports, and its ports and its out are resources
pub record IsPlaced (A : Arch) (u : Unit) : Type 0 where
  pub few : length u.ports ≤ 3
  pub known : (k : ℕ) → k < length u.ports → slice_index u.ports k < length A.resources
  pub out : u.out < length A.resources

-- a net has at least one bit, and a cell at least one pin
abbrev pub HasBits : Net → Type 0
HasBits n = 0 < n.width

abbrev pub HasPins : Cell → Type 0
HasPins c = 0 < length c.pins
