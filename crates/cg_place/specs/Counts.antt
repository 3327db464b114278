-- The two counts of a whole placement that are 0 if it is a schedule.
use Rattle.std.specs.Prelude.{ℕ, ◌+◌, ◌-◌, ◌*◌, ◌%◌, eqb, nat_lt, Bool, ◌&&◌, List, length, count_by, sum_by}
use Rattle.std.specs.List.{range_with_len}
use Rattle.cg_model.specs.declared.kernel.OrderEdge.{OrderEdge}
use Rattle.cg_model.specs.Kernel.{Kernel}
use Rattle.cg_model.specs.Array.{Arch}
use Rattle.cg_model.specs.declared.mapping.Place.{Place}
use Rattle.cg_place.specs.Placed.{place_in}

-- a node with the given place begins on unit x in slot s
abbrev pub stands_at : ℕ → ℕ → ℕ → Place → Bool
stands_at ii x s p = eqb p.unit x && eqb (p.time % ii) s

-- the number of nodes beyond one on unit x in slot s
abbrev pub excess_at : ℕ → List Place → ℕ → ℕ → ℕ
excess_at ii places x s = count_by (stands_at ii x s) places - 1

-- the excess over all slots of unit x
abbrev pub excess_on : ℕ → List Place → ℕ → ℕ
excess_on ii places x = sum_by (excess_at ii places x) (range_with_len 0 ii)

-- the excess over all units: 0 if each unit begins at most one node in each slot
abbrev pub unit_excess : Arch → ℕ → List Place → ℕ
unit_excess A ii places = sum_by (excess_on ii places) (range_with_len 0 (length A.units))

-- the target of an order edge doesn't begin at least a cycle after its source
abbrev pub is_broken : ℕ → List Place → OrderEdge → Bool
is_broken ii places e = nat_lt ((place_in places e.to).time + ii * e.distance) ((place_in places e.from).time + 1)

-- the number of broken order edges
abbrev pub order_violations : Kernel → ℕ → List Place → ℕ
order_violations K ii places = count_by (is_broken ii places) K.order
