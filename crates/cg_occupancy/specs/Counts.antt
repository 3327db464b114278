-- The part of an array that a legal mapping uses.
use Rattle.std.specs.Prelude.{ℕ, Bool, true, false, nat_lt, length, is_some, if◌then◌else◌}
use Rattle.cg_model.specs.declared.array.Kind.{Kind}
use Rattle.cg_model.specs.declared.array.Kind.TheVariants.{Wire, Register, Port, Out}
use Rattle.cg_model.specs.Array.{resource}
use Rattle.cg_check.specs.Legal.{Mapped}
use Rattle.cg_list_laws.specs.Below.{sum_below, count_below}
use Rattle.cg_occupancy.specs.Marks.{start_at, stay_at}

-- the number of slots in which unit x begins a node
unfoldable pub starts_of : Mapped → ℕ → ℕ
starts_of m x = count_below (λ s. is_some (start_at m x s)) m.mapping.ii

-- the number of units that begin a node, and the number of slots in which units do
unfoldable pub busy_units : Mapped → ℕ
busy_units m = count_below (λ x. nat_lt 0 (starts_of m x)) (length m.arch.units)

unfoldable pub busy_slots : Mapped → ℕ
busy_slots m = sum_below (starts_of m) (length m.arch.units)

-- the number of slots in which resource r carries a value
unfoldable pub stays_of : Mapped → ℕ → ℕ
stays_of m r = count_below (λ s. is_some (stay_at m r s)) m.mapping.ii

abbrev pub same_kind : Kind → Kind → Bool
same_kind Wire Wire = true
same_kind Register Register = true
same_kind Port Port = true
same_kind Out Out = true
same_kind _ _ = false

-- the number of resources of a kind, and the number of slots in which these carry a value
unfoldable pub resources_of : Mapped → Kind → ℕ
resources_of m kind = count_below (λ r. same_kind (resource m.arch r).kind kind) (length m.arch.resources)

unfoldable pub taken_slots : Mapped → Kind → ℕ
taken_slots m kind = sum_below (λ r. if same_kind (resource m.arch r).kind kind then stays_of m r else 0) (length m.arch.resources)
