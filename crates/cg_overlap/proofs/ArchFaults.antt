-- Architectures that aren't valid, each for one fault of the table.
use Rattle.std.proofs.Common.{◌≡◌, ℕ, ◌<◌, ◌≤◌, true, false, List, [], ◌∷◌, replicate, refl, arith}
use Rattle.std.specs.Prelude.{codes}
use Rattle.cg_word.specs.declared.op.Op.TheVariants.{Iter, Select}
use Rattle.cg_model.specs.declared.array.Kind.{Kind}
use Rattle.cg_model.specs.declared.array.Kind.TheVariants.{Wire, Register, Port, Out}
use Rattle.cg_model.specs.declared.array.Unit.{Unit}
use Rattle.cg_model.specs.Array.{Arch, IsArch}
use Rattle.cg_overlap.proofs.Tests.{has, has_of}

-- a tile of one register, with that name, kind and drivers, and one unit
abbrev tile : List ℕ → Kind → List ℕ → Unit → List ℕ → Arch
tile name kind drivers u hub = record {
  name = codes "t";
  contexts = 4;
  memory = 16;
  resources =
      record { name = name; kind = kind; drivers = drivers }
      ∷ record { name = codes "u_a"; kind = Port; drivers = 3 ∷ 0 ∷ [] }
      ∷ record { name = codes "u_b"; kind = Port; drivers = 3 ∷ [] }
      ∷ record { name = codes "u_o"; kind = Out; drivers = [] }
      ∷ [];
  units = u ∷ [];
  hub = hub;
}

abbrev u : Unit
u = record { name = codes "u"; ops = Iter ∷ []; latency = 1; ports = 1 ∷ 2 ∷ []; out = 3 }

abbrev both : List ℕ
both = 3 ∷ 0 ∷ []

-- ---- A1

too_many_resources : IsArch (record (tile (codes "r") Register both u []) { resources = replicate 4097 (record { name = codes "r"; kind = Wire; drivers = [] }) }) → ⊥
too_many_resources is = let z : 4097 ≤ 4096 = is.small.resources in omega arith

too_many_units : IsArch (record (tile (codes "r") Register both u []) { units = replicate 1025 u }) → ⊥
too_many_units is = let z : 1025 ≤ 1024 = is.small.units in omega arith

memory_too_large : IsArch (record (tile (codes "r") Register both u []) { memory = 1048577 }) → ⊥
memory_too_large is = let z : 1048577 ≤ 1048576 = is.small.memory in omega arith

-- ---- A2

name_of_architecture_begins_with_a_digit : IsArch (record (tile (codes "r") Register both u []) { name = codes "1t" }) → ⊥
name_of_architecture_begins_with_a_digit is = let z : false ≡ true = is.names.own.first in cc

register_without_name : IsArch (tile [] Register both u []) → ⊥
register_without_name is = let z : 0 < 0 = (is.names.registers 0 (omega arith) refl).some in omega arith

wire_with_a_dash : IsArch (tile (codes "w-1") Wire (3 ∷ []) u []) → ⊥
wire_with_a_dash is = let z : false ≡ true = (is.names.wires 0 (omega arith) refl).rest 1 (omega arith) in cc

unit_name_of_41_characters : IsArch (tile (codes "r") Register both (record u { name = replicate 41 97 }) []) → ⊥
unit_name_of_41_characters is = let z : 41 ≤ 40 = (is.names.units 0 (omega arith)).short in omega arith

-- ---- A3

register_named_as_a_port : IsArch (tile (codes "u_b") Register both u []) → ⊥
register_named_as_a_port is = let z : ◌≡◌ {A = ℕ} 0 2 = is.names.resources_apart 0 2 (omega arith) (omega arith) refl in omega arith

register_named_as_a_unit : IsArch (tile (codes "u") Register both u []) → ⊥
register_named_as_a_unit is = is.names.both_apart 0 0 (omega arith) (omega arith) refl

two_units_of_one_name : IsArch (record (tile (codes "r") Register both u []) { units = u ∷ u ∷ [] }) → ⊥
two_units_of_one_name is = let z : ◌≡◌ {A = ℕ} 0 1 = is.names.units_apart 0 1 (omega arith) (omega arith) refl in omega arith

-- ---- A4 to A6

driver_that_is_no_resource : IsArch (tile (codes "r") Register (9 ∷ []) u []) → ⊥
driver_that_is_no_resource is = let z : 9 < 4 = is.known 9 0 (0, omega arith, refl) in omega arith

driver_that_is_a_port : IsArch (tile (codes "r") Register (1 ∷ []) u []) → ⊥
driver_that_is_a_port is = is.from_no_port 1 0 (0, omega arith, refl) refl

wire_that_drives_itself : IsArch (tile (codes "w") Wire both u []) → ⊥
wire_that_drives_itself is = let z : is.level 0 < is.level 0 = is.rising 0 0 (1, omega arith, refl) refl in omega arith

-- ---- A7 and A8

latency_of_0 : IsArch (tile (codes "r") Register both (record u { latency = 0 }) []) → ⊥
latency_of_0 is = let z : 0 < 0 = (is.latencies 0 (omega arith)).0 in omega arith

latency_of_5 : IsArch (tile (codes "r") Register both (record u { latency = 5 }) []) → ⊥
latency_of_5 is = let z : 5 ≤ 4 = (is.latencies 0 (omega arith)).1 in omega arith

unit_of_four_ports : IsArch (tile (codes "r") Register both (record u { ports = 1 ∷ 2 ∷ 1 ∷ 2 ∷ [] }) []) → ⊥
unit_of_four_ports is = let z : 4 ≤ 3 = is.few_ports 0 (omega arith) in omega arith

unit_without_operation : IsArch (tile (codes "r") Register both (record u { ops = [] }) []) → ⊥
unit_without_operation is = let z : 0 < 0 = is.some_op 0 (omega arith) in omega arith

select_on_two_ports : IsArch (tile (codes "r") Register both (record u { ops = Select ∷ [] }) []) → ⊥
select_on_two_ports is = let z : 3 ≤ 2 = is.enough_ports 0 Select (omega arith) (0, omega arith, refl) in omega arith

no_contexts : IsArch (record (tile (codes "r") Register both u []) { contexts = 0 }) → ⊥
no_contexts is = let z : 0 < 0 = is.small.contexts.0 in omega arith

contexts_of_65 : IsArch (record (tile (codes "r") Register both u []) { contexts = 65 }) → ⊥
contexts_of_65 is = let z : 65 ≤ 64 = is.small.contexts.1 in omega arith

-- ---- A9

hub_of_a_port : IsArch (tile (codes "r") Register both u (1 ∷ [])) → ⊥
hub_of_a_port is = let z : ◌≡◌ {A = Kind} Port Register = is.hub.registers 0 (omega arith) in cc

register_twice_in_the_hub : IsArch (tile (codes "r") Register both u (0 ∷ 0 ∷ [])) → ⊥
register_twice_in_the_hub is = let z : ◌≡◌ {A = ℕ} 0 1 = is.hub.once 0 1 (omega arith) (omega arith) refl in omega arith

hub_without_an_out : IsArch (tile (codes "r") Register (0 ∷ []) u (0 ∷ [])) → ⊥
unfolding has
hub_without_an_out is = let z : false ≡ true = has_of (0 ∷ []) 3 (is.hub.from_units 0 0 (omega arith) (omega arith)) in cc

hub_register_that_does_not_drive_itself : IsArch (tile (codes "r") Register (3 ∷ []) u (0 ∷ [])) → ⊥
unfolding has
hub_register_that_does_not_drive_itself is = let z : false ≡ true = has_of (3 ∷ []) 0 (is.hub.from_hub 0 0 (omega arith) (omega arith)) in cc

-- the second port has the out alone
port_without_the_hub : IsArch (tile (codes "r") Register both u (0 ∷ [])) → ⊥
unfolding has
port_without_the_hub is = let z : false ≡ true = has_of (3 ∷ []) 0 (is.hub.to_ports 0 0 1 (omega arith) (omega arith) (omega arith)) in cc
