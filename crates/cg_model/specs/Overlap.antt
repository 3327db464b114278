-- What the overlap theorem says: the array, which works on several turns at once, computes what the turns compute one
-- after the other.
use Rattle.std.specs.Prelude.{◌≡◌, ℕ, ◌+◌, ◌*◌, ◌<◌, Some}
use Rattle.cg_model.specs.Work.{Image}
use Rattle.cg_model.specs.Kernel.{Kernel, size}
use Rattle.cg_model.specs.Turns.{work, val, turns, turns_left}
use Rattle.cg_model.specs.Array.{Arch}
use Rattle.cg_model.specs.Mapping.{Mapping, Carries, Begins}
use Rattle.cg_model.specs.Configured.{configuration_of}
use Rattle.cg_model.specs.Machine.{word, begins, result, machine, machine_left}

-- in a cycle a resource carries at most one value, and a unit begins at most one; a value is the value of a node in a
-- turn
pub record CarriesOne (A : Arch) (K : Kernel) (M : Mapping) : Type 0 where
  pub one_value : (r c v i w j : ℕ) → Carries A K M r c v i → Carries A K M r c w j →
      (v ≡ w) × (i ≡ j)
  pub one_start : (x c v i w j : ℕ) → Begins K M x c v i → Begins K M x c w j →
      (v ≡ w) × (i ≡ j)

-- in each of the n turns each value is where and when the mapping says: a resource that carries it has it as its word,
-- and the unit that begins it has the turn's operands as arguments and the turn's value as result
pub record Follows (A : Arch) (K : Kernel) (M : Mapping) (n : ℕ) (image : Image) : Type 0 where
  pub on_resources : (r c v i : ℕ) → Carries A K M r c v i → i < n →
      word A (configuration_of A K M) n image r c ≡ val K image v i
  pub in_units : (x c v i : ℕ) → Begins K M x c v i → i < n →
      begins A (configuration_of A K M) n image x c ≡ Some (work K image (i * size K + v))
  pub of_units : (x c v i : ℕ) → Begins K M x c v i → i < n →
      result A (configuration_of A K M) n image x c ≡ val K image v i

-- the run of the mapping's configuration leaves what n turns leave: memory, each stream, the outside count, and all of
-- them together
pub record LeavesTheSame (A : Arch) (K : Kernel) (M : Mapping) (n : ℕ) (image : Image) : Type 0 where
  pub memory : (machine A (configuration_of A K M) n image).memory ≡ (turns K n image).memory
  pub streams : (port : ℕ) →
      (machine A (configuration_of A K M) n image).streams port ≡ (turns K n image).streams port
  pub outside : (machine A (configuration_of A K M) n image).outside ≡ (turns K n image).outside
  pub all : machine_left A (configuration_of A K M) n image ≡ turns_left K n image
