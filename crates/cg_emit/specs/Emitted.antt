-- What the emitted bytes do: the overlap theorem for the configuration that they encode.
use Rattle.std.specs.Prelude.{◌≡◌, ℕ, ◌+◌, ◌*◌, ◌<◌, ◌⊎◌, List, length, Some}
use Rattle.cg_model.specs.Work.{Image, Work}
use Rattle.cg_model.specs.Kernel.{Kernel, size}
use Rattle.cg_model.specs.Turns.{work, val, turns, turns_left}
use Rattle.cg_model.specs.Order.{IsUnaliased, HasNoAccess}
use Rattle.cg_model.specs.Array.{Arch}
use Rattle.cg_model.specs.Mapping.{Mapping, Carries, Begins}
use Rattle.cg_model.specs.Config.{Config}
use Rattle.cg_model.specs.Machine.{word, begins, result, machine, machine_left}
use Rattle.cg_bits.specs.Spelling.{AreBits}

-- the array that runs a configuration for n iterations on an image does what the kernel's iterations do one after the
-- other
pub record DoesTurns (A : Arch) (K : Kernel) (M : Mapping) (C : Config) (n : ℕ) (image : Image) : Type 0 where
  -- the word of a resource that carries the value of a node in an iteration is this value
  pub words : (r c v i : ℕ) → Carries A K M r c v i → i < n → word A C n image r c ≡ val K image v i
  -- the unit that begins a node in an iteration begins the iteration's operation, on the iteration's operands
  pub starts : (x c v i : ℕ) → Begins K M x c v i → i < n →
      begins A C n image x c ≡ Some (work K image (i * size K + v))
  -- and its result is the iteration's value
  pub results : (x c v i : ℕ) → Begins K M x c v i → i < n → result A C n image x c ≡ val K image v i
  -- units begin nothing else
  pub nothing_else : (x c : ℕ) (w : Work) → x < length A.units → begins A C n image x c ≡ Some w →
      (v : ℕ) × (i : ℕ) × (i < n) × Begins K M x c v i
  -- in the end there are the memory, the sixteen output streams and the number of accesses outside the memory that the
  -- iterations leave
  pub memory : (machine A C n image).memory ≡ (turns K n image).memory
  pub streams : (port : ℕ) → (machine A C n image).streams port ≡ (turns K n image).streams port
  pub outside : (machine A C n image).outside ≡ (turns K n image).outside
  pub all : machine_left A C n image ≡ turns_left K n image

-- whatever configuration the bytes encode: its run does the iterations, for every number of iterations and every image
-- on which the kernel's edges order the accesses that matter; and for every image if no node accesses the memory
abbrev pub RunLikeTurns : Arch → Kernel → Mapping → List ℕ → Type 0
RunLikeTurns A K M bytes =
    (C : Config) → AreBits A C bytes → (n : ℕ) (image : Image) → IsUnaliased K n image ⊎ HasNoAccess K →
    DoesTurns A K M C n image
