-- The words of one cycle, found one after the other.
use Rattle.std.specs.Prelude.{◌≡◌, ℕ, ◌+◌, ◌<◌, List, length, slice_index}
use Rattle.cg_config.specs.Known.{HasSelect}
use Rattle.cg_model.specs.Config.{Config, select}
use Rattle.cg_sim.specs.declared.plan.Links.{Links}
use Rattle.cg_sim.specs.declared.plan.Plan.{Plan}
use Rattle.cg_datapath.specs.Course.{Keeps}
use Rattle.cg_sim.specs.Plan.{link}

-- the resource from which entry j takes its word
abbrev pub chosen : Config → ℕ → Links → ℕ → ℕ
chosen C slot l j =
    slice_index l.drivers.items ((link l.entries.items j).first + select C (link l.entries.items j).resource slot)

-- entry j can be read
pub record IsReadable (C : Config) (slot : ℕ) (l : Links) (size j : ℕ) : Type 0 where
  pub has : HasSelect C (link l.entries.items j).resource slot
  pub within : (link l.entries.items j).first + select C (link l.entries.items j).resource slot < length l.drivers.items
  pub driver : chosen C slot l j < size
  pub resource : (link l.entries.items j).resource < size

abbrev pub AreReadable : Config → ℕ → Links → ℕ → Type 0
AreReadable C slot l size = (j : ℕ) → j < length l.entries.items → IsReadable C slot l size j

-- entry j has the right word as soon as the entries before it have theirs
abbrev pub Follows : Config → ℕ → Links → List ℕ → (ℕ → ℕ) → ℕ → Type 0
Follows C slot l old f j = (words : List ℕ) → Keeps f old words →
    ((i : ℕ) → i < j → slice_index words (link l.entries.items i).resource ≡ f (link l.entries.items i).resource) →
    slice_index words (chosen C slot l j) ≡ f (link l.entries.items j).resource

-- all entries of a plan can be read
pub record CanSettle (C : Config) (slot : ℕ) (p : Plan) (size : ℕ) : Type 0 where
  pub registers : AreReadable C slot p.registers size
  pub nets : AreReadable C slot p.nets size

-- the first i entries have their words
abbrev pub AreRight : Links → ℕ → List ℕ → (ℕ → ℕ) → Type 0
AreRight l i words f =
    (j : ℕ) → j < i → slice_index words (link l.entries.items j).resource ≡ f (link l.entries.items j).resource

-- the words before give the registers theirs
abbrev pub GiveRegisters : Config → ℕ → Links → List ℕ → (ℕ → ℕ) → Type 0
GiveRegisters C slot l before f = (j : ℕ) → j < length l.entries.items →
    slice_index before (chosen C slot l j) ≡ f (link l.entries.items j).resource

-- each wire and port follows
abbrev pub GiveNets : Config → ℕ → Links → List ℕ → (ℕ → ℕ) → Type 0
GiveNets C slot l old f = (j : ℕ) → j < length l.entries.items → Follows C slot l old f j

-- the words f are those of the cycle: for a register by the words of the cycle before, and for a wire or port by the
-- words of the entries before it
pub record Settles (C : Config) (slot : ℕ) (p : Plan) (before old : List ℕ) (f : ℕ → ℕ) : Type 0 where
  pub registers : GiveRegisters C slot p.registers before f
  pub nets : (j : ℕ) → j < length p.nets.entries.items → (words : List ℕ) → Keeps f old words →
      AreRight p.registers (length p.registers.entries.items) words f →
      AreRight p.nets j words f → slice_index words (chosen C slot p.nets j) ≡ f (link p.nets.entries.items j).resource

-- all entries have their words
pub record IsSettled (p : Plan) (old new : List ℕ) (f : ℕ → ℕ) : Type 0 where
  pub kept : Keeps f old new
  pub registers : AreRight p.registers (length p.registers.entries.items) new f
  pub nets : AreRight p.nets (length p.nets.entries.items) new f
