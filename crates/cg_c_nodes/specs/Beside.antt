-- What the turns of a kernel do, beside the draft of a turn.
use Rattle.std.specs.Prelude.{◌≡◌, ℕ, suc, ◌+◌, ◌*◌, ◌<◌, if◌then◌else◌, true, List, [], ◌∷◌, Contains, slice_index}
use Rattle.cg_model.specs.Kernel.{Kernel, IsKernel, size}
use Rattle.cg_model.specs.Turns.{turns, work}
use Rattle.cg_model.specs.Work.{Image, IsImage, Reaches}
use Rattle.cg_c_values.specs.Values.{Moment, Words, holds}
use Rattle.cg_c_turn.specs.declared.effect.Effect.{Effect}
use Rattle.cg_c_turn.specs.declared.effect.Effect.TheVariants.{Load, Store, Send}
use Rattle.cg_c_order.specs.declared.access.Access.{Access}
use Rattle.cg_c_turn.specs.Draft.{Draft, initial_in}
use Rattle.cg_c_turn.specs.Leads.{Outcome, Leads, IsInside, sent_to, stored_at}
use Rattle.cg_c_turn.specs.Stands.{IsFormed, Runs, word_in}
use Rattle.cg_c_turn.specs.Turn.{HasArrays}
use Rattle.cg_c_nodes.specs.Placed.{AreListed, IsPlaced, Placing}

-- the memory and the output streams after t turns
abbrev pub outcome : Kernel → Image → ℕ → Outcome
outcome K image t = record { memory = (turns K t image).memory; outputs = (turns K t image).streams }

-- where a word is reached in turn t, by node v, one of these accesses is in its array
abbrev pub AreInside : Draft → Kernel → Image → List Access → (t : ℕ) → Type 0
AreInside d K image accesses t =
    (v a : ℕ) → v < size K → Reaches (work K image (t * size K + v)) a →
    (access : Access) × Contains accesses access × (access.node ≡ v) × IsInside d.arrays access.array a

-- where E gives the words of values, these effects, done one after another, lead from the outcome m to n, and each load that
-- acts finds the word of its value
unfoldable pub LeadTo : Words → List Effect → (m n : Outcome) → Type 0
LeadTo E [] m n = (n.memory ≡ m.memory) × ((port : ℕ) → n.outputs port ≡ m.outputs port)
LeadTo E (Load guard array address value place ∷ further) m n =
    (holds E guard ≡ true → E value ≡ slice_index m.memory (E address)) × LeadTo E further m n
LeadTo E (Store guard array address word place ∷ further) m n =
    LeadTo E further (if holds E guard then stored_at m (E address) (E word) else m) n
LeadTo E (Send guard port word ∷ further) m n =
    LeadTo E further (if holds E guard then sent_to m port (E word) else m) n

-- turn t does the draft's effects, with no access outside the memory
pub record DoesTurn (d : Draft) (K : Kernel) (image : Image) (accesses : List Access) (t : ℕ) (E : Words) : Type 0 where
  pub leads : LeadTo E d.effects (outcome K image t) (outcome K image (suc t))
  pub outside : (turns K (suc t) image).outside ≡ (turns K t image).outside
  pub inside : AreInside d K image accesses t

-- nothing is claimed of the outcome
abbrev pub Whatever : Outcome → Type 0
Whatever n = Unit {0}

-- in each of `count` turns of the kernel the draft's values have words that fit, and where the accesses of the draft's
-- effects are inside their arrays, the turn does these effects
pub record RunsBeside (d : Draft) (K : Kernel) (image : Image) (accesses : List Access) (count : ℕ) : Type 0 where
  pub moment : ℕ → Moment
  pub words : ℕ → Words
  pub turn : (t : ℕ) → (moment t).turn ≡ t
  pub streams : (t : ℕ) → (moment t).streams ≡ image.streams
  pub begins : (number : ℕ) → (moment 0).carried number ≡ initial_in d number
  pub next : (t number : ℕ) → (moment (suc t)).carried number ≡ word_in (moment t) (words t) d number
  pub runs : (t : ℕ) → t < count → Runs d (moment t) (words t)
  pub does : (t : ℕ) → t < count → HasArrays d.arrays (turns K t image).memory →
      Leads d.arrays (words t) d.effects (outcome K image t) Whatever → DoesTurn d K image accesses t (words t)

-- so it is where the values and effects have their nodes
abbrev pub TurnsRunBeside : Type 0
TurnsRunBeside = (d : Draft) (count : ℕ) (P : Placing) (accesses : List Access) (image : Image) →
    IsFormed d → IsPlaced d count P → AreListed d P accesses → IsKernel P.kernel → IsImage image →
    RunsBeside d P.kernel image accesses count
