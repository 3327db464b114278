-- What the effects of a turn lead to.
use Rattle.std.specs.Prelude.{◌≡◌, ℕ, ◌+◌, ◌<◌, ◌≤◌, if◌then◌else◌, true, List, [], ◌∷◌, ◌++◌, length, None, slice_index, slice_index_or, slice_set}
use Rattle.cg_c_check.specs.declared.program.Array.{Array}
use Rattle.cg_c_check.specs.Arrays.{size_of}
use Rattle.cg_c_values.specs.Values.{Words, holds}
use Rattle.cg_c_meaning.specs.Meaning.{updated}
use Rattle.cg_c_turn.specs.Draft.{Effect, Load, Store, Send}

-- the memory and the output streams at a point of a run
pub record Outcome : Type 0 where
  pub memory : List ℕ
  pub outputs : ℕ → List ℕ

abbrev pub array_of : List Array → ℕ → Array
array_of arrays number = slice_index_or arrays number (record { name = []; dimensions = []; start = 0; table = None })

-- an address inside the array of a number
pub record IsInside (arrays : List Array) (number address : ℕ) : Type 0 where
  pub there : number < length arrays
  pub from : (array_of arrays number).start ≤ address
  pub below : address < (array_of arrays number).start + size_of (array_of arrays number).dimensions

abbrev pub stored_at : Outcome → (address word : ℕ) → Outcome
stored_at m address word = record m { memory = slice_set m.memory address word }

abbrev pub sent_to : Outcome → (port word : ℕ) → Outcome
sent_to m port word = record m { outputs = updated m.outputs port (m.outputs port ++ word ∷ []) }

-- where E gives the words of values, these effects, one after another, lead from the outcome m to one of which Q holds:
-- each access that acts is inside its array; and Q is only claimed where each load that acts finds the word of its value
unfoldable pub Leads : List Array → Words → List Effect → Outcome → (Q : Outcome → Type 0) → Type 0
Leads arrays E [] m Q = Q m
Leads arrays E (Load guard array address value place ∷ further) m Q =
    (holds E guard ≡ true → IsInside arrays array (E address))
    × ((holds E guard ≡ true → E value ≡ slice_index m.memory (E address)) → Leads arrays E further m Q)
Leads arrays E (Store guard array address word place ∷ further) m Q =
    (holds E guard ≡ true → IsInside arrays array (E address))
    × Leads arrays E further (if holds E guard then stored_at m (E address) (E word) else m) Q
Leads arrays E (Send guard port word ∷ further) m Q =
    Leads arrays E further (if holds E guard then sent_to m port (E word) else m) Q
