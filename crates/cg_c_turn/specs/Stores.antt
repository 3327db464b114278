-- What an assignment to an element has to show.
use Rattle.std.specs.Prelude.{◌≡◌, ℕ, ◌<◌, List, [], length}
use Rattle.cg_c_meaning.specs.Meaning.{loaded, stored}
use Rattle.cg_c_turn.specs.Draft.{Draft, Effect}
use Rattle.cg_c_turn.specs.Leads.{IsInside}
use Rattle.cg_c_turn.specs.Pieces.{Steps, Yields}
use Rattle.cg_c_turn.specs.Stands.{Performs, sent_ports}

-- v is the value of what f makes of the word that is at an address in an array, and of the word of the value `new`
pub record Changes (before after : Draft) (added : List Effect) (array address : ℕ) (f : (old new : ℕ) → ℕ) (new v : ℕ) : Type 0 where
  pub steps : Steps before after added
  pub within : v < length after.values
  pub yields : (at : ℕ) → Yields before after added (λ E. (E address ≡ at) × IsInside before.arrays array at) (λ c. loaded at) [] (λ E old. E v ≡ f old (E new))

-- the word of a value is stored at an address in an array
pub record Stores (before after : Draft) (added : List Effect) (array address word : ℕ) : Type 0 where
  pub performs : (at w : ℕ) → Performs before after added (λ E. (E address ≡ at) × IsInside before.arrays array at × (E word ≡ w)) (λ c. stored at w) []
  pub initial : after.initial ≡ before.initial
  pub silent : sent_ports added ≡ []
