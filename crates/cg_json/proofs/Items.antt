-- Items that are made one by one are plain.
use Rattle.std.proofs.Common.{◌≡◌, ℕ, zero, suc, List, [], ◌∷◌, map, Some, refl}
use Rattle.std.specs.Prelude.{slice_get}
use Rattle.serde_json.specs.Data.{Data}
use Rattle.serde_json.specs.View.{items_of}
use Rattle.cg_json.specs.Plain.{IsPlain, ArePlain}

pub ArePlain-map : {X : Type 0} (f : X → Data) (xs : List X) → ((i : ℕ) (x : X) → slice_get xs i ≡ Some x → IsPlain (f x)) → ArePlain (items_of (map f xs))
ArePlain-map f [] h = tt
ArePlain-map f (x ∷ xs) h = (h zero x refl, ArePlain-map f xs (λ i y at. h (suc i) y at))
