-- Floats in items that are made one by one, and how deep they are.
use Rattle.std.proofs.Common.{◌≡◌, ℕ, ◌≤◌, ◌||◌, List, [], ◌∷◌, map, false, refl, ap, ◌∙◌, arith}
use Rattle.serde_json.specs.Data.{Data, depth, items_depth}
use Rattle.serde_json.specs.View.{items_of}
use Rattle.serde_json.specs.Written.{has_float, items_have_float}

pub items_no_float : {X : Type 0} (f : X → Data) (xs : List X) → ((x : X) → has_float (f x) ≡ false) → items_have_float (items_of (map f xs)) ≡ false
items_no_float f [] h = refl
items_no_float f (x ∷ xs) h = ap (λ b. b || items_have_float (items_of (map f xs))) (h x) ∙ items_no_float f xs h

pub items_depth-at_most : {X : Type 0} (f : X → Data) (m : ℕ) (xs : List X) → ((x : X) → depth (f x) ≤ m) → items_depth (items_of (map f xs)) ≤ m
items_depth-at_most f m [] h = omega arith
items_depth-at_most f m (x ∷ xs) h = let here = h x in let rest = items_depth-at_most f m xs h in omega (arith, here, rest)
