-- Tables that grow row by row.
use Rattle.std.proofs.Common.{◌≡◌, ℕ, ◌+◌, List, [], ◌∷◌, ◌++◌, map, sym, ap, ◌∙◌, arith}
use Rattle.std.specs.List.{range_with_len}
use Rattle.std.proofs.lemmas.List.FromFn.{map-range_with_len_more}

pub row_more : {X : Type 0} (f : ℕ → X) (n : ℕ) (old new : List X) (x : X) → old ≡ map f (range_with_len 0 n) → new ≡ old ++ x ∷ [] → x ≡ f n → new ≡ map f (range_with_len 0 (n + 1))
row_more f n old new x e g h = g ∙ ap (λ z. z ++ x ∷ []) e ∙ ap (λ z. map f (range_with_len 0 n) ++ z ∷ []) h ∙ sym (map-range_with_len_more f 0 n n (omega arith))
