-- Lists that are read behind their ends.
use Rattle.std.proofs.Common.{◌≡◌, ℕ, zero, suc, List, [], ◌∷◌, ◌++◌, Option, None, slice_index_or, refl}

-- what stands behind the last element is as if it weren't there
pub pushed_default : {X : Type 0} (xs : List X) (d : X) (n : ℕ) → slice_index_or (xs ++ d ∷ []) n d ≡ slice_index_or xs n d
pushed_default [] d zero = refl
pushed_default [] d (suc n) = refl
pushed_default (x ∷ xs) d zero = refl
pushed_default (x ∷ xs) d (suc n) = pushed_default xs d n

-- a word behind the last one was not assigned
pub pushed_none : (ws : List (Option ℕ)) (n : ℕ) → slice_index_or (ws ++ None ∷ []) n None ≡ slice_index_or ws n None
pushed_none ws n = pushed_default ws None n
