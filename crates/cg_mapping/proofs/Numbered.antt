-- Numbers by names.
use Rattle.std.proofs.Common.{◌≡◌, ℕ, ◌<◌, List, length, Option, Some, String, sym, ◌∙◌, subst, arith}
use Rattle.std.specs.declared.alloc.Global.{Global}
use Rattle.indexmap.specs.IndexMap.{IndexMap}
use Rattle.cg_model.proofs.Positions.{position_from-within}
use Rattle.cg_reading.specs.Numbers.{IsNumbering, found_in, has_name}

-- a number that was found is that of an item
pub numbered_within : {S T : Type 0} (numbers : IndexMap (String Global) ℕ S) (own : T → Option (List ℕ)) (items : List T) (name : List ℕ) (k : ℕ) → IsNumbering numbers own items → found_in numbers name ≡ Some k → k < length items
numbered_within numbers own items name k is e = let h = position_from-within (λ item. has_name name (own item)) 0 items k (sym (is.found name) ∙ e) in omega (arith, h)

-- items that are the same have the same numbers
pub numbering_of : {S T : Type 0} (numbers : IndexMap (String Global) ℕ S) (own : T → Option (List ℕ)) (xs ys : List T) → xs ≡ ys → IsNumbering numbers own xs → IsNumbering numbers own ys
numbering_of {T = T} numbers own xs ys e is = let P : List T → Type 0 = λ l. IsNumbering numbers own l in subst P e is
