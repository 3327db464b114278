-- Lists that grow by one item.
use Rattle.std.proofs.Common.{◌≡◌, ℕ, zero, suc, ◌+◌, ◌<◌, ◌≤◌, List, [], ◌∷◌, ◌++◌, map, flat_map, take, length, get_or, ap, ◌∙◌, arith, append-nil}
use Rattle.std.specs.List.{range_with_len}
use Rattle.std.proofs.lemmas.Grind.{flat_map-append}
use Rattle.std.proofs.lemmas.List.{take_more, get_or_default}
use Rattle.std.proofs.lemmas.List.FromFn.{map-range_with_len_more}
use Rattle.cg_model.specs.declared.array.Resource.{Resource}
use Rattle.cg_model.specs.Array.{links}
use Rattle.cg_flat.specs.Slots.{total}

pub flat_map-more : {X Y : Type 0} (f : X → List Y) (xs : List X) (k : ℕ) (d : X) → k < length xs → flat_map f (take (k + 1) xs) ≡ flat_map f (take k xs) ++ f (get_or xs k d)
flat_map-more f xs k d h = ap (flat_map f) (take_more xs k d h) ∙ flat_map-append f (take k xs) (get_or xs k d ∷ []) ∙ ap (λ ys. flat_map f (take k xs) ++ ys) (append-nil (f (get_or xs k d)))

pub total-more : (f : ℕ → ℕ) (n : ℕ) → total f (n + 1) ≡ total f n + f n
unfolding total
total-more f n = let more : n + 1 ≡ suc n = omega arith in ap (total f) more

pub starts-more : (f : ℕ → ℕ) (n : ℕ) → map f (range_with_len 0 (n + 1)) ≡ map f (range_with_len 0 n) ++ f n ∷ []
starts-more f n = map-range_with_len_more f 0 n n (omega arith)

-- the drivers of one resource are among all links
pub links_of : (rs : List Resource) (k : ℕ) (d : Resource) → k < length rs → length (get_or rs k d).drivers ≤ links rs
unfolding links
links_of [] k d h = absurd (omega arith)
links_of (r ∷ rs) zero d h = omega arith
links_of (r ∷ rs) (suc k) d h = let rest = links_of rs k d (omega arith) in omega (arith, rest)

-- an item of a list that was lent
pub item_at : {X : Type 0} (xs ys : List X) (k : ℕ) (x d : X) → x ≡ get_or xs k x → xs ≡ ys → k < length xs → x ≡ get_or ys k d
item_at xs ys k x d is same h = is ∙ get_or_default xs k x d h ∙ ap (λ zs. get_or zs k d) same
