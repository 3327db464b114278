-- Steps of loops, and parts of texts.
use Rattle.std.proofs.Common.{◌≡◌, ℕ, ◌+◌, ◌<◌, ◌≤◌, List, ◌++◌, length, get_or, Result, ap, subst, ◌∙◌, arith}
use Rattle.std.specs.Prelude.{OnOk, Ok, Err, is_ok, if◌then◌else◌}
use Rattle.std.specs.Ordering.{ord_max, nat_cmp}
use Rattle.std.proofs.lemmas.List.{get_or_read}
use Rattle.cg_list_laws.specs.Below.{greatest_below}
use Rattle.cg_list_laws.proofs.Gathered.{larger, greater}
pub use Rattle.cg_list_laws.proofs.Gathered.{none_great}
pub use Rattle.cg_list_laws.proofs.Grown.{grown, unbegun, joined}

-- the greatest number, at a step of a loop
pub greater_yet : (f : ℕ → ℕ) (n old here next : ℕ) → old ≡ greatest_below f n → here ≡ f n → next ≡ ord_max nat_cmp old here → next ≡ greatest_below f (n + 1)
greater_yet f n old here next so_far is e = greater f n old here next so_far is (e ∙ larger old here)

-- it is at most what all are
pub no_greater : (most old here next : ℕ) → old ≤ most → here ≤ most → next ≡ ord_max nat_cmp old here → next ≤ most
no_greater most old here next so_far is e = let m = larger old here in omega arith

-- a part under another name, where it is there
pub renamed : (old new part whole : List ℕ) → new ≡ old ++ part → part ≡ whole → new ≡ old ++ whole
renamed old new part whole here e = here ∙ ap (λ z. old ++ z) e

-- and where it may be
pub same_part : {T E : Type 0} (r : Result T E) (old new part whole : List ℕ) → part ≡ whole → OnOk r (new ≡ old ++ part) → OnOk r (new ≡ old ++ whole)
same_part r old new part whole e here = subst (λ z. OnOk r (new ≡ old ++ z)) e here

-- an item of a list, as another one has it
pub item_is : {T : Type 0} (xs ys : List T) (i : ℕ) (x d : T) → xs ≡ ys → i < length xs → x ≡ get_or xs i x → x ≡ get_or ys i d
item_is xs ys i x d same within is = get_or_read xs i x within is d ∙ ap (λ zs. get_or zs i d) same

-- bytes that are added at the end of a function, under another name
pub added : {T E : Type 0} (r : Result T E) (old new bytes said text : List ℕ) → new ≡ (if is_ok r then old ++ bytes else old) → bytes ≡ said → said ≡ text → OnOk r (new ≡ old ++ text)
added (Ok x) old new bytes said text here is e = here ∙ ap (λ z. old ++ z) is ∙ ap (λ z. old ++ z) e
added (Err x) old new bytes said text here is e = tt
