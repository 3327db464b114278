-- The test of names tells what a name is.
use Rattle.std.proofs.Common.{◌≡◌, ℕ, List, length, true, ap, ◌∙◌, sym}
use Rattle.std.specs.Prelude.{slice_index}
use Rattle.std.proofs.lemmas.Bool.{lt-ltb, le-leb, and_from, and_parts, ltb-true, leb-true}
use Rattle.std.proofs.lemmas.Option.{slice_get-get_or, slice_get_within, get_or_from_slice_get}
use Rattle.cg_model.specs.Names.{is_name, IsName, within_name}
use Rattle.cg_model.proofs.Elements.{all_true, list_all-each}

-- what passes the test is a name
pub is_name-IsName : (most : ℕ) (name : List ℕ) → is_name most name ≡ true → IsName most name
is_name-IsName most name e =
    let parts = and_parts _ _ e in
    let some = and_parts _ _ parts.0 in
    let first = and_parts _ _ some.1 in
    record {
      some = ltb-true 0 (length name) some.0;
      short = leb-true (length name) most parts.1;
      first = first.0;
      rest = λ k h. all_true within_name name k (slice_index name k) (slice_get-get_or name k 0 h) first.1;
    }

-- a name passes it
pub is_name-back : (most : ℕ) (name : List ℕ) → IsName most name → is_name most name ≡ true
is_name-back most name h =
    let rest = list_all-each within_name name (λ i x at. ap within_name (sym (get_or_from_slice_get name i x 0 at)) ∙ h.rest i (slice_get_within name i x at)) in
    and_from _ _ (and_from _ _ (lt-ltb 0 (length name) h.some) (and_from _ _ h.first rest)) (le-leb (length name) most h.short)
