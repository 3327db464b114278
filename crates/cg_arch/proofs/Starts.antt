-- Where selects and units begin.
use Rattle.std.proofs.Common.{◌≡◌, ℕ, suc, ◌+◌, ◌-◌, ◌<◌, ◌≤◌, List, length, get_or, ap, ◌∙◌, arith}
use Rattle.std.specs.List.{range_with_len}
use Rattle.std.proofs.lemmas.List.FromFn.{length-map-range_with_len, get_or-map-range_with_len}
use Rattle.cg_model.specs.Array.{Arch}
use Rattle.cg_flat.specs.Slots.{total, select_at, select_bits, unit_at, all_select_at, all_unit_at}

pub select_long : (A : Arch) → length (all_select_at A) ≡ length A.resources + 1
unfolding all_select_at
select_long A = length-map-range_with_len (select_at A) 0 (length A.resources + 1)

pub select_get : (A : Arch) (r : ℕ) → r < length A.resources + 1 → get_or (all_select_at A) r 0 ≡ select_at A r
unfolding all_select_at
select_get A r h = get_or-map-range_with_len (select_at A) 0 (length A.resources + 1) r r 0 h (omega arith)

select_next : (A : Arch) (r : ℕ) → select_at A (r + 1) ≡ select_at A r + select_bits A r
unfolding total
select_next A r = let next : r + 1 ≡ suc r = omega arith in ap (select_at A) next

-- a select ends where the next one begins
pub select_between : (A : Arch) (r : ℕ) (starts : List ℕ) → starts ≡ all_select_at A → r < length A.resources →
    (get_or starts r 0 ≤ get_or starts (r + 1) 0) × (get_or starts (r + 1) 0 - get_or starts r 0 ≡ select_bits A r)
select_between A r starts are within =
    let here : get_or starts r 0 ≡ select_at A r = ap (λ xs. get_or xs r 0) are ∙ select_get A r (omega arith) in
    let there : get_or starts (r + 1) 0 ≡ select_at A (r + 1) = ap (λ xs. get_or xs (r + 1) 0) are ∙ select_get A (r + 1) (omega arith) in
    let next = select_next A r in
    (omega arith, omega arith)

pub unit_long : (A : Arch) → length (all_unit_at A) ≡ length A.units + 1
unfolding all_unit_at
unit_long A = length-map-range_with_len (unit_at A) 0 (length A.units + 1)

pub unit_get : (A : Arch) (x : ℕ) → x < length A.units + 1 → get_or (all_unit_at A) x 0 ≡ unit_at A x
unfolding all_unit_at
unit_get A x h = get_or-map-range_with_len (unit_at A) 0 (length A.units + 1) x x 0 h (omega arith)
