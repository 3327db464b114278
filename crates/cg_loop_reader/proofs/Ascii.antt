-- Names are texts of ASCII.
use Rattle.std.proofs.Common.{◌≡◌, ℕ, zero, suc, ◌<◌, ◌&&◌, ◌||◌, ⊎_elim, true, List, [], ◌∷◌, arith}
use Rattle.std.specs.Prelude.{not, nat_le, nat_lt, length, slice_index, eqb}
use Rattle.std.specs.List.{list_all}
use Rattle.std.specs.Str.{IsUtf8, IsAscii}
use Rattle.std.proofs.lemmas.Bool.{and_parts, or_cases, leb-true, eqb-true}
use Rattle.std.proofs.lemmas.Str.{IsUtf8-from_ascii}
use Rattle.cg_model.specs.Names.{between, begins_name, within_name, is_identifier}
use Rattle.cg_loop_syntax.specs.Well.{is_loop_name, is_keyword, is_op_name}

between_low : (low high b : ℕ) → high < 128 → between low high b ≡ true → b < 128
between_low low high b h e = let most = leb-true b high (and_parts (nat_le low b) (nat_le b high) e).1 in omega arith

begins_low : (b : ℕ) → begins_name b ≡ true → b < 128
begins_low b e =
    ⊎_elim (λ x. between_low 65 90 b (omega arith) x)
    (λ y. ⊎_elim (λ x. between_low 97 122 b (omega arith) x) (λ x. let same = eqb-true b 95 x in omega arith) (or_cases (between 97 122 b) (eqb b 95) y))
    (or_cases (between 65 90 b) (between 97 122 b || eqb b 95) e)

within_low : (b : ℕ) → within_name b ≡ true → b < 128
within_low b e = ⊎_elim (λ x. begins_low b x) (λ x. between_low 48 57 b (omega arith) x) (or_cases (begins_name b) (between 48 57 b) e)

all_ascii : (bs : List ℕ) → list_all within_name bs ≡ true → IsAscii bs
all_ascii [] h i = omega arith
all_ascii (b ∷ bs) h zero = within_low b (and_parts (within_name b) (list_all within_name bs) h).0
all_ascii (b ∷ bs) h (suc i) = all_ascii bs (and_parts (within_name b) (list_all within_name bs) h).1 i

-- a name is a text
pub name_utf8 : (bs : List ℕ) → is_loop_name bs ≡ true → IsUtf8 bs
name_utf8 bs e =
    let is = (and_parts (is_identifier bs) (not (is_keyword bs || is_op_name bs)) e).0 in
    let rest = (and_parts (nat_lt 0 (length bs)) (begins_name (slice_index bs 0) && list_all within_name bs) is).1 in
    IsUtf8-from_ascii bs (all_ascii bs (and_parts (begins_name (slice_index bs 0)) (list_all within_name bs) rest).1)
