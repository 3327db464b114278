-- Steps of loops, products that fit, and words at a place.
use Rattle.std.proofs.Common.{◌≡◌, ℕ, ◌+◌, ◌*◌, ◌≤◌, max, List, ◌++◌, refl, append_assoc, sym, ap, ◌∙◌, arith}
use Rattle.std.specs.Prelude.{codes}
use Rattle.std.specs.Ordering.{ord_max, nat_cmp}
use Rattle.std.proofs.lemmas.Grind.{common_steps}
use Rattle.std.proofs.Math.Nat.{mul-le-mul}
use Rattle.cg_list_laws.specs.Below.{greatest_below}
use Rattle.cg_list_laws.proofs.Below.{greatest_below-more}
use Rattle.cg_layout.specs.Svg.{words_head, words_text}
pub use Rattle.cg_list_laws.proofs.Grown.{grown_alone, begun, grown, unbegun, ended, unchanged, joined}

pub greatest_more : (f : ℕ → ℕ) (n most next : ℕ) → most ≡ greatest_below f n → next ≡ max most (f n) → next ≡ greatest_below f (n + 1)
greatest_more f n most next so_far here = here ∙ ap (λ z. max z (f n)) so_far ∙ sym (greatest_below-more f n)

pub greatest_none : (f : ℕ → ℕ) → 0 ≡ greatest_below f 0
unfolding greatest_below
greatest_none f = refl

-- the product of a panel's height and a number of rows
pub product_few : (a b : ℕ) → a ≤ 4294967335 → b ≤ 22 → a * b ≤ 4294967335 * 22
product_few a b p q = mul-le-mul p q

-- the greater of two numbers, as the program finds it
pub greater_is : (a b : ℕ) → ord_max nat_cmp a b ≡ max a b
greater_is a b = grind (arith, common_steps)

-- the same words at the same place
pub same_words : (cls old new : List ℕ) (x u y : ℕ) (words said : List ℕ) → new ≡ old ++ words_text cls x y words → x ≡ u → words ≡ said → new ≡ old ++ words_text cls u y said
same_words cls old new x u y words said here at is =
    here ∙ ap (λ z. old ++ words_text cls z y words) at ∙ ap (λ z. old ++ words_text cls u y z) is

-- words behind their head
pub headed : (cls : List ℕ) (x y : ℕ) (words : List ℕ) → words_head cls x y ++ (words ++ codes "</text>") ≡ words_text cls x y words
headed cls x y words = simp append_assoc
