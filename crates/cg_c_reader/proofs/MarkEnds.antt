-- The last byte of a mark is not 0, which stands behind the end of bytes.
use Rattle.std.proofs.Common.{◌≡◌, ℕ, zero, suc, ◌<◌, true, arith}
use Rattle.cg_c_syntax.specs.Pieces.{is_mark_of_three, is_mark_of_two}

pub mark_of_three_ends : (a b c : ℕ) → is_mark_of_three a b c ≡ true → 0 < c
mark_of_three_ends a b zero h = cc
mark_of_three_ends a b (suc c) h = omega arith

pub mark_of_two_ends : (a b : ℕ) → is_mark_of_two a b ≡ true → 0 < b
mark_of_two_ends a zero h = cc
mark_of_two_ends a (suc b) h = omega arith
