-- Sets of operations as numbers.
use Rattle.std.proofs.Common.{◌≡◌, ◌-◌, ◌^◌, ◌<◌, ◌≤◌, true, eqb, List, [], ◌∷◌, length, get_or, refl, ap, arith}
use Rattle.std.proofs.lemmas.Bool.{cond_both, cond-true, eq-eqb}
use Rattle.std.proofs.lemmas.List.Sums.{sum_by-le, sum_by_more_le}
use Rattle.cg_word.specs.declared.op.Op.{Op}
use Rattle.cg_word.specs.declared.op.Op.TheVariants.{Const, Iter, Input, Add, Sub, Mul, And, Or, Xor, Shl, Shr, Sar, Eq, Ne, Lts, Ltu, Mins, Maxs, Select, Load, Store, Output, LoadIf, StoreIf, OutputIf}
use Rattle.cg_word.specs.Word.{code, all_ops}
use Rattle.cg_word.specs.Sets.{among}
use Rattle.cg_netlist.specs.Netlist.{bit_of, code_bit, bits_of}

low : (op : Op) → code_bit op ≤ 33554432
low Const = omega arith
low Iter = omega arith
low Input = omega arith
low Add = omega arith
low Sub = omega arith
low Mul = omega arith
low And = omega arith
low Or = omega arith
low Xor = omega arith
low Shl = omega arith
low Shr = omega arith
low Sar = omega arith
low Eq = omega arith
low Ne = omega arith
low Lts = omega arith
low Ltu = omega arith
low Mins = omega arith
low Maxs = omega arith
low Select = omega arith
low Load = omega arith
low Store = omega arith
low Output = omega arith
low LoadIf = omega arith
low StoreIf = omega arith
low OutputIf = omega arith

-- the bit is there
some : (op : Op) → 0 < code_bit op
some Const = omega arith
some Iter = omega arith
some Input = omega arith
some Add = omega arith
some Sub = omega arith
some Mul = omega arith
some And = omega arith
some Or = omega arith
some Xor = omega arith
some Shl = omega arith
some Shr = omega arith
some Sar = omega arith
some Eq = omega arith
some Ne = omega arith
some Lts = omega arith
some Ltu = omega arith
some Mins = omega arith
some Maxs = omega arith
some Select = omega arith
some Load = omega arith
some Store = omega arith
some Output = omega arith
some LoadIf = omega arith
some StoreIf = omega arith
some OutputIf = omega arith

-- each operation stands at its code
at_code : (op : Op) → (code op - 1 < 25) × (get_or all_ops (code op - 1) Const ≡ op)
at_code Const = (omega arith, refl)
at_code Iter = (omega arith, refl)
at_code Input = (omega arith, refl)
at_code Add = (omega arith, refl)
at_code Sub = (omega arith, refl)
at_code Mul = (omega arith, refl)
at_code And = (omega arith, refl)
at_code Or = (omega arith, refl)
at_code Xor = (omega arith, refl)
at_code Shl = (omega arith, refl)
at_code Shr = (omega arith, refl)
at_code Sar = (omega arith, refl)
at_code Eq = (omega arith, refl)
at_code Ne = (omega arith, refl)
at_code Lts = (omega arith, refl)
at_code Ltu = (omega arith, refl)
at_code Mins = (omega arith, refl)
at_code Maxs = (omega arith, refl)
at_code Select = (omega arith, refl)
at_code Load = (omega arith, refl)
at_code Store = (omega arith, refl)
at_code Output = (omega arith, refl)
at_code LoadIf = (omega arith, refl)
at_code StoreIf = (omega arith, refl)
at_code OutputIf = (omega arith, refl)

bit_low : (ops : List Op) (op : Op) → bit_of ops op ≤ 33554432
bit_low ops op = cond_both (among ops op) (code_bit op) 0 (λ n. n ≤ 33554432) (λ e. low op) (λ e. omega arith)

-- the number of a set fits eight hexadecimal digits
pub bits_below : (ops : List Op) → bits_of ops < 2 ^ 32
unfolding bits_of
bits_below ops = let most = sum_by-le (bit_of ops) 33554432 all_ops (λ k d h. bit_low ops (get_or all_ops k d)) in omega (arith, most)

-- that of a set with an operation isn't 0
pub bits_some : (ops : List Op) → 0 < length ops → 0 < bits_of ops
unfolding bits_of
bits_some [] h = absurd (omega arith)
bits_some (op ∷ ops) h =
    let place = at_code op in
    let is : bit_of (op ∷ ops) op ≡ code_bit op = cond-true (among (op ∷ ops) op) (code_bit op) 0 (cond-true (eqb (code op) (code op)) true (among ops op) (eq-eqb (code op) (code op) refl)) in
    let most = sum_by_more_le (bit_of (op ∷ ops)) all_ops (code op - 1) Const place.0 in
    let same : bit_of (op ∷ ops) (get_or all_ops (code op - 1) Const) ≡ bit_of (op ∷ ops) op = ap (bit_of (op ∷ ops)) place.1 in
    let has = some op in
    omega (arith, most, same, is, has)
