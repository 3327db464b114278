-- The units that offer an operation, below a number.
use Rattle.std.proofs.Common.{◌≡◌, ℕ, zero, suc, ◌+◌, ◌-◌, ◌<◌, Bool, true, false, cond, List, [], ◌∷◌, ◌++◌, length, sym, ap, ◌∙◌, arith, length-append}
use Rattle.std.specs.Prelude.{filter, slice_index}
use Rattle.std.specs.List.{range_with_len}
use Rattle.std.proofs.Math.Seq.{get_or-append_seam}
use Rattle.std.proofs.lemmas.List.Elements.{filter-append, filter_passes, All-filter, All-get_or, All-from_get_or}
use Rattle.std.proofs.lemmas.List.FromFn.{length-range_with_len, get_or-range_with_len}
use Rattle.cg_word.specs.declared.op.Op.{Op}
use Rattle.cg_word.specs.Sets.{among}
use Rattle.cg_model.specs.Array.{Arch, unit}
use Rattle.cg_place.specs.Placed.{offering}
use Rattle.cg_model.proofs.Ranges.{range_more}

-- those below n
abbrev pub offering_below : Arch → Op → ℕ → List ℕ
offering_below A op n = filter (λ x. among (unit A x).ops op) (range_with_len 0 n)

-- a range and the numbers after it
pub range_append : (a m n : ℕ) → range_with_len a (m + n) ≡ range_with_len a m ++ range_with_len (a + m) n
range_append a zero n =
    let z : zero + n ≡ n = omega arith in
    let w : a + zero ≡ a = omega arith in
    ap (range_with_len a) z ∙ ap (λ k. range_with_len k n) (sym w)
range_append a (suc m) n =
    let z : suc m + n ≡ suc (m + n) = omega arith in
    let w : a + 1 + m ≡ a + suc m = omega arith in
    ap (range_with_len a) z ∙ ap (λ ks. a ∷ ks) (range_append (a + 1) m n ∙ ap (λ k. range_with_len (a + 1) m ++ range_with_len k n) w)

pub offering_more : (A : Arch) (op : Op) (n : ℕ) → offering_below A op (n + 1) ≡ offering_below A op n ++ cond (among (unit A n).ops op) (n ∷ []) []
offering_more A op n =
    let z : 0 + n ≡ n = omega arith in
    let test : ℕ → Bool = λ x. among (unit A x).ops op in
    ap (filter test) (range_more 0 n ∙ ap (λ k. range_with_len 0 n ++ k ∷ []) z) ∙ filter-append test (range_with_len 0 n) (n ∷ [])

-- a unit counts where it offers the operation
pub counted : (A : Arch) (op : Op) (n : ℕ) → among (unit A n).ops op ≡ true → length (offering_below A op (n + 1)) ≡ length (offering_below A op n) + 1
counted A op n offered = ap length (offering_more A op n ∙ ap (λ b. offering_below A op n ++ cond b (n ∷ []) []) offered) ∙ length-append (offering_below A op n) (n ∷ [])

pub passed : (A : Arch) (op : Op) (n : ℕ) → among (unit A n).ops op ≡ false → length (offering_below A op (n + 1)) ≡ length (offering_below A op n)
passed A op n lacks = ap length (offering_more A op n ∙ ap (λ b. offering_below A op n ++ cond b (n ∷ []) []) lacks) ∙ length-append (offering_below A op n) [] ∙ omega arith

-- those below n, and n, are the first of all
begins : (A : Arch) (op : Op) (n m : ℕ) → n + suc m ≡ length A.units → among (unit A n).ops op ≡ true → offering A op ≡ offering_below A op n ++ n ∷ filter (λ x. among (unit A x).ops op) (range_with_len (n + 1) m)
begins A op n m e offered =
    let test : ℕ → Bool = λ x. among (unit A x).ops op in
    let z : 0 + n ≡ n = omega arith in
    ap (λ k. filter test (range_with_len 0 k)) (sym e)
    ∙ ap (filter test) (range_append 0 n (suc m) ∙ ap (λ k. range_with_len 0 n ++ range_with_len k (suc m)) z)
    ∙ filter-append test (range_with_len 0 n) (n ∷ range_with_len (n + 1) m)
    ∙ ap (λ b. offering_below A op n ++ cond b (n ∷ filter test (range_with_len (n + 1) m)) (filter test (range_with_len (n + 1) m))) offered

-- the unit after as many others
pub found : (A : Arch) (op : Op) (n k : ℕ) → n < length A.units → k ≡ length (offering_below A op n) → among (unit A n).ops op ≡ true → n ≡ slice_index (offering A op) k
found A op n k within before offered =
    let m : ℕ = length A.units - n - 1 in
    let e : n + suc m ≡ length A.units = omega arith in
    sym
    (ap (slice_index (offering A op)) before
    ∙ ap (λ z. slice_index z (length (offering_below A op n))) (begins A op n m e offered)
    ∙ get_or-append_seam (offering_below A op n) n (filter (λ x. among (unit A x).ops op) (range_with_len (n + 1) m)) 0)

-- a unit that offers the operation is one of them
pub offered_some : (A : Arch) (op : Op) (x : ℕ) → x < length A.units → among (unit A x).ops op ≡ true → 0 < length (offering A op)
offered_some A op x within offered =
    let m : ℕ = length A.units - x - 1 in
    let e : x + suc m ≡ length A.units = omega arith in
    let l : length (offering A op) ≡ length (offering_below A op x) + length (x ∷ filter (λ y. among (unit A y).ops op) (range_with_len (x + 1) m)) = ap length (begins A op x m e offered) ∙ length-append (offering_below A op x) _ in
    omega arith

-- each of them is a unit that offers the operation
pub member : (A : Arch) (op : Op) (k : ℕ) → k < length (offering A op) → (slice_index (offering A op) k < length A.units) × (among (unit A (slice_index (offering A op) k)).ops op ≡ true)
member A op k l =
    let test : ℕ → Bool = λ x. among (unit A x).ops op in
    let all : List ℕ = range_with_len 0 (length A.units) in
    let long = length-range_with_len 0 (length A.units) in (
      All-get_or (λ x. x < length A.units) (offering A op) k 0 l
          (All-filter test (λ x. x < length A.units) all (All-from_get_or (λ x. x < length A.units) all 0 (λ i h. let e = get_or-range_with_len 0 (length A.units) i 0 (omega arith) in omega arith))),
      All-get_or (λ x. test x ≡ true) (offering A op) k 0 l (filter_passes test all),
    )
