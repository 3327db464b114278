-- The list of edge operands, step by step.
use Rattle.std.proofs.Common.{◌≡◌, ℕ, suc, Bool, true, false, cond, ◌+◌, ◌<◌, List, [], ◌∷◌, ◌++◌, length, get_or, take, refl, sym, ap, ◌∙◌, arith}
use Rattle.std.proofs.lemmas.List.{take_more}
use Rattle.std.proofs.lemmas.List.{append-nil, append_assoc, length-take-le}
use Rattle.std.specs.Prelude.{filter}
use Rattle.std.specs.List.{range_with_len}
use Rattle.std.proofs.lemmas.List.Elements.{filter-append}
use Rattle.cg_model.specs.declared.kernel.Node.{Node}
use Rattle.cg_model.specs.declared.kernel.Operand.{Operand}
use Rattle.cg_model.specs.declared.kernel.Operand.TheVariants.{Const as Constant, Edge}
use Rattle.cg_walk_spec.specs.State.{edges_among, edges_from}
use Rattle.cg_anneal.specs.Edges.{operand_edge}
use Rattle.cg_model.proofs.Ranges.{range_more}

among_append : (v p : ℕ) (xs ys : List Operand) → edges_among v p (xs ++ ys) ≡ edges_among v p xs ++ edges_among v (p + length xs) ys
among_append v p [] ys = ap (λ q. edges_among v q ys) (omega arith)
among_append v p (Constant w ∷ xs) ys =
    let z : suc p + length xs ≡ p + length (Constant w ∷ xs) = omega arith in
    among_append v (suc p) xs ys ∙ ap (λ q. edges_among v (suc p) xs ++ edges_among v q ys) z
among_append v p (Edge u d init ∷ xs) ys =
    let z : suc p + length xs ≡ p + length (Edge u d init ∷ xs) = omega arith in
    ap (λ es. record { node = v; arg = p; source = u; distance = d } ∷ es) (among_append v (suc p) xs ys ∙ ap (λ q. edges_among v (suc p) xs ++ edges_among v q ys) z)

among_one : (v p : ℕ) (o : Operand) → edges_among v p (o ∷ []) ≡ operand_edge v p o
among_one v p (Constant w) = refl
among_one v p (Edge u d init) = refl

length_take : (X : Type 0) (xs : List X) (k : ℕ) → k < length xs → length (take k xs) ≡ k
length_take X xs k l = let z = length-take-le k xs (omega (arith, l)) in z

-- one operand more
pub among_more : (v : ℕ) (os : List Operand) (k : ℕ) (o : Operand) → k < length os → edges_among v 0 (take (k + 1) os) ≡ edges_among v 0 (take k os) ++ operand_edge v k (get_or os k o)
among_more v os k o l =
    let z : 0 + length (take k os) ≡ k = let a = length_take Operand os k l in omega (arith, a) in
    ap (λ xs. edges_among v 0 xs) (take_more os k o l) ∙ among_append v 0 (take k os) (get_or os k o ∷ [])
    ∙ ap (λ es. edges_among v 0 (take k os) ++ es) (ap (λ q. edges_among v q (get_or os k o ∷ [])) z ∙ among_one v k (get_or os k o))

from_append : (v : ℕ) (xs ys : List Node) → edges_from v (xs ++ ys) ≡ edges_from v xs ++ edges_from (v + length xs) ys
from_append v [] ys = ap (λ q. edges_from q ys) (omega arith)
from_append v (n ∷ xs) ys =
    let z : suc v + length xs ≡ v + length (n ∷ xs) = omega arith in
    ap (λ es. edges_among v 0 n.operands ++ es) (from_append (suc v) xs ys ∙ ap (λ q. edges_from (suc v) xs ++ edges_from q ys) z)
    ∙ sym (append_assoc (edges_among v 0 n.operands) (edges_from (suc v) xs) (edges_from (v + length (n ∷ xs)) ys))

-- one node more
pub from_more : (ns : List Node) (k : ℕ) (n : Node) → k < length ns → edges_from 0 (take (k + 1) ns) ≡ edges_from 0 (take k ns) ++ edges_among k 0 (get_or ns k n).operands
from_more ns k n l =
    let z : 0 + length (take k ns) ≡ k = let a = length_take Node ns k l in omega (arith, a) in
    ap (λ xs. edges_from 0 xs) (take_more ns k n l) ∙ from_append 0 (take k ns) (get_or ns k n ∷ [])
    ∙ ap (λ es. edges_from 0 (take k ns) ++ es) (ap (λ q. edges_from q (get_or ns k n ∷ [])) z ∙ append-nil (edges_among k 0 (get_or ns k n).operands))

-- ---- numbers

-- one number more
pub numbers_more : (n : ℕ) → range_with_len 0 (n + 1) ≡ range_with_len 0 n ++ n ∷ []
numbers_more n = let z : 0 + n ≡ n = omega arith in range_more 0 n ∙ ap (λ k. range_with_len 0 n ++ k ∷ []) z

filter_one : (p : ℕ → Bool) (n : ℕ) (b : Bool) → p n ≡ b → filter p (n ∷ []) ≡ cond b (n ∷ []) []
filter_one p n true h = rw h refl
filter_one p n false h = rw h refl

-- one number more, if it passes
pub passed_more : (p : ℕ → Bool) (n : ℕ) (b : Bool) → b ≡ p n → filter p (range_with_len 0 (n + 1)) ≡ filter p (range_with_len 0 n) ++ cond b (n ∷ []) []
passed_more p n b h =
    ap (λ xs. filter p xs) (numbers_more n) ∙ filter-append p (range_with_len 0 n) (n ∷ []) ∙ ap (λ xs. filter p (range_with_len 0 n) ++ xs) (filter_one p n b (sym h))
