-- Sets of operations, as lists and as marks by code.
use Rattle.std.proofs.Common.{◌≡◌, ◌-◌, Bool, true, false, eqb, List, [], ◌∷◌, length, map, refl, sym, ap, ◌∙◌, eqb-true}
use Rattle.std.specs.Prelude.{◌||◌, filter, slice_index_or, if◌then◌else◌}
use Rattle.std.proofs.lemmas.Bool.{cond_both, true≢false}
use Rattle.std.proofs.lemmas.List.FromFn.{fill_by_all}
use mathlib.Core.Path.{fun_ext}
use Rattle.cg_word.specs.Word.{Op, Const, Iter, Input, Add, Sub, Mul, And, Or, Xor, Shl, Shr, Sar, Eq, Ne, Lts, Ltu, Mins, Maxs, Select, Load, Store, Output, LoadIf, StoreIf, OutputIf, code, all_ops}

-- the operation is in the list
abbrev pub among : List Op → Op → Bool
among [] op = false
among (o ∷ os) op = if eqb (code o) (code op) then true else among os op

-- a set with one more operation, in the order of their codes
abbrev pub with_op : List Op → Op → List Op
with_op ops op = filter (λ o. eqb (code op) (code o) || among ops o) all_ops

-- whether the mark of an operation, by its code, is set
abbrev pub is_marked : List Bool → Op → Bool
is_marked marks op = slice_index_or marks (code op - 1) false

-- the marked operations of a list
abbrev pub marked : List Bool → List Op → List Op
marked marks [] = []
marked marks (op ∷ ops) = if is_marked marks op then op ∷ marked marks ops else marked marks ops

-- the operations of a set of marks
unfoldable pub ops_with : List Bool → List Op
ops_with marks = marked marks all_ops

-- the marks of a list of operations
unfoldable pub marks_of : List Op → List Bool
marks_of ops = map (among ops) all_ops

-- ---- each function undoes the other (here, since the type's declaration cites it)

pub all_among : (op : Op) → among all_ops op ≡ true
all_among Const = refl
all_among Iter = refl
all_among Input = refl
all_among Add = refl
all_among Sub = refl
all_among Mul = refl
all_among And = refl
all_among Or = refl
all_among Xor = refl
all_among Shl = refl
all_among Shr = refl
all_among Sar = refl
all_among Eq = refl
all_among Ne = refl
all_among Lts = refl
all_among Ltu = refl
all_among Mins = refl
all_among Maxs = refl
all_among Select = refl
all_among Load = refl
all_among Store = refl
all_among Output = refl
all_among LoadIf = refl
all_among StoreIf = refl
all_among OutputIf = refl

same_mark : (marks : List Bool) (o op : Op) → eqb (code o) (code op) ≡ true → is_marked marks o ≡ is_marked marks op
same_mark marks o op e = ap (λ k. slice_index_or marks (k - 1) false) (eqb-true _ _ e)

unmarked : (marks : List Bool) (ops : List Op) (op : Op) → is_marked marks op ≡ false → among (marked marks ops) op ≡ false
unmarked marks [] op n = refl
unmarked marks (o ∷ os) op n =
    cond_both (is_marked marks o) (o ∷ marked marks os) (marked marks os) (λ z. among z op ≡ false)
    (λ t. cond_both (eqb (code o) (code op)) true (among (marked marks os) op) (λ z. z ≡ false) (λ e. sym t ∙ same_mark marks o op e ∙ n) (λ e. unmarked marks os op n))
    (λ t. unmarked marks os op n)

among_marked : (marks : List Bool) (ops : List Op) (op : Op) → among ops op ≡ true → among (marked marks ops) op ≡ is_marked marks op
among_marked marks [] op h = absurd (true≢false (sym h))
among_marked marks (o ∷ os) op h =
    cond_both (eqb (code o) (code op)) true (among os op) (λ z. z ≡ true → among (marked marks (o ∷ os)) op ≡ is_marked marks op)
    (λ e k.
    cond_both (is_marked marks o) (o ∷ marked marks os) (marked marks os) (λ z. among z op ≡ is_marked marks op)
    (λ t. cond_both (eqb (code o) (code op)) true (among (marked marks os) op) (λ z. z ≡ is_marked marks op) (λ f. sym t ∙ same_mark marks o op e) (λ f. absurd (true≢false (sym e ∙ f))))
    (λ t. let n = sym (same_mark marks o op e) ∙ t in unmarked marks os op n ∙ sym n))
    (λ e k.
    cond_both (is_marked marks o) (o ∷ marked marks os) (marked marks os) (λ z. among z op ≡ is_marked marks op)
    (λ t. cond_both (eqb (code o) (code op)) true (among (marked marks os) op) (λ z. z ≡ is_marked marks op) (λ f. absurd (true≢false (sym f ∙ e))) (λ f. among_marked marks os op k))
    (λ t. among_marked marks os op k))
    h

pub has_is : (marks : List Bool) (op : Op) → among (ops_with marks) op ≡ is_marked marks op
unfolding ops_with
has_is marks op = among_marked marks all_ops op (all_among op)

pub marks_again : (marks : List Bool) → length marks ≡ 25 → marks_of (ops_with marks) ≡ marks
unfolding marks_of
marks_again marks h = ap (λ f. map f all_ops) (fun_ext (has_is marks)) ∙ sym (fill_by_all (λ k. slice_index_or marks k false) marks 25 false h (λ k l. refl))
