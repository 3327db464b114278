-- The grouped expressions, by the lists that the types hold.
use Rattle.std.proofs.Common.{◌≡◌, ℕ, ◌+◌, ◌-◌, ◌<◌, ◌≤◌, List, [], ◌∷◌, ◌++◌, length, get_or, take, drop, refl, sym, ap, ap₂, ◌∙◌, arith, add-one, rules, Vec, Global}
use Rattle.std.proofs.lemmas.List.{take_more, take_all}
use Rattle.std.specs.Prelude.{map}
use Rattle.cg_word.specs.declared.op.Op.{Op}
use Rattle.cg_word.specs.declared.op.Op.TheVariants.{Mul}
use Rattle.cg_loop_syntax.specs.Loop.{Expr, Two}
use Rattle.cg_loop_syntax.specs.declared.syntax.Atom.{Atom, Row_of-Expr, end_of-Expr, more_of-Expr, items-the_row-Expr, Apply, the_lemmas}
use Rattle.cg_loop_syntax.specs.declared.syntax.Expr.{Expr as WrittenExpr}
use Rattle.cg_loop_syntax.specs.declared.syntax.Sum.{Sum, Sum', out-Sum, outs-Sum', Row_of-Term, end_of-Term, more_of-Term, items-the_row-Term, items_shown-the_row-Term-2, Row_of-Atom, end_of-Atom, more_of-Atom, items-the_row-Atom, items_shown-the_row-Atom-1}
use Rattle.cg_loop_syntax.specs.declared.syntax.Term.{Term}
use Rattle.cg_loop_syntax.specs.Grouped.{expr_of, sum_of, terms_of, prod_of, factors_of, atom_of, all_of, factors, product, whole_prod, terms, applied}

pub factors_is : {m : _} (e : Expr) (row : Row_of-Atom m) → factors_of e row ≡ factors e (items-the_row-Atom m row)
factors_is e end_of-Atom = refl
factors_is e (more_of-Atom a rest) = factors_is (Two Mul e (atom_of a)) rest

pub prod_is : {m : _} (row : Row_of-Atom m) → prod_of row ≡ product (items-the_row-Atom m row)
prod_is end_of-Atom = refl
prod_is (more_of-Atom a rest) = factors_is (atom_of a) rest

pub terms_is : {m : _} (e : Expr) (row : Row_of-Term m) → terms_of e row ≡ terms e (items-the_row-Term m row)
terms_is e end_of-Term = refl
terms_is e (more_of-Term op shape atoms rest) =
    ap (λ z. terms_of (Two op e z) rest) (prod_is atoms ∙ ap product (sym (items_shown-the_row-Atom-1 shape atoms))) ∙ terms_is _ rest

pub sum_is : (s : Sum) → sum_of s ≡ terms (whole_prod (out-Sum s).first) (out-Sum s).rest.items
sum_is (Sum' shape atoms shape' rest) =
    terms_is (prod_of atoms) rest
    ∙ ap₂ terms (prod_is atoms ∙ ap product (sym (items_shown-the_row-Atom-1 shape atoms))) (sym (items_shown-the_row-Term-2 shape' rest))
    ∙ sym (ap (λ z. terms (whole_prod z.first) z.rest.items) (outs-Sum' shape atoms shape' rest))

pub all_is : {m : _} (row : Row_of-Expr m) → all_of row ≡ map expr_of (items-the_row-Expr m row)
all_is end_of-Expr = refl
all_is (more_of-Expr e rest) = ap (λ z. expr_of e ∷ z) (all_is rest)

-- one more at the end
pub terms_push : (e : Expr) (ts : List Term) (t : Term) → terms e (ts ++ t ∷ []) ≡ Two t.op (terms e ts) (whole_prod t.prod)
terms_push e [] t = refl
terms_push e (x ∷ ts) t = terms_push (Two x.op e (whole_prod x.prod)) ts t

pub factors_push : (e : Expr) (xs : List Atom) (a : Atom) → factors e (xs ++ a ∷ []) ≡ Two Mul (factors e xs) (atom_of a)
factors_push e [] a = refl
factors_push e (x ∷ xs) a = factors_push (Two Mul e (atom_of x)) xs a

-- one more of a list that is gone through
pub terms_step : (e : Expr) (ts : List Term) (i : ℕ) (t : Term) → i < length ts → t ≡ get_or ts i t → terms e (take (i + 1) ts) ≡ Two t.op (terms e (take i ts)) (whole_prod t.prod)
terms_step e ts i t l is = ap (terms e) (take_more ts i t l ∙ ap (λ z. take i ts ++ z ∷ []) (sym is)) ∙ terms_push e (take i ts) t

pub factors_step : (e : Expr) (xs : List Atom) (i : ℕ) (a : Atom) → i < length xs → a ≡ get_or xs i a → factors e (take (i + 1) xs) ≡ Two Mul (factors e (take i xs)) (atom_of a)
factors_step e xs i a l is = ap (factors e) (take_more xs i a l ∙ ap (λ z. take i xs ++ z ∷ []) (sym is)) ∙ factors_push e (take i xs) a

-- an operation by its name
pub apply_is : (op : Op) (v : Vec WrittenExpr Global) → atom_of (Apply op v) ≡ applied op (map expr_of v.items)
apply_is op v = search (rules, all_is, the_lemmas)

-- a product that has an atom, by that atom and the others
pub product_parts : (xs : List Atom) (a : Atom) → 1 ≤ length xs → a ≡ get_or xs 0 a → product xs ≡ factors (atom_of a) (take (length xs - 1) (drop 1 xs))
product_parts [] a l is = absurd (omega arith)
product_parts (x ∷ xs) a l is = ap₂ (λ y ys. factors (atom_of y) ys) (sym is) (sym (take_all _ xs (omega arith)))

pub first_same : (xs : List Atom) (a b : Atom) → 1 ≤ length xs → a ≡ get_or xs 0 a → b ≡ get_or xs 0 b → a ≡ b
first_same [] a b l e f = absurd (omega arith)
first_same (x ∷ xs) a b l e f = e ∙ sym f

-- what stands behind the first atom stands in the product
pub rest_atom : (xs : List Atom) (i : ℕ) (a : Atom) → 1 ≤ length xs → i < length (take (length xs - 1) (drop 1 xs)) → a ≡ get_or (take (length xs - 1) (drop 1 xs)) i a →
    (i + 1 < length xs) × (a ≡ get_or xs (i + 1) a)
rest_atom [] i a n l is = absurd (omega arith)
rest_atom (x ∷ xs) i a n l is =
    let whole = take_all (length (x ∷ xs) - 1) xs (omega arith) in
    let size = ap length whole in
    (omega arith, is ∙ ap (λ z. get_or z i a) whole ∙ ap (λ n. get_or (x ∷ xs) n a) (sym (add-one i)))
