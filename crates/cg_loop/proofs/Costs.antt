-- How many nodes there are.
use Rattle.std.proofs.Common.{◌≡◌, ℕ, ◌+◌, ◌-◌, ◌<◌, ◌≤◌, max, List, [], ◌∷◌, ◌++◌, length, zero, suc, get_or, take, drop, map, refl, sym, ap, ◌∙◌, arith}
use Rattle.std.proofs.lemmas.List.{take_more, map_push}
use Rattle.std.proofs.Math.Seq.{take-nil}
use Rattle.cg_loop_syntax.specs.Loop.{Expr, Num, Turn, In, Scalar, Item, Two, Three, Stmt}
use Rattle.cg_loop_syntax.specs.declared.body.Stmt.{Stmt as WrittenStmt}
use Rattle.cg_word.specs.declared.op.Op.TheVariants.{Mul}
use Rattle.cg_loop_syntax.specs.declared.syntax.Atom.{Atom}
use Rattle.cg_loop_syntax.specs.declared.syntax.Sum.{Sum, out-Sum}
use Rattle.cg_loop_syntax.specs.declared.syntax.Term.{Term}
use Rattle.cg_loop_syntax.specs.Grouped.{stmt_of, sum_of, atom_of, whole_prod, product, factors, terms}
use Rattle.cg_loop_syntax.proofs.Rows.{sum_is, terms_step, factors_step, product_parts}
use Rattle.cg_loop_laws.specs.Translate.{cost, own_cost, stmt_cost, body_cost}

-- a value with a node of its own
pub own_cost_is : (e : Expr) → own_cost e ≡ max (cost e) 1
own_cost_is (Num w) = refl
own_cost_is Turn = refl
own_cost_is (In p) = refl
own_cost_is (Scalar x) = refl
own_cost_is (Item a e) = omega arith
own_cost_is (Two op a b) = omega arith
own_cost_is (Three op a b c) = omega arith

pub map_step : {A B : Type 0} (f : A → B) (xs : List A) (i : ℕ) (x : A) → i < length xs → x ≡ get_or xs i x → map f (take (i + 1) xs) ≡ map f (take i xs) ++ f x ∷ []
map_step f xs i x l is = ap (map f) (take_more xs i x l ∙ ap (λ z. take i xs ++ z ∷ []) (sym is)) ∙ map_push f (take i xs) x

pub body_cost_push : (ss : List Stmt) (s : Stmt) → body_cost (ss ++ s ∷ []) ≡ body_cost ss + stmt_cost s
body_cost_push [] s = omega arith
body_cost_push (r ∷ ss) s = let h = body_cost_push ss s in omega arith

pub body_cost_step : (ss : List WrittenStmt) (i : ℕ) (s : WrittenStmt) → i < length ss → s ≡ get_or ss i s → body_cost (map stmt_of (take (i + 1) ss)) ≡ body_cost (map stmt_of (take i ss)) + stmt_cost (stmt_of s)
body_cost_step ss i s l is = ap body_cost (map_step stmt_of ss i s l is) ∙ body_cost_push (map stmt_of (take i ss)) (stmt_of s)

pub body_cost_within : (ss : List WrittenStmt) (i : ℕ) → body_cost (map stmt_of (take i ss)) ≤ body_cost (map stmt_of ss)
body_cost_within [] i = omega (arith, ap (λ z. body_cost (map stmt_of z)) (take-nil i))
body_cost_within (s ∷ ss) zero = omega arith
body_cost_within (s ∷ ss) (suc i) = let h = body_cost_within ss i in omega arith

-- parts of sums and products have no more nodes
terms_more : (e : Expr) (ts : List Term) → cost e ≤ cost (terms e ts)
terms_more e [] = omega arith
terms_more e (t ∷ ts) = let h = terms_more (Two t.op e (whole_prod t.prod)) ts in omega arith

factors_more : (e : Expr) (xs : List Atom) → cost e ≤ cost (factors e xs)
factors_more e [] = omega arith
factors_more e (x ∷ xs) = let h = factors_more (Two Mul e (atom_of x)) xs in omega arith

terms_take : (e : Expr) (ts : List Term) (i : ℕ) → cost (terms e (take i ts)) ≤ cost (terms e ts)
terms_take e [] i = omega (arith, ap (λ z. cost (terms e z)) (take-nil {A = Term} i))
terms_take e (t ∷ ts) zero = terms_more e (t ∷ ts)
terms_take e (t ∷ ts) (suc i) = terms_take (Two t.op e (whole_prod t.prod)) ts i

factors_take : (e : Expr) (xs : List Atom) (i : ℕ) → cost (factors e (take i xs)) ≤ cost (factors e xs)
factors_take e [] i = omega (arith, ap (λ z. cost (factors e z)) (take-nil {A = Atom} i))
factors_take e (x ∷ xs) zero = factors_more e (x ∷ xs)
factors_take e (x ∷ xs) (suc i) = factors_take (Two Mul e (atom_of x)) xs i

pub sum_first : (s : Sum) → cost (whole_prod (out-Sum s).first) ≤ cost (sum_of s)
sum_first s = let e = ap cost (sum_is s) in let h = terms_more (whole_prod (out-Sum s).first) (out-Sum s).rest.items in omega arith

pub sum_room : (s : Sum) (ts : List Term) (i : ℕ) (t : Term) → ts ≡ (out-Sum s).rest.items → i < length ts → t ≡ get_or ts i t →
    cost (terms (whole_prod (out-Sum s).first) (take i ts)) + cost (whole_prod t.prod) + 1 ≤ cost (sum_of s)
sum_room s ts i t r l is =
    let e = ap cost (sum_is s ∙ ap (terms (whole_prod (out-Sum s).first)) (sym r)) in
    let h = terms_take (whole_prod (out-Sum s).first) ts (i + 1) in
    let g = ap cost (terms_step (whole_prod (out-Sum s).first) ts i t l is) in
    omega arith

pub prod_first : (xs : List Atom) (a : Atom) → 1 ≤ length xs → a ≡ get_or xs 0 a → cost (atom_of a) ≤ cost (product xs)
prod_first xs a l is = let e = ap cost (product_parts xs a l is) in let h = factors_more (atom_of a) (take (length xs - 1) (drop 1 xs)) in omega arith

pub prod_room : (xs ys : List Atom) (a b : Atom) (i : ℕ) → 1 ≤ length xs → a ≡ get_or xs 0 a → ys ≡ take (length xs - 1) (drop 1 xs) → i < length ys → b ≡ get_or ys i b →
    cost (factors (atom_of a) (take i ys)) + cost (atom_of b) + 1 ≤ cost (product xs)
prod_room xs ys a b i l is r m at =
    let e = ap cost (product_parts xs a l is ∙ ap (factors (atom_of a)) (sym r)) in
    let h = factors_take (atom_of a) ys (i + 1) in
    let g = ap cost (factors_step (atom_of a) ys i b m at) in
    omega arith
