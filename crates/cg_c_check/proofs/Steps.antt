-- The value of a constant expression, by those of its parts.
use Rattle.std.proofs.Common.{◌≡◌, ℕ, suc, ◌<◌, List, [], ◌∷◌, length, drop, drop-cons, get_or, Ok, Err, refl, sym, ap, ◌∙◌, Box, Vec, Global}
use Rattle.cg_c_syntax.specs.declared.expression.Number.{Number}
use Rattle.cg_c_syntax.specs.declared.expression.Element.{Element}
use Rattle.cg_c_syntax.specs.declared.expression.Named.{Named}
use Rattle.cg_c_syntax.specs.declared.expression.Link.{Link}
use Rattle.cg_c_syntax.specs.declared.expression.Expr.{Expr as WrittenExpr}
use Rattle.cg_c_syntax.specs.declared.expression.Expr as made
use Rattle.cg_c_syntax.specs.Tree.{Expr, Exprs, Num, Access, Signed, Converted, Two, Choice}
use Rattle.cg_c_syntax.specs.declared.expression.Sign.{Sign}
use Rattle.cg_c_syntax.specs.declared.expression.Cast.{Cast}
use Rattle.cg_c_syntax.specs.declared.expression.Pick.{Pick}
use Rattle.cg_c_syntax.specs.Written.{expr_of, exprs_of, linked}
use Rattle.cg_c_check.specs.declared.fault.CheckFault.TheVariants.{NotConstant}
use Rattle.cg_c_check.specs.Rules.{folded_sign, folded_cast, folded_choice}
use Rattle.cg_c_check.specs.Faults.{CheckFault, Checked, ◌>>=◌}
use Rattle.cg_c_check.specs.Names.{Names, Meaning, known}
use Rattle.cg_c_check.specs.Constants.{Constant, constant_of, constant_accessed, number, count}
use Rattle.cg_c_check.specs.Chains.{constant_joined, constant_chained}
use Rattle.cg_c_check.proofs.Rows.{sign_is, cast_is, input_is, pick_is, choice_is, chain_is, element_is}

-- ---- trees

on_number : (N : Names) (n : Number) → constant_of N (Num n) ≡ number n
unfolding constant_of
on_number N n = refl

on_access : (N : Names) (name : Named) (es : Exprs) → constant_of N (Access name es) ≡ (known N name >>= λ m. constant_accessed name.place (count es) m)
unfolding constant_of
on_access N name es = refl

on_sign : (N : Names) (sign : Sign) (place : ℕ) (e : Expr) → constant_of N (Signed sign place e) ≡ (constant_of N e >>= λ x. Ok (folded_sign sign x))
unfolding constant_of
on_sign N sign place e = refl

on_cast : (N : Names) (to : Cast) (place : ℕ) (e : Expr) → constant_of N (Converted to place e) ≡ (constant_of N e >>= λ x. Ok (folded_cast to x))
unfolding constant_of
on_cast N to place e = refl

on_choice : (N : Names) (place : ℕ) (c a b : Expr) → constant_of N (Choice place c a b) ≡ (constant_of N c >>= λ x. constant_of N a >>= λ y. constant_of N b >>= λ z. Ok (folded_choice x y z))
unfolding constant_of
on_choice N place c a b = refl

-- ---- the program's trees: at a fault of a part, and at the value of each

pub number_value_is : (N : Names) (E : WrittenExpr) (n : Number) → E ≡ made.Number n → constant_of N (expr_of E) ≡ number n
number_value_is N E n h = ap (λ z. constant_of N (expr_of z)) h ∙ on_number N n

pub element_value_is : (N : Names) (E : WrittenExpr) (e : Element) → E ≡ made.Element e → constant_of N (expr_of E) ≡ constant_of N (Access e.name (exprs_of e.indices.items))
element_value_is N E e h = ap (λ z. constant_of N (expr_of z)) h ∙ ap (constant_of N) (element_is e)

pub input_value_is : (N : Names) (E : WrittenExpr) (place : ℕ) (port : Box WrittenExpr Global) → E ≡ made.Input place port → constant_of N (expr_of E) ≡ Err (NotConstant place)
unfolding constant_of
input_value_is N E place port h = ap (λ z. constant_of N (expr_of z)) h ∙ ap (constant_of N) (input_is place port)

pub pick_value_is : (N : Names) (E : WrittenExpr) (pick : Pick) (place : ℕ) (a b : Box WrittenExpr Global) → E ≡ made.Pick pick place a b → constant_of N (expr_of E) ≡ Err (NotConstant place)
unfolding constant_of
pick_value_is N E pick place a b h = ap (λ z. constant_of N (expr_of z)) h ∙ ap (constant_of N) (pick_is pick place a b)

sign_value_is : (N : Names) (E : WrittenExpr) (sign : Sign) (place : ℕ) (b : Box WrittenExpr Global) → E ≡ made.Sign sign place b → constant_of N (expr_of E) ≡ (constant_of N (expr_of b.value) >>= λ x. Ok (folded_sign sign x))
sign_value_is N E sign place b h = ap (λ z. constant_of N (expr_of z)) h ∙ ap (constant_of N) (sign_is sign place b) ∙ on_sign N sign place (expr_of b.value)

cast_value_is : (N : Names) (E : WrittenExpr) (to : Cast) (place : ℕ) (b : Box WrittenExpr Global) → E ≡ made.Cast to place b → constant_of N (expr_of E) ≡ (constant_of N (expr_of b.value) >>= λ x. Ok (folded_cast to x))
cast_value_is N E to place b h = ap (λ z. constant_of N (expr_of z)) h ∙ ap (constant_of N) (cast_is to place b) ∙ on_cast N to place (expr_of b.value)

choice_value_is : (N : Names) (E : WrittenExpr) (place : ℕ) (c a b : Box WrittenExpr Global) → E ≡ made.Choice place c a b
    → constant_of N (expr_of E) ≡ (constant_of N (expr_of c.value) >>= λ x. constant_of N (expr_of a.value) >>= λ y. constant_of N (expr_of b.value) >>= λ z. Ok (folded_choice x y z))
choice_value_is N E place c a b h = ap (λ z. constant_of N (expr_of z)) h ∙ ap (constant_of N) (choice_is place c a b) ∙ on_choice N place (expr_of c.value) (expr_of a.value) (expr_of b.value)

pub sign_fails : (N : Names) (E : WrittenExpr) (sign : Sign) (place : ℕ) (b : Box WrittenExpr Global) (f : CheckFault) → E ≡ made.Sign sign place b → constant_of N (expr_of b.value) ≡ Err f → constant_of N (expr_of E) ≡ Err f
sign_fails N E sign place b f h e = sign_value_is N E sign place b h ∙ ap (λ r. r >>= λ x. Ok (folded_sign sign x)) e

pub sign_goes : (N : Names) (E : WrittenExpr) (sign : Sign) (place : ℕ) (b : Box WrittenExpr Global) (x : Constant) → E ≡ made.Sign sign place b → constant_of N (expr_of b.value) ≡ Ok x → constant_of N (expr_of E) ≡ Ok (folded_sign sign x)
sign_goes N E sign place b x h e = sign_value_is N E sign place b h ∙ ap (λ r. r >>= λ x. Ok (folded_sign sign x)) e

pub cast_fails : (N : Names) (E : WrittenExpr) (to : Cast) (place : ℕ) (b : Box WrittenExpr Global) (f : CheckFault) → E ≡ made.Cast to place b → constant_of N (expr_of b.value) ≡ Err f → constant_of N (expr_of E) ≡ Err f
cast_fails N E to place b f h e = cast_value_is N E to place b h ∙ ap (λ r. r >>= λ x. Ok (folded_cast to x)) e

pub cast_goes : (N : Names) (E : WrittenExpr) (to : Cast) (place : ℕ) (b : Box WrittenExpr Global) (x : Constant) → E ≡ made.Cast to place b → constant_of N (expr_of b.value) ≡ Ok x → constant_of N (expr_of E) ≡ Ok (folded_cast to x)
cast_goes N E to place b x h e = cast_value_is N E to place b h ∙ ap (λ r. r >>= λ x. Ok (folded_cast to x)) e

chosen : Checked Constant → Checked Constant → Checked Constant → Checked Constant
chosen c a b = c >>= λ x. a >>= λ y. b >>= λ z. Ok (folded_choice x y z)

pub choice_fails : (N : Names) (E : WrittenExpr) (place : ℕ) (c a b : Box WrittenExpr Global) (f : CheckFault) → E ≡ made.Choice place c a b → constant_of N (expr_of c.value) ≡ Err f → constant_of N (expr_of E) ≡ Err f
unfolding chosen
choice_fails N E place c a b f h e = choice_value_is N E place c a b h ∙ ap (λ r. chosen r (constant_of N (expr_of a.value)) (constant_of N (expr_of b.value))) e

pub choice_fails_2 : (N : Names) (E : WrittenExpr) (place : ℕ) (c a b : Box WrittenExpr Global) (x : Constant) (f : CheckFault) → E ≡ made.Choice place c a b → constant_of N (expr_of c.value) ≡ Ok x → constant_of N (expr_of a.value) ≡ Err f
    → constant_of N (expr_of E) ≡ Err f
unfolding chosen
choice_fails_2 N E place c a b x f h d e =
    choice_value_is N E place c a b h ∙ ap (λ r. chosen r (constant_of N (expr_of a.value)) (constant_of N (expr_of b.value))) d ∙ ap (λ r. chosen (Ok x) r (constant_of N (expr_of b.value))) e

pub choice_fails_3 : (N : Names) (E : WrittenExpr) (place : ℕ) (c a b : Box WrittenExpr Global) (x y : Constant) (f : CheckFault) → E ≡ made.Choice place c a b → constant_of N (expr_of c.value) ≡ Ok x → constant_of N (expr_of a.value) ≡ Ok y
    → constant_of N (expr_of b.value) ≡ Err f → constant_of N (expr_of E) ≡ Err f
unfolding chosen
choice_fails_3 N E place c a b x y f h d d' e =
    choice_value_is N E place c a b h ∙ ap (λ r. chosen r (constant_of N (expr_of a.value)) (constant_of N (expr_of b.value))) d ∙ ap (λ r. chosen (Ok x) r (constant_of N (expr_of b.value))) d'
    ∙ ap (λ r. chosen (Ok x) (Ok y) r) e

pub choice_goes : (N : Names) (E : WrittenExpr) (place : ℕ) (c a b : Box WrittenExpr Global) (x y z : Constant) → E ≡ made.Choice place c a b → constant_of N (expr_of c.value) ≡ Ok x → constant_of N (expr_of a.value) ≡ Ok y
    → constant_of N (expr_of b.value) ≡ Ok z → constant_of N (expr_of E) ≡ Ok (folded_choice x y z)
unfolding chosen
choice_goes N E place c a b x y z h d d' e =
    choice_value_is N E place c a b h ∙ ap (λ r. chosen r (constant_of N (expr_of a.value)) (constant_of N (expr_of b.value))) d ∙ ap (λ r. chosen (Ok x) r (constant_of N (expr_of b.value))) d'
    ∙ ap (λ r. chosen (Ok x) (Ok y) r) e

-- ---- chains

chained_is : (N : Names) (e : Expr) (ls : List Link) → constant_of N (linked e ls) ≡ constant_chained N (constant_of N e) ls
unfolding constant_of
chained_is N e [] = refl
chained_is N e (l ∷ ls) = chained_is N (Two l.op l.place e (expr_of l.operand)) ls

pub chained_fault : (N : Names) (f : CheckFault) (ls : List Link) → constant_chained N (Err f) ls ≡ Err f
chained_fault N f [] = refl
chained_fault N f (l ∷ ls) = chained_fault N f ls

chain_value_is : (N : Names) (E : WrittenExpr) (first : Box WrittenExpr Global) (rest : Vec Link Global) → E ≡ made.Chain first rest → constant_of N (expr_of E) ≡ constant_chained N (constant_of N (expr_of first.value)) rest.items
chain_value_is N E first rest h = ap (λ z. constant_of N (expr_of z)) h ∙ ap (constant_of N) (chain_is first rest) ∙ chained_is N (expr_of first.value) rest.items

pub chain_fails : (N : Names) (E : WrittenExpr) (first : Box WrittenExpr Global) (rest : Vec Link Global) (f : CheckFault) → E ≡ made.Chain first rest → constant_of N (expr_of first.value) ≡ Err f → constant_of N (expr_of E) ≡ Err f
chain_fails N E first rest f h e = chain_value_is N E first rest h ∙ ap (λ r. constant_chained N r rest.items) e ∙ chained_fault N f rest.items

pub chain_goes : (N : Names) (E : WrittenExpr) (first : Box WrittenExpr Global) (rest : Vec Link Global) (x : Constant) → E ≡ made.Chain first rest → constant_of N (expr_of first.value) ≡ Ok x → constant_of N (expr_of E) ≡ constant_chained N (Ok x) rest.items
chain_goes N E first rest x h e = chain_value_is N E first rest h ∙ ap (λ r. constant_chained N r rest.items) e

-- one more of a chain that is gone through
pub chained_stops : (N : Names) (xs : List Link) (i : ℕ) (x : Constant) (l : Link) (f : CheckFault) → i < length xs → l ≡ get_or xs i l → constant_joined N x l ≡ Err f → constant_chained N (Ok x) (drop i xs) ≡ Err f
chained_stops N xs i x l f lt is e =
    ap (constant_chained N (Ok x)) (drop-cons xs i l lt ∙ ap (λ z. z ∷ drop (suc i) xs) (sym is)) ∙ ap (λ r. constant_chained N r (drop (suc i) xs)) e ∙ chained_fault N f (drop (suc i) xs)

-- ---- elements

pub access_fails : (N : Names) (e : Element) (f : CheckFault) → known N e.name ≡ Err f → constant_of N (Access e.name (exprs_of e.indices.items)) ≡ Err f
access_fails N e f h = on_access N e.name (exprs_of e.indices.items) ∙ ap (λ r. r >>= λ m. constant_accessed e.name.place (count (exprs_of e.indices.items)) m) h

pub count_is : (es : List WrittenExpr) → count (exprs_of es) ≡ length es
count_is [] = refl
count_is (e ∷ es) = ap (λ n. suc n) (count_is es)

pub access_goes : (N : Names) (e : Element) (m : Meaning) (n : ℕ) → known N e.name ≡ Ok m → n ≡ length e.indices.items → constant_of N (Access e.name (exprs_of e.indices.items)) ≡ constant_accessed e.name.place n m
access_goes N e m n h len =
    on_access N e.name (exprs_of e.indices.items) ∙ ap (λ r. r >>= λ m. constant_accessed e.name.place (count (exprs_of e.indices.items)) m) h
    ∙ ap (λ n. constant_accessed e.name.place n m) (count_is e.indices.items ∙ sym len)
