-- Lists of words that are gone through from the front.
use Rattle.std.proofs.Common.{◌≡◌, ℕ, suc, ◌+◌, ◌*◌, ◌<◌, ◌≤◌, Bool, true, false, if◌then◌else◌, List, [], ◌∷◌, ◌++◌, length, drop, drop-cons, get_or, Ok, Err, Option, Some, None, refl, sym, ap, ◌∙◌, arith, rules, append_assoc, add-one, Vec, Global}
use Rattle.std.proofs.lemmas.List.{append-nil}
use Rattle.std.proofs.Math.ListN.{drop_of_length-le}
use Rattle.std.proofs.Math.Nat.{mul_assoc}
use Rattle.cg_c_syntax.specs.declared.expression.Expr.{Expr as WrittenExpr}
use Rattle.cg_c_syntax.specs.declared.source.Rows.{Rows as WrittenRows, Row_of-Rows, end_of-Rows, more_of-Rows, items-the_row-Rows, the_lemmas}
use Rattle.cg_c_syntax.specs.declared.source.Rows.TheVariants as made
use Rattle.cg_c_syntax.specs.Tree.{Expr, Exprs, MoreExprs, Rows, RowsList, Items, Inner, OneMore}
use Rattle.cg_c_syntax.specs.Written.{expr_of, exprs_of, rows_of, row_rows, rows_list}
use Rattle.cg_c_check.specs.declared.fault.CheckFault.TheVariants.{BadArray}
use Rattle.cg_c_check.specs.Faults.{CheckFault, Checked, ◌>>=◌}
use Rattle.cg_c_check.specs.Names.{Names}
use Rattle.cg_c_check.specs.Constants.{Constant, constant_of, count, place_of}
use Rattle.cg_c_check.specs.Arrays.{dimensions_of, values_of, table_of, tables_of, has_room, size_of, end_of, is_first, behind_first, rows_count}
use Rattle.cg_c_check.proofs.Steps.{count_is}

-- these words, and then those
abbrev pub behind : List ℕ → Checked (List ℕ) → Checked (List ℕ)
behind ds (Ok more) = Ok (ds ++ more)
behind ds (Err fault) = Err fault

pub behind_more : (ds es : List ℕ) (r : Checked (List ℕ)) → behind ds (behind es r) ≡ behind (ds ++ es) r
behind_more ds es (Ok more) = ap Ok (sym (append_assoc ds es more))
behind_more ds es (Err fault) = refl

pub behind_none : (r : Checked (List ℕ)) → r ≡ behind [] r
behind_none (Ok more) = refl
behind_none (Err fault) = refl

pub behind_all : (ds : List ℕ) → behind ds (Ok []) ≡ Ok ds
behind_all ds = ap Ok (append-nil ds)

front : {X : Type 0} (xs : List X) (i : ℕ) (x : X) → i < length xs → x ≡ get_or xs i x → drop i xs ≡ x ∷ drop (i + 1) xs
front xs i x lt is = drop-cons xs i x lt ∙ ap (λ z. z ∷ drop (suc i) xs) (sym is) ∙ ap (λ n. x ∷ drop n xs) (sym (add-one i))

cons_behind : (w : ℕ) (r : Checked (List ℕ)) → (r >>= λ more. Ok (w ∷ more)) ≡ behind (w ∷ []) r
cons_behind w (Ok more) = refl
cons_behind w (Err fault) = refl

-- ---- values

values_stop_at : (N : Names) (e : Expr) (es : Exprs) (f : CheckFault) → constant_of N e ≡ Err f → values_of N (MoreExprs e es) ≡ Err f
unfolding values_of
values_stop_at N e es f h = rw h refl

values_go_at : (N : Names) (e : Expr) (es : Exprs) (c : Constant) → constant_of N e ≡ Ok c → values_of N (MoreExprs e es) ≡ behind (c.word ∷ []) (values_of N es)
unfolding values_of
values_go_at N e es c h = rw h (cons_behind c.word (values_of N es))

pub values_stop : (N : Names) (xs : List WrittenExpr) (i : ℕ) (e : WrittenExpr) (f : CheckFault) → i < length xs → e ≡ get_or xs i e → constant_of N (expr_of e) ≡ Err f → values_of N (exprs_of (drop i xs)) ≡ Err f
values_stop N xs i e f lt is h = ap (λ z. values_of N (exprs_of z)) (front xs i e lt is) ∙ values_stop_at N (expr_of e) (exprs_of (drop (i + 1) xs)) f h

pub values_go : (N : Names) (xs : List WrittenExpr) (i : ℕ) (e : WrittenExpr) (c : Constant) → i < length xs → e ≡ get_or xs i e → constant_of N (expr_of e) ≡ Ok c
    → values_of N (exprs_of (drop i xs)) ≡ behind (c.word ∷ []) (values_of N (exprs_of (drop (i + 1) xs)))
values_go N xs i e c lt is h = ap (λ z. values_of N (exprs_of z)) (front xs i e lt is) ∙ values_go_at N (expr_of e) (exprs_of (drop (i + 1) xs)) c h

pub values_end : (N : Names) (xs : List WrittenExpr) (i : ℕ) → length xs ≤ i → values_of N (exprs_of (drop i xs)) ≡ Ok []
unfolding values_of
values_end N xs i le = ap (λ z. values_of N (exprs_of z)) (drop_of_length-le xs le)

-- ---- dimensions

dims_stop_at : (N : Names) (start size : ℕ) (e : Expr) (es : Exprs) (f : CheckFault) → constant_of N e ≡ Err f → dimensions_of N start size (MoreExprs e es) ≡ Err f
unfolding dimensions_of
dims_stop_at N start size e es f h = rw h refl

dims_full_at : (N : Names) (start size : ℕ) (e : Expr) (es : Exprs) (c : Constant) → constant_of N e ≡ Ok c → has_room start size c.word ≡ false → dimensions_of N start size (MoreExprs e es) ≡ Err (BadArray (place_of e))
unfolding dimensions_of
dims_full_at N start size e es c h full = rw (h, full) refl

dims_go_at : (N : Names) (start size : ℕ) (e : Expr) (es : Exprs) (c : Constant) → constant_of N e ≡ Ok c → has_room start size c.word ≡ true
    → dimensions_of N start size (MoreExprs e es) ≡ behind (c.word ∷ []) (dimensions_of N start (size * c.word) es)
unfolding dimensions_of
dims_go_at N start size e es c h room = rw (h, room) (cons_behind c.word (dimensions_of N start (size * c.word) es))

pub dims_stop : (N : Names) (start size : ℕ) (xs : List WrittenExpr) (i : ℕ) (e : WrittenExpr) (f : CheckFault) → i < length xs → e ≡ get_or xs i e → constant_of N (expr_of e) ≡ Err f
    → dimensions_of N start size (exprs_of (drop i xs)) ≡ Err f
dims_stop N start size xs i e f lt is h = ap (λ z. dimensions_of N start size (exprs_of z)) (front xs i e lt is) ∙ dims_stop_at N start size (expr_of e) (exprs_of (drop (i + 1) xs)) f h

pub dims_full : (N : Names) (start size : ℕ) (xs : List WrittenExpr) (i : ℕ) (e : WrittenExpr) (c : Constant) → i < length xs → e ≡ get_or xs i e → constant_of N (expr_of e) ≡ Ok c → has_room start size c.word ≡ false
    → dimensions_of N start size (exprs_of (drop i xs)) ≡ Err (BadArray (place_of (expr_of e)))
dims_full N start size xs i e c lt is h full = ap (λ z. dimensions_of N start size (exprs_of z)) (front xs i e lt is) ∙ dims_full_at N start size (expr_of e) (exprs_of (drop (i + 1) xs)) c h full

pub dims_go : (N : Names) (start size : ℕ) (xs : List WrittenExpr) (i : ℕ) (e : WrittenExpr) (c : Constant) → i < length xs → e ≡ get_or xs i e → constant_of N (expr_of e) ≡ Ok c → has_room start size c.word ≡ true
    → dimensions_of N start size (exprs_of (drop i xs)) ≡ behind (c.word ∷ []) (dimensions_of N start (size * c.word) (exprs_of (drop (i + 1) xs)))
dims_go N start size xs i e c lt is h room = ap (λ z. dimensions_of N start size (exprs_of z)) (front xs i e lt is) ∙ dims_go_at N start size (expr_of e) (exprs_of (drop (i + 1) xs)) c h room

pub dims_end : (N : Names) (start size : ℕ) (xs : List WrittenExpr) (i : ℕ) → length xs ≤ i → dimensions_of N start size (exprs_of (drop i xs)) ≡ Ok []
unfolding dimensions_of
dims_end N start size xs i le = ap (λ z. dimensions_of N start size (exprs_of z)) (drop_of_length-le xs le)

pub size_more : (ds : List ℕ) (d : ℕ) → size_of (ds ++ d ∷ []) ≡ size_of ds * d
size_more [] d = grind arith
size_more (x ∷ ds) d = ap (λ n. x * n) (size_more ds d) ∙ sym (mul_assoc x (size_of ds) d)

pub end_more : (start : ℕ) (ds : List ℕ) (d : ℕ) → end_of start (ds ++ d ∷ []) ≡ start + size_of ds * d
end_more start [] d = grind arith
end_more start (x ∷ ds) d = ap (λ n. start + n) (size_more (x ∷ ds) d)

-- ---- tables

rows_is : {m : _} (row : Row_of-Rows m) → row_rows row ≡ rows_list (items-the_row-Rows m row)
rows_is end_of-Rows = refl
rows_is (more_of-Rows r rest) = ap (λ z. OneMore (rows_of r) z) (rows_is rest)

inner_is : (place : ℕ) (rs : Vec WrittenRows Global) → rows_of (made.Rows place rs) ≡ Inner place (rows_list rs.items)
inner_is place rs = search (rules, rows_is, the_lemmas)

rows_count_is : (rs : List WrittenRows) → rows_count (rows_list rs) ≡ length rs
rows_count_is [] = refl
rows_count_is (r ∷ rs) = ap (λ n. suc n) (rows_count_is rs)

items_bad_at : (N : Names) (ds : List ℕ) (place : ℕ) (es : Exprs) → is_first (count es) ds ≡ false → table_of N ds (Items place es) ≡ Err (BadArray place)
unfolding table_of
items_bad_at N ds place es h = rw h refl

items_go_at : (N : Names) (ds : List ℕ) (place : ℕ) (es : Exprs) → is_first (count es) ds ≡ true → table_of N ds (Items place es) ≡ values_of N es
unfolding table_of
items_go_at N ds place es h = rw h refl

inner_bad_at : (N : Names) (ds : List ℕ) (place : ℕ) (rs : RowsList) → is_first (rows_count rs) ds ≡ false → table_of N ds (Inner place rs) ≡ Err (BadArray place)
unfolding table_of
inner_bad_at N ds place rs h = rw h refl

inner_go_at : (N : Names) (ds : List ℕ) (place : ℕ) (rs : RowsList) → is_first (rows_count rs) ds ≡ true → table_of N ds (Inner place rs) ≡ tables_of N (behind_first ds) rs
unfolding table_of
inner_go_at N ds place rs h = rw h refl

pub items_bad : (N : Names) (ds : List ℕ) (R : WrittenRows) (place n : ℕ) (vs : Vec WrittenExpr Global) → R ≡ made.Values place vs → n ≡ length vs.items → is_first n ds ≡ false → table_of N ds (rows_of R) ≡ Err (BadArray place)
items_bad N ds R place n vs is len h = ap (λ z. table_of N ds (rows_of z)) is ∙ items_bad_at N ds place (exprs_of vs.items) (ap (λ k. is_first k ds) (count_is vs.items ∙ sym len) ∙ h)

pub items_go : (N : Names) (ds : List ℕ) (R : WrittenRows) (place n : ℕ) (vs : Vec WrittenExpr Global) → R ≡ made.Values place vs → n ≡ length vs.items → is_first n ds ≡ true → table_of N ds (rows_of R) ≡ values_of N (exprs_of vs.items)
items_go N ds R place n vs is len h = ap (λ z. table_of N ds (rows_of z)) is ∙ items_go_at N ds place (exprs_of vs.items) (ap (λ k. is_first k ds) (count_is vs.items ∙ sym len) ∙ h)

pub inner_bad : (N : Names) (ds : List ℕ) (R : WrittenRows) (place n : ℕ) (rs : Vec WrittenRows Global) → R ≡ made.Rows place rs → n ≡ length rs.items → is_first n ds ≡ false → table_of N ds (rows_of R) ≡ Err (BadArray place)
inner_bad N ds R place n rs is len h =
    ap (λ z. table_of N ds (rows_of z)) is ∙ ap (table_of N ds) (inner_is place rs) ∙ inner_bad_at N ds place (rows_list rs.items) (ap (λ k. is_first k ds) (rows_count_is rs.items ∙ sym len) ∙ h)

pub inner_go : (N : Names) (ds : List ℕ) (R : WrittenRows) (place n : ℕ) (rs : Vec WrittenRows Global) → R ≡ made.Rows place rs → n ≡ length rs.items → is_first n ds ≡ true
    → table_of N ds (rows_of R) ≡ tables_of N (behind_first ds) (rows_list rs.items)
inner_go N ds R place n rs is len h =
    ap (λ z. table_of N ds (rows_of z)) is ∙ ap (table_of N ds) (inner_is place rs) ∙ inner_go_at N ds place (rows_list rs.items) (ap (λ k. is_first k ds) (rows_count_is rs.items ∙ sym len) ∙ h)

append_behind : (ws : List ℕ) (r : Checked (List ℕ)) → (r >>= λ more. Ok (ws ++ more)) ≡ behind ws r
append_behind ws (Ok more) = refl
append_behind ws (Err fault) = refl

tables_stop_at : (N : Names) (ds : List ℕ) (r : Rows) (rs : RowsList) (f : CheckFault) → table_of N ds r ≡ Err f → tables_of N ds (OneMore r rs) ≡ Err f
unfolding tables_of
tables_stop_at N ds r rs f h = rw h refl

tables_go_at : (N : Names) (ds : List ℕ) (r : Rows) (rs : RowsList) (ws : List ℕ) → table_of N ds r ≡ Ok ws → tables_of N ds (OneMore r rs) ≡ behind ws (tables_of N ds rs)
unfolding tables_of
tables_go_at N ds r rs ws h = rw h (append_behind ws (tables_of N ds rs))

pub tables_stop : (N : Names) (ds : List ℕ) (xs : List WrittenRows) (i : ℕ) (r : WrittenRows) (f : CheckFault) → i < length xs → r ≡ get_or xs i r → table_of N ds (rows_of r) ≡ Err f → tables_of N ds (rows_list (drop i xs)) ≡ Err f
tables_stop N ds xs i r f lt is h = ap (λ z. tables_of N ds (rows_list z)) (front xs i r lt is) ∙ tables_stop_at N ds (rows_of r) (rows_list (drop (i + 1) xs)) f h

pub tables_go : (N : Names) (ds : List ℕ) (xs : List WrittenRows) (i : ℕ) (r : WrittenRows) (ws : List ℕ) → i < length xs → r ≡ get_or xs i r → table_of N ds (rows_of r) ≡ Ok ws
    → tables_of N ds (rows_list (drop i xs)) ≡ behind ws (tables_of N ds (rows_list (drop (i + 1) xs)))
tables_go N ds xs i r ws lt is h = ap (λ z. tables_of N ds (rows_list z)) (front xs i r lt is) ∙ tables_go_at N ds (rows_of r) (rows_list (drop (i + 1) xs)) ws h

pub tables_end : (N : Names) (ds : List ℕ) (xs : List WrittenRows) (i : ℕ) → length xs ≤ i → tables_of N ds (rows_list (drop i xs)) ≡ Ok []
unfolding tables_of
tables_end N ds xs i le = ap (λ z. tables_of N ds (rows_list z)) (drop_of_length-le xs le)

-- what the search for room tells
pub room_is_none : (b : Bool) (n : ℕ) (r : Option ℕ) → r ≡ (if b then Some n else None) → r ≡ None → b ≡ false
room_is_none false n r h e = refl
room_is_none true n r h e = cc

pub room_is_some : (b : Bool) (n : ℕ) (r : Option ℕ) (m : ℕ) → r ≡ (if b then Some n else None) → r ≡ Some m → b ≡ true
room_is_some true n r m h e = refl
room_is_some false n r m h e = cc

pub product_is : (b : Bool) (n : ℕ) (r : Option ℕ) (m : ℕ) → r ≡ (if b then Some n else None) → r ≡ Some m → m ≡ n
product_is true n r m h e = cc
product_is false n r m h e = cc
