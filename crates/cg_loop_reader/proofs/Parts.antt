-- Products and sums that are read, part by part.
use Rattle.std.proofs.Common.{◌≡◌, ℕ, Bool, true, false, ◌&&◌, List, [], ◌∷◌, ◌++◌, cond, Some, None, refl, sym, ap, ap₂, ◌∙◌, subst, append_assoc, append-nil}
use Rattle.std.specs.Prelude.{codes, bytes_eq}
use Rattle.std.specs.List.{list_all}
use Rattle.std.proofs.lemmas.Bool.{and_parts, and_from}
use Rattle.cg_word.specs.declared.op.Op.{Op}
use Rattle.cg_word.specs.declared.op.Op.TheVariants as ops
use Rattle.cg_tokens.specs.Tokens.{Placed}
use Rattle.cg_loop_syntax.specs.declared.syntax.Atom.{Atom}
use Rattle.cg_loop_syntax.specs.declared.syntax.Prod.{Prod}
use Rattle.cg_loop_syntax.specs.declared.syntax.Term.{Term}
use Rattle.cg_loop_syntax.specs.declared.syntax.Sum.{Sum}
use Rattle.cg_loop_syntax.specs.declared.syntax.Expr.{Expr}
use Rattle.cg_loop_syntax.specs.Loop as loops
use Rattle.cg_loop_syntax.specs.Grouped.{expr_of, sum_of, atom_of, product, whole_prod, terms}
use Rattle.cg_loop_syntax.specs.Well.{is_adding, is_comparing, is_well_expr, is_well_sum, is_well_atom, has_atom, is_well_product, is_well_term}
use Rattle.cg_loop_syntax.proofs.Rows.{terms_push, factors_push}
use Rattle.cg_loop_text_spec.specs.Words.{added_by, compared_by, op_of}
use Rattle.cg_loop_text_spec.specs.Grammar as grammar
use Rattle.cg_loop_text_spec.specs.Grammar.{Factors, Terms, NoFactors, Factor, NoTerms, Term as TermTree, Prods, Sums, Plain, Compared, IsAtom, IsProd, IsFactors, IsTerms, factors_tokens, terms_tokens, atom_tokens, prod_tokens, sum_tokens}
use Rattle.cg_loop_text_spec.specs.Meaning.{sum_value, factors_value, terms_value, atom_value, prod_value, factors_uses, terms_uses, atom_uses, prod_uses, sum_uses}
use Rattle.cg_loop_text_spec.specs.Read as read
use Rattle.cg_loop_text_spec.proofs.Sums as sums
use Rattle.cg_loop_reader.specs.declared.reader.Reader.{Reader}
use Rattle.cg_loop_reader.specs.Left.{left, noted, Takes, TakesSign}
use Rattle.cg_loop_reader.specs.Found.{FindsAtom, FindsProduct, FindsTerms, FindsSum, FindsExpr}
use Rattle.cg_loop_reader.proofs.Taken.{taken, after, noted_after}

-- ---- one factor, one term more at the end

abbrev with_factor : Factors → Placed → grammar.Atom → Factors
with_factor NoFactors star a = Factor star a NoFactors
with_factor (Factor s b fs) star a = Factor s b (with_factor fs star a)

factors_is : (room : ℕ) (fs : Factors) (star : Placed) (a : grammar.Atom) → IsFactors room fs → star.text ≡ codes "*" → IsAtom room a → IsFactors room (with_factor fs star a)
factors_is room NoFactors star a h s i = (s, i, tt)
factors_is room (Factor t b fs) star a h s i = (h.0, h.1, factors_is room fs star a h.2 s i)

factors_spelled : (fs : Factors) (star : Placed) (a : grammar.Atom) → factors_tokens (with_factor fs star a) ≡ factors_tokens fs ++ star ∷ atom_tokens a
factors_spelled NoFactors star a = ap (λ z. star ∷ z) (append-nil (atom_tokens a))
factors_spelled (Factor t b fs) star a = ap (λ z. t ∷ (atom_tokens b ++ z)) (factors_spelled fs star a) ∙ ap (λ z. t ∷ z) (sym (append_assoc (atom_tokens b) (factors_tokens fs) (star ∷ atom_tokens a)))

factors_noted : (fs : Factors) (star : Placed) (a : grammar.Atom) → factors_uses (with_factor fs star a) ≡ factors_uses fs ++ atom_uses a
factors_noted NoFactors star a = append-nil (atom_uses a)
factors_noted (Factor t b fs) star a = ap (λ z. atom_uses b ++ z) (factors_noted fs star a) ∙ sym (append_assoc (atom_uses b) (factors_uses fs) (atom_uses a))

factors_meant : (e : loops.Expr) (fs : Factors) (star : Placed) (a : grammar.Atom) → factors_value e (with_factor fs star a) ≡ loops.Two ops.Mul (factors_value e fs) (atom_value a)
factors_meant e NoFactors star a = refl
factors_meant e (Factor t b fs) star a = factors_meant (loops.Two ops.Mul e (atom_value b)) fs star a

abbrev with_term : Terms → Placed → grammar.Prod → Terms
with_term NoTerms sign p = TermTree sign p NoTerms
with_term (TermTree s q ts) sign p = TermTree s q (with_term ts sign p)

terms_is : (room : ℕ) (ts : Terms) (sign : Placed) (p : grammar.Prod) (op : Op) → IsTerms room ts → added_by sign.text ≡ Some op → IsProd room p → IsTerms room (with_term ts sign p)
terms_is room NoTerms sign p op h s i = ((op, s), i, tt)
terms_is room (TermTree t q ts) sign p op h s i = (h.0, h.1, terms_is room ts sign p op h.2 s i)

terms_spelled : (ts : Terms) (sign : Placed) (p : grammar.Prod) → terms_tokens (with_term ts sign p) ≡ terms_tokens ts ++ sign ∷ prod_tokens p
terms_spelled NoTerms sign p = ap (λ z. sign ∷ z) (append-nil (prod_tokens p))
terms_spelled (TermTree t q ts) sign p = ap (λ z. t ∷ (prod_tokens q ++ z)) (terms_spelled ts sign p) ∙ ap (λ z. t ∷ z) (sym (append_assoc (prod_tokens q) (terms_tokens ts) (sign ∷ prod_tokens p)))

terms_noted : (ts : Terms) (sign : Placed) (p : grammar.Prod) → terms_uses (with_term ts sign p) ≡ terms_uses ts ++ prod_uses p
terms_noted NoTerms sign p = append-nil (prod_uses p)
terms_noted (TermTree t q ts) sign p = ap (λ z. prod_uses q ++ z) (terms_noted ts sign p) ∙ sym (append_assoc (prod_uses q) (terms_uses ts) (prod_uses p))

terms_meant : (e : loops.Expr) (ts : Terms) (sign : Placed) (p : grammar.Prod) → terms_value e (with_term ts sign p) ≡ loops.Two (op_of (added_by sign.text)) (terms_value e ts) (prod_value p)
terms_meant e NoTerms sign p = refl
terms_meant e (TermTree t q ts) sign p = terms_meant (loops.Two (op_of (added_by t.text)) e (prod_value q)) ts sign p

pub all_push : {X : Type 0} (test : X → Bool) (xs : List X) (x : X) → list_all test xs ≡ true → test x ≡ true → list_all test (xs ++ x ∷ []) ≡ true
all_push test [] x h i = and_from (test x) true i refl
all_push test (y ∷ ys) x h i = let both = and_parts (test y) (list_all test ys) h in and_from (test y) (list_all test (ys ++ x ∷ [])) both.0 (all_push test ys x both.1 i)

-- ---- products

abbrev product_of : grammar.Prod → Placed → grammar.Atom → grammar.Prod
product_of (Prods a fs) star b = Prods a (with_factor fs star b)

pub first_product : (room : ℕ) (a : Atom) (old new : Reader) → FindsAtom room a old new → FindsProduct room (a ∷ []) old new
first_product room a old new x = record {
  tree = Prods x.tree NoFactors;
  is = (x.is, tt);
  spelled = x.spelled ∙ ap (λ z. z ++ left new) (sym (append-nil (atom_tokens x.tree)));
  noted = x.noted ∙ ap (λ z. noted old ++ z) (sym (append-nil (atom_uses x.tree)));
  value = x.value;
  well = and_from (is_well_atom room a) true x.well refl;
  ran = x.ran;
}

push_product : (xs : List Atom) (a : Atom) → has_atom xs ≡ true → product (xs ++ a ∷ []) ≡ loops.Two ops.Mul (product xs) (atom_of a)
push_product [] a h = cc
push_product (x ∷ xs) a h = factors_push (atom_of x) xs a

has_more : (xs : List Atom) (a : Atom) → has_atom (xs ++ a ∷ []) ≡ true
has_more [] a = refl
has_more (x ∷ xs) a = refl

prod_is : (room : ℕ) (p : grammar.Prod) (star : Placed) (b : grammar.Atom) → IsProd room p → star.text ≡ codes "*" → IsAtom room b → IsProd room (product_of p star b)
prod_is room (Prods a fs) star b h s i = (h.0, factors_is room fs star b h.1 s i)

prod_spelled : (p : grammar.Prod) (star : Placed) (b : grammar.Atom) → prod_tokens (product_of p star b) ≡ prod_tokens p ++ star ∷ atom_tokens b
prod_spelled (Prods a fs) star b = ap (λ z. atom_tokens a ++ z) (factors_spelled fs star b) ∙ sym (append_assoc (atom_tokens a) (factors_tokens fs) (star ∷ atom_tokens b))

prod_noted : (p : grammar.Prod) (star : Placed) (b : grammar.Atom) → prod_uses (product_of p star b) ≡ prod_uses p ++ atom_uses b
prod_noted (Prods a fs) star b = ap (λ z. atom_uses a ++ z) (factors_noted fs star b) ∙ sym (append_assoc (atom_uses a) (factors_uses fs) (atom_uses b))

prod_meant : (p : grammar.Prod) (star : Placed) (b : grammar.Atom) → prod_value (product_of p star b) ≡ loops.Two ops.Mul (prod_value p) (atom_value b)
prod_meant (Prods a fs) star b = factors_meant (atom_value a) fs star b

pub more_product : (room : ℕ) (xs : List Atom) (a : Atom) (old m l new : Reader) → FindsProduct room xs old m → Takes (codes "*") m l → FindsAtom room a l new → FindsProduct room (xs ++ a ∷ []) old new
more_product room xs a old m l new x c y =
    let parts = and_parts (has_atom xs) (list_all (is_well_atom room) xs) x.well in
    record {
      tree = product_of x.tree c.token y.tree;
      is = prod_is room x.tree c.token y.tree x.is c.is y.is;
      spelled = after (left old) (left m) (left new) (prod_tokens x.tree) (c.token ∷ atom_tokens y.tree) x.spelled (c.spelled ∙ ap (λ z. c.token ∷ z) y.spelled) ∙ ap (λ z. z ++ left new) (sym (prod_spelled x.tree c.token y.tree));
      noted = noted_after (noted old) (noted l) (noted new) (prod_uses x.tree) (atom_uses y.tree) (c.kept.noted ∙ x.noted) y.noted ∙ ap (λ z. noted old ++ z) (sym (prod_noted x.tree c.token y.tree));
      value = push_product xs a parts.0 ∙ ap₂ (loops.Two ops.Mul) x.value y.value ∙ sym (prod_meant x.tree c.token y.tree);
      well = and_from (has_atom (xs ++ a ∷ [])) (list_all (is_well_atom room) (xs ++ a ∷ [])) (has_more xs a) (all_push (is_well_atom room) xs a parts.1 y.well);
      ran = sums.prod_more room (left old) (left m) (left l) (left new) x.ran (taken c) y.ran;
    }

-- ---- sums

abbrev sum_with : grammar.Sum → Placed → grammar.Prod → grammar.Sum
sum_with (Sums p ts) sign q = Sums p (with_term ts sign q)

sum_is : (room : ℕ) (s : grammar.Sum) (sign : Placed) (q : grammar.Prod) (op : Op) → grammar.IsSum room s → added_by sign.text ≡ Some op → IsProd room q → grammar.IsSum room (sum_with s sign q)
sum_is room (Sums p ts) sign q op h s i = (h.0, terms_is room ts sign q op h.1 s i)

sum_spelled : (s : grammar.Sum) (sign : Placed) (q : grammar.Prod) → sum_tokens (sum_with s sign q) ≡ sum_tokens s ++ sign ∷ prod_tokens q
sum_spelled (Sums p ts) sign q = ap (λ z. prod_tokens p ++ z) (terms_spelled ts sign q) ∙ sym (append_assoc (prod_tokens p) (terms_tokens ts) (sign ∷ prod_tokens q))

sum_noted : (s : grammar.Sum) (sign : Placed) (q : grammar.Prod) → sum_uses (sum_with s sign q) ≡ sum_uses s ++ prod_uses q
sum_noted (Sums p ts) sign q = ap (λ z. prod_uses p ++ z) (terms_noted ts sign q) ∙ sym (append_assoc (prod_uses p) (terms_uses ts) (prod_uses q))

sum_meant : (s : grammar.Sum) (sign : Placed) (q : grammar.Prod) → sum_value (sum_with s sign q) ≡ loops.Two (op_of (added_by sign.text)) (sum_value s) (prod_value q)
sum_meant (Sums p ts) sign q = terms_meant (prod_value p) ts sign q

pub first_terms : (room : ℕ) (p : Prod) (old new : Reader) → FindsProduct room p.atoms.items old new → FindsTerms room p [] old new
first_terms room p old new x = record {
  tree = Sums x.tree NoTerms;
  is = (x.is, tt);
  spelled = x.spelled ∙ ap (λ z. z ++ left new) (sym (append-nil (prod_tokens x.tree)));
  noted = x.noted ∙ ap (λ z. noted old ++ z) (sym (append-nil (prod_uses x.tree)));
  value = x.value;
  well = and_from (is_well_product room p.atoms.items) true x.well refl;
  ran = x.ran;
}

added : (plus minus : Bool) (op : Op) → cond plus (Some ops.Add) (cond minus (Some ops.Sub) None) ≡ Some op → is_adding op ≡ true
added true minus op e = let same : ◌≡◌ {A = Op} ops.Add op = cc in subst (λ o. is_adding o ≡ true) same refl
added false true op e = let same : ◌≡◌ {A = Op} ops.Sub op = cc in subst (λ o. is_adding o ≡ true) same refl
added false false op e = cc

adds : (t : List ℕ) (op : Op) → added_by t ≡ Some op → is_adding op ≡ true
adds t op e = added (bytes_eq t (codes "+")) (bytes_eq t (codes "-")) op e

pub more_terms : (room : ℕ) (p : Prod) (ts : List Term) (t : Term) (old m l new : Reader) → FindsTerms room p ts old m → TakesSign added_by t.op m l → FindsProduct room t.prod.atoms.items l new → FindsTerms room p (ts ++ t ∷ []) old new
more_terms room p ts t old m l new x c y =
    let parts = and_parts (is_well_product room p.atoms.items) (list_all (is_well_term room) ts) x.well in
    record {
      tree = sum_with x.tree c.token y.tree;
      is = sum_is room x.tree c.token y.tree t.op x.is c.is y.is;
      spelled = after (left old) (left m) (left new) (sum_tokens x.tree) (c.token ∷ prod_tokens y.tree) x.spelled (c.spelled ∙ ap (λ z. c.token ∷ z) y.spelled) ∙ ap (λ z. z ++ left new) (sym (sum_spelled x.tree c.token y.tree));
      noted = noted_after (noted old) (noted l) (noted new) (sum_uses x.tree) (prod_uses y.tree) (c.kept.noted ∙ x.noted) y.noted ∙ ap (λ z. noted old ++ z) (sym (sum_noted x.tree c.token y.tree));
      value = terms_push (whole_prod p) ts t ∙ ap₂ (loops.Two t.op) x.value y.value ∙ ap (λ o. loops.Two (op_of o) (sum_value x.tree) (prod_value y.tree)) (sym c.is) ∙ sym (sum_meant x.tree c.token y.tree);
      well = and_from (is_well_product room p.atoms.items) (list_all (is_well_term room) (ts ++ t ∷ [])) parts.0 (all_push (is_well_term room) ts t parts.1 (and_from (is_adding t.op) (is_well_product room t.prod.atoms.items) (adds c.token.text t.op c.is) y.well));
      ran = sums.sum_more room t.op c.token (left old) (left m) (left l) (left new) x.ran c.spelled c.is y.ran;
    }

pub sum_found : (room : ℕ) (s : Sum) (p : Prod) (ts : List Term) (old new : Reader) → sum_of s ≡ terms (whole_prod p) ts → is_well_sum room s ≡ (is_well_product room p.atoms.items && list_all (is_well_term room) ts) → FindsTerms room p ts old new → FindsSum room s old new
sum_found room s p ts old new sv sw x = record { tree = x.tree; is = x.is; spelled = x.spelled; noted = x.noted; value = sv ∙ x.value; well = sw ∙ x.well; ran = x.ran }

-- ---- expressions

pub plain_found : (room : ℕ) (e : Expr) (s : Sum) (old new : Reader) → expr_of e ≡ sum_of s → is_well_expr room e ≡ (is_well_sum room s && true) → FindsSum room s old new
    → read.begins_with (codes "*") (left new) ≡ false → read.begins_adding (left new) ≡ false → read.begins_comparing (left new) ≡ false → FindsExpr room e old new
plain_found room e s old new ev ew x star add comp = record {
  tree = Plain x.tree;
  is = x.is;
  spelled = x.spelled;
  noted = x.noted;
  value = ev ∙ x.value;
  well = ew ∙ and_from (is_well_sum room s) true x.well refl;
  ran = sums.plain_read room (left old) (left new) x.ran star add comp;
}

compared : (equal less : Bool) (op : Op) → cond equal (Some ops.Eq) (cond less (Some ops.Lts) None) ≡ Some op → is_comparing op ≡ true
compared true less op e = let same : ◌≡◌ {A = Op} ops.Eq op = cc in subst (λ o. is_comparing o ≡ true) same refl
compared false true op e = let same : ◌≡◌ {A = Op} ops.Lts op = cc in subst (λ o. is_comparing o ≡ true) same refl
compared false false op e = cc

compares : (t : List ℕ) (op : Op) → compared_by t ≡ Some op → is_comparing op ≡ true
compares t op e = compared (bytes_eq t (codes "==")) (bytes_eq t (codes "<")) op e

pub compared_found : (room : ℕ) (e : Expr) (s : Sum) (op : Op) (r : Sum) (old m l new : Reader) → expr_of e ≡ loops.Two op (sum_of s) (sum_of r) → is_well_expr room e ≡ (is_well_sum room s && (is_comparing op && is_well_sum room r)) → FindsSum room s old m → TakesSign compared_by op m l → FindsSum room r l new
    → read.begins_with (codes "*") (left new) ≡ false → read.begins_adding (left new) ≡ false → FindsExpr room e old new
compared_found room e s op r old m l new ev ew x c y star add = record {
  tree = Compared x.tree c.token y.tree;
  is = (x.is, (op, c.is), y.is);
  spelled = after (left old) (left m) (left new) (sum_tokens x.tree) (c.token ∷ sum_tokens y.tree) x.spelled (c.spelled ∙ ap (λ z. c.token ∷ z) y.spelled);
  noted = noted_after (noted old) (noted l) (noted new) (sum_uses x.tree) (sum_uses y.tree) (c.kept.noted ∙ x.noted) y.noted;
  value = ev ∙ ap₂ (loops.Two op) x.value y.value ∙ ap (λ o. loops.Two (op_of o) (sum_value x.tree) (sum_value y.tree)) (sym c.is);
  well = ew ∙ and_from (is_well_sum room s) (is_comparing op && is_well_sum room r) x.well (and_from (is_comparing op) (is_well_sum room r) (compares c.token.text op c.is) y.well);
  ran = sums.compared_read room op c.token (left old) (left m) (left l) (left new) x.ran c.spelled c.is y.ran star add;
}
