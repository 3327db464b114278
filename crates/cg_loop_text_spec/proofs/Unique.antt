-- Tokens have one tree.
use Rattle.std.proofs.Common.{◌≡◌, ℕ, suc, ◌≤◌, true, false, cond, List, [], ◌∷◌, ◌++◌, codes, Some, None, ⊎_elim, refl, sym, ◌∙◌, ap, append_assoc, arith}
use Rattle.std.specs.Prelude.{is_some}
use Rattle.cg_word.specs.declared.op.Op.{Op}
use Rattle.cg_word.specs.declared.op.Op.TheVariants as ops
use Rattle.cg_word.specs.Word.{name_of}
use Rattle.cg_tokens.specs.Tokens.{Placed}
use Rattle.cg_loop_syntax.specs.Well.{is_word_op, is_loop_name}
use Rattle.cg_loop_text_spec.specs.Words.{is_number, added_by, compared_by}
use Rattle.cg_loop_text_spec.specs.Grammar.{Expr, Plain, Compared, Sum, Sums, Terms, NoTerms, Term, Prod, Prods, Factors, NoFactors, Factor, Atom, Number, Turn, Input, Scalar, Item, Bracket, Apply, Args, One, More, expr_tokens, sum_tokens, terms_tokens, prod_tokens, factors_tokens, atom_tokens, args_tokens, Is, IsExpr, IsSum, IsTerms, IsProd, IsFactors, IsAtom, IsArgs}
use Rattle.cg_loop_text_spec.specs.Rules.{same}
use Rattle.cg_loop_text_spec.proofs.Texts.{chosen, same_is, apart, name_number, op_name}
use Rattle.cg_loop_text_spec.proofs.Parts.{Tokens}

-- ---- what may follow

-- the greatest part that goes on with a token: an operand 4, a product 3, a sum 2, an expression 1, none 0
abbrev pub level_of : List ℕ → ℕ
level_of s = cond (same s (codes "[")) 4 (cond (same s (codes "*")) 3 (cond (is_some (added_by s)) 2 (cond (is_some (compared_by s)) 1 0)))

abbrev pub level : Tokens → ℕ
level [] = 0
level (t ∷ rest) = level_of t.text

adds_level : (t : List ℕ) (o : Op) → added_by t ≡ Some o → level_of t ≡ 2
adds_level t o h = ⊎_elim (λ w. ap level_of (same_is t (codes "+") w.0))
    (λ w. ⊎_elim (λ v. ap level_of (same_is t (codes "-") v.0)) (λ v. let none = v.1 in cc) (chosen (same t (codes "-")) (Some ops.Sub) None (Some o) w.1))
    (chosen (same t (codes "+")) (Some ops.Add) (cond (same t (codes "-")) (Some ops.Sub) None) (Some o) h)

compares_level : (t : List ℕ) (o : Op) → compared_by t ≡ Some o → level_of t ≡ 1
compares_level t o h = ⊎_elim (λ w. ap level_of (same_is t (codes "==") w.0))
    (λ w. ⊎_elim (λ v. ap level_of (same_is t (codes "<") v.0)) (λ v. let none = v.1 in cc) (chosen (same t (codes "<")) (Some ops.Lts) None (Some o) w.1))
    (chosen (same t (codes "==")) (Some ops.Eq) (cond (same t (codes "<")) (Some ops.Lts) None) (Some o) h)

-- ---- operands by their first token

abbrev class_of : List ℕ → ℕ
class_of s = cond (is_number s) 1 (cond (same s (codes "turn")) 2 (cond (same s (codes "in")) 3 (cond (is_loop_name s) 4 (cond (same s (codes "(")) 5 6))))

abbrev class : Atom → ℕ
class (Number t) = 1
class (Turn t) = 2
class (Input t p) = 3
class (Scalar t) = 4
class (Item t opens e closes) = 4
class (Bracket opens e closes) = 5
class (Apply op opens args closes) = 6

name_class : (t : List ℕ) → is_loop_name t ≡ true → class_of t ≡ 4
name_class t h =
    ap (λ b. cond b 1 (cond (same t (codes "turn")) 2 (cond (same t (codes "in")) 3 (cond (is_loop_name t) 4 (cond (same t (codes "(")) 5 6))))) (name_number t h)
    ∙ ap (λ b. cond b 2 (cond (same t (codes "in")) 3 (cond (is_loop_name t) 4 (cond (same t (codes "(")) 5 6)))) (apart is_loop_name t (codes "turn") h refl)
    ∙ ap (λ b. cond b 3 (cond (is_loop_name t) 4 (cond (same t (codes "(")) 5 6))) (apart is_loop_name t (codes "in") h refl)
    ∙ ap (λ b. cond b 4 (cond (same t (codes "(")) 5 6)) h

word_class : (o : Op) → is_word_op o ≡ true → class_of (name_of o) ≡ 6
word_class ops.Const h = cc
word_class ops.Iter h = cc
word_class ops.Input h = cc
word_class ops.Add h = refl
word_class ops.Sub h = refl
word_class ops.Mul h = refl
word_class ops.And h = refl
word_class ops.Or h = refl
word_class ops.Xor h = refl
word_class ops.Shl h = refl
word_class ops.Shr h = refl
word_class ops.Sar h = refl
word_class ops.Eq h = refl
word_class ops.Ne h = refl
word_class ops.Lts h = refl
word_class ops.Ltu h = refl
word_class ops.Mins h = refl
word_class ops.Maxs h = refl
word_class ops.Select h = refl
word_class ops.Load h = cc
word_class ops.Store h = cc
word_class ops.Output h = cc
word_class ops.LoadIf h = cc
word_class ops.StoreIf h = cc
word_class ops.OutputIf h = cc

abbrev head_class : Tokens → ℕ
head_class [] = 0
head_class (t ∷ rest) = class_of t.text

class_is : (room : ℕ) (a : Atom) (u : Tokens) → IsAtom room a → head_class (atom_tokens a ++ u) ≡ class a
class_is room (Number t) u h = ap (λ b. cond b 1 (cond (same t.text (codes "turn")) 2 (cond (same t.text (codes "in")) 3 (cond (is_loop_name t.text) 4 (cond (same t.text (codes "(")) 5 6))))) h
class_is room (Turn t) u h = ap class_of h
class_is room (Input t p) u h = ap class_of h.0
class_is room (Scalar t) u h = name_class t.text h
class_is room (Item t opens e closes) u h = name_class t.text h.0
class_is room (Bracket opens e closes) u h = ap class_of h.0
class_is room (Apply op opens args closes) u h = let w = h.2 in let o = op_name op.text w.0 w.3 in ap class_of o.1 ∙ word_class w.0 o.0

same_class : (r q : ℕ) (a b : Atom) (u v : Tokens) → IsAtom r a → IsAtom q b → atom_tokens a ++ u ≡ atom_tokens b ++ v → class a ≡ class b
same_class r q a b u v h g e = sym (class_is r a u h) ∙ ap head_class e ∙ class_is q b v g

-- ---- lists that begin alike

pub heads : {t s : Placed} {u v : Tokens} → t ∷ u ≡ s ∷ v → (t ≡ s) × (u ≡ v)
heads e = (cc, cc)

not_level : (n m : ℕ) (u : Tokens) (t : Placed) (rest : Tokens) → level u ≤ n → u ≡ t ∷ rest → level_of t.text ≡ m → suc n ≤ m → ⊥
not_level n m u t rest h e g lt = let w : level u ≡ m = ap level e ∙ g in omega arith

pub of_level : (n m : ℕ) (t : Placed) → level_of t.text ≡ m → m ≤ n → level_of t.text ≤ n
of_level n m t e h = omega arith

terms_level : (room : ℕ) (ts : Terms) (u : Tokens) → IsTerms room ts → level u ≤ 1 → level (terms_tokens ts ++ u) ≤ 2
terms_level room NoTerms u h l = omega arith
terms_level room (Term sign p ts) u h l = let op = h.0 in of_level 2 2 sign (adds_level sign.text op.0 op.1) (omega arith)

factors_level : (room : ℕ) (fs : Factors) (u : Tokens) → IsFactors room fs → level u ≤ 2 → level (factors_tokens fs ++ u) ≤ 3
factors_level room NoFactors u h l = omega arith
factors_level room (Factor star a fs) u h l = of_level 3 3 star (ap level_of h.0) (omega arith)

-- a comma is no bracket
no_comma : (closes comma : Placed) → Is closes (codes ")") → Is comma (codes ",") → closes ≡ comma → ⊥
no_comma closes comma h g e =
    let texts : codes ")" ≡ codes "," = sym h ∙ ap (λ (x : Placed). x.text) e ∙ g in
    let other : true ≡ false = ap (λ s. same s (codes ")")) texts in
    cc

-- ---- trees that spell the same

mutual
  pub one_expr : (r q : ℕ) (a b : Expr) (u v : Tokens) → IsExpr r a → IsExpr q b → level u ≤ 0 → level v ≤ 0 → expr_tokens a ++ u ≡ expr_tokens b ++ v → (a ≡ b) × (u ≡ v)
  one_expr r q (Plain s) (Plain s') u v h g lu lv e = let w = one_sum r q s s' u v h g (omega arith) (omega arith) e in (ap Plain w.0, w.1)
  one_expr r q (Plain s) (Compared s' sign x) u v h g lu lv e =
      let op = g.1 in
      let level_is = compares_level sign.text op.0 op.1 in
      let rest = sum_tokens x ++ v in
      let w = one_sum r q s s' u (sign ∷ rest) h g.0 (omega arith) (of_level 1 1 sign level_is (omega arith)) (e ∙ append_assoc (sum_tokens s') (sign ∷ sum_tokens x) v) in
      absurd (not_level 0 1 u sign rest lu w.1 level_is (omega arith))
  one_expr r q (Compared s sign x) (Plain s') u v h g lu lv e =
      let op = h.1 in
      let level_is = compares_level sign.text op.0 op.1 in
      let rest = sum_tokens x ++ u in
      let w = one_sum r q s s' (sign ∷ rest) v h.0 g (of_level 1 1 sign level_is (omega arith)) (omega arith) (sym (append_assoc (sum_tokens s) (sign ∷ sum_tokens x) u) ∙ e) in
      absurd (not_level 0 1 v sign rest lv (sym w.1) level_is (omega arith))
  one_expr r q (Compared s sign x) (Compared s' sign' x') u v h g lu lv e =
      let op = h.1 in
      let op' = g.1 in
      let w = one_sum r q s s' (sign ∷ (sum_tokens x ++ u)) (sign' ∷ (sum_tokens x' ++ v)) h.0 g.0 (of_level 1 1 sign (compares_level sign.text op.0 op.1) (omega arith)) (of_level 1 1 sign' (compares_level sign'.text op'.0 op'.1) (omega arith))
      (sym (append_assoc (sum_tokens s) (sign ∷ sum_tokens x) u) ∙ e ∙ append_assoc (sum_tokens s') (sign' ∷ sum_tokens x') v) in
      let p = heads w.1 in
      let z = one_sum r q x x' u v h.2 g.2 (omega arith) (omega arith) p.1 in
      let first = w.0 in
      let middle = p.0 in
      let last = z.0 in
      (cc, z.1)

  one_sum : (r q : ℕ) (a b : Sum) (u v : Tokens) → IsSum r a → IsSum q b → level u ≤ 1 → level v ≤ 1 → sum_tokens a ++ u ≡ sum_tokens b ++ v → (a ≡ b) × (u ≡ v)
  one_sum r q (Sums p ts) (Sums p' ts') u v h g lu lv e =
      let w = one_prod r q p p' (terms_tokens ts ++ u) (terms_tokens ts' ++ v) h.0 g.0 (terms_level r ts u h.1 lu) (terms_level q ts' v g.1 lv) (sym (append_assoc (prod_tokens p) (terms_tokens ts) u) ∙ e ∙ append_assoc (prod_tokens p') (terms_tokens ts') v) in
      let z = one_terms r q ts ts' u v h.1 g.1 lu lv w.1 in
      let first = w.0 in
      let last = z.0 in
      (cc, z.1)

  one_terms : (r q : ℕ) (a b : Terms) (u v : Tokens) → IsTerms r a → IsTerms q b → level u ≤ 1 → level v ≤ 1 → terms_tokens a ++ u ≡ terms_tokens b ++ v → (a ≡ b) × (u ≡ v)
  one_terms r q NoTerms NoTerms u v h g lu lv e = (refl, e)
  one_terms r q NoTerms (Term sign p ts) u v h g lu lv e = let op = g.0 in absurd (not_level 1 2 u sign ((prod_tokens p ++ terms_tokens ts) ++ v) lu e (adds_level sign.text op.0 op.1) (omega arith))
  one_terms r q (Term sign p ts) NoTerms u v h g lu lv e = let op = h.0 in absurd (not_level 1 2 v sign ((prod_tokens p ++ terms_tokens ts) ++ u) lv (sym e) (adds_level sign.text op.0 op.1) (omega arith))
  one_terms r q (Term sign p ts) (Term sign' p' ts') u v h g lu lv e =
      let b = heads e in
      let w = one_prod r q p p' (terms_tokens ts ++ u) (terms_tokens ts' ++ v) h.1 g.1 (terms_level r ts u h.2 lu) (terms_level q ts' v g.2 lv) (sym (append_assoc (prod_tokens p) (terms_tokens ts) u) ∙ b.1 ∙ append_assoc (prod_tokens p') (terms_tokens ts') v) in
      let z = one_terms r q ts ts' u v h.2 g.2 lu lv w.1 in
      let first = b.0 in
      let middle = w.0 in
      let last = z.0 in
      (cc, z.1)

  one_prod : (r q : ℕ) (a b : Prod) (u v : Tokens) → IsProd r a → IsProd q b → level u ≤ 2 → level v ≤ 2 → prod_tokens a ++ u ≡ prod_tokens b ++ v → (a ≡ b) × (u ≡ v)
  one_prod r q (Prods a fs) (Prods a' fs') u v h g lu lv e =
      let w = one_atom r q a a' (factors_tokens fs ++ u) (factors_tokens fs' ++ v) h.0 g.0 (factors_level r fs u h.1 lu) (factors_level q fs' v g.1 lv) (sym (append_assoc (atom_tokens a) (factors_tokens fs) u) ∙ e ∙ append_assoc (atom_tokens a') (factors_tokens fs') v) in
      let z = one_factors r q fs fs' u v h.1 g.1 lu lv w.1 in
      let first = w.0 in
      let last = z.0 in
      (cc, z.1)

  one_factors : (r q : ℕ) (a b : Factors) (u v : Tokens) → IsFactors r a → IsFactors q b → level u ≤ 2 → level v ≤ 2 → factors_tokens a ++ u ≡ factors_tokens b ++ v → (a ≡ b) × (u ≡ v)
  one_factors r q NoFactors NoFactors u v h g lu lv e = (refl, e)
  one_factors r q NoFactors (Factor star a fs) u v h g lu lv e = absurd (not_level 2 3 u star ((atom_tokens a ++ factors_tokens fs) ++ v) lu e (ap level_of g.0) (omega arith))
  one_factors r q (Factor star a fs) NoFactors u v h g lu lv e = absurd (not_level 2 3 v star ((atom_tokens a ++ factors_tokens fs) ++ u) lv (sym e) (ap level_of h.0) (omega arith))
  one_factors r q (Factor star a fs) (Factor star' a' fs') u v h g lu lv e =
      let b = heads e in
      let w = one_atom r q a a' (factors_tokens fs ++ u) (factors_tokens fs' ++ v) h.1 g.1 (factors_level r fs u h.2 lu) (factors_level q fs' v g.2 lv) (sym (append_assoc (atom_tokens a) (factors_tokens fs) u) ∙ b.1 ∙ append_assoc (atom_tokens a') (factors_tokens fs') v) in
      let z = one_factors r q fs fs' u v h.2 g.2 lu lv w.1 in
      let first = b.0 in
      let middle = w.0 in
      let last = z.0 in
      (cc, z.1)

  one_atom : (r q : ℕ) (a b : Atom) (u v : Tokens) → IsAtom r a → IsAtom q b → level u ≤ 3 → level v ≤ 3 → atom_tokens a ++ u ≡ atom_tokens b ++ v → (a ≡ b) × (u ≡ v)
  one_atom r q (Number t) (Number t') u v h g lu lv e = let b = heads e in (ap Number b.0, b.1)
  one_atom r q (Turn t) (Turn t') u v h g lu lv e = let b = heads e in (ap Turn b.0, b.1)
  one_atom r q (Input t p) (Input t' p') u v h g lu lv e =
      let b = heads e in
      let c = heads b.1 in
      let first = b.0 in
      let last = c.0 in
      (cc, c.1)
  one_atom r q (Scalar t) (Scalar t') u v h g lu lv e = let b = heads e in (ap Scalar b.0, b.1)
  one_atom r q (Scalar t) (Item t' opens x closes) u v h g lu lv e = let b = heads e in absurd (not_level 3 4 u opens ((expr_tokens x ++ (closes ∷ [])) ++ v) lu b.1 (ap level_of g.1) (omega arith))
  one_atom r q (Item t opens x closes) (Scalar t') u v h g lu lv e = let b = heads e in absurd (not_level 3 4 v opens ((expr_tokens x ++ (closes ∷ [])) ++ u) lv (sym b.1) (ap level_of h.1) (omega arith))
  one_atom r q (Item t opens x closes) (Item t' opens' x' closes') u v h g lu lv e =
      let b = heads e in
      let c = heads b.1 in
      let w = one_expr h.3.0 g.3.0 x x' (closes ∷ u) (closes' ∷ v) h.3.2 g.3.2 (of_level 0 0 closes (ap level_of h.2) (omega arith)) (of_level 0 0 closes' (ap level_of g.2) (omega arith)) (sym (append_assoc (expr_tokens x) (closes ∷ []) u) ∙ c.1 ∙ append_assoc (expr_tokens x') (closes' ∷ []) v) in
      let d = heads w.1 in
      let one = b.0 in
      let two = c.0 in
      let three = w.0 in
      let four = d.0 in
      (cc, d.1)
  one_atom r q (Bracket opens x closes) (Bracket opens' x' closes') u v h g lu lv e =
      let b = heads e in
      let w = one_expr h.2.0 g.2.0 x x' (closes ∷ u) (closes' ∷ v) h.2.2 g.2.2 (of_level 0 0 closes (ap level_of h.1) (omega arith)) (of_level 0 0 closes' (ap level_of g.1) (omega arith)) (sym (append_assoc (expr_tokens x) (closes ∷ []) u) ∙ b.1 ∙ append_assoc (expr_tokens x') (closes' ∷ []) v) in
      let d = heads w.1 in
      let one = b.0 in
      let two = w.0 in
      let three = d.0 in
      (cc, d.1)
  one_atom r q (Apply op opens args closes) (Apply op' opens' args' closes') u v h g lu lv e =
      let b = heads e in
      let c = heads b.1 in
      let w = one_args h.2.2 g.2.2 h.2.1 g.2.1 args args' closes closes' u v h.2.6 g.2.6 h.1 g.1 (sym (append_assoc (args_tokens args) (closes ∷ []) u) ∙ c.1 ∙ append_assoc (args_tokens args') (closes' ∷ []) v) in
      let one = b.0 in
      let two = c.0 in
      let three = w.0 in
      let four = w.1 in
      (cc, w.2)
  one_atom r q a b u v h g lu lv e = let w = same_class r q a b u v h g e in absurd (omega (arith, w))

  one_args : (r q n m : ℕ) (a b : Args) (closes closes' : Placed) (u v : Tokens) → IsArgs r n a → IsArgs q m b → Is closes (codes ")") → Is closes' (codes ")") → args_tokens a ++ (closes ∷ u) ≡ args_tokens b ++ (closes' ∷ v) → (a ≡ b) × (closes ≡ closes') × (u ≡ v)
  one_args r q n m (One x) (One x') closes closes' u v h g k l e =
      let w = one_expr r q x x' (closes ∷ u) (closes' ∷ v) h.1 g.1 (of_level 0 0 closes (ap level_of k) (omega arith)) (of_level 0 0 closes' (ap level_of l) (omega arith)) e in
      let d = heads w.1 in
      (ap One w.0, d.0, d.1)
  one_args r q n m (One x) (More x' comma args) closes closes' u v h g k l e =
      let i = g.1 in
      let w = one_expr r q x x' (closes ∷ u) (comma ∷ (args_tokens args ++ (closes' ∷ v))) h.1 i.2 (of_level 0 0 closes (ap level_of k) (omega arith)) (of_level 0 0 comma (ap level_of g.0) (omega arith)) (e ∙ append_assoc (expr_tokens x') (comma ∷ args_tokens args) (closes' ∷ v)) in
      let d = heads w.1 in
      absurd (no_comma closes comma k g.0 d.0)
  one_args r q n m (More x comma args) (One x') closes closes' u v h g k l e =
      let i = h.1 in
      let w = one_expr r q x x' (comma ∷ (args_tokens args ++ (closes ∷ u))) (closes' ∷ v) i.2 g.1 (of_level 0 0 comma (ap level_of h.0) (omega arith)) (of_level 0 0 closes' (ap level_of l) (omega arith)) (sym (append_assoc (expr_tokens x) (comma ∷ args_tokens args) (closes ∷ u)) ∙ e) in
      let d = heads w.1 in
      absurd (no_comma closes' comma l h.0 (sym d.0))
  one_args r q n m (More x comma args) (More x' comma' args') closes closes' u v h g k l e =
      let i = h.1 in
      let j = g.1 in
      let w = one_expr r q x x' (comma ∷ (args_tokens args ++ (closes ∷ u))) (comma' ∷ (args_tokens args' ++ (closes' ∷ v))) i.2 j.2 (of_level 0 0 comma (ap level_of h.0) (omega arith)) (of_level 0 0 comma' (ap level_of g.0) (omega arith))
      (sym (append_assoc (expr_tokens x) (comma ∷ args_tokens args) (closes ∷ u)) ∙ e ∙ append_assoc (expr_tokens x') (comma' ∷ args_tokens args') (closes' ∷ v)) in
      let d = heads w.1 in
      let z = one_args r q i.0 j.0 args args' closes closes' u v i.3 j.3 k l d.1 in
      let one = w.0 in
      let two = d.0 in
      let three = z.0 in
      (cc, z.1, z.2)
