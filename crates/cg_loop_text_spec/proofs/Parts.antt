-- What symbols spell, put together and taken apart.
use Rattle.std.proofs.Common.{◌≡◌, ℕ, zero, suc, Bool, true, false, List, [], ◌∷◌, ◌++◌, codes, refl, sym, ◌∙◌, ap, subst, append_assoc, append-nil}
use Rattle.std.specs.List.{flat_map}
use Rattle.cg_tokens.specs.Table.{Spelled, none, next}
use Rattle.cg_tokens.specs.Tokens.{Placed}
use Rattle.cg_loop_text_spec.specs.Grammar.{Expr, Plain, Compared, Sums, Terms, Prods, Factors, Atom, Args, One, More, Stmt, Decl, expr_tokens, terms_tokens, factors_tokens, atom_tokens, args_tokens, stmt_tokens, decl_tokens, Is, IsName, IsNumber, IsExpr, IsTerms, IsFactors, IsAtom, IsArgs, IsStmt, IsDecl}
use Rattle.cg_loop_text_spec.specs.Rules.{Closer, Further, Symbol, Exactly, Name, Digits, Operand, Lines, Compare, NoCompare, Comparing, compare_tokens, IsCompare, Closes, Spells}

abbrev pub Tokens : Type 0
Tokens = List Placed

pub nothing : {ts : Tokens} → Spelled Spells [] ts → ts ≡ []
nothing none = refl

pub alone : (s : Symbol) (ts : Tokens) → Spelled Spells (s ∷ []) ts → Spells s ts
alone s ts (next _ front [] e p none) = subst (Spells s) (sym (e ∙ append-nil front)) p
alone s ts (next _ front (t ∷ rest) e p q) = elim q [ ]

pub only : (s : Symbol) (ts : Tokens) → Spells s ts → Spelled Spells (s ∷ []) ts
only s ts p = next ts ts [] (sym (append-nil ts)) p none

-- a symbol, and then others
pub part_then : (s : Symbol) (stack : List Symbol) (ts : Tokens) → Spelled Spells (s ∷ stack) ts → (u : Tokens) × (v : Tokens) × (ts ≡ u ++ v) × Spells s u × Spelled Spells stack v
part_then s stack ts (next _ front rest e p q) = (front, rest, e, p, q)

pub part_onto : (s : Symbol) (stack : List Symbol) (u v : Tokens) → Spells s u → Spelled Spells stack v → Spelled Spells (s ∷ stack) (u ++ v)
part_onto s stack u v p q = next (u ++ v) u v refl p q

-- two symbols, and then none
pub two_then : (s r : Symbol) (ts : Tokens) → Spelled Spells (s ∷ r ∷ []) ts → (u : Tokens) × (v : Tokens) × (ts ≡ u ++ v) × Spells s u × Spells r v
two_then s r ts (next _ front rest e p q) = (front, rest, e, p, alone r rest q)

pub two_onto : (s r : Symbol) (u v : Tokens) → Spells s u → Spells r v → Spelled Spells (s ∷ r ∷ []) (u ++ v)
two_onto s r u v p q = next (u ++ v) u v refl p (only r v q)

-- symbols of one token
pub exact_then : (s : List ℕ) (stack : List Symbol) (ts : Tokens) → Spelled Spells (Exactly s ∷ stack) ts → (t : Placed) × (rest : Tokens) × (ts ≡ t ∷ rest) × Is t s × Spelled Spells stack rest
exact_then s stack ts (next _ front rest e p q) = (p.0, rest, e ∙ ap (λ x. x ++ rest) p.2, p.1, q)

pub name_then : (stack : List Symbol) (ts : Tokens) → Spelled Spells (Name ∷ stack) ts → (t : Placed) × (rest : Tokens) × (ts ≡ t ∷ rest) × IsName t × Spelled Spells stack rest
name_then stack ts (next _ front rest e p q) = (p.0, rest, e ∙ ap (λ x. x ++ rest) p.2, p.1, q)

pub digits_then : (stack : List Symbol) (ts : Tokens) → Spelled Spells (Digits ∷ stack) ts → (t : Placed) × (rest : Tokens) × (ts ≡ t ∷ rest) × IsNumber t × Spelled Spells stack rest
digits_then stack ts (next _ front rest e p q) = (p.0, rest, e ∙ ap (λ x. x ++ rest) p.2, p.1, q)

pub exact_onto : (s : List ℕ) (stack : List Symbol) (t : Placed) (rest : Tokens) → Is t s → Spelled Spells stack rest → Spelled Spells (Exactly s ∷ stack) (t ∷ rest)
exact_onto s stack t rest h q = next (t ∷ rest) (t ∷ []) rest refl (t, h, refl) q

pub name_onto : (stack : List Symbol) (t : Placed) (rest : Tokens) → IsName t → Spelled Spells stack rest → Spelled Spells (Name ∷ stack) (t ∷ rest)
name_onto stack t rest h q = next (t ∷ rest) (t ∷ []) rest refl (t, h, refl) q

pub digits_onto : (stack : List Symbol) (t : Placed) (rest : Tokens) → IsNumber t → Spelled Spells stack rest → Spelled Spells (Digits ∷ stack) (t ∷ rest)
digits_onto stack t rest h q = next (t ∷ rest) (t ∷ []) rest refl (t, h, refl) q

-- ---- an operand and its tail are an expression

abbrev joined : Atom → Factors → Terms → Compare → Expr
joined a fs ts NoCompare = Plain (Sums (Prods a fs) ts)
joined a fs ts (Comparing sign s) = Compared (Sums (Prods a fs) ts) sign s

joined_is : (room : ℕ) (a : Atom) (fs : Factors) (ts : Terms) (c : Compare) → IsAtom room a → IsFactors room fs → IsTerms room ts → IsCompare false room c → IsExpr room (joined a fs ts c)
joined_is room a fs ts NoCompare ha hf ht hc = ((ha, hf), ht)
joined_is room a fs ts (Comparing sign s) ha hf ht hc = (((ha, hf), ht), hc.1, hc.2)

joined_tokens : (a : Atom) (fs : Factors) (ts : Terms) (c : Compare) (end : Tokens) → atom_tokens a ++ ((factors_tokens fs ++ (terms_tokens ts ++ compare_tokens c)) ++ end) ≡ expr_tokens (joined a fs ts c) ++ end
joined_tokens a fs ts NoCompare end = simp (append_assoc, append-nil)
joined_tokens a fs ts (Comparing sign s) end = simp append_assoc

pub expr_of : (c : Closer) (room : ℕ) (ts : Tokens) → Spells (Operand c false room) ts → (e : Expr) × (end : Tokens) × IsExpr room e × Closes c room end × (ts ≡ expr_tokens e ++ end)
expr_of c room ts p =
    let t = p.1 in
    (joined p.0 t.factors t.terms t.compare, p.2, joined_is room p.0 t.factors t.terms t.compare p.3 p.4.factors p.4.terms p.4.compare, p.5, p.6 ∙ joined_tokens p.0 t.factors t.terms t.compare p.2)

pub of_expr : (c : Closer) (room : ℕ) (e : Expr) (end : Tokens) → IsExpr room e → Closes c room end → Spells (Operand c false room) (expr_tokens e ++ end)
of_expr c room (Plain (Sums (Prods a fs) ts)) end h k =
    (a, record { factors = fs; terms = ts; compare = NoCompare }, end, h.0.0, record { factors = h.0.1; terms = h.1; compare = tt }, k, sym (joined_tokens a fs ts NoCompare end))
of_expr c room (Compared (Sums (Prods a fs) ts) sign s) end h k =
    (a, record { factors = fs; terms = ts; compare = Comparing sign s }, end, h.0.0.0, record { factors = h.0.0.1; terms = h.0.1; compare = (refl, h.1, h.2) }, k, sym (joined_tokens a fs ts (Comparing sign s) end))

-- the operands from here on are those of an expression, and then those after it
pub args_of : (n room : ℕ) (ts : Tokens) → Spells (Operand (Further n) false room) ts → (args : Args) × (closes : Placed) × IsArgs room n args × Is closes (codes ")") × (ts ≡ args_tokens args ++ (closes ∷ []))
args_of zero room ts p =
    let q = expr_of (Further zero) room ts p in
    let r = q.3 in
    (One q.0, r.0, (refl, q.2), r.1, q.4 ∙ ap (λ (x : Tokens). expr_tokens q.0 ++ x) r.2)
args_of (suc n) room ts p =
    let q = expr_of (Further (suc n)) room ts p in
    let r = q.3 in
    (More q.0 r.0 r.1, r.2, (r.3, (n, refl, q.2, r.4)), r.5, q.4 ∙ ap (λ (x : Tokens). expr_tokens q.0 ++ x) r.6 ∙ simp append_assoc)

pub of_args : (n room : ℕ) (args : Args) (closes : Placed) → IsArgs room n args → Is closes (codes ")") → Spells (Operand (Further n) false room) (args_tokens args ++ (closes ∷ []))
of_args n room (One e) closes h k = subst (λ m. Spells (Operand (Further m) false room) (expr_tokens e ++ (closes ∷ []))) (sym h.0) (of_expr (Further zero) room e (closes ∷ []) h.1 (closes, k, refl))
of_args n room (More e comma args) closes h k =
    let w = h.1 in
    subst (λ m. Spells (Operand (Further m) false room) ((expr_tokens e ++ (comma ∷ args_tokens args)) ++ (closes ∷ []))) (sym w.1)
    (subst (Spells (Operand (Further (suc w.0)) false room)) (sym (append_assoc (expr_tokens e) (comma ∷ args_tokens args) (closes ∷ [])))
    (of_expr (Further (suc w.0)) room e (comma ∷ (args_tokens args ++ (closes ∷ []))) w.2 (comma, args, closes, h.0, w.3, k, refl)))

-- ---- lines

pub decl_onto : (d : Decl) (rest : Tokens) → IsDecl d → Spells (Lines true) rest → Spells (Lines true) (decl_tokens d ++ rest)
decl_onto d rest h (ds, ss, end, hd, none_of, hs, he, e) =
    (d ∷ ds, ss, end, (h, hd), (λ w. cc), hs, he, ap (λ (x : Tokens). decl_tokens d ++ x) e ∙ sym (append_assoc (decl_tokens d) (flat_map decl_tokens ds) (flat_map stmt_tokens ss ++ (end ∷ []))))

pub stmt_onto : (b : Bool) (s : Stmt) (rest : Tokens) → IsStmt s → Spells (Lines false) rest → Spells (Lines b) (stmt_tokens s ++ rest)
stmt_onto b s rest h (ds, ss, end, hd, none_of, hs, he, e) =
    let all : rest ≡ flat_map stmt_tokens ss ++ (end ∷ []) = e ∙ ap (λ x. flat_map decl_tokens x ++ (flat_map stmt_tokens ss ++ (end ∷ []))) (none_of refl) in
    ([], s ∷ ss, end, tt, (λ w. refl), (h, hs), he, ap (λ (x : Tokens). stmt_tokens s ++ x) all ∙ sym (append_assoc (stmt_tokens s) (flat_map stmt_tokens ss) (end ∷ [])))
