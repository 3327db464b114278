-- The expressions of a loop body of the program, grouped, are sound.
use Rattle.std.proofs.Common.{◌≡◌, ℕ, suc, ◌-◌, true, List, [], ◌∷◌, length, Option, Some, None, refl, ap, sym, ◌∙◌}
use Rattle.std.specs.Prelude.{◌&&◌, eqb, map}
use Rattle.std.specs.List.{list_all, AllPass}
use Rattle.std.proofs.lemmas.Bool.{and_parts, and_from, eqb-true, eq-eqb, false≢true}
use Rattle.std.proofs.lemmas.List.Elements.{All-head, All-tail}
use Rattle.cg_word.specs.declared.op.Op.{Op}
use Rattle.cg_word.specs.declared.op.Op.TheVariants as ops
use Rattle.cg_word.specs.Word.{arity}
use Rattle.cg_loop_syntax.specs.declared.syntax.Atom.{Atom, Row_of-Expr, end_of-Expr, more_of-Expr}
use Rattle.cg_loop_syntax.specs.declared.syntax.Atom.TheVariants as atoms
use Rattle.cg_loop_syntax.specs.declared.syntax.Expr.{Expr as WrittenExpr, Expr', Held-Expr-compare, None', Some'}
use Rattle.cg_loop_syntax.specs.declared.syntax.Compare.{Compare, Compare'}
use Rattle.cg_loop_syntax.specs.declared.syntax.Sum.{Sum, Sum', Row_of-Term, end_of-Term, more_of-Term, Row_of-Atom, end_of-Atom, more_of-Atom}
use Rattle.cg_loop_syntax.specs.declared.body.Decl.{Decl}
use Rattle.cg_loop_syntax.specs.declared.body.Decl.TheVariants.{Array, Carry}
use Rattle.cg_loop_syntax.specs.declared.body.Stmt.{Stmt as WrittenStmt}
use Rattle.cg_loop_syntax.specs.declared.body.Stmt.TheVariants as stmts
use Rattle.cg_loop_syntax.specs.Loop.{Expr, Two}
use Rattle.cg_loop_syntax.specs.Grouped.{applied, expr_of, compared, comparison, sum_of, terms_of, prod_of, factors_of, atom_of, all_of, guard_of, stmt_of, grouped}
use Rattle.cg_loop_syntax.specs.Well.{is_word_op, most_open, is_loop_name, is_adding, is_comparing, is_full, count, is_well_expr, is_well_compared, is_well_compare, is_well_sum, are_well_terms, are_well_atoms, is_well_atom, are_well_exprs, is_well_guard, is_well_stmt, is_well_decl, IsWell}
use Rattle.cg_loop_laws.specs.Laws.{is_sound, is_sound_guard, is_sound_stmt, is_sound_decl, IsLoop}

-- an operation of two operands
pub two_sound : (op : Op) (a b : Expr) → (is_word_op op && eqb (arity op) 2) ≡ true → is_sound a ≡ true → is_sound b ≡ true → is_sound (Two op a b) ≡ true
two_sound op a b h x y = and_from _ _ h (and_from _ _ x y)

adding : (op : Op) → is_adding op ≡ true → (is_word_op op && eqb (arity op) 2) ≡ true
adding ops.Add h = refl
adding ops.Sub h = refl
adding _ h = absurd (false≢true h)

comparing : (op : Op) → is_comparing op ≡ true → (is_word_op op && eqb (arity op) 2) ≡ true
comparing ops.Eq h = refl
comparing ops.Lts h = refl
comparing _ h = absurd (false≢true h)

-- an operation by its name
pub applied_sound : (op : Op) (es : List Expr) → is_word_op op ≡ true → length es ≡ arity op → list_all is_sound es ≡ true → is_sound (applied op es) ≡ true
applied_sound op [] w n h = refl
applied_sound op (a ∷ []) w n h = refl
applied_sound op (a ∷ b ∷ []) w n h =
    let x = and_parts (is_sound a) _ h in two_sound op a b (and_from _ _ w (eq-eqb (arity op) 2 (sym n))) x.0 (and_parts (is_sound b) _ x.1).0
applied_sound op (a ∷ b ∷ c ∷ []) w n h =
    let x = and_parts (is_sound a) _ h in
    let y = and_parts (is_sound b) _ x.1 in
    and_from _ _ (and_from _ _ w (eq-eqb (arity op) 3 (sym n))) (and_from _ _ x.0 (and_from _ _ y.0 (and_parts (is_sound c) _ y.1).0))
applied_sound op (a ∷ b ∷ c ∷ d ∷ es) w n h = refl

count_is : {m : _} (row : Row_of-Expr m) → length (all_of row) ≡ count row
count_is end_of-Expr = refl
count_is (more_of-Expr e rest) = ap suc (count_is rest)

mutual
  expr_sound : (room : ℕ) (e : WrittenExpr) → is_well_expr room e ≡ true → is_sound (expr_of e) ≡ true
  expr_sound room (Expr' first compare) h = let x = and_parts _ _ h in compared_sound room (sum_of first) compare (sum_sound room first x.0) x.1

  compared_sound : (room : ℕ) (e : Expr) (c : Held-Expr-compare) → is_sound e ≡ true → is_well_compared room c ≡ true → is_sound (compared e c) ≡ true
  compared_sound room e None' s h = s
  compared_sound room e (Some' c) s h = comparison_sound room e c s h

  comparison_sound : (room : ℕ) (e : Expr) (c : Compare) → is_sound e ≡ true → is_well_compare room c ≡ true → is_sound (comparison e c) ≡ true
  comparison_sound room e (Compare' op second) s h = let x = and_parts _ _ h in two_sound op e (sum_of second) (comparing op x.0) s (sum_sound room second x.1)

  sum_sound : (room : ℕ) (s : Sum) → is_well_sum room s ≡ true → is_sound (sum_of s) ≡ true
  sum_sound room (Sum' shape atoms shape' rest) h =
      let x = and_parts _ _ h in terms_sound room (prod_of atoms) rest (prod_sound room atoms (and_parts (is_full atoms) _ x.0).1) x.1

  terms_sound : {m : _} (room : ℕ) (e : Expr) (row : Row_of-Term m) → is_sound e ≡ true → are_well_terms room row ≡ true → is_sound (terms_of e row) ≡ true
  terms_sound room e end_of-Term s h = s
  terms_sound room e (more_of-Term op shape atoms rest) s h =
      let x = and_parts _ _ h in
      let y = and_parts (is_adding op) _ x.0 in
      terms_sound room (Two op e (prod_of atoms)) rest (two_sound op e (prod_of atoms) (adding op y.0) s (prod_sound room atoms (and_parts (is_full atoms) _ y.1).1)) x.1

  prod_sound : {m : _} (room : ℕ) (row : Row_of-Atom m) → are_well_atoms room row ≡ true → is_sound (prod_of row) ≡ true
  prod_sound room end_of-Atom h = refl
  prod_sound room (more_of-Atom a rest) h = let x = and_parts _ _ h in factors_sound room (atom_of a) rest (atom_sound room a x.0) x.1

  factors_sound : {m : _} (room : ℕ) (e : Expr) (row : Row_of-Atom m) → is_sound e ≡ true → are_well_atoms room row ≡ true → is_sound (factors_of e row) ≡ true
  factors_sound room e end_of-Atom s h = s
  factors_sound room e (more_of-Atom a rest) s h =
      let x = and_parts _ _ h in factors_sound room (Two ops.Mul e (atom_of a)) rest (two_sound ops.Mul e (atom_of a) refl s (atom_sound room a x.0)) x.1

  atom_sound : (room : ℕ) (a : Atom) → is_well_atom room a ≡ true → is_sound (atom_of a) ≡ true
  atom_sound room (atoms.Num w) h = h
  atom_sound room atoms.Turn h = refl
  atom_sound room (atoms.Input p) h = refl
  atom_sound room (atoms.Scalar x) h = refl
  atom_sound room (atoms.Item' a p e) h = expr_sound (room - 1) e (and_parts _ _ h).1
  atom_sound room (atoms.Bracket' p e) h = expr_sound (room - 1) e (and_parts _ _ h).1
  atom_sound room (atoms.Apply' op shape es) h =
      let x = and_parts _ _ h in
      let y = and_parts (is_word_op op) _ (and_parts _ _ x.0).1 in
      applied_sound op (all_of es) y.0 (count_is es ∙ eqb-true (count es) (arity op) y.1) (exprs_sound (room - 1) es x.1)

  exprs_sound : {m : _} (room : ℕ) (row : Row_of-Expr m) → are_well_exprs room row ≡ true → list_all is_sound (all_of row) ≡ true
  exprs_sound room end_of-Expr h = refl
  exprs_sound room (more_of-Expr e rest) h = let x = and_parts _ _ h in and_from _ _ (expr_sound room e x.0) (exprs_sound room rest x.1)

guard_sound : (g : Option WrittenExpr) → is_well_guard g ≡ true → is_sound_guard (guard_of g) ≡ true
guard_sound None h = refl
guard_sound (Some g) h = expr_sound most_open g h

stmt_sound : (s : WrittenStmt) → is_well_stmt s ≡ true → is_sound_stmt (stmt_of s) ≡ true
stmt_sound (stmts.Bind x e) h = expr_sound most_open e (and_parts (is_loop_name x) _ h).1
stmt_sound (stmts.Assign x e) h = expr_sound most_open e (and_parts (is_loop_name x) _ h).1
stmt_sound (stmts.Put a ix v g) h =
    let x = and_parts _ _ h in
    let y = and_parts _ _ x.1 in
    and_from _ _ (expr_sound 31 ix (and_parts (is_loop_name a) _ x.0).1) (and_from _ _ (expr_sound most_open v y.0) (guard_sound g y.1))
stmt_sound (stmts.Emit p v g) h = let x = and_parts _ _ h in and_from _ _ (expr_sound most_open v x.0) (guard_sound g x.1)

decl_sound : (d : Decl) → is_well_decl d ≡ true → is_sound_decl d ≡ true
decl_sound (Array x at len) h = refl
decl_sound (Carry x w) h = (and_parts (is_loop_name x) _ h).1

stmts_sound : (ss : List WrittenStmt) → AllPass is_well_stmt ss → list_all is_sound_stmt (map stmt_of ss) ≡ true
stmts_sound [] h = refl
stmts_sound (s ∷ ss) h = and_from _ _ (stmt_sound s (All-head (λ x. is_well_stmt x ≡ true) s ss h)) (stmts_sound ss (All-tail (λ x. is_well_stmt x ≡ true) s ss h))

decls_sound : (ds : List Decl) → AllPass is_well_decl ds → list_all is_sound_decl ds ≡ true
decls_sound [] h = refl
decls_sound (d ∷ ds) h = and_from _ _ (decl_sound d (All-head (λ x. is_well_decl x ≡ true) d ds h)) (decls_sound ds (All-tail (λ x. is_well_decl x ≡ true) d ds h))

pub well_loop : (ds : List Decl) (ss : List WrittenStmt) → IsWell ds ss → IsLoop (grouped ds ss)
well_loop ds ss h = record { decls = decls_sound ds h.named; stmts = stmts_sound ss h.well; ruled = h.ruled }
