-- Values, statements and declarations that are read.
use Rattle.std.proofs.Common.{◌≡◌, ℕ, ◌+◌, ◌<◌, true, false, ◌&&◌, List, [], ◌∷◌, ◌++◌, length, map, Some, None, refl, sym, ap, ap₂, ◌∙◌, subst, arith, append_assoc, append-nil, length-append}
use Rattle.std.specs.Prelude.{codes, nat_lt, nat_le}
use Rattle.std.specs.List.{list_all, flat_map, AllByRecursion}
use Rattle.std.specs.Char.{is_ascii_digit}
use Rattle.std.proofs.lemmas.Bool.{and_parts, and_from}
use Rattle.cg_word.specs.Word.{words}
use Rattle.cg_tokens.specs.declared.token.Token.{Token}
use Rattle.cg_tokens.specs.Tokens.{Placed, seen}
use Rattle.cg_loop_syntax.specs.declared.uses.Role.TheVariants as roles
use Rattle.cg_loop_syntax.specs.declared.syntax.Expr.{Expr}
use Rattle.cg_loop_syntax.specs.declared.body.Decl.{Decl}
use Rattle.cg_loop_syntax.specs.declared.body.Decl.TheVariants as decls
use Rattle.cg_loop_syntax.specs.declared.body.Stmt.{Stmt}
use Rattle.cg_loop_syntax.specs.declared.body.Stmt.TheVariants as stmts
use Rattle.cg_loop_syntax.specs.Loop as loops
use Rattle.cg_loop_syntax.specs.Grouped.{stmt_of}
use Rattle.cg_loop_syntax.specs.Well.{is_loop_name, is_well_expr, is_well_guard, is_well_stmt, is_well_decl, most_open}
use Rattle.cg_loop_text_spec.specs.Words.{is_number, number_of}
use Rattle.cg_loop_text_spec.specs.Grammar as grammar
use Rattle.cg_loop_text_spec.specs.Grammar.{Is, IsStmt, IsDecl, expr_tokens, guard_tokens, stmt_tokens, decl_tokens}
use Rattle.cg_loop_text_spec.specs.Meaning.{of_name, of_port, expr_uses, guard_uses, stmt_uses, decl_use, decls_uses, stmt_value, decl_value}
use Rattle.cg_loop_text_spec.specs.Rules.{Exactly, Operand, Semicolon, Square, Guarded as GuardedCloser, Name, Digits, Target}
use Rattle.cg_loop_text_spec.specs.Read as read
use Rattle.cg_loop_text_spec.proofs.Lines as lines
use Rattle.cg_loop_text_spec.proofs.Rows as rows
use Rattle.cg_loop_text_spec.proofs.Runs as runs
use Rattle.cg_loop_text_spec.proofs.Steps as steps
use Rattle.cg_loop_reader.specs.declared.lines.Guarded.{Guarded}
use Rattle.cg_loop_reader.specs.declared.reader.Reader.{Reader}
use Rattle.cg_loop_reader.specs.declared.reader.Numeral.{Numeral}
use Rattle.cg_loop_reader.specs.Left.{left, noted, Keeps, Takes, TakesName, TakesNumber, Notes}
use Rattle.cg_loop_reader.specs.Found.{FindsExpr}
use Rattle.cg_loop_reader.specs.Lines.{FindsValue, FindsGuard, FindsGuarded, FindsStmt, FindsStmts, FindsChange, FindsDecl, FindsDecls}
use Rattle.cg_loop_reader.proofs.Parts.{all_push}
use Rattle.cg_loop_reader.proofs.Taken.{taken, after, noted_after}

-- ---- values

pub value_found : (e : Expr) (old m p new : Reader) → Takes (codes "=") old m → FindsExpr most_open e m p → Takes (codes ";") p new → FindsValue e old new
value_found e old m p new s x c = record {
  sign = s.token;
  tree = x.tree;
  end = c.token;
  sign_is = s.is;
  is = x.is;
  end_is = c.is;
  spelled = s.spelled ∙ ap (λ v. s.token ∷ v) (after (left m) (left p) (left new) (expr_tokens x.tree) (c.token ∷ []) x.spelled c.spelled);
  noted = c.kept.noted ∙ x.noted ∙ ap (λ v. v ++ expr_uses x.tree) s.kept.noted;
  value = x.value;
  well = x.well;
  ran = runs.takes_then (codes "=") (Operand Semicolon false most_open ∷ []) (left old) (left m) (left new) (taken s) (lines.value_read (left m) (left p) (left new) x.ran (taken c));
}

pub guard_found : (e : Expr) (old m new : Reader) → Takes (codes "if") old m → FindsExpr most_open e m new → FindsGuard (Some e) old new
guard_found e old m new s x = record {
  tree = grammar.If s.token x.tree;
  is = (s.is, x.is);
  spelled = s.spelled ∙ ap (λ v. s.token ∷ v) x.spelled;
  noted = x.noted ∙ ap (λ v. v ++ expr_uses x.tree) s.kept.noted;
  value = ap Some x.value;
  well = x.well;
  ran = lines.guard_read (left old) (left m) (left new) (taken s) x.ran;
}

pub no_guard_found : (old new : Reader) → new ≡ old → read.begins_with (codes "if") (left old) ≡ false → FindsGuard None old new
no_guard_found old new e b = subst (FindsGuard None old) (sym e) (record {
  tree = grammar.NoGuard;
  is = tt;
  spelled = refl;
  noted = sym (append-nil (noted old));
  value = refl;
  well = refl;
  ran = lines.no_guard_read (left old) b;
})

pub guarded_found : (v : Guarded) (old m p q new : Reader) → Takes (codes "=") old m → FindsExpr most_open v.value m p → FindsGuard v.guard p q → Takes (codes ";") q new → FindsGuarded v old new
guarded_found v old m p q new s x g c = record {
  sign = s.token;
  tree = x.tree;
  guard = g.tree;
  end = c.token;
  sign_is = s.is;
  is = x.is;
  guard_is = g.is;
  end_is = c.is;
  spelled = s.spelled ∙ ap (λ y. s.token ∷ y) (after (left m) (left p) (left new) (expr_tokens x.tree) (guard_tokens g.tree ++ (c.token ∷ [])) x.spelled (after (left p) (left q) (left new) (guard_tokens g.tree) (c.token ∷ []) g.spelled c.spelled));
  noted = c.kept.noted ∙ noted_after (noted m) (noted p) (noted q) (expr_uses x.tree) (guard_uses g.tree) x.noted g.noted ∙ ap (λ y. y ++ (expr_uses x.tree ++ guard_uses g.tree)) s.kept.noted;
  value = x.value;
  guard_value = g.value;
  well = x.well;
  guard_well = g.well;
  ran = runs.takes_then (codes "=") (Operand GuardedCloser false most_open ∷ []) (left old) (left m) (left new) (taken s) (lines.guarded_read (left m) (left p) (left q) (left new) x.ran g.ran (taken c));
}

-- ---- parts

pub name_read : (t : Token) (old new : Reader) → TakesName t old new → read.Reads (Name ∷ []) (left old) (left new)
name_read t old new n = steps.a_name_read (seen t) (left old) (left new) n.spelled n.is

pub number_read : (n : Numeral) (old new : Reader) → TakesNumber n old new → read.Reads (Digits ∷ []) (left old) (left new)
number_read n old new d = steps.a_number_read d.token (left old) (left new) d.spelled d.is

pub exact_read : {s : List ℕ} (old new : Reader) → Takes s old new → read.Reads (Exactly s ∷ []) (left old) (left new)
exact_read {s} old new t = runs.exactly_read s (left old) (left new) (taken t)

number_small : (t : List ℕ) → is_number t ≡ true → nat_lt (number_of t) words ≡ true
number_small t h = (and_parts (nat_lt 0 (length t) && (nat_le (length t) 10 && list_all is_ascii_digit t)) (nat_lt (number_of t) words) h).1

-- ---- declarations

pub array_found : (t name : Token) (own : List ℕ) (at len : Numeral) (old m r1 r2 r3 r4 r5 r6 new : Reader) → t.text.now ≡ codes "array" → left old ≡ seen t ∷ left m → Keeps old m → TakesName name m r1 → Takes (codes "at") r1 r2 → TakesNumber at r2 r3 → Takes (codes "len") r3 r4 → TakesNumber len r4 r5 → Takes (codes ";") r5 r6
    → Notes (record { role = roles.Array at.value len.value; name = name.text.now; place = name.place }) r6 new → own ≡ name.text.now → FindsDecl (decls.Array own at.value len.value) old new
array_found t name own at len old m r1 r2 r3 r4 r5 r6 new h s k n a x l y c w o =
    let last : left r5 ≡ c.token ∷ left new = c.spelled ∙ ap (λ v. c.token ∷ v) (sym w.left) in
    record {
      tree = grammar.Array (seen t) (seen name) a.token x.token l.token y.token c.token;
      is = ((h, n.is, a.is, x.is), (l.is, y.is, c.is));
      spelled = s ∙ ap (λ v. seen t ∷ v) (n.spelled ∙ ap (λ v. seen name ∷ v) (a.spelled ∙ ap (λ v. a.token ∷ v) (x.spelled ∙ ap (λ v. x.token ∷ v) (l.spelled ∙ ap (λ v. l.token ∷ v) (y.spelled ∙ ap (λ v. y.token ∷ v) last)))));
      noted = w.noted ∙ ap₂ (λ u v. u ++ v ∷ []) (c.kept.noted ∙ y.kept.noted ∙ l.kept.noted ∙ x.kept.noted ∙ a.kept.noted ∙ n.kept.noted ∙ k.noted) (sym (ap₂ (λ (p q : ℕ). record { role = roles.Array p q; name = name.text.now; place = name.place }) x.value y.value));
      value = ap₂ (λ (u : List ℕ) (v : ℕ). decls.Array u v len.value) o (sym x.value) ∙ ap (λ (v : ℕ). decls.Array name.text.now (number_of x.token.text) v) (sym y.value);
      well = ap is_loop_name o ∙ n.is;
      ran = lines.array_line (left old) (left m) (left new) (record { token = seen t; is = h; whole = s })
          (rows.reads_six Name (Exactly (codes "at")) Digits (Exactly (codes "len")) Digits (Exactly (codes ";")) (left m) (left r1) (left r2) (left r3) (left r4) (left r5) (left new) (name_read name m r1 n) (exact_read r1 r2 a) (number_read at r2 r3 x) (exact_read r3 r4 l) (number_read len r4 r5 y)
          (runs.exactly_read (codes ";") (left r5) (left new) (record { token = c.token; is = c.is; whole = last })));
    }

pub carry_found : (t name : Token) (own : List ℕ) (start : Numeral) (old m r1 r2 r3 r4 new : Reader) → t.text.now ≡ codes "carry" → left old ≡ seen t ∷ left m → Keeps old m → TakesName name m r1 → Takes (codes "=") r1 r2 → TakesNumber start r2 r3 → Takes (codes ";") r3 r4
    → Notes (record { role = roles.Carry; name = name.text.now; place = name.place }) r4 new → own ≡ name.text.now → FindsDecl (decls.Carry own start.value) old new
carry_found t name own start old m r1 r2 r3 r4 new h s k n a x c w o =
    let last : left r3 ≡ c.token ∷ left new = c.spelled ∙ ap (λ v. c.token ∷ v) (sym w.left) in
    record {
      tree = grammar.Carry (seen t) (seen name) a.token x.token c.token;
      is = ((h, n.is), (a.is, x.is, c.is));
      spelled = s ∙ ap (λ v. seen t ∷ v) (n.spelled ∙ ap (λ v. seen name ∷ v) (a.spelled ∙ ap (λ v. a.token ∷ v) (x.spelled ∙ ap (λ v. x.token ∷ v) last)));
      noted = w.noted ∙ ap (λ u. u ++ of_name roles.Carry (seen name) ∷ []) (c.kept.noted ∙ x.kept.noted ∙ a.kept.noted ∙ n.kept.noted ∙ k.noted);
      value = ap₂ (λ (u : List ℕ) (v : ℕ). decls.Carry u v) o (sym x.value);
      well = and_from (is_loop_name own) (nat_lt start.value words) (ap is_loop_name o ∙ n.is) (ap (λ v. nat_lt v words) (sym x.value) ∙ number_small x.token.text x.is);
      ran = lines.carry_line (left old) (left m) (left new) (record { token = seen t; is = h; whole = s })
          (rows.reads_four Name (Exactly (codes "=")) Digits (Exactly (codes ";")) (left m) (left r1) (left r2) (left r3) (left new) (name_read name m r1 n) (exact_read r1 r2 a) (number_read start r2 r3 x)
          (runs.exactly_read (codes ";") (left r3) (left new) (record { token = c.token; is = c.is; whole = last })));
    }

are_push : {X : Type 0} (P : X → Type 0) (xs : List X) (x : X) → AllByRecursion P xs → P x → AllByRecursion P (xs ++ x ∷ [])
are_push P [] x h i = (i, tt)
are_push P (y ∷ ys) x h i = (h.0, are_push P ys x h.1 i)

flat_push : {X Y : Type 0} (f : X → List Y) (xs : List X) (x : X) → flat_map f (xs ++ x ∷ []) ≡ flat_map f xs ++ f x
flat_push f [] x = append-nil (f x)
flat_push f (y ∷ ys) x = ap (λ z. f y ++ z) (flat_push f ys x) ∙ sym (append_assoc (f y) (flat_map f ys) (f x))

map_push : {X Y : Type 0} (f : X → Y) (xs : List X) (x : X) → map f (xs ++ x ∷ []) ≡ map f xs ++ f x ∷ []
map_push f [] x = refl
map_push f (y ∷ ys) x = ap (λ z. f y ∷ z) (map_push f ys x)

uses_push : (ds : List grammar.Decl) (d : grammar.Decl) → decls_uses (ds ++ d ∷ []) ≡ decls_uses ds ++ decl_use d ∷ []
uses_push [] d = refl
uses_push (x ∷ xs) d = ap (λ z. decl_use x ∷ z) (uses_push xs d)

pub no_decls : (old : Reader) → FindsDecls [] old old
no_decls old = record { trees = []; are = tt; spelled = refl; noted = sym (append-nil (noted old)); value = refl; well = refl; ran = lines.no_lines true (left old) }

pub more_decls : (ds : List Decl) (d : Decl) (old m new : Reader) → FindsDecls ds old m → FindsDecl d m new → FindsDecls (ds ++ d ∷ []) old new
more_decls ds d old m new x y = record {
  trees = x.trees ++ y.tree ∷ [];
  are = are_push IsDecl x.trees y.tree x.are y.is;
  spelled = after (left old) (left m) (left new) (flat_map decl_tokens x.trees) (decl_tokens y.tree) x.spelled y.spelled ∙ ap (λ z. z ++ left new) (sym (flat_push decl_tokens x.trees y.tree));
  noted = noted_after (noted old) (noted m) (noted new) (decls_uses x.trees) (decl_use y.tree ∷ []) x.noted y.noted ∙ ap (λ z. noted old ++ z) (sym (uses_push x.trees y.tree));
  value = ap₂ (λ u v. u ++ v ∷ []) x.value y.value ∙ sym (map_push decl_value x.trees y.tree);
  well = all_push is_well_decl ds d x.well y.well;
  ran = lines.lines_on true true true (left old) (left m) (left new) x.ran y.ran;
}

-- ---- statements

pub bind_found : (t name : Token) (own : List ℕ) (e : Expr) (old m r1 r2 new : Reader) → t.text.now ≡ codes "let" → left old ≡ seen t ∷ left m → Keeps old m → TakesName name m r1 → FindsValue e r1 r2
    → Notes (record { role = roles.Bind; name = name.text.now; place = name.place }) r2 new → own ≡ name.text.now → FindsStmt (stmts.Bind own e) old new
bind_found t name own e old m r1 r2 new h s k n x w o =
    let rest : left r1 ≡ x.sign ∷ ((expr_tokens x.tree ++ (x.end ∷ [])) ++ left new) = x.spelled ∙ ap (λ v. x.sign ∷ ((expr_tokens x.tree ++ (x.end ∷ [])) ++ v)) (sym w.left) in
    record {
      tree = grammar.Let (seen t) (seen name) x.sign x.tree x.end;
      is = (h, n.is, x.sign_is, x.is, x.end_is);
      spelled = s ∙ ap (λ v. seen t ∷ v) (n.spelled ∙ ap (λ v. seen name ∷ v) rest);
      noted = w.noted ∙ ap (λ u. u ++ of_name roles.Bind (seen name) ∷ []) (x.noted ∙ ap (λ u. u ++ expr_uses x.tree) (n.kept.noted ∙ k.noted)) ∙ append_assoc (noted old) (expr_uses x.tree) (of_name roles.Bind (seen name) ∷ []);
      value = ap₂ loops.Bind o x.value;
      well = and_from (is_loop_name own) (is_well_expr most_open e) (ap is_loop_name o ∙ n.is) x.well;
      ran = lines.let_line false (left old) (left m) (left new) (record { token = seen t; is = h; whole = s })
          (runs.reads_then Name (Exactly (codes "=") ∷ Operand Semicolon false most_open ∷ []) (left m) (left r1) (left new) (name_read name m r1 n) (subst (read.Reads (Exactly (codes "=") ∷ Operand Semicolon false most_open ∷ []) (left r1)) (sym w.left) x.ran));
    }

pub emit_found : (t : Token) (port : Numeral) (v : Guarded) (old m r1 r2 new : Reader) → t.text.now ≡ codes "out" → left old ≡ seen t ∷ left m → Keeps old m → TakesNumber port m r1
    → Notes (record { role = roles.Output port.value; name = []; place = port.place }) r1 r2 → FindsGuarded v r2 new → FindsStmt (stmts.Emit port.value v.value v.guard) old new
emit_found t port v old m r1 r2 new h s k n w x =
    let rest : left r1 ≡ x.sign ∷ ((expr_tokens x.tree ++ (guard_tokens x.guard ++ (x.end ∷ []))) ++ left new) = sym w.left ∙ x.spelled in
    record {
      tree = grammar.Out (seen t) n.token x.sign x.tree x.guard x.end;
      is = ((h, n.is, x.sign_is), (x.is, x.guard_is, x.end_is));
      spelled = s ∙ ap (λ u. seen t ∷ u) (n.spelled ∙ ap (λ u. n.token ∷ u) rest);
      noted = noted_after (noted old) (noted r2) (noted new) (of_port (roles.Output (number_of n.token.text)) n.token ∷ []) (expr_uses x.tree ++ guard_uses x.guard)
          (w.noted ∙ ap₂ (λ u y. u ++ y ∷ []) (n.kept.noted ∙ k.noted) (sym (ap₂ (λ (p q : ℕ). record { role = roles.Output p; name = []; place = q }) n.value n.place))) x.noted;
      value = ap₂ (λ (p : ℕ) y. loops.Emit p y (Rattle.cg_loop_syntax.specs.Grouped.guard_of v.guard)) (sym n.value) x.value ∙ ap (loops.Emit (number_of n.token.text) (Rattle.cg_loop_text_spec.specs.Meaning.expr_value x.tree)) x.guard_value;
      well = and_from (is_well_expr most_open v.value) (is_well_guard v.guard) x.well x.guard_well;
      ran = lines.out_line false (left old) (left m) (left new) (record { token = seen t; is = h; whole = s })
          (runs.reads_then Digits (Exactly (codes "=") ∷ Operand GuardedCloser false most_open ∷ []) (left m) (left r1) (left new) (number_read port m r1 n) (subst (λ y. read.Reads (Exactly (codes "=") ∷ Operand GuardedCloser false most_open ∷ []) y (left new)) w.left x.ran));
    }

target_read : (e : Expr) (old new : Reader) → FindsValue e old new → read.Reads (Target ∷ []) (left old) (left new)
target_read e old new x =
    let sign : read.Takes (codes "=") (left old) ((expr_tokens x.tree ++ (x.end ∷ [])) ++ left new) = record { token = x.sign; is = x.sign_is; whole = x.spelled } in
    record {
      ran = λ stack.
          runs.by_taken Target (codes "=") (Operand Semicolon false most_open ∷ []) stack (left old) ((expr_tokens x.tree ++ (x.end ∷ [])) ++ left new) sign refl
          ∙ sym (runs.by_taken (Exactly (codes "=")) (codes "=") [] (Operand Semicolon false most_open ∷ stack) (left old) ((expr_tokens x.tree ++ (x.end ∷ [])) ++ left new) sign refl) ∙ x.ran.ran stack;
    }

pub assign_found : (name : Token) (own : List ℕ) (e : Expr) (old m new : Reader) → is_loop_name name.text.now ≡ true → Notes (record { role = roles.Assign; name = name.text.now; place = name.place }) old m → FindsValue e m new → own ≡ name.text.now → FindsChange name (stmts.Assign own e) old new
assign_found name own e old m new h w x o = record {
  tree = grammar.Assign (seen name) x.sign x.tree x.end;
  is = (h, x.sign_is, x.is, x.end_is);
  spelled = ap (λ v. seen name ∷ v) (sym w.left ∙ x.spelled);
  noted = noted_after (noted old) (noted m) (noted new) (of_name roles.Assign (seen name) ∷ []) (expr_uses x.tree) w.noted x.noted;
  value = ap₂ loops.Assign o x.value;
  well = and_from (is_loop_name own) (is_well_expr most_open e) (ap is_loop_name o ∙ h) x.well;
  ran = subst (λ y. read.Reads (Target ∷ []) y (left new)) w.left (target_read e m new x);
}

pub store_found : (name : Token) (own : List ℕ) (ix : Expr) (v : Guarded) (old m n p q new : Reader) → is_loop_name name.text.now ≡ true → Notes (record { role = roles.Item; name = name.text.now; place = name.place }) old m → Takes (codes "[") m n → FindsExpr 31 ix n p → Takes (codes "]") p q → FindsGuarded v q new → own ≡ name.text.now
    → FindsChange name (stmts.Put own ix v.value v.guard) old new
store_found name own ix v old m n p q new h w b x c y o =
    let front : left old ≡ b.token ∷ left n = sym w.left ∙ b.spelled in
    let back : left p ≡ c.token ∷ y.sign ∷ ((expr_tokens y.tree ++ (guard_tokens y.guard ++ (y.end ∷ []))) ++ left new) = c.spelled ∙ ap (λ u. c.token ∷ u) y.spelled in
    record {
      tree = grammar.Store (seen name) b.token x.tree c.token y.sign y.tree y.guard y.end;
      is = ((h, b.is, x.is, c.is), (y.sign_is, y.is, y.guard_is, y.end_is));
      spelled = ap (λ u. seen name ∷ u) (front ∙ ap (λ u. b.token ∷ u) (after (left n) (left p) (left new) (expr_tokens x.tree) (c.token ∷ y.sign ∷ (expr_tokens y.tree ++ (guard_tokens y.guard ++ (y.end ∷ [])))) x.spelled back));
      noted = noted_after (noted old) (noted n) (noted new) (of_name roles.Item (seen name) ∷ []) (expr_uses x.tree ++ (expr_uses y.tree ++ guard_uses y.guard)) (b.kept.noted ∙ w.noted)
          (noted_after (noted n) (noted q) (noted new) (expr_uses x.tree) (expr_uses y.tree ++ guard_uses y.guard) (c.kept.noted ∙ x.noted) y.noted);
      value = ap₂ (λ (a : List ℕ) i. loops.Put a i (Rattle.cg_loop_syntax.specs.Grouped.expr_of v.value) (Rattle.cg_loop_syntax.specs.Grouped.guard_of v.guard)) o x.value ∙ ap₂ (λ a g. loops.Put name.text.now (Rattle.cg_loop_text_spec.specs.Meaning.expr_value x.tree) a g) y.value y.guard_value;
      well = and_from (is_loop_name own && is_well_expr 31 ix) (is_well_expr most_open v.value && is_well_guard v.guard) (and_from (is_loop_name own) (is_well_expr 31 ix) (ap is_loop_name o ∙ h) x.well) (and_from (is_well_expr most_open v.value) (is_well_guard v.guard) y.well y.guard_well);
      ran = lines.stores_read (left old) (left n) (left new) (record { token = b.token; is = b.is; whole = front })
          (runs.reads_then (Operand Square false 31) (Exactly (codes "=") ∷ Operand GuardedCloser false most_open ∷ []) (left n) (left q) (left new) (lines.place_read 31 (left n) (left p) (left q) x.ran (taken c)) y.ran);
    }

pub change_found : (t : Token) (s : Stmt) (old m new : Reader) → is_loop_name t.text.now ≡ true → left old ≡ seen t ∷ left m → Keeps old m → FindsChange t s m new → FindsStmt s old new
change_found t s old m new h e k x = record {
  tree = x.tree;
  is = x.is;
  spelled = e ∙ x.spelled;
  noted = x.noted ∙ ap (λ u. u ++ stmt_uses x.tree) k.noted;
  value = x.value;
  well = x.well;
  ran = lines.change_line false (seen t) (left old) (left m) (left new) e h x.ran;
}

-- a statement has a token
stmt_some : (t : grammar.Stmt) → 0 < length (stmt_tokens t)
stmt_some (grammar.Let word name sign e end) = omega arith
stmt_some (grammar.Assign name sign e end) = omega arith
stmt_some (grammar.Store name opens ix closes sign e g end) = omega arith
stmt_some (grammar.Out word port sign e g end) = omega arith

fewer : (a b es : List Placed) → 0 < length es → a ≡ es ++ b → length b < length a
fewer a b es some e = let more : length a ≡ length es + length b = ap length e ∙ length-append es b in omega arith

pub stmt_shorter : (s : Stmt) (old new : Reader) → FindsStmt s old new → length (left new) < length (left old)
stmt_shorter s old new x = fewer (left old) (left new) (stmt_tokens x.tree) (stmt_some x.tree) x.spelled

pub no_stmts : (old : Reader) → FindsStmts [] old old
no_stmts old = record { trees = []; are = tt; spelled = refl; noted = sym (append-nil (noted old)); value = refl; well = refl; ran = lines.no_lines false (left old) }

pub more_stmts : (ss : List Stmt) (s : Stmt) (old m new : Reader) → FindsStmts ss old m → FindsStmt s m new → FindsStmts (ss ++ s ∷ []) old new
more_stmts ss s old m new x y = record {
  trees = x.trees ++ y.tree ∷ [];
  are = are_push IsStmt x.trees y.tree x.are y.is;
  spelled = after (left old) (left m) (left new) (flat_map stmt_tokens x.trees) (stmt_tokens y.tree) x.spelled y.spelled ∙ ap (λ z. z ++ left new) (sym (flat_push stmt_tokens x.trees y.tree));
  noted = noted_after (noted old) (noted m) (noted new) (flat_map stmt_uses x.trees) (stmt_uses y.tree) x.noted y.noted ∙ ap (λ z. noted old ++ z) (sym (flat_push stmt_uses x.trees y.tree));
  value = map_push stmt_of ss s ∙ ap₂ (λ u v. u ++ v ∷ []) x.value y.value ∙ sym (map_push stmt_value x.trees y.tree);
  well = all_push is_well_stmt ss s x.well y.well;
  ran = lines.lines_on false false false (left old) (left m) (left new) x.ran y.ran;
}
