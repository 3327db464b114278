-- Steps of reading declarations, statements and a whole file.
use Rattle.std.proofs.Common.{◌≡◌, ℕ, Bool, true, false, cond, ◌&&◌, List, [], ◌∷◌, ◌++◌, codes, Some, None, refl, ◌∙◌, ap}
use Rattle.cg_tokens.specs.Table.{going, run}
use Rattle.cg_tokens.specs.Tokens.{Placed}
use Rattle.cg_loop_syntax.specs.Well.{is_loop_name, most_open}
use Rattle.cg_loop_text_spec.specs.Rules.{Square, Semicolon, Guarded, Exactly, Operand, Close, Target, Lines, same, array_rule, carry_rule, let_rule, out_rule, store_rule, stmt_rule, line_rule, rule_of, rule, start}
use Rattle.cg_loop_text_spec.specs.Read.{begins_with, Takes, Reads, Stops, ReadsExpr, StopsExpr, ReadsGuard, StopsGuard, ReadsLines}
use Rattle.cg_loop_text_spec.proofs.Texts.{apart}
use Rattle.cg_loop_text_spec.proofs.Runs.{same_run, by_rule, by_taken, by_none, by_end, exactly_read}

-- ---- an expression and what ends it

pub value_read : (old now new : List Placed) → ReadsExpr most_open old now → Takes (codes ";") now new → Reads (Operand Semicolon false most_open ∷ []) old new
value_read old now new a e = record { ran = λ stack. a.ran Semicolon stack ∙ by_taken (Close Semicolon most_open) (codes ";") [] stack now new e refl }

pub value_misses : (old new : List Placed) → StopsExpr most_open old new → Stops (Operand Semicolon false most_open ∷ []) old new
value_misses old new a = record { ran = λ stack. a.ran Semicolon stack }

pub value_end_misses : (old now new : List Placed) → ReadsExpr most_open old now → Stops (Exactly (codes ";") ∷ []) now new → Stops (Operand Semicolon false most_open ∷ []) old new
value_end_misses old now new a f = record { ran = λ stack. a.ran Semicolon stack ∙ same_run (Close Semicolon most_open) (Exactly (codes ";")) stack now (λ _. refl) ∙ f.ran stack }

pub place_read : (room : ℕ) (old now new : List Placed) → ReadsExpr room old now → Takes (codes "]") now new → Reads (Operand Square false room ∷ []) old new
place_read room old now new a e = record { ran = λ stack. a.ran Square stack ∙ by_taken (Close Square room) (codes "]") [] stack now new e refl }

pub place_misses : (room : ℕ) (old new : List Placed) → StopsExpr room old new → Stops (Operand Square false room ∷ []) old new
place_misses room old new a = record { ran = λ stack. a.ran Square stack }

pub place_end_misses : (room : ℕ) (old now new : List Placed) → ReadsExpr room old now → Stops (Exactly (codes "]") ∷ []) now new → Stops (Operand Square false room ∷ []) old new
place_end_misses room old now new a f = record { ran = λ stack. a.ran Square stack ∙ same_run (Close Square room) (Exactly (codes "]")) stack now (λ _. refl) ∙ f.ran stack }

-- ---- a guard

pub no_guard_read : (old : List Placed) → begins_with (codes "if") old ≡ false → ReadsGuard old old
no_guard_read [] h = record { ran = λ stack. refl }
no_guard_read (t ∷ l) h = record { ran = λ stack. ap (λ o. going o (λ x. run rule (x ++ stack) l) (t ∷ l)) (ap (λ b. cond (same t.text (codes ";")) (Some []) (cond b (Some (Operand Semicolon false most_open ∷ [])) None)) h) }

pub guard_read : (old l new : List Placed) → Takes (codes "if") old l → ReadsExpr most_open l new → ReadsGuard old new
guard_read old l new t a = record {
  ran = λ stack.
      by_taken (Close Guarded most_open) (codes "if") (Operand Semicolon false most_open ∷ []) stack old l t refl ∙ a.ran Semicolon stack ∙ same_run (Close Semicolon most_open) (Exactly (codes ";")) stack new (λ _. refl);
}

pub guard_misses : (old l new : List Placed) → Takes (codes "if") old l → StopsExpr most_open l new → StopsGuard old new
guard_misses old l new t a = record { ran = λ stack. by_taken (Close Guarded most_open) (codes "if") (Operand Semicolon false most_open ∷ []) stack old l t refl ∙ a.ran Semicolon stack }

-- an expression with a guard, or none
pub guarded_read : (old now end new : List Placed) → ReadsExpr most_open old now → ReadsGuard now end → Takes (codes ";") end new → Reads (Operand Guarded false most_open ∷ []) old new
guarded_read old now end new a g e = record { ran = λ stack. a.ran Guarded stack ∙ g.ran stack ∙ (exactly_read (codes ";") end new e).ran stack }

pub guarded_misses : (old new : List Placed) → StopsExpr most_open old new → Stops (Operand Guarded false most_open ∷ []) old new
guarded_misses old new a = record { ran = λ stack. a.ran Guarded stack }

pub guarded_guard_misses : (old now new : List Placed) → ReadsExpr most_open old now → StopsGuard now new → Stops (Operand Guarded false most_open ∷ []) old new
guarded_guard_misses old now new a g = record { ran = λ stack. a.ran Guarded stack ∙ g.ran stack }

pub guarded_end_misses : (old now end new : List Placed) → ReadsExpr most_open old now → ReadsGuard now end → Stops (Exactly (codes ";") ∷ []) end new → Stops (Operand Guarded false most_open ∷ []) old new
guarded_end_misses old now end new a g f = record { ran = λ stack. a.ran Guarded stack ∙ g.ran stack ∙ f.ran stack }

-- ---- what follows the name that a statement begins with

pub sets_read : (old l new : List Placed) → Takes (codes "=") old l → Reads (Operand Semicolon false most_open ∷ []) l new → Reads (Target ∷ []) old new
sets_read old l new t a = record { ran = λ stack. by_taken Target (codes "=") (Operand Semicolon false most_open ∷ []) stack old l t refl ∙ a.ran stack }

pub sets_misses : (old l new : List Placed) → Takes (codes "=") old l → Stops (Operand Semicolon false most_open ∷ []) l new → Stops (Target ∷ []) old new
sets_misses old l new t a = record { ran = λ stack. by_taken Target (codes "=") (Operand Semicolon false most_open ∷ []) stack old l t refl ∙ a.ran stack }

pub stores_read : (old l new : List Placed) → Takes (codes "[") old l → Reads store_rule l new → Reads (Target ∷ []) old new
stores_read old l new t a = record { ran = λ stack. by_taken Target (codes "[") store_rule stack old l t refl ∙ a.ran stack }

pub stores_misses : (old l new : List Placed) → Takes (codes "[") old l → Stops store_rule l new → Stops (Target ∷ []) old new
stores_misses old l new t a = record { ran = λ stack. by_taken Target (codes "[") store_rule stack old l t refl ∙ a.ran stack }

pub target_misses : (old : List Placed) → begins_with (codes "=") old ≡ false → begins_with (codes "[") old ≡ false → Stops (Target ∷ []) old old
target_misses [] h g = record { ran = λ stack. refl }
target_misses (t ∷ l) h g = record {
  ran = λ stack. by_none Target t stack (t ∷ l) l refl (ap (λ b. cond b (Some (Operand Semicolon false most_open ∷ [])) (cond (same t.text (codes "[")) (Some store_rule) None)) h ∙ ap (λ b. cond b (Some store_rule) None) g);
}

-- ---- lines

pub no_lines : (d : Bool) (old : List Placed) → ReadsLines d d old old
no_lines d old = record { ran = λ stack. refl }

pub lines_on : (a b c : Bool) (old now new : List Placed) → ReadsLines a b old now → ReadsLines b c now new → ReadsLines a c old new
lines_on a b c old now new p q = record { ran = λ stack. p.ran stack ∙ q.ran stack }

pub array_line : (old l new : List Placed) → Takes (codes "array") old l → Reads array_rule l new → ReadsLines true true old new
array_line old l new t a = record { ran = λ stack. by_taken (Lines true) (codes "array") (array_rule ++ (Lines true ∷ [])) stack old l t refl ∙ a.ran (Lines true ∷ stack) }

pub carry_line : (old l new : List Placed) → Takes (codes "carry") old l → Reads carry_rule l new → ReadsLines true true old new
carry_line old l new t a = record { ran = λ stack. by_taken (Lines true) (codes "carry") (carry_rule ++ (Lines true ∷ [])) stack old l t refl ∙ a.ran (Lines true ∷ stack) }

-- behind the declarations
pub decls_over : (old : List Placed) → begins_with (codes "array") old ≡ false → begins_with (codes "carry") old ≡ false → ReadsLines true false old old
decls_over [] h g = record { ran = λ stack. refl }
decls_over (t ∷ l) h g = record { ran = λ stack. ap (λ o. going o (λ x. run rule (x ++ stack) l) (t ∷ l)) over }
  where
    over : line_rule true t.text ≡ line_rule false t.text
    over =
        ap (λ b. cond (same t.text []) (Some []) (cond b (Some (array_rule ++ (Lines true ∷ []))) (cond (same t.text (codes "carry")) (Some (carry_rule ++ (Lines true ∷ []))) (stmt_rule t.text)))) h
        ∙ ap (λ b. cond (same t.text []) (Some []) (cond b (Some (carry_rule ++ (Lines true ∷ []))) (stmt_rule t.text))) g

pub let_at : (d : Bool) → rule_of (Lines d) (codes "let") ≡ Some (let_rule ++ (Lines false ∷ []))
let_at true = refl
let_at false = refl

pub out_at : (d : Bool) → rule_of (Lines d) (codes "out") ≡ Some (out_rule ++ (Lines false ∷ []))
out_at true = refl
out_at false = refl

pub name_at : (d : Bool) (t : List ℕ) → is_loop_name t ≡ true → line_rule d t ≡ Some (Target ∷ Lines false ∷ [])
name_at d t h =
    ap (λ b. cond b (Some []) (cond (d && same t (codes "array")) (Some (array_rule ++ (Lines true ∷ []))) (cond (d && same t (codes "carry")) (Some (carry_rule ++ (Lines true ∷ []))) (stmt_rule t)))) (apart is_loop_name t [] h refl)
    ∙ ap (λ b. cond (d && b) (Some (array_rule ++ (Lines true ∷ []))) (cond (d && same t (codes "carry")) (Some (carry_rule ++ (Lines true ∷ []))) (stmt_rule t))) (apart is_loop_name t (codes "array") h refl)
    ∙ ap (λ b. cond (d && false) (Some (array_rule ++ (Lines true ∷ []))) (cond (d && b) (Some (carry_rule ++ (Lines true ∷ []))) (stmt_rule t))) (apart is_loop_name t (codes "carry") h refl)
    ∙ both d ∙ stmt
  where
    both : (d : Bool) → cond (d && false) (Some (array_rule ++ (Lines true ∷ []))) (cond (d && false) (Some (carry_rule ++ (Lines true ∷ []))) (stmt_rule t)) ≡ stmt_rule t
    both true = refl
    both false = refl

    stmt : stmt_rule t ≡ Some (Target ∷ Lines false ∷ [])
    stmt =
        ap (λ b. cond b (Some (let_rule ++ (Lines false ∷ []))) (cond (same t (codes "out")) (Some (out_rule ++ (Lines false ∷ []))) (cond (is_loop_name t) (Some (Target ∷ Lines false ∷ [])) None))) (apart is_loop_name t (codes "let") h refl)
        ∙ ap (λ b. cond b (Some (out_rule ++ (Lines false ∷ []))) (cond (is_loop_name t) (Some (Target ∷ Lines false ∷ [])) None)) (apart is_loop_name t (codes "out") h refl)
        ∙ ap (λ b. cond b (Some (Target ∷ Lines false ∷ [])) None) h

pub let_line : (d : Bool) (old l new : List Placed) → Takes (codes "let") old l → Reads let_rule l new → ReadsLines d false old new
let_line d old l new t a = record { ran = λ stack. by_taken (Lines d) (codes "let") (let_rule ++ (Lines false ∷ [])) stack old l t (let_at d) ∙ a.ran (Lines false ∷ stack) }

pub out_line : (d : Bool) (old l new : List Placed) → Takes (codes "out") old l → Reads out_rule l new → ReadsLines d false old new
out_line d old l new t a = record { ran = λ stack. by_taken (Lines d) (codes "out") (out_rule ++ (Lines false ∷ [])) stack old l t (out_at d) ∙ a.ran (Lines false ∷ stack) }

pub change_line : (d : Bool) (t : Placed) (old l new : List Placed) → old ≡ t ∷ l → is_loop_name t.text ≡ true → Reads (Target ∷ []) l new → ReadsLines d false old new
change_line d t old l new e h a = record { ran = λ stack. by_rule (Lines d) t (Target ∷ Lines false ∷ []) stack old l e (name_at d t.text h) ∙ a.ran (Lines false ∷ stack) }

-- ---- where lines stop

pub array_misses : (old l new : List Placed) → Takes (codes "array") old l → Stops array_rule l new → Stops (Lines true ∷ []) old new
array_misses old l new t a = record { ran = λ stack. by_taken (Lines true) (codes "array") (array_rule ++ (Lines true ∷ [])) stack old l t refl ∙ a.ran (Lines true ∷ stack) }

pub carry_misses : (old l new : List Placed) → Takes (codes "carry") old l → Stops carry_rule l new → Stops (Lines true ∷ []) old new
carry_misses old l new t a = record { ran = λ stack. by_taken (Lines true) (codes "carry") (carry_rule ++ (Lines true ∷ [])) stack old l t refl ∙ a.ran (Lines true ∷ stack) }

pub let_misses : (d : Bool) (old l new : List Placed) → Takes (codes "let") old l → Stops let_rule l new → Stops (Lines d ∷ []) old new
let_misses d old l new t a = record { ran = λ stack. by_taken (Lines d) (codes "let") (let_rule ++ (Lines false ∷ [])) stack old l t (let_at d) ∙ a.ran (Lines false ∷ stack) }

pub out_misses : (d : Bool) (old l new : List Placed) → Takes (codes "out") old l → Stops out_rule l new → Stops (Lines d ∷ []) old new
out_misses d old l new t a = record { ran = λ stack. by_taken (Lines d) (codes "out") (out_rule ++ (Lines false ∷ [])) stack old l t (out_at d) ∙ a.ran (Lines false ∷ stack) }

pub change_misses : (d : Bool) (t : Placed) (old l new : List Placed) → old ≡ t ∷ l → is_loop_name t.text ≡ true → Stops (Target ∷ []) l new → Stops (Lines d ∷ []) old new
change_misses d t old l new e h a = record { ran = λ stack. by_rule (Lines d) t (Target ∷ Lines false ∷ []) stack old l e (name_at d t.text h) ∙ a.ran (Lines false ∷ stack) }

-- a token that begins no statement
pub stmt_misses : (t : Placed) (old l : List Placed) → old ≡ t ∷ l → same t.text [] ≡ false → same t.text (codes "let") ≡ false → same t.text (codes "out") ≡ false → is_loop_name t.text ≡ false → Stops (Lines false ∷ []) old old
stmt_misses t old l e z a b n = record { ran = λ stack. by_none (Lines false) t stack old l e none }
  where
    none : line_rule false t.text ≡ None
    none =
        ap (λ b. cond b (Some []) (stmt_rule t.text)) z
        ∙ ap (λ b. cond b (Some (let_rule ++ (Lines false ∷ []))) (cond (same t.text (codes "out")) (Some (out_rule ++ (Lines false ∷ []))) (cond (is_loop_name t.text) (Some (Target ∷ Lines false ∷ [])) None))) a
        ∙ ap (λ b. cond b (Some (out_rule ++ (Lines false ∷ []))) (cond (is_loop_name t.text) (Some (Target ∷ Lines false ∷ [])) None)) b
        ∙ ap (λ b. cond b (Some (Target ∷ Lines false ∷ [])) None) n

pub lines_end_early : (d : Bool) (old : List Placed) → old ≡ [] → Stops (Lines d ∷ []) old old
lines_end_early d old e = record { ran = λ stack. by_end (Lines d) stack old e }

pub lines_stop : (a b : Bool) (old now new : List Placed) → ReadsLines a b old now → Stops (Lines b ∷ []) now new → Stops (Lines a ∷ []) old new
lines_stop a b old now new p q = record { ran = λ stack. p.ran stack ∙ q.ran stack }

-- the last token, of no byte
pub end_at : (d : Bool) → rule_of (Lines d) [] ≡ Some []
end_at true = refl
end_at false = refl

pub lines_end : (a b : Bool) (old now new : List Placed) → ReadsLines a b old now → Takes [] now new → Reads (Lines a ∷ []) old new
lines_end a b old now new p t = record { ran = λ stack. p.ran stack ∙ by_taken (Lines b) [] [] stack now new t (end_at b) }

-- ---- a whole file

pub file_read : (old new : List Placed) → Reads start old new → new ≡ [] → run rule start old ≡ None
file_read old new p z = p.ran [] ∙ ap (run rule []) z

pub file_misses : (old new : List Placed) → Stops start old new → run rule start old ≡ Some new
file_misses old new p = p.ran []
