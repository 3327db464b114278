-- Where reading a line stops.
use Rattle.std.proofs.Common.{◌≡◌, ℕ, ◌<◌, true, false, List, [], ◌∷◌, ◌++◌, ⊎_elim, Option, refl, sym, ap, ◌∙◌, subst, arith, drop, length}
use Rattle.std.specs.Prelude.{codes}
use Rattle.std.specs.List.{AllByRecursion}
use Rattle.cg_tokens.specs.declared.token.Token.{Token}
use Rattle.cg_tokens.specs.Tokens.{Placed, seen, tokens_at}
use Rattle.cg_loop_syntax.specs.declared.syntax.Expr.{Expr}
use Rattle.cg_loop_syntax.specs.declared.body.Decl.{Decl}
use Rattle.cg_loop_syntax.specs.declared.body.Stmt.{Stmt}
use Rattle.cg_loop_syntax.specs.Uses as uses
use Rattle.cg_loop_syntax.specs.Well.{is_loop_name, most_open}
use Rattle.cg_loop_text_spec.specs.Rules.{Exactly, Operand, Semicolon, Square, Guarded as GuardedCloser, Target, Lines, Symbol, array_rule, carry_rule, same, store_rule}
use Rattle.cg_loop_text_spec.specs.Read as read
use Rattle.std.proofs.lemmas.Bool.{cases_Bool}
use Rattle.cg_loop_text_spec.proofs.Texts.{some_is}
use Rattle.cg_loop_text_spec.proofs.Lines as lines
use Rattle.cg_loop_text_spec.proofs.Runs as runs
use Rattle.cg_loop_text_spec.proofs.Whole.{solid_from}
use Rattle.cg_loop_reader.specs.declared.reader.Reader.{Reader}
use Rattle.cg_loop_reader.specs.declared.fault.Misfit.{Misfit}
use Rattle.cg_loop_reader.specs.declared.fault.Misfit.TheVariants.{Memory, Text}
use Rattle.cg_loop_reader.specs.Doubled.{double}
use Rattle.cg_loop_reader.specs.Left.{left, last_token, IsNext, Takes, Notes, Misses}
use Rattle.cg_loop_reader.specs.Found.{FindsExpr, MissesExpr}
use Rattle.cg_loop_reader.specs.Lines.{FindsDecls, FindsGuard, FindsPlace, FindsStmts, MissesGuard}
use Rattle.cg_loop_reader.proofs.Taken.{taken}

pub value_end_missed : (e : Misfit) (x : Expr) (old m p new : Reader) → Takes (codes "=") old m → FindsExpr most_open x m p → Misses e (Exactly (codes ";") ∷ []) p new → Misses e (Exactly (codes "=") ∷ Operand Semicolon false most_open ∷ []) old new
value_end_missed Memory x old m p new s f c = tt
value_end_missed Text x old m p new s f c = runs.takes_stops (codes "=") (Operand Semicolon false most_open ∷ []) (left old) (left m) (left new) (taken s) (lines.value_end_misses (left m) (left p) (left new) f.ran c)

-- a value with a guard, or none
pub guarded_value_missed : (e : Misfit) (old m new : Reader) → Takes (codes "=") old m → MissesExpr e most_open m new → Misses e (Exactly (codes "=") ∷ Operand GuardedCloser false most_open ∷ []) old new
guarded_value_missed Memory old m new s c = tt
guarded_value_missed Text old m new s c = runs.takes_stops (codes "=") (Operand GuardedCloser false most_open ∷ []) (left old) (left m) (left new) (taken s) (lines.guarded_misses (left m) (left new) c)

pub guarded_guard_missed : (e : Misfit) (x : Expr) (old m p new : Reader) → Takes (codes "=") old m → FindsExpr most_open x m p → MissesGuard e p new → Misses e (Exactly (codes "=") ∷ Operand GuardedCloser false most_open ∷ []) old new
guarded_guard_missed Memory x old m p new s f c = tt
guarded_guard_missed Text x old m p new s f c = runs.takes_stops (codes "=") (Operand GuardedCloser false most_open ∷ []) (left old) (left m) (left new) (taken s) (lines.guarded_guard_misses (left m) (left p) (left new) f.ran c)

pub guarded_end_missed : (e : Misfit) (x : Expr) (g : Option Expr) (old m p q new : Reader) → Takes (codes "=") old m → FindsExpr most_open x m p → FindsGuard g p q → Misses e (Exactly (codes ";") ∷ []) q new → Misses e (Exactly (codes "=") ∷ Operand GuardedCloser false most_open ∷ []) old new
guarded_end_missed Memory x g old m p q new s f h c = tt
guarded_end_missed Text x g old m p q new s f h c = runs.takes_stops (codes "=") (Operand GuardedCloser false most_open ∷ []) (left old) (left m) (left new) (taken s) (lines.guarded_end_misses (left m) (left p) (left q) (left new) f.ran h.ran c)

-- an index of a store
pub place_end_missed : (e : Misfit) (x : Expr) (old m p new : Reader) → Takes (codes "[") old m → FindsExpr 31 x m p → Misses e (Exactly (codes "]") ∷ []) p new → Misses e (Exactly (codes "[") ∷ Operand Square false 31 ∷ []) old new
place_end_missed Memory x old m p new s f c = tt
place_end_missed Text x old m p new s f c = runs.takes_stops (codes "[") (Operand Square false 31 ∷ []) (left old) (left m) (left new) (taken s) (lines.place_end_misses 31 (left m) (left p) (left new) f.ran c)

-- the same, behind the note of its name
pub store_index_missed : (e : Misfit) (u : uses.Use) (old m new : Reader) → read.begins_with (codes "[") (left old) ≡ true → Notes u old m → Misses e (Exactly (codes "[") ∷ Operand Square false 31 ∷ []) m new → Misses e (Target ∷ []) old new
store_index_missed Memory u old m new b w x = tt
store_index_missed Text u old m new b w x =
    let y : read.Stops (Exactly (codes "[") ∷ Operand Square false 31 ∷ []) (left old) (left new) = subst (λ z. read.Stops (Exactly (codes "[") ∷ Operand Square false 31 ∷ []) z (left new)) w.left x in
    let k = runs.begins_taken (codes "[") (left old) b in
    lines.stores_misses (left old) k.0 (left new) k.1
    (record { ran = λ stack. sym (runs.by_taken (Exactly (codes "[")) (codes "[") [] (store_rule ++ stack) (left old) k.0 k.1 refl) ∙ y.ran (Exactly (codes "=") ∷ Operand GuardedCloser false most_open ∷ stack) })

-- its value, behind the index
pub store_value_missed : (e : Misfit) (u : uses.Use) (a : Expr) (old m p new : Reader) → Notes u old m → FindsPlace a m p → Misses e (Exactly (codes "=") ∷ Operand GuardedCloser false most_open ∷ []) p new → Misses e (Target ∷ []) old new
store_value_missed Memory u a old m p new w f x = tt
store_value_missed Text u a old m p new w f x =
    lines.stores_misses (left old) (left f.inside) (left new) (subst (λ y. read.Takes (codes "[") y (left f.inside)) w.left (taken f.opens))
    (runs.then_stops (Operand Square false 31) (Exactly (codes "=") ∷ Operand GuardedCloser false most_open ∷ []) (left f.inside) (left p) (left new) (lines.place_read 31 (left f.inside) (left f.end) (left p) f.index.ran (taken f.closes)) x)

-- an assignment, behind the note of its name
pub assign_missed : (e : Misfit) (u : uses.Use) (old m new : Reader) → read.begins_with (codes "[") (left old) ≡ false → Notes u old m → Misses e (Exactly (codes "=") ∷ Operand Semicolon false most_open ∷ []) m new → Misses e (Target ∷ []) old new
assign_missed Memory u old m new b w x = tt
assign_missed Text u old m new b w x =
    let y : read.Stops (Exactly (codes "=") ∷ Operand Semicolon false most_open ∷ []) (left old) (left new) = subst (λ z. read.Stops (Exactly (codes "=") ∷ Operand Semicolon false most_open ∷ []) z (left new)) w.left x in
    ⊎_elim
    (λ t.
    let k = runs.begins_taken (codes "=") (left old) t in
    lines.sets_misses (left old) k.0 (left new) k.1 (record { ran = λ stack. sym (runs.by_taken (Exactly (codes "=")) (codes "=") [] (Operand Semicolon false most_open ∷ stack) (left old) k.0 k.1 refl) ∙ y.ran stack }))
    (λ f.
    let miss = runs.exactly_misses (codes "=") (left old) f in
    let here : left old ≡ left new = some_is (sym (miss.ran (Operand Semicolon false most_open ∷ [])) ∙ y.ran []) in
    subst (read.Stops (Target ∷ []) (left old)) here (lines.target_misses (left old) f b))
    (cases_Bool (read.begins_with (codes "=") (left old)))

-- one symbol of several is missed, behind those that are read
pub first_missed : (e : Misfit) (s : Symbol) (more : List Symbol) (old new : Reader) → Misses e (s ∷ []) old new → Misses e (s ∷ more) old new
first_missed Memory s more old new x = tt
first_missed Text s more old new x = runs.stops_first s more (left old) (left new) x

pub later_missed : (e : Misfit) (s : Symbol) (more : List Symbol) (old m new : Reader) → read.Reads (s ∷ []) (left old) (left m) → Misses e more m new → Misses e (s ∷ more) old new
later_missed Memory s more old m new r x = tt
later_missed Text s more old m new r x = runs.then_stops s more (left old) (left m) (left new) r x

-- a declaration, behind its word
pub array_missed : (e : Misfit) (t : Token) (old m new : Reader) → t.text.now ≡ codes "array" → left old ≡ seen t ∷ left m → Misses e array_rule m new → Misses e (Lines true ∷ []) old new
array_missed Memory t old m new h s x = tt
array_missed Text t old m new h s x = lines.array_misses (left old) (left m) (left new) (record { token = seen t; is = h; whole = s }) x

pub carry_missed : (e : Misfit) (t : Token) (old m new : Reader) → t.text.now ≡ codes "carry" → left old ≡ seen t ∷ left m → Misses e carry_rule m new → Misses e (Lines true ∷ []) old new
carry_missed Memory t old m new h s x = tt
carry_missed Text t old m new h s x = lines.carry_misses (left old) (left m) (left new) (record { token = seen t; is = h; whole = s }) x

pub change_missed : (e : Misfit) (t : Token) (old m new : Reader) → is_loop_name t.text.now ≡ true → left old ≡ seen t ∷ left m → Misses e (Target ∷ []) m new → Misses e (Lines false ∷ []) old new
change_missed Memory t old m new h s x = tt
change_missed Text t old m new h s x = lines.change_misses false (seen t) (left old) (left m) (left new) s h x

first_solid : (ts rest : List Placed) (t : Placed) → AllByRecursion read.IsSolid ts → ts ≡ t ∷ rest → 0 < length t.text
first_solid [] rest t h e = cc
first_solid (x ∷ xs) rest t h e = let same : ◌≡◌ {A = Placed} x t = cc in subst (λ y. 0 < length y.text) same h.0

-- a token has a byte
next_solid : (r : Reader) (t : Token) → IsNext r t → 0 < length t.text.now
next_solid r t n = first_solid (tokens_at double r.bytes.now r.at) _ (seen t) (solid_from double 0 r.at (drop r.at r.bytes.now)) n.next

not_empty : (t : List ℕ) → 0 < length t → same t [] ≡ false
not_empty [] h = absurd (omega arith)
not_empty (x ∷ xs) h = refl

-- a token that begins no statement
pub stmt_missed : (r : Reader) (t : Token) → IsNext r t → same t.text.now (codes "let") ≡ false → same t.text.now (codes "out") ≡ false → is_loop_name t.text.now ≡ false → read.Stops (Lines false ∷ []) (left r) (left r)
stmt_missed r t n a b c = lines.stmt_misses (seen t) (left r) _ (ap (λ x. x ++ last_token r.bytes.now ∷ []) n.next) (not_empty t.text.now (next_solid r t n)) a b c

-- ---- one line after another

pub decl_missed : (e : Misfit) (ds : List Decl) (old m new : Reader) → FindsDecls ds old m → Misses e (Lines true ∷ []) m new → Misses e (Lines true ∷ []) old new
decl_missed Memory ds old m new f x = tt
decl_missed Text ds old m new f x = lines.lines_stop true true (left old) (left m) (left new) f.ran x

pub line_missed : (e : Misfit) (ss : List Stmt) (old m new : Reader) → FindsStmts ss old m → Misses e (Lines false ∷ []) m new → Misses e (Lines false ∷ []) old new
line_missed Memory ss old m new f x = tt
line_missed Text ss old m new f x = lines.lines_stop false false (left old) (left m) (left new) f.ran x
