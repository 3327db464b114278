-- The table is right for the grammar, and its start is a file with one token of no byte behind it.
use Rattle.std.proofs.Common.{◌≡◌, ℕ, zero, suc, true, false, cond, List, [], ◌∷◌, ◌++◌, codes, Some, None, refl, sym, ◌∙◌, ap, subst, append_assoc}
use Rattle.std.specs.List.{flat_map}
use Rattle.cg_tokens.specs.Table.{Spelled, none, IsTable}
use Rattle.cg_tokens.specs.Tokens.{Placed}
use Rattle.cg_loop_syntax.specs.Well.{is_loop_name}
use Rattle.cg_loop_text_spec.specs.Words.{is_number}
use Rattle.cg_loop_text_spec.specs.Grammar.{Expr, Plain, Sums, NoTerms, Prods, NoFactors, Atom, Number, Args, One, More, NoGuard, If, Text, atom_tokens, args_tokens, decl_tokens, stmt_tokens, text_tokens, Is, IsArgs, IsFile}
use Rattle.cg_loop_text_spec.specs.Rules.{Closer, Round, Square, Semicolon, Guarded, Further, Symbol, Exactly, Name, Digits, Operand, Named, After, Close, Target, Lines, rule, start, NoCompare, Tail, tail_tokens, Closes, NoIndex, index_tokens, Sets, Stores, change_tokens, Spells}
use Rattle.cg_loop_text_spec.proofs.Runs.{exactly_rule}
use Rattle.cg_loop_text_spec.proofs.Parts.{Tokens, alone, only, exact_then, exact_onto}
use Rattle.cg_loop_text_spec.proofs.Sound.{exact_sound, test_sound, close_sound, after_sound, named_sound, operand_sound}
use Rattle.cg_loop_text_spec.proofs.Complete.{Goes, at_token, one_complete, close_complete, after_complete, named_complete, operand_complete}
use Rattle.cg_loop_text_spec.proofs.Written.{target_sound, target_complete, lines_sound, lines_complete}

sound : (s : Symbol) (t : Placed) (new : List Symbol) (ts : Tokens) → rule s t ≡ Some new → Spelled Spells new ts → Spells s (t ∷ ts)
sound (Exactly s) t new ts h p = exact_sound s t new ts h p
sound Name t new ts h p = test_sound is_loop_name t new ts h p
sound Digits t new ts h p = test_sound is_number t new ts h p
sound (Close c room) t new ts h p = close_sound c room t new ts h p
sound (After c k room) t new ts h p = after_sound c k room t new ts h p
sound (Named c k room) t new ts h p = named_sound c k room t new ts h p
sound (Operand c k room) t new ts h p = operand_sound c k room t new ts h p
sound Target t new ts h p = target_sound t new ts h p
sound (Lines b) t new ts h p = lines_sound b t new ts h p

complete : (s : Symbol) (t : Placed) (ts : Tokens) → Spells s (t ∷ ts) → Goes s t ts
complete (Exactly s) t ts p = one_complete (Exactly s) s t ts (exactly_rule s) p
complete Name t ts (u, h, e) = at_token Name t u ts [] e ([], ap (λ b. cond b (Some []) None) h, none)
complete Digits t ts (u, h, e) = at_token Digits t u ts [] e ([], ap (λ b. cond b (Some []) None) h, none)
complete (Close c room) t ts p = close_complete c room t ts p
complete (After c k room) t ts p = after_complete c k room t ts p
complete (Named c k room) t ts p = named_complete c k room t ts p
complete (Operand c k room) t ts p = operand_complete c k room t ts p
complete Target t ts p = target_complete t ts p
complete (Lines b) t ts p = lines_complete b t ts p

-- ---- no symbol is empty

append_none : (a b : Tokens) → [] ≡ a ++ b → [] ≡ b
append_none [] b e = e
append_none (x ∷ a) b e = cc

one_last : (a : Tokens) (t : Placed) → [] ≡ a ++ t ∷ [] → ⊥
one_last a t e = let none = append_none a (t ∷ []) e in cc

closes_some : (c : Closer) (room : ℕ) → Closes c room [] → ⊥
closes_some Round room (t, h, e) = cc
closes_some Square room (t, h, e) = cc
closes_some Semicolon room (t, h, e) = cc
closes_some Guarded room (NoGuard, t, g, h, e) = cc
closes_some Guarded room (If word x, t, g, h, e) = cc
closes_some (Further zero) room (t, h, e) = cc
closes_some (Further (suc n)) room (comma, args, closes, h, k, l, e) = cc

tail_some : (c : Closer) (room : ℕ) (t : Tokens) (end : Tokens) → Closes c room end → [] ≡ t ++ end → ⊥
tail_some c room t end h e = closes_some c room (subst (Closes c room) (sym (append_none t end e)) h)

some : (s : Symbol) → Spells s [] → ⊥
some (Exactly s) (t, h, e) = cc
some Name (t, h, e) = cc
some Digits (t, h, e) = cc
some (Close c room) p = closes_some c room p
some (After c k room) p = tail_some c room (tail_tokens p.0) p.1 p.3 p.4
some (Named c k room) p = tail_some c room (tail_tokens p.1) p.2 p.5 (append_none (index_tokens p.0) (tail_tokens p.1 ++ p.2) p.6)
some (Operand c k room) (a, tail, end, ha, ht, hc, e) = tail_some c room (tail_tokens tail) end hc (append_none (atom_tokens a) (tail_tokens tail ++ end) e)
some Target (Sets sign x end, h, e) = cc
some Target (Stores opens ix closes sign x g end, h, e) = cc
some (Lines b) (ds, ss, end, hd, only_here, hs, he, e) = one_last (flat_map stmt_tokens ss) end (append_none (flat_map decl_tokens ds) (flat_map stmt_tokens ss ++ (end ∷ [])) e)

-- ---- the shortest ends

abbrev of_text : List ℕ → Placed
of_text s = record { text = s; place = 0 }

abbrev zero_atom : Atom
zero_atom = Number (of_text (codes "0"))

abbrev zero_expr : Expr
zero_expr = Plain (Sums (Prods zero_atom NoFactors) NoTerms)

zero_args : (n room : ℕ) → (args : Args) × IsArgs room n args
zero_args zero room = (One zero_expr, (refl, ((refl, tt), tt)))
zero_args (suc n) room = let p = zero_args n room in (More zero_expr (of_text (codes ",")) p.0, (refl, (n, refl, ((refl, tt), tt), p.1)))

closes_filled : (c : Closer) (room : ℕ) → (ts : Tokens) × Closes c room ts
closes_filled Round room = (of_text (codes ")") ∷ [], (of_text (codes ")"), refl, refl))
closes_filled Square room = (of_text (codes "]") ∷ [], (of_text (codes "]"), refl, refl))
closes_filled Semicolon room = (of_text (codes ";") ∷ [], (of_text (codes ";"), refl, refl))
closes_filled Guarded room = (of_text (codes ";") ∷ [], (NoGuard, of_text (codes ";"), tt, refl, refl))
closes_filled (Further zero) room = (of_text (codes ")") ∷ [], (of_text (codes ")"), refl, refl))
closes_filled (Further (suc n)) room = let p = zero_args n room in (of_text (codes ",") ∷ (args_tokens p.0 ++ (of_text (codes ")") ∷ [])), (of_text (codes ","), p.0, of_text (codes ")"), refl, p.1, refl, refl))

abbrev no_tail : Tail
no_tail = record { factors = NoFactors; terms = NoTerms; compare = NoCompare }

filled : (s : Symbol) → (ts : Tokens) × Spells s ts
filled (Exactly s) = (of_text s ∷ [], (of_text s, refl, refl))
filled Name = (of_text (codes "a") ∷ [], (of_text (codes "a"), refl, refl))
filled Digits = (of_text (codes "0") ∷ [], (of_text (codes "0"), refl, refl))
filled (Close c room) = closes_filled c room
filled (After c k room) = let p = closes_filled c room in (p.0, (no_tail, p.0, record { factors = tt; terms = tt; compare = tt }, p.1, refl))
filled (Named c k room) = let p = closes_filled c room in (p.0, (NoIndex, no_tail, p.0, tt, record { factors = tt; terms = tt; compare = tt }, p.1, refl))
filled (Operand c k room) = let p = closes_filled c room in (of_text (codes "0") ∷ p.0, (zero_atom, no_tail, p.0, refl, record { factors = tt; terms = tt; compare = tt }, p.1, refl))
filled Target = (change_tokens (Sets (of_text (codes "=")) zero_expr (of_text (codes ";"))), (Sets (of_text (codes "=")) zero_expr (of_text (codes ";")), (refl, ((refl, tt), tt), refl), refl))
filled (Lines b) = (of_text [] ∷ [], ([], [], of_text [], tt, (λ _. refl), tt, refl, refl))

-- the table is right
pub table : IsTable rule Spells
table = record { some = some; sound = sound; complete = complete; filled = filled }

-- ---- a file

pub spelled_file : (tokens : Tokens) (e : Placed) → Is e [] → IsFile tokens → Spelled Spells start (tokens ++ e ∷ [])
spelled_file tokens e he (t, h, w) =
    let lines = flat_map decl_tokens t.decls ++ (flat_map stmt_tokens t.stmts ++ (e ∷ [])) in
    subst (λ (x : Tokens). Spelled Spells start x) (sym (ap (λ (x : Tokens). x ++ (e ∷ [])) w ∙ ap (λ (x : Tokens). t.format ∷ t.end ∷ x) (append_assoc (flat_map decl_tokens t.decls) (flat_map stmt_tokens t.stmts) (e ∷ []))))
    (exact_onto (codes "cgl1") (Exactly (codes ";") ∷ Lines true ∷ []) t.format (t.end ∷ lines) h.format
    (exact_onto (codes ";") (Lines true ∷ []) t.end lines h.end (only (Lines true) lines (t.decls, t.stmts, e, h.decls, (λ (x : true ≡ false). cc), h.stmts, he, refl))))

pub file_ended : (ts : Tokens) → Spelled Spells start ts → (tokens : Tokens) × (e : Placed) × Is e [] × IsFile tokens × (ts ≡ tokens ++ e ∷ [])
file_ended ts p =
    let f = exact_then (codes "cgl1") (Exactly (codes ";") ∷ Lines true ∷ []) ts p in
    let s = exact_then (codes ";") (Lines true ∷ []) f.1 f.4 in
    let l = alone (Lines true) s.1 s.4 in
    let text : Text = record { format = f.0; end = s.0; decls = l.0; stmts = l.1 } in
    let all : ts ≡ text_tokens text ++ l.2 ∷ [] =
    f.2 ∙ ap (λ (x : Tokens). f.0 ∷ x) (s.2 ∙ ap (λ (x : Tokens). s.0 ∷ x) (l.7 ∙ sym (append_assoc (flat_map decl_tokens l.0) (flat_map stmt_tokens l.1) (l.2 ∷ [])))) in
    (text_tokens text, l.2, l.6, (text, record { format = f.3; end = s.3; decls = l.3; stmts = l.5 }, refl), all)

same_front : (a b : Tokens) (x y : Placed) → a ++ x ∷ [] ≡ b ++ y ∷ [] → a ≡ b
same_front [] [] x y h = refl
same_front [] (u ∷ []) x y h = cc
same_front [] (u ∷ v ∷ b) x y h = cc
same_front (u ∷ []) [] x y h = cc
same_front (u ∷ v ∷ a) [] x y h = cc
same_front (u ∷ a) (v ∷ b) x y h =
    let head : u ≡ v = cc in
    let tail : a ++ x ∷ [] ≡ b ++ y ∷ [] = cc in
    ap (λ (z : Placed). z ∷ a) head ∙ ap (λ (z : Tokens). v ∷ z) (same_front a b x y tail)

pub file_spelled : (tokens : Tokens) (e : Placed) → Spelled Spells start (tokens ++ e ∷ []) → IsFile tokens
file_spelled tokens e p =
    let f = file_ended (tokens ++ e ∷ []) p in
    subst IsFile (sym (same_front tokens f.0 e f.1 f.4)) f.3
