-- A run from the start stops at a token, since the last token of all, of no byte, is taken by the lines alone.
use Rattle.std.proofs.Common.{◌≡◌, ℕ, zero, suc, ◌<◌, Bool, true, false, cond, ◌&&◌, ◌||◌, not, List, [], ◌∷◌, ◌++◌, length, codes, Option, Some, None, ◌⊎◌, inl, inr, ⊎_elim, refl, sym, ◌∙◌, ap, subst, append-nil, arith}
use Rattle.std.specs.Prelude.{is_some}
use Rattle.std.specs.List.{AllByRecursion}
use Rattle.cg_tokens.specs.Table.{going, run}
use Rattle.cg_tokens.specs.Tokens.{Placed}
use Rattle.cg_loop_syntax.specs.Well.{is_loop_name, most_open}
use Rattle.cg_loop_text_spec.specs.Words.{is_number, op_called, added_by, compared_by}
use Rattle.cg_loop_text_spec.specs.Grammar.{Is}
use Rattle.cg_loop_text_spec.specs.Rules.{Closer, Round, Square, Semicolon, Guarded, Further, Symbol, Exactly, Name, Digits, Operand, Named, After, Close, Target, Lines, same, close_rule, after_rule, index_rule, further_of, apply_rule, open_rule, operand_rule, array_rule, carry_rule, let_rule, out_rule, store_rule, stmt_rule, line_rule, target_rule, rule_of, rule}
use Rattle.cg_loop_text_spec.specs.Read.{IsSolid}
use Rattle.cg_loop_text_spec.proofs.Texts.{some_is, and_both}
use Rattle.cg_loop_text_spec.proofs.Lines.{end_at}

-- a symbol that takes no token of no byte
abbrev is_inner : Symbol → Bool
is_inner (Exactly s) = not (same [] s)
is_inner (Lines b) = false
is_inner _ = true

abbrev are_inner : List Symbol → Bool
are_inner [] = true
are_inner (s ∷ stack) = is_inner s && are_inner stack

-- such symbols, and lines below them
abbrev pub is_body : List Symbol → Bool
is_body [] = false
is_body (Lines b ∷ []) = true
is_body (s ∷ stack) = is_inner s && is_body stack

-- ---- what a rule goes on with

abbrev Passes : (List Symbol → Bool) → Option (List Symbol) → Type 0
Passes f None = Unit {0}
Passes f (Some new) = f new ≡ true

passes_if : (f : List Symbol → Bool) (b : Bool) (x y : Option (List Symbol)) → Passes f x → Passes f y → Passes f (cond b x y)
passes_if f true x y p q = p
passes_if f false x y p q = q

passes_one : (f : List Symbol → Bool) (b : Bool) (new : List Symbol) → f new ≡ true → Passes f (cond b (Some new) None)
passes_one f true new p = p
passes_one f false new p = tt

close_inner : (c : Closer) (room : ℕ) (t : List ℕ) → Passes are_inner (close_rule c room t)
close_inner Round room t = passes_one are_inner (same t (codes ")")) [] refl
close_inner Square room t = passes_one are_inner (same t (codes "]")) [] refl
close_inner Semicolon room t = passes_one are_inner (same t (codes ";")) [] refl
close_inner Guarded room t =
    passes_if are_inner (same t (codes ";")) (Some []) (cond (same t (codes "if")) (Some (Operand Semicolon false most_open ∷ [])) None) refl (passes_one are_inner (same t (codes "if")) (Operand Semicolon false most_open ∷ []) refl)
close_inner (Further zero) room t = passes_one are_inner (same t (codes ")")) [] refl
close_inner (Further (suc n)) room t = passes_one are_inner (same t (codes ",")) (Operand (Further n) false room ∷ []) refl

after_inner : (c : Closer) (k : Bool) (room : ℕ) (t : List ℕ) → Passes are_inner (after_rule c k room t)
after_inner c k room t =
    passes_if are_inner (same t (codes "*") || is_some (added_by t)) (Some (Operand c k room ∷ [])) (cond (is_some (compared_by t) && not k) (Some (Operand c true room ∷ [])) (close_rule c room t)) refl
    (passes_if are_inner (is_some (compared_by t) && not k) (Some (Operand c true room ∷ [])) (close_rule c room t) refl (close_inner c room t))

index_inner : (c : Closer) (k : Bool) (room : ℕ) → Passes are_inner (index_rule c k room)
index_inner c k zero = tt
index_inner c k (suc room) = refl

apply_inner : (c : Closer) (k : Bool) (room : ℕ) (n : Option ℕ) → Passes are_inner (apply_rule c k room n)
apply_inner c k room None = tt
apply_inner c k room (Some n) = refl

open_inner : (c : Closer) (k : Bool) (room : ℕ) (t : List ℕ) → Passes are_inner (open_rule c k room t)
open_inner c k zero t = tt
open_inner c k (suc room) t =
    passes_if are_inner (same t (codes "(")) (Some (Operand Round false room ∷ After c k (suc room) ∷ [])) (apply_rule c k room (further_of (op_called t))) refl (apply_inner c k room (further_of (op_called t)))

operand_inner : (c : Closer) (k : Bool) (room : ℕ) (t : List ℕ) → Passes are_inner (operand_rule c k room t)
operand_inner c k room t =
    passes_if are_inner (is_number t || same t (codes "turn")) (Some (After c k room ∷ [])) (cond (same t (codes "in")) (Some (Digits ∷ After c k room ∷ [])) (cond (is_loop_name t) (Some (Named c k room ∷ [])) (open_rule c k room t))) refl
    (passes_if are_inner (same t (codes "in")) (Some (Digits ∷ After c k room ∷ [])) (cond (is_loop_name t) (Some (Named c k room ∷ [])) (open_rule c k room t)) refl
    (passes_if are_inner (is_loop_name t) (Some (Named c k room ∷ [])) (open_rule c k room t) refl (open_inner c k room t)))

target_inner : (t : List ℕ) → Passes are_inner (target_rule t)
target_inner t = passes_if are_inner (same t (codes "=")) (Some (Operand Semicolon false most_open ∷ [])) (cond (same t (codes "[")) (Some store_rule) None) refl (passes_one are_inner (same t (codes "[")) store_rule refl)

inner_on : (s : Symbol) (t : List ℕ) → is_inner s ≡ true → Passes are_inner (rule_of s t)
inner_on (Exactly s) t h = passes_one are_inner (same t s) [] refl
inner_on Name t h = passes_one are_inner (is_loop_name t) [] refl
inner_on Digits t h = passes_one are_inner (is_number t) [] refl
inner_on (Close c room) t h = close_inner c room t
inner_on (After c k room) t h = after_inner c k room t
inner_on (Named c k room) t h = passes_if are_inner (same t (codes "[")) (index_rule c k room) (after_rule c k room t) (index_inner c k room) (after_inner c k room t)
inner_on (Operand c k room) t h = operand_inner c k room t
inner_on Target t h = target_inner t
inner_on (Lines b) t h = cc

lines_body : (b : Bool) (t : List ℕ) → same t [] ≡ false → Passes is_body (line_rule b t)
lines_body b t h =
    subst (λ x. Passes is_body (cond x (Some []) (cond (b && same t (codes "array")) (Some (array_rule ++ (Lines true ∷ []))) (cond (b && same t (codes "carry")) (Some (carry_rule ++ (Lines true ∷ []))) (stmt_rule t))))) (sym h)
    (passes_if is_body (b && same t (codes "array")) (Some (array_rule ++ (Lines true ∷ []))) (cond (b && same t (codes "carry")) (Some (carry_rule ++ (Lines true ∷ []))) (stmt_rule t)) refl
    (passes_if is_body (b && same t (codes "carry")) (Some (carry_rule ++ (Lines true ∷ []))) (stmt_rule t) refl
    (passes_if is_body (same t (codes "let")) (Some (let_rule ++ (Lines false ∷ []))) (cond (same t (codes "out")) (Some (out_rule ++ (Lines false ∷ []))) (cond (is_loop_name t) (Some (Target ∷ Lines false ∷ [])) None)) refl
    (passes_if is_body (same t (codes "out")) (Some (out_rule ++ (Lines false ∷ []))) (cond (is_loop_name t) (Some (Target ∷ Lines false ∷ [])) None) refl (passes_one is_body (is_loop_name t) (Target ∷ Lines false ∷ []) refl)))))

-- ---- the token of no byte

close_none : (c : Closer) (room : ℕ) → close_rule c room [] ≡ None
close_none Round room = refl
close_none Square room = refl
close_none Semicolon room = refl
close_none Guarded room = refl
close_none (Further zero) room = refl
close_none (Further (suc n)) room = refl

open_none : (c : Closer) (k : Bool) (room : ℕ) → open_rule c k room [] ≡ None
open_none c k zero = refl
open_none c k (suc room) = refl

if_none : (b : Bool) (new : List Symbol) → not b ≡ true → cond b (Some new) None ≡ None
if_none true new h = cc
if_none false new h = refl

inner_none : (s : Symbol) → is_inner s ≡ true → rule_of s [] ≡ None
inner_none (Exactly s) h = if_none (same [] s) [] h
inner_none Name h = refl
inner_none Digits h = refl
inner_none (Close c room) h = close_none c room
inner_none (After c k room) h = close_none c room
inner_none (Named c k room) h = close_none c room
inner_none (Operand c k room) h = open_none c k room
inner_none Target h = refl
inner_none (Lines b) h = cc

-- ---- runs

inner_body : (s : Symbol) (rest : List Symbol) → is_inner s ≡ true → is_body rest ≡ true → is_body (s ∷ rest) ≡ true
inner_body (Exactly s) rest h g = ap (λ b. b && is_body rest) h ∙ g
inner_body Name rest h g = g
inner_body Digits rest h g = g
inner_body (Close c room) rest h g = g
inner_body (After c k room) rest h g = g
inner_body (Named c k room) rest h g = g
inner_body (Operand c k room) rest h g = g
inner_body Target rest h g = g
inner_body (Lines b) rest h g = cc

body_on : (new stack : List Symbol) → are_inner new ≡ true → is_body stack ≡ true → is_body (new ++ stack) ≡ true
body_on [] stack h g = g
body_on (s ∷ new) stack h g =
    let w = and_both (is_inner s) (are_inner new) h in
    inner_body s (new ++ stack) w.0 (body_on new stack w.1 g)

-- lines alone, or another symbol on top
body_top : (s : Symbol) (stack : List Symbol) → is_body (s ∷ stack) ≡ true → ((b : Bool) × (s ≡ Lines b) × (stack ≡ [])) ⊎ ((is_inner s ≡ true) × (is_body stack ≡ true))
body_top (Exactly s) stack h = inr (and_both (not (same [] s)) (is_body stack) h)
body_top Name stack h = inr (refl, h)
body_top Digits stack h = inr (refl, h)
body_top (Close c room) stack h = inr (refl, h)
body_top (After c k room) stack h = inr (refl, h)
body_top (Named c k room) stack h = inr (refl, h)
body_top (Operand c k room) stack h = inr (refl, h)
body_top Target stack h = inr (refl, h)
body_top (Lines b) [] h = inl (b, refl, refl)
body_top (Lines b) (s ∷ stack) h = cc

passed : (f : List Symbol → Bool) (o : Option (List Symbol)) (new : List Symbol) → o ≡ Some new → Passes f o → f new ≡ true
passed f o new e h = subst (Passes f) e h

no_byte : (t : List ℕ) → 0 < length t → same t [] ≡ false
no_byte [] h = absurd (omega arith)
no_byte (b ∷ t) h = refl

step_body : (s : Symbol) (stack : List Symbol) (t : Placed) (new : List Symbol) → is_body (s ∷ stack) ≡ true → IsSolid t → rule s t ≡ Some new → is_body (new ++ stack) ≡ true
step_body s stack t new h solid e = ⊎_elim
    (λ w.
    let body = passed is_body (line_rule w.0 t.text) new (ap (λ x. rule x t) (sym w.1) ∙ e) (lines_body w.0 t.text (no_byte t.text solid)) in
    ap (λ x. is_body (new ++ x)) w.2 ∙ ap is_body (append-nil new) ∙ body)
    (λ w. body_on new stack (passed are_inner (rule s t) new e (inner_on s t.text w.0)) w.1)
    (body_top s stack h)

-- the last token is not taken but at the end
end_step : (s : Symbol) (stack : List Symbol) (e : Placed) (new : List Symbol) (r : List Placed) → is_body (s ∷ stack) ≡ true → Is e [] → rule s e ≡ Some new → run rule (new ++ stack) [] ≡ Some r → ⊥
end_step s stack e new r h he taken stops = ⊎_elim
    (λ w.
    let none : new ≡ [] = sym (some_is (sym (end_at w.0) ∙ ap (rule_of (Lines w.0)) (sym he) ∙ ap (λ x. rule x e) (sym w.1) ∙ taken)) in
    let stopped : run rule [] [] ≡ Some r = sym (ap (λ x. run rule (x ++ stack) []) none ∙ ap (λ x. run rule x []) w.2) ∙ stops in
    cc)
    (λ w. let other : rule s e ≡ None = ap (rule_of s) he ∙ inner_none s w.0 in cc)
    (body_top s stack h)

abbrev EndsIn : Placed → List Placed → Type 0
EndsIn e r = (rest : List Placed) × (r ≡ rest ++ e ∷ [])

on_step : (s : Symbol) (stack : List Symbol) (t e : Placed) (w r : List Placed) (o : Option (List Symbol)) → rule s t ≡ o → going o (λ x. run rule (x ++ stack) (w ++ e ∷ [])) (t ∷ (w ++ e ∷ [])) ≡ Some r
    → ((new : List Symbol) → rule s t ≡ Some new → run rule (new ++ stack) (w ++ e ∷ []) ≡ Some r → EndsIn e r) → EndsIn e r
on_step s stack t e w r None et h on = (t ∷ w, sym (some_is h))
on_step s stack t e w r (Some new) et h on = on new et h

last_step : (s : Symbol) (stack : List Symbol) (e : Placed) (r : List Placed) (o : Option (List Symbol)) → rule s e ≡ o → going o (λ x. run rule (x ++ stack) []) (e ∷ []) ≡ Some r
    → ((new : List Symbol) → rule s e ≡ Some new → run rule (new ++ stack) [] ≡ Some r → ⊥) → EndsIn e r
last_step s stack e r None et h on = ([], sym (some_is h))
last_step s stack e r (Some new) et h on = absurd (on new et h)

-- a run that stops does so before the last token's end
pub stops_before_end : (e : Placed) (tokens : List Placed) (stack : List Symbol) (r : List Placed) → Is e [] → AllByRecursion IsSolid tokens → is_body stack ≡ true → run rule stack (tokens ++ e ∷ []) ≡ Some r → EndsIn e r
stops_before_end e tokens [] r he solid body h = cc
stops_before_end e [] (s ∷ stack) r he solid body h = last_step s stack e r (rule s e) refl h (λ new taken stops. end_step s stack e new r body he taken stops)
stops_before_end e (t ∷ tokens) (s ∷ stack) r he solid body h =
    on_step s stack t e tokens r (rule s t) refl h (λ new taken stops. stops_before_end e tokens (new ++ stack) r he solid.1 (step_body s stack t new body solid.0 taken) stops)
