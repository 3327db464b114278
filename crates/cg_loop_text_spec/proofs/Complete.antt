-- What the grammar spells is what the table goes on with, up to the end of an expression.
use Rattle.std.proofs.Common.{◌≡◌, ℕ, zero, suc, Bool, true, false, cond, List, [], ◌∷◌, ◌++◌, codes, Option, Some, refl, sym, ◌∙◌, ap, subst, append_assoc, append-nil}
use Rattle.cg_tokens.specs.Table.{Spelled, none}
use Rattle.cg_tokens.specs.Tokens.{Placed}
use Rattle.cg_loop_syntax.specs.Well.{most_open}
use Rattle.cg_loop_text_spec.specs.Grammar.{Sums, Terms, NoTerms, Term, Prods, Factors, NoFactors, Factor, Number, Turn, Input, Scalar, Item, Bracket, Apply, NoGuard, If, expr_tokens, terms_tokens, factors_tokens, atom_tokens, args_tokens, Is, IsTerms, IsFactors}
use Rattle.cg_loop_text_spec.specs.Rules.{Closer, Round, Square, Semicolon, Guarded, Further, Symbol, Exactly, Digits, Operand, Named, After, Close, same, close_rule, after_rule, index_rule, operand_rule, rule_of, rule, Compare, NoCompare, Comparing, compare_tokens, tail_tokens, IsCompare, IsTail, IsOne, Closes, NoIndex, At, index_tokens, Spells}
use Rattle.cg_loop_text_spec.proofs.Texts.{same_is}
use Rattle.cg_loop_text_spec.proofs.Parts.{Tokens, only, two_onto, exact_onto, digits_onto, of_expr, of_args}
use Rattle.cg_loop_text_spec.proofs.Steps.{number_rule, name_rule, op_rule}
use Rattle.cg_loop_text_spec.proofs.Sums.{adding_rule, comparing_rule}

abbrev pub Goes : Symbol → Placed → Tokens → Type 0
Goes s t ts = (new : List Symbol) × (rule s t ≡ Some new) × Spelled Spells new ts

pub at_token : (s : Symbol) (t u : Placed) (ts us : Tokens) → t ∷ ts ≡ u ∷ us → Goes s u us → Goes s t ts
at_token s t u ts us e g =
    let et : u ≡ t = cc in
    let es : us ≡ ts = cc in
    subst (λ (x : Placed). Goes s x ts) et (subst (λ (x : Tokens). Goes s u x) es g)

-- a rule by the text
pub by_text : (s : Symbol) (t : Placed) (text : List ℕ) (new : Option (List Symbol)) → Is t text → rule_of s text ≡ new → rule s t ≡ new
by_text s t text new e h = ap (rule_of s) e ∙ h

pub one_complete : (s : Symbol) (text : List ℕ) (t : Placed) (ts : Tokens) → rule_of s text ≡ Some [] → IsOne text (t ∷ ts) → Goes s t ts
one_complete s text t ts h p = at_token s t p.0 ts [] p.2 ([], by_text s p.0 text (Some []) p.1 h, none)

-- ---- what ends an expression

guard_complete : (room : ℕ) (t : Placed) (ts : Tokens) → Closes Guarded room (t ∷ ts) → Goes (Close Guarded room) t ts
guard_complete room t ts (NoGuard, end, hg, he, e) = at_token (Close Guarded room) t end ts [] e ([], by_text (Close Guarded room) end (codes ";") (Some []) he refl, none)
guard_complete room t ts (If word x, end, hg, he, e) =
    at_token (Close Guarded room) t word ts (expr_tokens x ++ (end ∷ [])) e (
      Operand Semicolon false most_open ∷ [],
      by_text (Close Guarded room) word (codes "if") (Some (Operand Semicolon false most_open ∷ [])) hg.0 refl,
      only (Operand Semicolon false most_open) (expr_tokens x ++ (end ∷ [])) (of_expr Semicolon most_open x (end ∷ []) hg.1 (end, he, refl)),
    )

pub close_complete : (c : Closer) (room : ℕ) (t : Placed) (ts : Tokens) → Closes c room (t ∷ ts) → Goes (Close c room) t ts
close_complete Round room t ts p = one_complete (Close Round room) (codes ")") t ts refl p
close_complete Square room t ts p = one_complete (Close Square room) (codes "]") t ts refl p
close_complete Semicolon room t ts p = one_complete (Close Semicolon room) (codes ";") t ts refl p
close_complete Guarded room t ts p = guard_complete room t ts p
close_complete (Further zero) room t ts p = one_complete (Close (Further zero) room) (codes ")") t ts refl p
close_complete (Further (suc n)) room t ts (comma, args, closes, hc, h, he, e) =
    at_token (Close (Further (suc n)) room) t comma ts (args_tokens args ++ (closes ∷ [])) e (
      Operand (Further n) false room ∷ [],
      by_text (Close (Further (suc n)) room) comma (codes ",") (Some (Operand (Further n) false room ∷ [])) hc refl,
      only (Operand (Further n) false room) (args_tokens args ++ (closes ∷ [])) (of_args n room args closes h he),
    )

-- what closes an expression does not go on with it
closing_at : (c : Closer) (k : Bool) (room : ℕ) (t : Placed) (ts : Tokens) (s : List ℕ) → IsOne s (t ∷ ts) → after_rule c k room s ≡ close_rule c room s → after_rule c k room t.text ≡ close_rule c room t.text
closing_at c k room t ts s p h =
    let et : t ≡ p.0 = let e = p.2 in cc in
    subst (λ x. after_rule c k room x ≡ close_rule c room x) (sym (ap (λ (x : Placed). x.text) et ∙ p.1)) h

closing : (c : Closer) (k : Bool) (room : ℕ) (t : Placed) (ts : Tokens) → Closes c room (t ∷ ts) → after_rule c k room t.text ≡ close_rule c room t.text
closing Round k room t ts p = closing_at Round k room t ts (codes ")") p refl
closing Square k room t ts p = closing_at Square k room t ts (codes "]") p refl
closing Semicolon k room t ts p = closing_at Semicolon k room t ts (codes ";") p refl
closing Guarded k room t ts (NoGuard, end, hg, he, e) = closing_at Guarded k room t [] (codes ";") (end, he, ap (λ (x : Tokens). t ∷ x) (sym (let es : ts ≡ [] = cc in es)) ∙ e) refl
closing Guarded k room t ts (If word x, end, hg, he, e) = closing_at Guarded k room t [] (codes "if") (word, hg.0, let et : t ≡ word = cc in ap (λ (y : Placed). y ∷ []) et) refl
closing (Further zero) k room t ts p = closing_at (Further zero) k room t ts (codes ")") p refl
closing (Further (suc n)) k room t ts (comma, args, closes, hc, h, he, e) = closing_at (Further (suc n)) k room t [] (codes ",") (comma, hc, let et : t ≡ comma = cc in ap (λ (y : Placed). y ∷ []) et) refl

-- ---- what follows an operand

after_parts : (c : Closer) (k : Bool) (room : ℕ) (t : Placed) (ts : Tokens) (fs : Factors) (rs : Terms) (m : Compare) (end : Tokens) → IsFactors room fs → IsTerms room rs → IsCompare k room m → Closes c room end
    → t ∷ ts ≡ (factors_tokens fs ++ (terms_tokens rs ++ compare_tokens m)) ++ end → Goes (After c k room) t ts
after_parts c k room t ts (Factor star a fs) rs m end hf hr hm hc e =
    let rest = atom_tokens a ++ ((factors_tokens fs ++ (terms_tokens rs ++ compare_tokens m)) ++ end) in
    at_token (After c k room) t star ts rest (e ∙ simp append_assoc) (
      Operand c k room ∷ [],
      by_text (After c k room) star (codes "*") (Some (Operand c k room ∷ [])) hf.0 refl,
      only (Operand c k room) rest (a, record { factors = fs; terms = rs; compare = m }, end, hf.1, record { factors = hf.2; terms = hr; compare = hm }, hc, refl),
    )
after_parts c k room t ts NoFactors (Term sign (Prods a fs) rs) m end hf hr hm hc e =
    let rest = atom_tokens a ++ ((factors_tokens fs ++ (terms_tokens rs ++ compare_tokens m)) ++ end) in
    let op = hr.0 in
    at_token (After c k room) t sign ts rest (e ∙ simp append_assoc)
    (Operand c k room ∷ [], adding_rule c k room sign.text op.0 op.1, only (Operand c k room) rest (a, record { factors = fs; terms = rs; compare = m }, end, hr.1.0, record { factors = hr.1.1; terms = hr.2; compare = hm }, hc, refl))
after_parts c k room t ts NoFactors NoTerms (Comparing sign (Sums (Prods a fs) rs)) end hf hr hm hc e =
    let rest = atom_tokens a ++ ((factors_tokens fs ++ (terms_tokens rs ++ [])) ++ end) in
    let op = hm.1 in
    at_token (After c k room) t sign ts rest (e ∙ simp (append_assoc, append-nil)) (
      Operand c true room ∷ [],
      subst (λ x. after_rule c x room sign.text ≡ Some (Operand c true room ∷ [])) (sym hm.0) (comparing_rule c room sign.text op.0 op.1),
      only (Operand c true room) rest (a, record { factors = fs; terms = rs; compare = NoCompare }, end, hm.2.0.0, record { factors = hm.2.0.1; terms = hm.2.1; compare = tt }, hc, refl),
    )
after_parts c k room t ts NoFactors NoTerms NoCompare end hf hr hm hc e =
    let closes = subst (Closes c room) (sym e) hc in
    let g = close_complete c room t ts closes in
    (g.0, closing c k room t ts closes ∙ g.1, g.2)

pub after_complete : (c : Closer) (k : Bool) (room : ℕ) (t : Placed) (ts : Tokens) → Spells (After c k room) (t ∷ ts) → Goes (After c k room) t ts
after_complete c k room t ts p = after_parts c k room t ts p.0.factors p.0.terms p.0.compare p.1 p.2.factors p.2.terms p.2.compare p.3 p.4

-- a bracket does not follow an operand that is no name
no_index : (c : Closer) (k : Bool) (room : ℕ) (new : List Symbol) → after_rule c k room (codes "[") ≡ Some new → ⊥
no_index Round k room new h = cc
no_index Square k room new h = cc
no_index Semicolon k room new h = cc
no_index Guarded k room new h = cc
no_index (Further zero) k room new h = cc
no_index (Further (suc n)) k room new h = cc

other_than : (c : Closer) (k : Bool) (room : ℕ) (t : List ℕ) (new : List Symbol) → after_rule c k room t ≡ Some new → same t (codes "[") ≡ false
other_than c k room t new h = elim (same t (codes "[")) as (λ b. same t (codes "[") ≡ b → same t (codes "[") ≡ false)
    [ true ↦ λ e. absurd (no_index c k room new (subst (λ x. after_rule c k room x ≡ Some new) (same_is t (codes "[") e) h)) | false ↦ λ e. e ] refl

pub named_complete : (c : Closer) (k : Bool) (room : ℕ) (t : Placed) (ts : Tokens) → Spells (Named c k room) (t ∷ ts) → Goes (Named c k room) t ts
named_complete c k room t ts (NoIndex, tail, end, hi, ht, hc, e) =
    let g = after_complete c k room t ts (tail, end, ht, hc, e) in
    (g.0, ap (λ b. cond b (index_rule c k room) (after_rule c k room t.text)) (other_than c k room t.text g.0 g.1) ∙ g.1, g.2)
named_complete c k room t ts (At opens x closes, tail, end, hi, ht, hc, e) =
    let rest = (expr_tokens x ++ (closes ∷ [])) ++ (tail_tokens tail ++ end) in
    let w = hi.2 in
    let less = w.0 in
    at_token (Named c k room) t opens ts rest e (
      Operand Square false less ∷ After c k (suc less) ∷ [],
      by_text (Named c k room) opens (codes "[") (Some (Operand Square false less ∷ After c k (suc less) ∷ [])) hi.0 (ap (index_rule c k) w.1),
      two_onto (Operand Square false less) (After c k (suc less)) (expr_tokens x ++ (closes ∷ [])) (tail_tokens tail ++ end) (of_expr Square less x (closes ∷ []) w.2 (closes, hi.1, refl))
          (tail, end, subst (λ r. IsTail k r tail) w.1 ht, subst (λ r. Closes c r end) w.1 hc, refl),
    )

pub operand_complete : (c : Closer) (k : Bool) (room : ℕ) (t : Placed) (ts : Tokens) → Spells (Operand c k room) (t ∷ ts) → Goes (Operand c k room) t ts
operand_complete c k room t ts (Number u, tail, end, ha, ht, hc, e) =
    at_token (Operand c k room) t u ts (tail_tokens tail ++ end) e (After c k room ∷ [], number_rule c k room u.text ha, only (After c k room) (tail_tokens tail ++ end) (tail, end, ht, hc, refl))
operand_complete c k room t ts (Turn u, tail, end, ha, ht, hc, e) =
    at_token (Operand c k room) t u ts (tail_tokens tail ++ end) e
    (After c k room ∷ [], by_text (Operand c k room) u (codes "turn") (Some (After c k room ∷ [])) ha refl, only (After c k room) (tail_tokens tail ++ end) (tail, end, ht, hc, refl))
operand_complete c k room t ts (Input u port, tail, end, ha, ht, hc, e) =
    at_token (Operand c k room) t u ts (port ∷ (tail_tokens tail ++ end)) e (
      Digits ∷ After c k room ∷ [],
      by_text (Operand c k room) u (codes "in") (Some (Digits ∷ After c k room ∷ [])) ha.0 refl,
      digits_onto (After c k room ∷ []) port (tail_tokens tail ++ end) ha.1 (only (After c k room) (tail_tokens tail ++ end) (tail, end, ht, hc, refl)),
    )
operand_complete c k room t ts (Scalar u, tail, end, ha, ht, hc, e) =
    at_token (Operand c k room) t u ts (tail_tokens tail ++ end) e
    (Named c k room ∷ [], name_rule c k room u.text ha, only (Named c k room) (tail_tokens tail ++ end) (NoIndex, tail, end, tt, ht, hc, refl))
operand_complete c k room t ts (Item u opens x closes, tail, end, ha, ht, hc, e) =
    let rest = index_tokens (At opens x closes) ++ (tail_tokens tail ++ end) in
    at_token (Operand c k room) t u ts rest e
    (Named c k room ∷ [], name_rule c k room u.text ha.0, only (Named c k room) rest (At opens x closes, tail, end, (ha.1, ha.2, ha.3), ht, hc, refl))
operand_complete c k room t ts (Bracket opens x closes, tail, end, ha, ht, hc, e) =
    let rest = (expr_tokens x ++ (closes ∷ [])) ++ (tail_tokens tail ++ end) in
    let w = ha.2 in
    let less = w.0 in
    at_token (Operand c k room) t opens ts rest e (
      Operand Round false less ∷ After c k (suc less) ∷ [],
      by_text (Operand c k room) opens (codes "(") (Some (Operand Round false less ∷ After c k (suc less) ∷ [])) ha.0 (ap (λ r. operand_rule c k r (codes "(")) w.1),
      two_onto (Operand Round false less) (After c k (suc less)) (expr_tokens x ++ (closes ∷ [])) (tail_tokens tail ++ end) (of_expr Round less x (closes ∷ []) w.2 (closes, ha.1, refl))
          (tail, end, subst (λ r. IsTail k r tail) w.1 ht, subst (λ r. Closes c r end) w.1 hc, refl),
    )
operand_complete c k room t ts (Apply op opens args closes, tail, end, ha, ht, hc, e) =
    let w = ha.2 in
    let n = w.1 in
    let less = w.2 in
    let inner = (args_tokens args ++ (closes ∷ [])) ++ (tail_tokens tail ++ end) in
    at_token (Operand c k room) t op ts (opens ∷ inner) e (
      Exactly (codes "(") ∷ Operand (Further n) false less ∷ After c k (suc less) ∷ [],
      ap (λ r. operand_rule c k r op.text) w.5 ∙ op_rule c k less n op.text w.0 w.3 w.4,
      exact_onto (codes "(") (Operand (Further n) false less ∷ After c k (suc less) ∷ []) opens inner ha.0
          (two_onto (Operand (Further n) false less) (After c k (suc less)) (args_tokens args ++ (closes ∷ [])) (tail_tokens tail ++ end) (of_args n less args closes w.6 ha.1)
          (tail, end, subst (λ r. IsTail k r tail) w.5 ht, subst (λ r. Closes c r end) w.5 hc, refl)),
    )
