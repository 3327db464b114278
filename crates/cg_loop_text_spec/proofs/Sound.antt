-- What the table goes on with is what the grammar spells.
use Rattle.std.proofs.Common.{◌≡◌, ℕ, zero, suc, Bool, true, false, cond, ◌&&◌, ◌||◌, not, List, [], ◌∷◌, ◌++◌, codes, Option, Some, None, ⊎_elim, refl, sym, ◌∙◌, ap, subst, append_assoc, append-nil}
use Rattle.std.specs.Prelude.{is_some}
use Rattle.cg_word.specs.declared.op.Op.{Op}
use Rattle.cg_word.specs.Word.{arity}
use Rattle.cg_tokens.specs.Table.{Spelled}
use Rattle.cg_tokens.specs.Tokens.{Placed}
use Rattle.cg_loop_syntax.specs.Well.{is_loop_name, most_open}
use Rattle.cg_loop_text_spec.specs.Words.{is_number, op_called, added_by, compared_by}
use Rattle.cg_loop_text_spec.specs.Grammar.{Sums, Terms, NoTerms, Term, Prods, Factors, NoFactors, Factor, Atom, Number, Turn, Input, Scalar, Item, Bracket, Apply, NoGuard, If, expr_tokens, terms_tokens, factors_tokens, atom_tokens, args_tokens, Is, IsName, IsTerms, IsFactors, IsAtom}
use Rattle.cg_loop_text_spec.specs.Rules.{Closer, Round, Square, Semicolon, Guarded, Further, Symbol, Exactly, Digits, Operand, Named, After, same, close_rule, after_rule, index_rule, less_one, further_of, apply_rule, open_rule, operand_rule, rule_of, Compare, NoCompare, Comparing, Tail, compare_tokens, tail_tokens, IsCompare, IsTail, IsOne, Closes, Index, NoIndex, At, index_tokens, IsIndex, Spells}
use Rattle.cg_loop_text_spec.proofs.Texts.{chosen, some_is, or_cases, and_both, not_false, some_op, same_is}
use Rattle.cg_loop_text_spec.proofs.Parts.{Tokens, nothing, alone, two_then, exact_then, digits_then, expr_of, args_of}

-- the same stack by another name
as_stack : {a b : List Symbol} {ts : Tokens} → Some a ≡ Some b → Spelled Spells b ts → Spelled Spells a ts
as_stack {a} {b} {ts} h p = subst (λ (x : List Symbol). Spelled Spells x ts) (sym (some_is h)) p

pub exact_sound : (s : List ℕ) (t : Placed) (new : List Symbol) (ts : Tokens) → cond (same t.text s) (Some []) None ≡ Some new → Spelled Spells new ts → IsOne s (t ∷ ts)
exact_sound s t new ts h p = ⊎_elim (λ w. (t, same_is t.text s w.0, ap (λ (x : Tokens). t ∷ x) (nothing (as_stack w.1 p)))) (λ w. let other = w.1 in cc) (chosen (same t.text s) (Some []) None (Some new) h)

pub test_sound : (f : List ℕ → Bool) (t : Placed) (new : List Symbol) (ts : Tokens) → cond (f t.text) (Some []) None ≡ Some new → Spelled Spells new ts → (u : Placed) × (f u.text ≡ true) × (t ∷ ts ≡ u ∷ [])
test_sound f t new ts h p = ⊎_elim (λ w. (t, w.0, ap (λ (x : Tokens). t ∷ x) (nothing (as_stack w.1 p)))) (λ w. let other = w.1 in cc) (chosen (f t.text) (Some []) None (Some new) h)

-- ---- what ends an expression

guard_sound : (t : Placed) (new : List Symbol) (ts : Tokens) → close_rule Guarded 0 t.text ≡ Some new → Spelled Spells new ts → Closes Guarded 0 (t ∷ ts)
guard_sound t new ts h p = ⊎_elim
    (λ w. (NoGuard, t, tt, same_is t.text (codes ";") w.0, ap (λ (x : Tokens). t ∷ x) (nothing (as_stack w.1 p))))
    (λ w. ⊎_elim
    (λ v.
    let q = expr_of Semicolon most_open ts (alone (Operand Semicolon false most_open) ts (as_stack v.1 p)) in
    let r = q.3 in
    (If t q.0, r.0, (same_is t.text (codes "if") v.0, q.2), r.1, ap (λ (x : Tokens). t ∷ x) (q.4 ∙ ap (λ (x : Tokens). expr_tokens q.0 ++ x) r.2)))
    (λ v. let other = v.1 in cc)
    (chosen (same t.text (codes "if")) (Some (Operand Semicolon false most_open ∷ [])) None (Some new) w.1))
    (chosen (same t.text (codes ";")) (Some []) (cond (same t.text (codes "if")) (Some (Operand Semicolon false most_open ∷ [])) None) (Some new) h)

pub close_sound : (c : Closer) (room : ℕ) (t : Placed) (new : List Symbol) (ts : Tokens) → close_rule c room t.text ≡ Some new → Spelled Spells new ts → Closes c room (t ∷ ts)
close_sound Round room t new ts h p = exact_sound (codes ")") t new ts h p
close_sound Square room t new ts h p = exact_sound (codes "]") t new ts h p
close_sound Semicolon room t new ts h p = exact_sound (codes ";") t new ts h p
close_sound Guarded room t new ts h p = guard_sound t new ts h p
close_sound (Further zero) room t new ts h p = exact_sound (codes ")") t new ts h p
close_sound (Further (suc n)) room t new ts h p = ⊎_elim
    (λ w.
    let q = args_of n room ts (alone (Operand (Further n) false room) ts (as_stack w.1 p)) in
    (t, q.0, q.1, same_is t.text (codes ",") w.0, q.2, q.3, ap (λ (x : Tokens). t ∷ x) q.4))
    (λ w. let other = w.1 in cc)
    (chosen (same t.text (codes ",")) (Some (Operand (Further n) false room ∷ [])) None (Some new) h)

-- ---- what follows an operand

multiplied : (c : Closer) (k : Bool) (room : ℕ) (t : Placed) (ts : Tokens) → Spells (Operand c k room) ts → (same t.text (codes "*") || is_some (added_by t.text)) ≡ true → Spells (After c k room) (t ∷ ts)
multiplied c k room t ts (a, tail, end, ha, ht, hc, e) h = ⊎_elim
    (λ star. (
      record { factors = Factor t a tail.factors; terms = tail.terms; compare = tail.compare },
      end,
      record { factors = (same_is t.text (codes "*") star, ha, ht.factors); terms = ht.terms; compare = ht.compare },
      hc,
      ap (λ (x : Tokens). t ∷ x) e ∙ simp append_assoc,
    ))
    (λ adds. (
      record { factors = NoFactors; terms = Term t (Prods a tail.factors) tail.terms; compare = tail.compare },
      end,
      record { factors = tt; terms = (some_op (added_by t.text) adds, (ha, ht.factors), ht.terms); compare = ht.compare },
      hc,
      ap (λ (x : Tokens). t ∷ x) e ∙ simp append_assoc,
    ))
    (or_cases (same t.text (codes "*")) (is_some (added_by t.text)) h)

compared_from : (c : Closer) (k : Bool) (room : ℕ) (t : Placed) (ts : Tokens) (a : Atom) (fs : Factors) (rs : Terms) (m : Compare) (end : Tokens) → IsAtom room a → IsFactors room fs → IsTerms room rs → IsCompare true room m → Closes c room end
    → ts ≡ atom_tokens a ++ ((factors_tokens fs ++ (terms_tokens rs ++ compare_tokens m)) ++ end) → ((op : Op) × (compared_by t.text ≡ Some op)) → k ≡ false → Spells (After c k room) (t ∷ ts)
compared_from c k room t ts a fs rs NoCompare end ha hf hr hm hc e ct kf =
    (record { factors = NoFactors; terms = NoTerms; compare = Comparing t (Sums (Prods a fs) rs) }, end, record { factors = tt; terms = tt; compare = (kf, ct, ((ha, hf), hr)) }, hc, ap (λ (x : Tokens). t ∷ x) e ∙ simp (append_assoc, append-nil))
compared_from c k room t ts a fs rs (Comparing sign s) end ha hf hr hm hc e ct kf = let other = hm.0 in cc

pub after_sound : (c : Closer) (k : Bool) (room : ℕ) (t : Placed) (new : List Symbol) (ts : Tokens) → after_rule c k room t.text ≡ Some new → Spelled Spells new ts → Spells (After c k room) (t ∷ ts)
after_sound c k room t new ts h p = ⊎_elim
    (λ w. multiplied c k room t ts (alone (Operand c k room) ts (as_stack w.1 p)) w.0)
    (λ w. ⊎_elim
    (λ v.
    let q = alone (Operand c true room) ts (as_stack v.1 p) in
    let b = and_both (is_some (compared_by t.text)) (not k) v.0 in
    compared_from c k room t ts q.0 q.1.factors q.1.terms q.1.compare q.2 q.3 q.4.factors q.4.terms q.4.compare q.5 q.6 (some_op (compared_by t.text) b.0) (not_false k b.1))
    (λ v. (record { factors = NoFactors; terms = NoTerms; compare = NoCompare }, t ∷ ts, record { factors = tt; terms = tt; compare = tt }, close_sound c room t new ts v.1 p, refl))
    (chosen (is_some (compared_by t.text) && not k) (Some (Operand c true room ∷ [])) (close_rule c room t.text) (Some new) w.1))
    (chosen (same t.text (codes "*") || is_some (added_by t.text)) (Some (Operand c k room ∷ [])) (cond (is_some (compared_by t.text) && not k) (Some (Operand c true room ∷ [])) (close_rule c room t.text)) (Some new) h)

index_sound : (c : Closer) (k : Bool) (room : ℕ) (t : Placed) (new : List Symbol) (ts : Tokens) → Is t (codes "[") → index_rule c k room ≡ Some new → Spelled Spells new ts → Spells (Named c k room) (t ∷ ts)
index_sound c k zero t new ts et h p = cc
index_sound c k (suc room) t new ts et h p =
    let q = two_then (Operand Square false room) (After c k (suc room)) ts (as_stack h p) in
    let e = expr_of Square room q.0 q.3 in
    let f = e.3 in
    let r = q.4 in (
      At t e.0 f.0,
      r.0,
      r.1,
      (et, f.1, (room, refl, e.2)),
      r.2,
      r.3,
      ap (λ (x : Tokens). t ∷ x) (q.2 ∙ ap (λ (x : Tokens). x ++ q.1) (e.4 ∙ ap (λ (x : Tokens). expr_tokens e.0 ++ x) f.2) ∙ ap (λ (x : Tokens). (expr_tokens e.0 ++ (f.0 ∷ [])) ++ x) r.4),
    )

pub named_sound : (c : Closer) (k : Bool) (room : ℕ) (t : Placed) (new : List Symbol) (ts : Tokens) → rule_of (Named c k room) t.text ≡ Some new → Spelled Spells new ts → Spells (Named c k room) (t ∷ ts)
named_sound c k room t new ts h p = ⊎_elim
    (λ w. index_sound c k room t new ts (same_is t.text (codes "[") w.0) w.1 p)
    (λ w. let q = after_sound c k room t new ts w.1 p in (NoIndex, q.0, q.1, tt, q.2, q.3, q.4))
    (chosen (same t.text (codes "[")) (index_rule c k room) (after_rule c k room t.text) (Some new) h)

-- ---- operands

less_is : (o : Op) (n m : ℕ) → arity o ≡ m → further_of (Some o) ≡ Some n → m ≡ suc n
less_is o n zero a h = let none : further_of (Some o) ≡ None = ap less_one a in cc
less_is o n (suc m) a h = let some : further_of (Some o) ≡ Some m = ap less_one a in cc

apply_sound : (c : Closer) (k : Bool) (room : ℕ) (t : Placed) (o : Option Op) (m : Option ℕ) (new : List Symbol) (ts : Tokens) → op_called t.text ≡ o → further_of o ≡ m → apply_rule c k room m ≡ Some new → Spelled Spells new ts → Spells (Operand c k (suc room)) (t ∷ ts)
apply_sound c k room t o None new ts eo em h p = cc
apply_sound c k room t None (Some n) new ts eo em h p = cc
apply_sound c k room t (Some o) (Some n) new ts eo em h p = from_parts (as_stack h p)
  where
    from_parts : Spelled Spells (Exactly (codes "(") ∷ Operand (Further n) false room ∷ After c k (suc room) ∷ []) ts → Spells (Operand c k (suc room)) (t ∷ ts)
    from_parts q =
        let w = exact_then (codes "(") (Operand (Further n) false room ∷ After c k (suc room) ∷ []) ts q in
        let b = two_then (Operand (Further n) false room) (After c k (suc room)) w.1 w.4 in
        let args = args_of n room b.0 b.3 in
        let r = b.4 in (
          Apply t w.0 args.0 args.1,
          r.0,
          r.1,
          (w.3, args.3, (o, n, room, eo, less_is o n (arity o) refl em, refl, args.2)),
          r.2,
          r.3,
          ap (λ (x : Tokens). t ∷ x) (w.2 ∙ ap (λ (x : Tokens). w.0 ∷ x) (b.2 ∙ ap (λ (x : Tokens). x ++ b.1) args.4 ∙ ap (λ (x : Tokens). (args_tokens args.0 ++ (args.1 ∷ [])) ++ x) r.4)),
        )

open_sound : (c : Closer) (k : Bool) (room : ℕ) (t : Placed) (new : List Symbol) (ts : Tokens) → open_rule c k room t.text ≡ Some new → Spelled Spells new ts → Spells (Operand c k room) (t ∷ ts)
open_sound c k zero t new ts h p = cc
open_sound c k (suc room) t new ts h p = ⊎_elim
    (λ w.
    let q = two_then (Operand Round false room) (After c k (suc room)) ts (as_stack w.1 p) in
    let e = expr_of Round room q.0 q.3 in
    let f = e.3 in
    let r = q.4 in (
      Bracket t e.0 f.0,
      r.0,
      r.1,
      (same_is t.text (codes "(") w.0, f.1, (room, refl, e.2)),
      r.2,
      r.3,
      ap (λ (x : Tokens). t ∷ x) (q.2 ∙ ap (λ (x : Tokens). x ++ q.1) (e.4 ∙ ap (λ (x : Tokens). expr_tokens e.0 ++ x) f.2) ∙ ap (λ (x : Tokens). (expr_tokens e.0 ++ (f.0 ∷ [])) ++ x) r.4),
    ))
    (λ w. apply_sound c k room t (op_called t.text) (further_of (op_called t.text)) new ts refl refl w.1 p)
    (chosen (same t.text (codes "(")) (Some (Operand Round false room ∷ After c k (suc room) ∷ [])) (apply_rule c k room (further_of (op_called t.text))) (Some new) h)

name_sound : (c : Closer) (k : Bool) (room : ℕ) (t : Placed) (ts : Tokens) (i : Index) (tail : Tail) (end : Tokens) → IsName t → IsIndex room i → IsTail k room tail → Closes c room end → ts ≡ index_tokens i ++ (tail_tokens tail ++ end) → Spells (Operand c k room) (t ∷ ts)
name_sound c k room t ts NoIndex tail end named hi ht hc e = (Scalar t, tail, end, named, ht, hc, ap (λ (x : Tokens). t ∷ x) e)
name_sound c k room t ts (At opens x closes) tail end named hi ht hc e = (Item t opens x closes, tail, end, (named, hi.0, hi.1, hi.2), ht, hc, ap (λ (x : Tokens). t ∷ x) e)

pub operand_sound : (c : Closer) (k : Bool) (room : ℕ) (t : Placed) (new : List Symbol) (ts : Tokens) → operand_rule c k room t.text ≡ Some new → Spelled Spells new ts → Spells (Operand c k room) (t ∷ ts)
operand_sound c k room t new ts h p = ⊎_elim
    (λ w.
    let q = alone (After c k room) ts (as_stack w.1 p) in
    let whole = ap (λ (x : Tokens). t ∷ x) q.4 in
    ⊎_elim (λ n. (Number t, q.0, q.1, n, q.2, q.3, whole)) (λ n. (Turn t, q.0, q.1, same_is t.text (codes "turn") n, q.2, q.3, whole)) (or_cases (is_number t.text) (same t.text (codes "turn")) w.0))
    (λ w. ⊎_elim
    (λ v.
    let d = digits_then (After c k room ∷ []) ts (as_stack v.1 p) in
    let q = alone (After c k room) d.1 d.4 in
    (Input t d.0, q.0, q.1, (same_is t.text (codes "in") v.0, d.3), q.2, q.3, ap (λ (x : Tokens). t ∷ x) (d.2 ∙ ap (λ (x : Tokens). d.0 ∷ x) q.4)))
    (λ v. ⊎_elim
    (λ u.
    let q = alone (Named c k room) ts (as_stack u.1 p) in
    name_sound c k room t ts q.0 q.1 q.2 u.0 q.3 q.4 q.5 q.6)
    (λ u. open_sound c k room t new ts u.1 p)
    (chosen (is_loop_name t.text) (Some (Named c k room ∷ [])) (open_rule c k room t.text) (Some new) v.1))
    (chosen (same t.text (codes "in")) (Some (Digits ∷ After c k room ∷ [])) (cond (is_loop_name t.text) (Some (Named c k room ∷ [])) (open_rule c k room t.text)) (Some new) w.1))
    (chosen (is_number t.text || same t.text (codes "turn")) (Some (After c k room ∷ [])) (cond (same t.text (codes "in")) (Some (Digits ∷ After c k room ∷ [])) (cond (is_loop_name t.text) (Some (Named c k room ∷ [])) (open_rule c k room t.text))) (Some new) h)
