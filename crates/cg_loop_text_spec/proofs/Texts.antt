-- Tokens are told apart by their texts.
use Rattle.std.proofs.Common.{◌≡◌, ℕ, Bool, true, false, cond, ◌&&◌, ◌||◌, not, List, [], ◌∷◌, length, Option, Some, None, ◌⊎◌, inl, inr, ⊎_elim, refl, sym, ◌∙◌, ap, subst, arith}
use Rattle.std.specs.Prelude.{bytes_eq, nat_lt, nat_le, is_some, find}
use Rattle.std.specs.List.{list_all}
use Rattle.std.specs.Char.{is_ascii_digit}
use Rattle.std.specs.Cmp.Lexicographic.{same_text}
use Rattle.std.proofs.lemmas.Cmp.{nat_list_eq_equiv}
use Rattle.std.proofs.lemmas.Bool.Decides.{nat_tests}
use Rattle.cg_word.specs.declared.op.Op.{Op}
use Rattle.cg_word.specs.Word.{words, all_ops, name_of}
use Rattle.cg_model.specs.Names.{begins_name, within_name, is_identifier}
use Rattle.cg_loop_syntax.specs.Well.{is_word_op, is_keyword, is_op_name, is_loop_name}
use Rattle.cg_loop_text_spec.specs.Words.{is_number, number_of, op_called, added_by}
use Rattle.cg_loop_text_spec.specs.Rules.{same}

pub chosen : {A : Type 0} (b : Bool) (x y z : A) → cond b x y ≡ z → ((b ≡ true) × (x ≡ z)) ⊎ ((b ≡ false) × (y ≡ z))
chosen true x y z h = inl (refl, h)
chosen false x y z h = inr (refl, h)

pub some_is : {A : Type 0} {x y : A} → Some x ≡ Some y → x ≡ y
some_is h = cc

pub or_cases : (a b : Bool) → (a || b) ≡ true → (a ≡ true) ⊎ (b ≡ true)
or_cases true b h = inl refl
or_cases false b h = inr h

pub or_right : (a b : Bool) → b ≡ true → (a || b) ≡ true
or_right true b h = refl
or_right false b h = h

pub and_both : (a b : Bool) → (a && b) ≡ true → (a ≡ true) × (b ≡ true)
and_both true b h = (refl, h)
and_both false b h = cc

pub not_false : (b : Bool) → not b ≡ true → b ≡ false
not_false true h = cc
not_false false h = refl

pub same_is : (t s : List ℕ) → same t s ≡ true → t ≡ s
same_is t s h = same_text t s (sym h)

pub same_self : (t : List ℕ) → same t t ≡ true
same_self t = nat_list_eq_equiv.refl t

pub same_at : (t s : List ℕ) → t ≡ s → same t s ≡ true
same_at t s e = ap (λ x. same x s) e ∙ same_self s

-- a text that passes a test is none that does not
pub apart : (f : List ℕ → Bool) (t s : List ℕ) → f t ≡ true → f s ≡ false → same t s ≡ false
apart f t s h g = elim (same t s) as (λ b. same t s ≡ b → same t s ≡ false) [ true ↦ λ e. let w = ap f (same_is t s e) in cc | false ↦ λ e. e ] refl

-- ---- names, numbers

letter_digit : (b : ℕ) → begins_name b ≡ true → is_ascii_digit b ≡ false
letter_digit b h = grind (arith, nat_tests)

pub name_number : (t : List ℕ) → is_loop_name t ≡ true → is_number t ≡ false
name_number [] h = refl
name_number (b ∷ bytes) h =
    let name = (and_both (is_identifier (b ∷ bytes)) (not (is_keyword (b ∷ bytes) || is_op_name (b ∷ bytes))) h).0 in
    let some = (and_both (nat_lt 0 (length (b ∷ bytes))) (begins_name b && list_all within_name (b ∷ bytes)) name).1 in
    let first = (and_both (begins_name b) (list_all within_name (b ∷ bytes)) some).0 in
    ap (λ x. (nat_lt 0 (length (b ∷ bytes)) && (nat_le (length (b ∷ bytes)) 10 && (x && list_all is_ascii_digit bytes))) && nat_lt (number_of (b ∷ bytes)) words) (letter_digit b first)
    ∙ none (nat_lt 0 (length (b ∷ bytes))) (nat_le (length (b ∷ bytes)) 10) (nat_lt (number_of (b ∷ bytes)) words)
  where
    none : (x y z : Bool) → (x && (y && false)) && z ≡ false
    none true true z = refl
    none true false z = refl
    none false y z = refl

-- ---- operations

found : (p : Op → Bool) (os : List Op) (o : Op) → find p os ≡ Some o → p o ≡ true
found p [] o h = cc
found p (x ∷ os) o h = ⊎_elim (λ w. subst (λ y. p y ≡ true) (some_is w.1) w.0) (λ w. found p os o w.1) (chosen (p x) (Some x) (find p os) (Some o) h)

pub op_name : (t : List ℕ) (o : Op) → op_called t ≡ Some o → (is_word_op o ≡ true) × (t ≡ name_of o)
op_name t o h =
    let w = and_both (is_word_op o) (bytes_eq (name_of o) t) (found (λ op. is_word_op op && bytes_eq (name_of op) t) all_ops o h) in
    (w.0, sym (same_is (name_of o) t w.1))

-- ---- signs

pub added_sign : (t : List ℕ) (o : Op) → added_by t ≡ Some o → is_some (added_by t) ≡ true
added_sign t o h = ap is_some h

pub some_op : (o : Option Op) → is_some o ≡ true → (op : Op) × (o ≡ Some op)
some_op None h = cc
some_op (Some op) h = (op, refl)
