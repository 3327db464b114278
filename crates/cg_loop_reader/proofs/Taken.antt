-- Tokens that are taken, one after another.
use Rattle.std.proofs.Common.{◌≡◌, ℕ, suc, ◌+◌, ◌<◌, length, arith, length-append, List, [], ◌∷◌, ◌++◌, sym, ap, ◌∙◌, append_assoc, append-nil}
use Rattle.cg_tokens.specs.Tokens.{Placed}
use Rattle.cg_loop_text_spec.specs.Read as read
use Rattle.cg_loop_reader.specs.declared.reader.Reader.{Reader}
use Rattle.cg_loop_reader.specs.Left.{left, Takes}

pub taken : {s : List ℕ} {old new : Reader} → Takes s old new → read.Takes s (left old) (left new)
taken t = record { token = t.token; is = t.is; whole = t.spelled }

-- an expression between two tokens
pub between : (a b c d : List Placed) (first last : Placed) (es : List Placed) → a ≡ first ∷ b → b ≡ es ++ c → c ≡ last ∷ d → a ≡ (first ∷ (es ++ (last ∷ []))) ++ d
between a b c d first last es e f g = e ∙ ap (λ x. first ∷ x) (f ∙ ap (λ x. es ++ x) g ∙ sym (append_assoc es (last ∷ []) d))

-- what follows what was read
pub after : (a b c : List Placed) (es fs : List Placed) → a ≡ es ++ b → b ≡ fs ++ c → a ≡ (es ++ fs) ++ c
after a b c es fs e f = e ∙ ap (λ x. es ++ x) f ∙ sym (append_assoc es fs c)

-- what is noted after what was noted
pub noted_after : {T : Type 0} (a b c : List T) (us vs : List T) → b ≡ a ++ us → c ≡ b ++ vs → c ≡ a ++ (us ++ vs)
noted_after a b c us vs e f = f ∙ ap (λ x. x ++ vs) e ∙ append_assoc a us vs

-- nothing is noted
pub none_noted : {T : Type 0} (a b : List T) → b ≡ a → b ≡ a ++ []
none_noted a b e = e ∙ sym (append-nil a)

-- what is left behind a token and more is shorter
pub shorter : (a b c : List Placed) (t : Placed) (es : List Placed) → a ≡ t ∷ b → b ≡ es ++ c → length c < length a
shorter a b c t es e f =
    let one : length a ≡ suc (length b) = ap length e in
    let more : length b ≡ length es + length c = ap length f ∙ length-append es c in
    omega arith
