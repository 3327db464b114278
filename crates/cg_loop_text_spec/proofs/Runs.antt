-- One step of a run.
use Rattle.std.proofs.Common.{◌≡◌, ℕ, true, false, cond, List, [], ◌∷◌, ◌++◌, length, Some, None, refl, sym, ◌∙◌, ap, append_assoc, arith}
use Rattle.cg_tokens.specs.Table.{going, run}
use Rattle.cg_tokens.specs.Tokens.{Placed}
use Rattle.cg_loop_text_spec.specs.Rules.{Symbol, Exactly, same, rule_of, rule}
use Rattle.cg_loop_text_spec.specs.Read.{begins_with, Takes, Reads, Stops}
use Rattle.cg_loop_text_spec.proofs.Texts.{some_is, same_is, same_self, same_at}

-- stacks that differ at the front only, where the front does the same
pub same_run : (s r : Symbol) (stack : List Symbol) (l : List Placed) → ((t : List ℕ) → rule_of s t ≡ rule_of r t) → run rule (s ∷ stack) l ≡ run rule (r ∷ stack) l
same_run s r stack [] h = refl
same_run s r stack (t ∷ l) h = ap (λ o. going o (λ x. run rule (x ++ stack) l) (t ∷ l)) (h t.text)

-- one token on, by its rule
pub by_rule : (s : Symbol) (t : Placed) (new stack : List Symbol) (old l : List Placed) → old ≡ t ∷ l → rule_of s t.text ≡ Some new → run rule (s ∷ stack) old ≡ run rule (new ++ stack) l
by_rule s t new stack old l e h = ap (run rule (s ∷ stack)) e ∙ ap (λ o. going o (λ x. run rule (x ++ stack) l) (t ∷ l)) h

-- the same, by the text
pub by_taken : (s : Symbol) (text : List ℕ) (new stack : List Symbol) (old l : List Placed) → Takes text old l → rule_of s text ≡ Some new → run rule (s ∷ stack) old ≡ run rule (new ++ stack) l
by_taken s text new stack old l t h = by_rule s t.token new stack old l t.whole (ap (rule_of s) t.is ∙ h)

pub by_none : (s : Symbol) (t : Placed) (stack : List Symbol) (old l : List Placed) → old ≡ t ∷ l → rule_of s t.text ≡ None → run rule (s ∷ stack) old ≡ Some old
by_none s t stack old l e h = ap (run rule (s ∷ stack)) e ∙ ap (λ o. going o (λ x. run rule (x ++ stack) l) (t ∷ l)) h ∙ ap (λ x. Some x) (sym e)

pub by_end : (s : Symbol) (stack : List Symbol) (old : List Placed) → old ≡ [] → run rule (s ∷ stack) old ≡ Some old
by_end s stack old e = ap (run rule (s ∷ stack)) e ∙ ap (λ x. Some x) (sym e)

-- ---- the token of a text

pub takes : (s : List ℕ) (t : Placed) (old new : List Placed) → old ≡ t ∷ new → same t.text s ≡ true → Takes s old new
takes s t old new e h = record { token = t; is = same_is t.text s h; whole = e }

pub begins_taken : (s : List ℕ) (old : List Placed) → begins_with s old ≡ true → (rest : List Placed) × Takes s old rest
begins_taken s [] h = cc
begins_taken s (t ∷ rest) h = (rest, takes s t (t ∷ rest) rest refl h)

pub taken_begins : (s : List ℕ) (old new : List Placed) → Takes s old new → begins_with s old ≡ true
taken_begins s old new t = ap (begins_with s) t.whole ∙ same_at t.token.text s t.is

-- it is another one than that of another text
pub taken_other : (s other : List ℕ) (old new : List Placed) → Takes s old new → same s other ≡ false → begins_with other old ≡ false
taken_other s other old new t h = ap (begins_with other) t.whole ∙ ap (λ x. same x other) t.is ∙ h

pub exactly_rule : (s : List ℕ) → rule_of (Exactly s) s ≡ Some []
exactly_rule s = ap (λ b. cond b (Some []) None) (same_self s)

pub exactly_read : (s : List ℕ) (old new : List Placed) → Takes s old new → Reads (Exactly s ∷ []) old new
exactly_read s old new t = record { ran = λ stack. by_taken (Exactly s) s [] stack old new t (exactly_rule s) }

-- the first token is another one, or none is left
pub exactly_misses : (s : List ℕ) (old : List Placed) → begins_with s old ≡ false → Stops (Exactly s ∷ []) old old
exactly_misses s [] h = record { ran = λ stack. refl }
exactly_misses s (t ∷ l) h = record { ran = λ stack. by_none (Exactly s) t stack (t ∷ l) l refl (ap (λ b. cond b (Some []) None) h) }

-- what is taken is not missed
no_rest : (t : Placed) (l : List Placed) → t ∷ l ≡ l → ⊥
no_rest t l e = let size = ap length e in omega arith

never_all : (new l : List Placed) → ((stack : List Symbol) → run rule stack l ≡ Some new) → ⊥
never_all new [] h = let none = h [] in cc
never_all new (t ∷ l) h =
    let here : t ∷ l ≡ new = some_is (h []) in
    let gone : run rule [] l ≡ Some new = sym (by_taken (Exactly t.text) t.text [] [] (t ∷ l) l (record { token = t; is = refl; whole = refl }) (exactly_rule t.text)) ∙ h (Exactly t.text ∷ []) in
    ends l gone here
  where
    ends : (l : List Placed) → run rule [] l ≡ Some new → t ∷ l ≡ new → ⊥
    ends [] e w = cc
    ends (u ∷ l) e w = let same : u ∷ l ≡ new = some_is e in no_rest t (u ∷ l) (w ∙ sym same)

pub no_miss : (s : List ℕ) (old new : List Placed) → begins_with s old ≡ true → Stops (Exactly s ∷ []) old new → ⊥
no_miss s old new h f = let b = begins_taken s old h in never_all new b.0 (λ stack. sym ((exactly_read s old b.0 b.1).ran stack) ∙ f.ran stack)

-- a token that is missed stands elsewhere than at the front
pub missed : (s : List ℕ) (old new : List Placed) → Stops (Exactly s ∷ []) old new → begins_with s old ≡ false
missed s old new f = elim (begins_with s old) as (λ b. begins_with s old ≡ b → begins_with s old ≡ false) [ true ↦ λ e. absurd (no_miss s old new e f) | false ↦ λ e. e ] refl

-- ---- one after another

pub reads_on : (a b : List Symbol) (old now new : List Placed) → Reads a old now → Reads b now new → Reads (a ++ b) old new
reads_on a b old now new p q = record { ran = λ stack. ap (λ x. run rule x old) (append_assoc a b stack) ∙ p.ran (b ++ stack) ∙ q.ran stack }

pub stops_on : (a b : List Symbol) (old now new : List Placed) → Reads a old now → Stops b now new → Stops (a ++ b) old new
stops_on a b old now new p q = record { ran = λ stack. ap (λ x. run rule x old) (append_assoc a b stack) ∙ p.ran (b ++ stack) ∙ q.ran stack }

pub stops_before : (a b : List Symbol) (old new : List Placed) → Stops a old new → Stops (a ++ b) old new
stops_before a b old new p = record { ran = λ stack. ap (λ x. run rule x old) (append_assoc a b stack) ∙ p.ran (b ++ stack) }

-- these three where the first list has one symbol
pub reads_then : (s : Symbol) (b : List Symbol) (old now new : List Placed) → Reads (s ∷ []) old now → Reads b now new → Reads (s ∷ b) old new
reads_then s b old now new p q = record { ran = λ stack. p.ran (b ++ stack) ∙ q.ran stack }

pub then_stops : (s : Symbol) (b : List Symbol) (old now new : List Placed) → Reads (s ∷ []) old now → Stops b now new → Stops (s ∷ b) old new
then_stops s b old now new p q = record { ran = λ stack. p.ran (b ++ stack) ∙ q.ran stack }

pub stops_first : (s : Symbol) (b : List Symbol) (old new : List Placed) → Stops (s ∷ []) old new → Stops (s ∷ b) old new
stops_first s b old new p = record { ran = λ stack. p.ran (b ++ stack) }

pub takes_then : (s : List ℕ) (b : List Symbol) (old now new : List Placed) → Takes s old now → Reads b now new → Reads (Exactly s ∷ b) old new
takes_then s b old now new t q = reads_then (Exactly s) b old now new (exactly_read s old now t) q

pub takes_stops : (s : List ℕ) (b : List Symbol) (old now new : List Placed) → Takes s old now → Stops b now new → Stops (Exactly s ∷ b) old new
takes_stops s b old now new t q = then_stops (Exactly s) b old now new (exactly_read s old now t) q
