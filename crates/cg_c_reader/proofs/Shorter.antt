-- What is left gets shorter.
use Rattle.std.proofs.Common.{◌≡◌, ℕ, Bool, true, false, cond, ◌<◌, ◌≤◌, List, [], ◌∷◌, ◌++◌, Option, Some, None, codes, length, sym, ◌∙◌, ap, arith, length-append}
use Rattle.cg_c_syntax.specs.Tokens.{Token}
use Rattle.cg_c_syntax.specs.Symbols.{Symbol, Statement, Plain, Declaration, Value}
use Rattle.cg_c_syntax.specs.declared.statement.Signedness.{Signedness}
use Rattle.cg_c_syntax.specs.declared.opening.Beginning.{Beginning}
use Rattle.cg_c_syntax.specs.declared.opening.Beginning.TheVariants as beginnings
use Rattle.cg_c_syntax.specs.Words.{is_the_word, is_define, signedness_of, beginning_of}
use Rattle.cg_c_syntax.specs.Grammar.{step, barred, plain_step, statement_step, declaration_step, words_step}
use Rattle.cg_c_syntax.specs.Reading as reading
use Rattle.cg_c_syntax.specs.Reading.{Line, Step, Takes, Begins, first, Reads}
use Rattle.cg_c_reader.specs.Left.{Rest, all, ReadsTo}

pub taken_shorter : (old new : Rest) → old.more ≡ all new → length (all new) < length (all old)
taken_shorter old new e = let k = ap (λ (x : List Token). length x) e in omega arith

pub reads_shorter : {s : Symbol} {v : Value s} {old new : Rest} → ReadsTo s v old new → length (all new) ≤ length (all old)
reads_shorter {old = old} {new = new} r = let k = ap (λ (x : List Token). length x) r.spelled in omega (arith, length-append r.front (all new))

-- a symbol that begins with a token takes one
begun : {s : Symbol} {a : List Token} {t : Token} {v : Value s} → Reads Value step barred s a t v → ((line : Line Value s) → step s (first a t) ≡ Begins line → ⊥) → 0 < length a
begun (reading.takes line vs free is rs) never = omega arith
begun (reading.begins line vs free is rs) never = absurd (never line is)

first_left : (a : List Token) (old new : Rest) → all old ≡ a ++ all new → first a new.head ≡ old.head
first_left [] old new e = cc
first_left (u ∷ a) old new e = cc

strictly : {s : Symbol} {v : Value s} {old new : Rest} → ReadsTo s v old new → ((line : Line Value s) → step s old.head ≡ Begins line → ⊥) → length (all new) < length (all old)
strictly {s} {old = old} {new = new} r never =
    let here = first_left r.front old new r.spelled in
    let some : 0 < length r.front = begun r.reads (λ line is. never line (ap (step s) (sym here) ∙ is)) in
    let k = ap (λ (x : List Token). length x) r.spelled in
    omega (arith, length-append r.front (all new))

plain_takes : (depth : ℕ) (t : Token) (b : Beginning) (line : Line Value (Plain depth)) → plain_step depth t b ≡ Begins line → ⊥
plain_takes depth t beginnings.Block line h = cc
plain_takes depth t beginnings.If line h = cc
plain_takes depth t beginnings.Output line h = cc
plain_takes depth t beginnings.Name line h = cc
plain_takes depth t beginnings.Nothing line h = cc

pub plain_shorter : {depth : ℕ} {v : Value (Plain depth)} {old new : Rest} → ReadsTo (Plain depth) v old new → length (all new) < length (all old)
plain_shorter {depth} {old = old} r = strictly r (λ line is. plain_takes depth old.head (beginning_of old.head) line is)

words_take : (depth : ℕ) (sgn : Option Signedness) (line : Line Value (Statement depth)) (s : Signedness) → sgn ≡ Some s → statement_step depth sgn ≡ Begins line → ⊥
words_take depth (Some x) line s same h = cc
words_take depth None line s same h = cc

pub declared_shorter : {depth : ℕ} {v : Value (Statement depth)} {old new : Rest} (s : Signedness) → signedness_of old.head ≡ Some s → ReadsTo (Statement depth) v old new → length (all new) < length (all old)
declared_shorter {depth} {old = old} s same r = strictly r (λ line is. words_take depth (signedness_of old.head) line s same is)

neither : (b : Bool) (line : Line Value Declaration) (x y : Step Value Declaration) → (x ≡ Begins line → ⊥) → (y ≡ Begins line → ⊥) → cond b x y ≡ Begins line → ⊥
neither true line x y f g h = f h
neither false line x y f g h = g h

taking : (l line : Line Value Declaration) → Takes l ≡ Begins line → ⊥
taking l line h = cc

words_begin : (t : Token) (sgn : Option Signedness) (line : Line Value Declaration) → words_step t sgn ≡ Begins line → ⊥
words_begin t (Some x) line h = cc
words_begin t None line h = cc

declaration_takes : (t : Token) (line : Line Value Declaration) → declaration_step t ≡ Begins line → ⊥
declaration_takes t line =
    neither (is_define t.kind) line _ _ (taking _ line)
    (neither (is_the_word (codes "enum") t) line _ _ (taking _ line)
    (neither (is_the_word (codes "static") t) line _ _ (taking _ line)
    (neither (is_the_word (codes "const") t) line _ _ (taking _ line) (words_begin t (signedness_of t) line))))

pub declaration_shorter : {v : Value Declaration} {old new : Rest} → ReadsTo Declaration v old new → length (all new) < length (all old)
declaration_shorter {old = old} r = strictly r (declaration_takes old.head)
