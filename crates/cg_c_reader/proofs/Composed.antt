-- What is read one after another.
use Rattle.std.proofs.Common.{◌≡◌, ℕ, List, [], ◌∷◌, ◌++◌, Option, Some, None, refl, sym, ◌∙◌, ap, subst, append_assoc}
use Rattle.cg_c_syntax.specs.Tokens.{Token}
use Rattle.cg_c_syntax.specs.Symbols.{Symbol, Value}
use Rattle.cg_c_syntax.specs.Grammar.{step, barred}
use Rattle.cg_c_syntax.specs.Reading as reading
use Rattle.cg_c_syntax.specs.Reading.{Values, Line, Step, Takes, Begins, Stops, first, Reads, ReadsAll, Fails, FailsAll}
use Rattle.cg_c_reader.specs.Left.{Rest, all, ReadsTo, ReadsAllTo, FailsTo, FailsAllTo}

-- the token after the tokens is the next one where they begin
first_is : (a : List Token) (old new : Rest) → all old ≡ a ++ all new → first a new.head ≡ old.head
first_is [] old new e = cc
first_is (u ∷ a) old new e = cc

-- tokens after other tokens
joined : (a b : List Token) (old mid new : Rest) → all old ≡ a ++ all mid → all mid ≡ b ++ all new → all old ≡ (a ++ b) ++ all new
joined a b old mid new e f = e ∙ ap (λ (x : List Token). a ++ x) f ∙ sym (append_assoc a b (all new))

pub reads_none : (r : Rest) → ReadsAllTo [] tt r r
reads_none r = record { front = []; spelled = refl; reads = reading.none }

pub reads_next : {s : Symbol} {ss : List Symbol} {v : Value s} {vs : Values Value ss} {old mid new : Rest} → ReadsTo s v old mid → ReadsAllTo ss vs mid new → ReadsAllTo (s ∷ ss) (v, vs) old new
reads_next {s} {ss} {v} {vs} {old} {mid} {new} r rs =
    record {
      front = r.front ++ rs.front;
      spelled = joined r.front rs.front old mid new r.spelled rs.spelled;
      reads = reading.next r.front rs.front refl (subst (λ (t : Token). Reads Value step barred s r.front t v) (sym (first_is rs.front mid new rs.spelled)) r.reads) rs.reads;
    }

-- a line after a token that is taken
pub reads_takes : {s : Symbol} {old mid new : Rest} (line : Line Value s) {vs : Values Value line.symbols} → barred s old.head ≡ None → step s old.head ≡ Takes line → old.more ≡ all mid → ReadsAllTo line.symbols vs mid new
    → ReadsTo s (line.value vs) old new
reads_takes {s} {old} {mid} {new} line {vs} free e more rs =
    record { front = old.head ∷ rs.front; spelled = ap (λ (x : List Token). old.head ∷ x) (more ∙ rs.spelled); reads = reading.takes line vs free e rs.reads }

-- a line
pub reads_begins : {s : Symbol} {old new : Rest} (line : Line Value s) {vs : Values Value line.symbols} → barred s old.head ≡ None → step s old.head ≡ Begins line → ReadsAllTo line.symbols vs old new → ReadsTo s (line.value vs) old new
reads_begins {s} {old} {new} line {vs} free e rs =
    let here = sym (first_is rs.front old new rs.spelled) in
    record {
      front = rs.front;
      spelled = rs.spelled;
      reads = reading.begins line vs (subst (λ (t : Token). barred s t ≡ None) here free) (subst (λ (t : Token). step s t ≡ Begins line) here e) rs.reads;
    }

-- ---- and what is not

pub fails_stops : {s : Symbol} (r : Rest) → barred s r.head ≡ None → step s r.head ≡ Stops → FailsTo s None r r
fails_stops r free e = record { front = []; spelled = refl; fails = reading.stops free e }

pub fails_bars : {s : Symbol} {place : ℕ} (r : Rest) → barred s r.head ≡ Some place → FailsTo s (Some place) r r
fails_bars r e = record { front = []; spelled = refl; fails = reading.bars e }

pub fails_here : {s : Symbol} {ss : List Symbol} {q : Option ℕ} {old new : Rest} → FailsTo s q old new → FailsAllTo (s ∷ ss) q old new
fails_here f = record { front = f.front; spelled = f.spelled; fails = reading.here f.fails }

pub fails_later : {s : Symbol} {ss : List Symbol} {v : Value s} {q : Option ℕ} {old mid new : Rest} → ReadsTo s v old mid → FailsAllTo ss q mid new → FailsAllTo (s ∷ ss) q old new
fails_later {s} {ss} {v} {q} {old} {mid} {new} r f =
    record {
      front = r.front ++ f.front;
      spelled = joined r.front f.front old mid new r.spelled f.spelled;
      fails = reading.later r.front f.front v refl (subst (λ (t : Token). Reads Value step barred s r.front t v) (sym (first_is f.front mid new f.spelled)) r.reads) f.fails;
    }

pub fails_takes : {s : Symbol} {old mid new : Rest} {q : Option ℕ} (line : Line Value s) → barred s old.head ≡ None → step s old.head ≡ Takes line → old.more ≡ all mid → FailsAllTo line.symbols q mid new → FailsTo s q old new
fails_takes {s} {old} {mid} {new} line free e more f = record { front = old.head ∷ f.front; spelled = ap (λ (x : List Token). old.head ∷ x) (more ∙ f.spelled); fails = reading.takes line free e f.fails }

pub fails_begins : {s : Symbol} {old new : Rest} {q : Option ℕ} (line : Line Value s) → barred s old.head ≡ None → step s old.head ≡ Begins line → FailsAllTo line.symbols q old new → FailsTo s q old new
fails_begins {s} {old} {new} line free e f =
    let here = sym (first_is f.front old new f.spelled) in
    record {
      front = f.front;
      spelled = f.spelled;
      fails = reading.begins line (subst (λ (t : Token). barred s t ≡ None) here free) (subst (λ (t : Token). step s t ≡ Begins line) here e) f.fails;
    }
