-- Reading symbols one after another: what is read of a symbol before others that are left to read.
use Rattle.std.proofs.Common.{◌≡◌, ℕ, List, [], ◌∷◌, Option, Some, None, sym, ◌∙◌, subst}
use Rattle.std.proofs.lemmas.List.{append-nil}
use Rattle.cg_c_syntax.specs.Tokens.{Token}
use Rattle.cg_c_syntax.specs.Reading as reading
use Rattle.cg_c_syntax.specs.Symbols.{Symbol, Value}
use Rattle.cg_c_syntax.specs.Grammar.{step, barred}
use Rattle.cg_c_syntax.specs.Reading.{Values, Line, Takes, Begins, Reads, ReadsAll, Fails, FailsAll}
use Rattle.cg_c_reader.specs.declared.fault.Misfit.{Misfit}
use Rattle.cg_c_reader.specs.declared.fault.Misfit.TheVariants.{Memory, Text, Depth}
use Rattle.cg_c_reader.specs.Left.{Rest, all, ReadsTo, Leads, MissesFrom}
use Rattle.cg_c_reader.proofs.Composed.{reads_none, reads_next, reads_takes, reads_begins, fails_here, fails_later, fails_takes, fails_begins}

-- a line after a token that is taken
pub takes : {s : Symbol} {old mid : Rest} (line : Line Value s) → barred s old.head ≡ None → step s old.head ≡ Takes line → old.more ≡ all mid → Leads s line.symbols line.value old mid
takes line free is more = record { reads = λ new vs rs. reads_takes line free is more rs; fails = λ new q f. fails_takes line free is more f }

-- a line
pub begins : {s : Symbol} {old : Rest} (line : Line Value s) → barred s old.head ≡ None → step s old.head ≡ Begins line → Leads s line.symbols line.value old old
begins line free is = record { reads = λ new vs rs. reads_begins line free is rs; fails = λ new q f. fails_begins line free is f }

-- and the next symbol is read
pub next : {s s' : Symbol} {ss : List Symbol} {f : Values Value (s' ∷ ss) → Value s} {v : Value s'} {old mid new : Rest} → Leads s (s' ∷ ss) f old mid → ReadsTo s' v mid new → Leads s ss (λ vs. f (v, vs)) old new
next {v = v} l r = record { reads = λ new vs rs. l.reads new (v, vs) (reads_next r rs); fails = λ new q f. l.fails new q (fails_later r f) }

-- and the next symbol, the last one, leads to others
pub last : {s s' : Symbol} {ss : List Symbol} {f : Values Value (s' ∷ []) → Value s} {g : Values Value ss → Value s'} {old mid new : Rest} → Leads s (s' ∷ []) f old mid → Leads s' ss g mid new → Leads s ss (λ vs. f (g vs, tt)) old new
last {new = here} l m = record {
  reads = λ new vs rs. l.reads new _ (reads_next (m.reads new vs rs) (reads_none new));
  fails = λ new q f. l.fails new q (fails_here (m.fails new q f));
}

-- the value, said otherwise
pub valued : {s : Symbol} {ss : List Symbol} {f g : Values Value ss → Value s} {old mid : Rest} → ((vs : Values Value ss) → f vs ≡ g vs) → Leads s ss f old mid → Leads s ss g old mid
valued {s} {ss} {f} {g} {old} same l = record { reads = λ new vs rs. subst (λ (v : Value s). ReadsTo s v old new) (same vs) (l.reads new vs rs); fails = l.fails }

read_only : {s : Symbol} {a : List Token} {t : Token} {vs : Values Value (s ∷ [])} → ReadsAll Value step barred (s ∷ []) a t vs → Reads Value step barred s a t vs.0
read_only {s} {t = t} (reading.next {v = v} a [] same r reading.none) = subst (λ (x : List Token). Reads Value step barred s x t v) (sym (same ∙ append-nil a)) r
read_only {s} {t = t} (reading.next {v = v} {vs = vs} a (_ ∷ _) same r others) = elim others [ ]

fails_only : {s : Symbol} {a : List Token} {t : Token} {q : Option ℕ} → FailsAll Value step barred (s ∷ []) a t q → Fails Value step barred s a t q
fails_only (reading.here f) = f
fails_only (reading.later a b v same r others) = elim others [ ]

-- the symbol itself
pub starts : (s : Symbol) (r : Rest) → Leads s (s ∷ []) (λ vs. vs.0) r r
starts s r = record {
  reads = λ new vs rs. record { front = rs.front; spelled = rs.spelled; reads = read_only rs.reads };
  fails = λ new q f. record { front = f.front; spelled = f.spelled; fails = fails_only f.fails };
}

-- the symbols are all read
pub read : {s : Symbol} {f : Values Value [] → Value s} {old new : Rest} → Leads s [] f old new → ReadsTo s (f tt) old new
read {new = new} l = l.reads new tt (reads_none new)

-- the value, said otherwise
pub read_as : {s : Symbol} {f : Values Value [] → Value s} {v : Value s} {old new : Rest} → Leads s [] f old new → f tt ≡ v → ReadsTo s v old new
read_as {s} {old = old} {new = new} l same = subst (λ (x : Value s). ReadsTo s x old new) same (read l)

-- the next symbol is missed
pub missed : (e : Misfit) {s s' : Symbol} {ss : List Symbol} {f : Values Value (s' ∷ ss) → Value s} {old mid : Rest} → Leads s (s' ∷ ss) f old mid → (new : Rest) → MissesFrom e s' mid new → MissesFrom e s old new
missed Memory l new h = tt
missed Text l new h = l.fails new None (fails_here h)
missed (Depth place) l new h = l.fails new (Some place) (fails_here h)
