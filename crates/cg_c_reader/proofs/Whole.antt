-- Whole texts.
use Rattle.std.proofs.Common.{◌≡◌, ℕ, true, false, List, [], ◌∷◌, ◌++◌, Option, None, refl, sym, ◌∙◌, ap}
use Rattle.cg_c_syntax.specs.declared.token.Kind.{Kind}
use Rattle.cg_c_syntax.specs.declared.token.Kind.TheVariants.{Word, Number, Mark, Stdint, Cgra, Define, LineEnd, TextEnd, Stray}
use Rattle.cg_c_syntax.specs.Tokens.{Token, tokens_of}
use Rattle.cg_c_syntax.specs.Tree.{Source}
use Rattle.cg_c_syntax.specs.Symbols.{File, TextEnds}
use Rattle.cg_c_syntax.specs.Grammar.{is_kind, file_step}
use Rattle.cg_c_syntax.specs.Reading.{Stops}
use Rattle.cg_c_syntax.specs.Source.{text, IsSource, FailsAt}
use Rattle.cg_c_reader.specs.declared.reader.Reader.{Reader}
use Rattle.cg_c_reader.specs.declared.fault.Misfit.{Misfit}
use Rattle.cg_c_reader.specs.declared.fault.Misfit.TheVariants.{Memory, Text, Depth}
use Rattle.cg_c_reader.specs.Seen.{rest_after}
use Rattle.cg_c_reader.specs.Left.{Rest, all, left, ReadsTo, ReadsAllTo, FailsAllTo, MissesFrom, MissesAll}
use Rattle.cg_c_reader.proofs.Composed.{reads_none, reads_next, reads_begins, fails_stops, fails_here, fails_later}
use Rattle.cg_c_reader.proofs.Single.{if_true, if_false}

pub file_stops : (kind : Kind) → (kind ≡ Stdint → ⊥) → (kind ≡ Cgra → ⊥) → file_step kind ≡ Stops
file_stops Word f g = refl
file_stops Number f g = refl
file_stops Mark f g = refl
file_stops Stdint f g = absurd (f refl)
file_stops Cgra f g = absurd (g refl)
file_stops Define f g = refl
file_stops LineEnd f g = refl
file_stops TextEnd f g = refl
file_stops Stray f g = refl

pub source_missed : (e : Misfit) (old new : Rest) → MissesFrom e File old new → MissesAll e text old new
source_missed Memory old new h = tt
source_missed Text old new h = fails_here h
source_missed (Depth place) old new h = fails_here h

pub ending_reads : {s : Source} {old new : Rest} → ReadsTo File s old new → is_kind TextEnd new.head.kind ≡ true → ReadsAllTo text (s, (tt, tt)) old new
ending_reads {new = new} r h = reads_next r (reads_next (reads_begins {s = TextEnds} _ refl (if_true _ _ h) (reads_none new)) (reads_none new))

pub ending_stops : {s : Source} {old new : Rest} → ReadsTo File s old new → is_kind TextEnd new.head.kind ≡ false → FailsAllTo text None old new
ending_stops {new = new} r h = fails_later r (fails_here (fails_stops {s = TextEnds} new refl (if_false _ _ h)))

nothing_after : (kind : Kind) (rest : List Token) → is_kind TextEnd kind ≡ true → rest_after kind rest ≡ []
nothing_after Word rest h = cc
nothing_after Number rest h = cc
nothing_after Mark rest h = cc
nothing_after Stdint rest h = cc
nothing_after Cgra rest h = cc
nothing_after Define rest h = cc
nothing_after LineEnd rest h = cc
nothing_after TextEnd rest h = refl
nothing_after Stray rest h = cc

pub last_left : (r : Reader) → is_kind TextEnd r.token.kind ≡ true → (left r).more ≡ []
last_left r h = nothing_after r.token.kind _ h

-- what is read of all tokens
pub source_is : (bytes : List ℕ) {s : Source} {start end : Rest} → all start ≡ tokens_of bytes → end.more ≡ [] → ReadsAllTo text (s, (tt, tt)) start end → IsSource bytes s
source_is bytes {end = end} whole none r = record {
  front = r.front;
  end = end.head;
  whole = sym whole ∙ r.spelled ∙ ap (λ (x : List Token). r.front ++ end.head ∷ x) none;
  reads = r.reads;
}

pub fails_at : (bytes : List ℕ) {q : Option ℕ} {start end : Rest} → all start ≡ tokens_of bytes → FailsAllTo text q start end → FailsAt bytes end.head q
fails_at bytes {end = end} whole f = record { front = f.front; rest = end.more; whole = sym whole ∙ f.spelled; fails = f.fails }
