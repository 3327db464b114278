-- An assignment to a word.
use Rattle.std.proofs.Common.{◌≡◌, ℕ, ◌<◌, ◌==◌, if◌then◌else◌, List, [], ◌++◌, length, Option, Some, None, refl, sym, ap, ◌∙◌, append-nil, subst, true}
use Rattle.cg_c_syntax.specs.declared.expression.Binary.{Binary}
use Rattle.cg_c_syntax.specs.declared.statement.Signedness.{Signedness}
use Rattle.cg_c_check.specs.Rules.{reading_of, two_words}
use Rattle.cg_c_check.specs.Program.{Expr, Assign, TheWord as WordTarget, signedness_of}
use Rattle.cg_c_values.specs.declared.value.Value.{Value}
use Rattle.cg_c_values.specs.Values.{Moment, Words, Fits, Extends}
use Rattle.cg_c_meaning.specs.Meaning.{◌>>=◌, changed, set_word, stmt, word_of}
use Rattle.cg_c_meaning.specs.Typed.{AreApart, IsTypedExpr, inputs}
use Rattle.cg_c_turn.specs.Draft.{Draft, Effect, assigned_in}
use Rattle.cg_c_turn.specs.Conditions.{IsElsewhere}
use Rattle.cg_c_turn.specs.Pieces.{Joins, side_of}
use Rattle.cg_c_turn.specs.Stands.{TheWord, Agrees, Performs, Runs, Translates, begun, word_in, word_or}
use Rattle.cg_c_turn.specs.Translated.{IsTranslated}
use Rattle.cg_c_turn.specs.Words.{with_values, with_words}
use Rattle.cg_c_turn.proofs.Arms.{words_as}
use Rattle.cg_c_turn.proofs.Evaluating.{value_then}
use Rattle.cg_c_turn.proofs.Operating.{agrees_same}
use Rattle.cg_c_turn.proofs.Prefixes.{begun_same, runs_shorter}
use Rattle.cg_c_turn.proofs.Sending.{without_ports}
use Rattle.cg_c_turn.proofs.Single.{changes}
use Rattle.cg_c_turn.proofs.Sent.{sends_nothing}

-- what an operator makes of the words of two values
pub joins_words : (old new : List Value) (op : Binary) (reading : Signedness) (v u r : ℕ) → Joins old new op reading v u TheWord r → (x : Moment) (E : Words) → Fits new x E → E r ≡ two_words op reading (E v) (E u)
joins_words old new op reading v u r j x E fits = j.is x E (E v) (E u) fits (agrees_same (side_of op) (E v) (E v) refl) (λ h. agrees_same (side_of op) (E u) (E u) refl)

pub operated_is : (o : Option Binary) (op : Binary) (s t reading : Signedness) (a b : ℕ) → o ≡ Some op → reading ≡ reading_of op s t → two_words op reading a b ≡ changed o s t a b
operated_is o op s t reading a b is read = ap (λ (r : Signedness). two_words op r a b) read ∙ sym (ap (λ (z : Option Binary). changed z s t a b) is)

pub kept_is : (o : Option Binary) (s t : Signedness) (a b : ℕ) → o ≡ None → b ≡ changed o s t a b
kept_is o s t a b is = sym (ap (λ (z : Option Binary). changed z s t a b) is)

abbrev pub more_values : Draft → List Value → Draft
more_values d vs = record d { values = vs }

-- the word of a value is what an assignment makes of the word of a number
pub word_changed : (d : Draft) (vs : List Value) (o : Option Binary) (op : Binary) (s t reading : Signedness) (number old new v : ℕ) (assigned : Option ℕ) → o ≡ Some op → reading ≡ reading_of op s t → assigned ≡ assigned_in d number → Joins d.values vs op reading old new TheWord v
    → ((x : Moment) (E : Words) → Runs d x E → E old ≡ word_or E (begun x d number) assigned)
    → (x : Moment) (E : Words) → Runs (more_values d vs) x E → E v ≡ changed o s t (word_in x E (more_values d vs) number) (E new)
word_changed d vs o op s t reading number old new v assigned is read last j before x E r =
    joins_words d.values vs op reading old new v j x E r.fits
    ∙ operated_is o op s t reading (E old) (E new) is read
    ∙ ap (λ z. changed o s t z (E new)) (before x E (runs_shorter d (more_values d vs) j.kept refl r) ∙ ap (λ (z : Option ℕ). word_or E (begun x d number) z) last)

same_point : (b d : Draft) → d ≡ with_values b d → Extends b.values d.values → IsElsewhere b d
same_point b d same kept = record { arrays = ap (λ (z : Draft). z.arrays) same; counters = ap (λ (z : Draft). z.counters) same; values = kept; effects = ap (λ (z : Draft). z.effects) same; initial = ap (λ (z : Draft). z.initial) same; latest = ap (λ (z : Draft). z.latest) same }

word_set : (b d f : Draft) (number new v : ℕ) (o : Option Binary) (s t : Signedness) (es : List Effect) (a : Draft) (e : Expr) → Translates a b es e TheWord new → d ≡ with_values b d → Extends b.values d.values → v < length d.values
    → ((x : Moment) (E : Words) → Runs d x E → E v ≡ changed o s t (word_in x E d number) (E new))
    → f ≡ with_words d f.words → ((n : ℕ) → assigned_in f n ≡ (if n == number then Some v else assigned_in d n))
    → (w : ℕ) → Performs b f [] (λ E. Agrees TheWord (E new) w) (λ x. word_of number >>= (λ old. set_word number (changed o s t old w))) []
word_set b d f number new v o s t es a e one same kept within is set assigned w =
    subst (λ (z : Draft). Performs b z [] (λ E. Agrees TheWord (E new) w) (λ x. word_of number >>= (λ old. set_word number (changed o s t old w))) []) (sym set)
    (changes b d f.words number new v o s t one.formed (same_point b d same kept) (ap (λ (z : Draft). z.guard) same) (ap (λ (z : Draft). z.words) same) within assigned
    (λ x E r. is x E r ∙ ap (λ z. changed o s t z (E new)) (words_as x E b d number (ap (λ (z : Draft). z.words) same) (sym (begun_same x b d number (ap (λ (z : Draft). z.initial) same))))) w)

pub word_assigned : (a b d f : Draft) (es : List Effect) (e : Expr) (number new v : ℕ) (o : Option Binary) (s t : Signedness) → IsTypedExpr a.arrays true e → AreApart (inputs e) → t ≡ signedness_of e → Translates a b es e TheWord new → d ≡ with_values b d → Extends b.values d.values → v < length d.values
    → ((x : Moment) (E : Words) → Runs d x E → E v ≡ changed o s t (word_in x E d number) (E new))
    → f ≡ with_words d f.words → ((n : ℕ) → assigned_in f n ≡ (if n == number then Some v else assigned_in d n))
    → IsTranslated a f (λ c. stmt c (Assign (WordTarget number s) o e)) (inputs e) []
unfolding stmt
word_assigned a b d f es e number new v o s t typed apart read one same kept within is set assigned =
    record {
      added = es ++ [];
      performs = without_ports (inputs e)
          (value_then a.arrays true typed one
          (λ w. subst (λ (r : Signedness). Performs b f [] (λ E. Agrees TheWord (E new) w) (λ x. word_of number >>= (λ old. set_word number (changed o s r old w))) []) read
          (word_set b d f number new v o s t es a e one same kept within is set assigned w))
          (subst (λ (q : List ℕ). AreApart q) (sym (append-nil (inputs e))) apart));
      initial = ap (λ (z : Draft). z.initial) set ∙ ap (λ (z : Draft). z.initial) same ∙ one.initial;
      sends = sends_nothing a f es (ap (λ (z : Draft). z.effects) set ∙ ap (λ (z : Draft). z.effects) same ∙ one.grows.effects) one.silent;
    }
