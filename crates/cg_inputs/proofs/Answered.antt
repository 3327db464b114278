-- What holds of every command that reads files and then does something with their contents, whatever it does.
use Rattle.std.proofs.Common.{◌≡◌, [], true, Bool, List, Result, Ok, Err, refl, sym, ◌∙◌, ap, subst, inr}
use Rattle.cg_effects.specs.declared.outcome.Outcome.{Outcome as OutcomeValue}
use Rattle.cg_effects.specs.declared.outcome.Status.{Status}
use Rattle.cg_effects.specs.declared.outcome.Status.TheVariants.{Done, Malformed, No}
use Rattle.cg_effects.specs.Outcome.{Name, File, Outcome}
use Rattle.cg_cause.specs.declared.stop.Stop.{Stop}
use Rattle.cg_cause.specs.Allowed.{Allows, EndsBy}
use Rattle.cg_cause.proofs.Allowed.{ends_weaker, allows_weaker}
use Rattle.cg_inputs.specs.Answered.{DoneWith, ReadThen}
use Rattle.cg_inputs.proofs.Sound.{IsSound, IsNamed}
use Rattle.cg_inputs.proofs.Refusals.{IsRefusal, sound_refusal, AreRefused, IsAlike, equal, refusals}

-- files can be read: what isn't given is refused, two readings give the same or are refused alike, and there is one
pub record IsReading {X : Type 0} (Reads : Result X Outcome → Type 0) : Type 0 where
  pub refused : (r : Result X Outcome) → Reads r → AreRefused r
  pub alike : (r s : Result X Outcome) → Reads r → Reads s → IsAlike r s
  pub some : (r : Result X Outcome) × Reads r

-- a refusal isn't Done, nor No
pub not_done : (o : Outcome) → o.status ≡ Done → o.status ≡ Malformed → ⊥
not_done o done refused = let z : Done ≡ Malformed = sym done ∙ refused in cc

pub not_no : (o : Outcome) → o.status ≡ No → o.status ≡ Malformed → ⊥
not_no o said refused = let z : No ≡ Malformed = sym said ∙ refused in cc

module _ {X : Type 0} (Reads : Result X Outcome → Type 0) (Does : X → Outcome → Type 0) where
  -- ---- from what the program reads and does

  -- a command that ends where its files are refused
  pub refused_answer : (s : Stop) → EndsBy (λ o. Reads (Err o)) s → EndsBy (ReadThen Reads Does) s
  refused_answer s = ends_weaker (λ o. Reads (Err o)) (ReadThen Reads Does) s (λ o r. record { read = Err o; is_read = r; answer = refl })

  -- a command that does this with what its files contain
  pub given_answer : (x : X) (r : Result OutcomeValue Stop) → Reads (Ok x) → Allows (Does x) r → Allows (ReadThen Reads Does) r
  given_answer x r is = allows_weaker (Does x) (ReadThen Reads Does) r (λ o d. record { read = Ok x; is_read = is; answer = d })

  -- a command that refuses what its files contain
  pub given_stop : (x : X) (s : Stop) → Reads (Ok x) → EndsBy (Does x) s → EndsBy (ReadThen Reads Does) s
  given_stop x s is = ends_weaker (Does x) (ReadThen Reads Does) s (λ o d. record { read = Ok x; is_read = is; answer = d })

  module _ (reading : IsReading Reads) where
    -- ---- status and writes

    sound_by : (own : Status → Bool) → own Malformed ≡ true → ((x : X) (o : Outcome) → Does x o → IsSound own o) → (r : Result X Outcome) (o : Outcome) → AreRefused r → DoneWith Does r o → IsSound own o
    sound_by own refuses each (Ok x) o u d = each x o d
    sound_by own refuses each (Err e) o u d = subst (IsSound own) (sym d) (sound_refusal own e refuses u)

    pub sound_answer : (own : Status → Bool) → own Malformed ≡ true → ((x : X) (o : Outcome) → Does x o → IsSound own o) → (o : Outcome) → ReadThen Reads Does o → IsSound own o
    sound_answer own refuses each o a = sound_by own refuses each a.read o (reading.refused a.read a.is_read) a.answer

    quiet_by : ((x : X) (o : Outcome) → Does x o → o.writes ≡ []) → (r : Result X Outcome) (o : Outcome) → AreRefused r → DoneWith Does r o → o.writes ≡ []
    quiet_by each (Ok x) o u d = each x o d
    quiet_by each (Err e) o u d = ap (λ z. z.writes) d ∙ u.quiet

    pub quiet_answer : ((x : X) (o : Outcome) → Does x o → o.writes ≡ []) → (o : Outcome) → ReadThen Reads Does o → o.writes ≡ []
    quiet_answer each o a = quiet_by each a.read o (reading.refused a.read a.is_read) a.answer

    named_by : (outs : List Name) → ((x : X) (o : Outcome) → Does x o → IsNamed outs o) → (r : Result X Outcome) (o : Outcome) → AreRefused r → DoneWith Does r o → IsNamed outs o
    named_by outs each (Ok x) o u d = each x o d
    named_by outs each (Err e) o u d = inr (ap (λ z. z.writes) d ∙ u.quiet)

    pub named_answer : (outs : List Name) → ((x : X) (o : Outcome) → Does x o → IsNamed outs o) → (o : Outcome) → ReadThen Reads Does o → IsNamed outs o
    named_answer outs each o a = named_by outs each a.read o (reading.refused a.read a.is_read) a.answer

    -- a command that writes nothing where it says No
    unwritten_by : ((x : X) (o : Outcome) → Does x o → o.status ≡ No → o.writes ≡ []) → (r : Result X Outcome) (o : Outcome) → AreRefused r → DoneWith Does r o → o.status ≡ No → o.writes ≡ []
    unwritten_by each (Ok x) o u d said = each x o d said
    unwritten_by each (Err e) o u d said = ap (λ z. z.writes) d ∙ u.quiet

    pub unwritten_answer : ((x : X) (o : Outcome) → Does x o → o.status ≡ No → o.writes ≡ []) → (o : Outcome) → ReadThen Reads Does o → o.status ≡ No → o.writes ≡ []
    unwritten_answer each o a = unwritten_by each a.read o (reading.refused a.read a.is_read) a.answer

    -- ---- two outcomes

    same_by : ((x : X) (a b : Outcome) → Does x a → Does x b → a.status ≡ b.status) → (r : Result X Outcome) (a b : Outcome) → DoneWith Does r a → DoneWith Does r b → a.status ≡ b.status
    same_by each (Ok x) a b p q = each x a b p q
    same_by each (Err e) a b p q = ap (λ z. z.status) (p ∙ sym q)

    same_alike : ((x : X) (a b : Outcome) → Does x a → Does x b → a.status ≡ b.status) → (r s : Result X Outcome) (a b : Outcome) → AreRefused r → AreRefused s → IsAlike r s
        → DoneWith Does r a → DoneWith Does s b → a.status ≡ b.status
    same_alike each r s a b u v (equal e) p q = same_by each s a b (subst (λ z. DoneWith Does z a) e p) q
    same_alike each r s a b u v (refusals o t d e) p q =
        let first : IsRefusal o = subst AreRefused d u in
        let second : IsRefusal t = subst AreRefused e v in
        let mine : a ≡ o = subst (λ z. DoneWith Does z a) d p in
        let other : b ≡ t = subst (λ z. DoneWith Does z b) e q in
        ap (λ z. z.status) mine ∙ first.status ∙ sym second.status ∙ sym (ap (λ z. z.status) other)

    pub same_answer : ((x : X) (a b : Outcome) → Does x a → Does x b → a.status ≡ b.status) → (a b : Outcome) → ReadThen Reads Does a → ReadThen Reads Does b → a.status ≡ b.status
    same_answer each a b p q =
        same_alike each p.read q.read a b (reading.refused p.read p.is_read) (reading.refused q.read q.is_read) (reading.alike p.read q.read p.is_read q.is_read) p.answer q.answer

    -- ---- what is accepted

    -- of files that can contain nothing else
    pub done_answer : (x : X) → ((r : Result X Outcome) → Reads r → r ≡ Ok x) → (o : Outcome) → ReadThen Reads Does o → Does x o
    done_answer x only o a = subst (λ z. DoneWith Does z o) (only a.read a.is_read) a.answer

    -- ---- what there is

    some_by : ((x : X) → Reads (Ok x) → (o : Outcome) × Does x o) → (r : Result X Outcome) → Reads r → (o : Outcome) × DoneWith Does r o
    some_by each (Ok x) is = each x is
    some_by each (Err e) is = (e, refl)

    pub some_answer : ((x : X) → Reads (Ok x) → (o : Outcome) × Does x o) → (o : Outcome) × ReadThen Reads Does o
    some_answer each =
        let (r, is) = reading.some in
        let (o, d) = some_by each r is in
        (o, record { read = r; is_read = is; answer = d })

    -- ---- what is left

    left_by : (L : Type 0) (o : Outcome) → ((x : X) → Reads (Ok x) → Does x o → L) → (r : Result X Outcome) → Reads r → AreRefused r → DoneWith Does r o → (o.status ≡ Malformed → ⊥) → L
    left_by L o each (Ok x) is u d other = each x is d
    left_by L o each (Err e) is u d other = absurd (other (ap (λ z. z.status) d ∙ u.status))

    -- where the outcome is no refusal, the files were read
    pub left_answer : (L : Type 0) (o : Outcome) → ((x : X) → Reads (Ok x) → Does x o → L) → ReadThen Reads Does o → (o.status ≡ Malformed → ⊥) → L
    left_answer L o each a other = left_by L o each a.read a.is_read (reading.refused a.read a.is_read) a.answer other

    writes_by : (W : List File → Type 0) → W [] → (o : Outcome) → ((x : X) → Reads (Ok x) → Does x o → W o.writes) → (r : Result X Outcome) → Reads r → AreRefused r → DoneWith Does r o → W o.writes
    writes_by W none o each (Ok x) is u d = each x is d
    writes_by W none o each (Err e) is u d = subst W (sym (ap (λ z. z.writes) d ∙ u.quiet)) none

    -- what is written has a property that nothing has, where that of what the files contain has
    pub writes_answer : (W : List File → Type 0) → W [] → (o : Outcome) → ((x : X) → Reads (Ok x) → Does x o → W o.writes) → ReadThen Reads Does o → W o.writes
    writes_answer W none o each a = writes_by W none o each a.read a.is_read (reading.refused a.read a.is_read) a.answer
