-- Files that are parsed are read.
use Rattle.std.proofs.Common.{◌≡◌, ◌≢◌, Result, Ok, Err, refl, sym, ◌∙◌, ap, subst}
use Rattle.cg_effects.specs.Outcome.{Name, Bytes, Outcome}
use Rattle.cg_effects.specs.Refusals.{malformed_of}
use Rattle.cg_cause.specs.declared.stop.Stop.{Stop}
use Rattle.cg_cause.specs.Allowed.{EndsBy}
use Rattle.cg_cause.proofs.Allowed.{ends_weaker}
use Rattle.cg_inputs.specs.Answered.{Parsed, WithMemory}
use Rattle.cg_inputs.specs.Refused.{Tells}
use Rattle.cg_inputs.proofs.Answered.{IsReading}
use Rattle.cg_inputs.proofs.Refusals.{IsRefusal, AreRefused, IsAlike, equal, refusals}

-- ---- parsers

-- there is an answer: one content, or faults and no content
pub record IsParsing {X F : Type 0} (IsAnswer : Result X F → Type 0) : Type 0 where
  pub one : (x y : X) → IsAnswer (Ok x) → IsAnswer (Ok y) → x ≡ y
  pub apart : (x : X) (f : F) → IsAnswer (Ok x) → IsAnswer (Err f) → ⊥
  pub some : (r : Result X F) × IsAnswer r

-- a parser that is a function
pub determined : {X F : Type 0} (a : Result X F) → IsParsing (λ r. a ≡ r)
determined a = record {
  one = λ x y p q. let same : Ok x ≡ Ok y = sym p ∙ q in cc;
  apart = λ x f p q. let bad : Ok x ≡ Err f = sym p ∙ q in absurd (cc);
  some = (a, refl);
}

-- an answer other than that memory ran out
pub with_memory : {X F : Type 0} (IsAnswer : Result X F → Type 0) (memory : F) (r : Result X F) → r ≢ Err memory → IsAnswer r → WithMemory IsAnswer memory r
with_memory IsAnswer memory (Ok x) other is = is
with_memory IsAnswer memory (Err f) other is = (is, λ e. other (ap Err e))

module _ {X F : Type 0} (IsAnswer : Result X F → Type 0) (text : F → Bytes) (file : Name) where
  -- ---- readings

  module _ (parsing : IsParsing IsAnswer) where
    refused : (r : Result X Outcome) → Parsed IsAnswer text file r → AreRefused r
    refused (Ok x) p = tt
    refused (Err o) p = subst IsRefusal (sym p.2) (record { status = refl; quiet = refl })

    alike : (r s : Result X Outcome) → Parsed IsAnswer text file r → Parsed IsAnswer text file s → IsAlike r s
    alike (Ok x) (Ok y) p q = equal (ap Ok (parsing.one x y p q))
    alike (Ok x) (Err o) p q = absurd (parsing.apart x q.0 p q.1)
    alike (Err o) (Ok y) p q = absurd (parsing.apart y p.0 q p.1)
    alike (Err o) (Err t) p q = refusals o t refl refl

    some_by : (r : Result X F) → IsAnswer r → (s : Result X Outcome) × Parsed IsAnswer text file s
    some_by (Ok x) is = (Ok x, is)
    some_by (Err f) is = (Err (malformed_of file (text f)), (f, is, refl))

    pub parsed_reading : IsReading (Parsed IsAnswer text file)
    parsed_reading = record { refused = refused; alike = alike; some = some_by parsing.some.0 parsing.some.1 }

  -- ---- refusals

  -- a reader that ends where the file is refused
  pub told : (memory : F) (s : Stop) → EndsBy (Tells IsAnswer memory text file) s → EndsBy (λ o. Parsed IsAnswer text file (Err o)) s
  told memory s = ends_weaker (Tells IsAnswer memory text file) (λ o. Parsed IsAnswer text file (Err o)) s (λ o t. (t.fault, t.is_fault, t.outcome))

  pub told_other : (memory : F) (s : Stop) → EndsBy (Tells IsAnswer memory text file) s → EndsBy (λ o. Parsed (WithMemory IsAnswer memory) text file (Err o)) s
  told_other memory s = ends_weaker (Tells IsAnswer memory text file) (λ o. Parsed (WithMemory IsAnswer memory) text file (Err o)) s (λ o t. (t.fault, (t.is_fault, t.no_memory), t.outcome))
