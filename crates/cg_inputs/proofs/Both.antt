-- One thing is read and then, given it, another.
use Rattle.std.proofs.Common.{◌≡◌, Result, Ok, Err, refl, sym, ap, ◌∙◌, subst, inl, inr}
use Rattle.cg_effects.specs.declared.outcome.Outcome.{Outcome as OutcomeValue}
use Rattle.cg_effects.specs.Outcome.{Outcome}
use Rattle.cg_cause.specs.declared.stop.Stop.{Stop}
use Rattle.cg_cause.specs.Allowed.{Allows, EndsBy}
use Rattle.cg_cause.proofs.Allowed.{ends_weaker, allows_weaker}
use Rattle.cg_inputs.specs.Answered.{DoneWith, ReadThen, ReadBoth}
use Rattle.cg_inputs.proofs.Answered.{IsReading}
use Rattle.cg_inputs.proofs.Refusals.{AreRefused, IsAlike, equal, refusals}

-- ---- of one reading

module _ {X : Type 0} (Reads : Result X Outcome → Type 0) (reading : IsReading Reads) where
  one_of : (x : X) (r : Result X Outcome) → IsAlike (Ok x) r → r ≡ Ok x
  one_of x r (equal e) = sym e
  one_of x r (refusals o p d e) = let bad : Ok x ≡ Err o = d in absurd (cc)

  -- of files that give this content nothing else is read
  pub only : (x : X) → Reads (Ok x) → (r : Result X Outcome) → Reads r → r ≡ Ok x
  only x is r other = one_of x r (reading.alike (Ok x) r is other)

  pub one_value : (x y : X) → Reads (Ok x) → Reads (Ok y) → x ≡ y
  one_value x y a b = let same : Ok x ≡ Ok y = only y b (Ok x) a in cc

  pub never_both : (x : X) (o : Outcome) → Reads (Ok x) → Reads (Err o) → ⊥
  never_both x o a b = let bad : Err o ≡ Ok x = only x a (Err o) b in absurd (cc)

-- what is read in another form
module _ {X Y : Type 0} (Reads : Result X Outcome → Type 0) (As : Result Y Outcome → Type 0) (reading : IsReading Reads) (from : Y → X) (to : X → Y) (same : (y : Y) → to (from y) ≡ y)
    (given : (y : Y) → As (Ok y) → Reads (Ok (from y))) (gives : (x : X) → Reads (Ok x) → As (Ok (to x))) (refuses : (o : Outcome) → As (Err o) → Reads (Err o)) (refused : (o : Outcome) → Reads (Err o) → As (Err o))
  where
    refused_as : (r : Result Y Outcome) → As r → AreRefused r
    refused_as (Ok y) is = tt
    refused_as (Err o) e = reading.refused (Err o) (refuses o e)

    alike_as : (r s : Result Y Outcome) → As r → As s → IsAlike r s
    alike_as (Ok y) (Ok z) a b = equal (ap Ok (sym (same y) ∙ ap to (one_value Reads reading (from y) (from z) (given y a) (given z b)) ∙ same z))
    alike_as (Ok y) (Err o) a b = absurd (never_both Reads reading (from y) o (given y a) (refuses o b))
    alike_as (Err o) (Ok y) a b = absurd (never_both Reads reading (from y) o (given y b) (refuses o a))
    alike_as (Err o) (Err t) a b = refusals o t refl refl

    some_as : (r : Result X Outcome) → Reads r → (s : Result Y Outcome) × As s
    some_as (Ok x) is = (Ok (to x), gives x is)
    some_as (Err o) e = (Err o, refused o e)

    pub as_reading : IsReading As
    as_reading = record { refused = refused_as; alike = alike_as; some = some_as reading.some.0 reading.some.1 }

module _ {X Y : Type 0} (First : Result X Outcome → Type 0) (Next : X → Result Y Outcome → Type 0) where
  -- ---- of two

  module _ (first : IsReading First) (next : (x : X) → First (Ok x) → IsReading (Next x)) where
    refused : (r : Result (X × Y) Outcome) → ReadBoth First Next r → AreRefused r
    refused (Ok p) b = tt
    refused (Err o) (inl e) = first.refused (Err o) e
    refused (Err o) (inr b) = (next b.0 b.1).refused (Err o) b.2

    -- the second given the same first
    same_next : (x y : X) (r : Result Y Outcome) → First (Ok x) → First (Ok y) → Next x r → Next y r
    same_next x y r a b n = subst (λ z. Next z r) (one_value First first x y a b) n

    never : (p : X × Y) (o : Outcome) → ReadBoth First Next (Ok p) → ReadBoth First Next (Err o) → ⊥
    never p o g (inl e) = never_both First first p.0 o g.0 e
    never p o g (inr b) = never_both (Next p.0) (next p.0 g.0) p.1 o g.1 (same_next b.0 p.0 (Err o) b.1 g.0 b.2)

    alike : (r s : Result (X × Y) Outcome) → ReadBoth First Next r → ReadBoth First Next s → IsAlike r s
    alike (Ok (x, y)) (Ok (u, v)) a b =
        let left : x ≡ u = one_value First first x u a.0 b.0 in
        let right : y ≡ v = one_value (Next u) (next u b.0) y v (same_next x u (Ok y) a.0 b.0 a.1) b.1 in
        equal (ap (λ z. Ok (z, y)) left ∙ ap (λ z. Ok (u, z)) right)
    alike (Ok p) (Err o) a b = absurd (never p o a b)
    alike (Err o) (Ok p) a b = absurd (never p o b a)
    alike (Err o) (Err t) a b = refusals o t refl refl

    some_next : (x : X) → First (Ok x) → (r : Result Y Outcome) → Next x r → (s : Result (X × Y) Outcome) × ReadBoth First Next s
    some_next x is (Ok y) n = (Ok (x, y), (is, n))
    some_next x is (Err o) n = (Err o, inr (x, is, n))

    some_by : (r : Result X Outcome) → First r → (s : Result (X × Y) Outcome) × ReadBoth First Next s
    some_by (Ok x) is = let n = (next x is).some in some_next x is n.0 n.1
    some_by (Err o) e = (Err o, inl e)

    pub both_reading : IsReading (ReadBoth First Next)
    both_reading = record { refused = refused; alike = alike; some = some_by first.some.0 first.some.1 }

  -- ---- what the program reads

  -- a reader that ends where the first, or the second, is refused
  pub first_refused : (s : Stop) → EndsBy (λ o. First (Err o)) s → EndsBy (λ o. ReadBoth First Next (Err o)) s
  first_refused s = ends_weaker (λ o. First (Err o)) (λ o. ReadBoth First Next (Err o)) s (λ o e. inl e)

  pub next_refused : (x : X) (s : Stop) → First (Ok x) → EndsBy (λ o. Next x (Err o)) s → EndsBy (λ o. ReadBoth First Next (Err o)) s
  next_refused x s is = ends_weaker (λ o. Next x (Err o)) (λ o. ReadBoth First Next (Err o)) s (λ o e. inr (x, is, e))

  -- ---- what the program does

  module _ (Does : X × Y → Outcome → Type 0) (x : X) (is : First (Ok x)) where
    then_by : (o : Outcome) (r : Result Y Outcome) → Next x r → DoneWith (λ y. Does (x, y)) r o → ReadThen (ReadBoth First Next) Does o
    then_by o (Ok y) n d = record { read = Ok (x, y); is_read = (is, n); answer = d }
    then_by o (Err e) n d = record { read = Err e; is_read = inr (x, is, n); answer = d }

    -- a command that reads the second and does this with both
    pub next_answer : (r : Result OutcomeValue Stop) → Allows (ReadThen (Next x) (λ y. Does (x, y))) r → Allows (ReadThen (ReadBoth First Next) Does) r
    next_answer r = allows_weaker (ReadThen (Next x) (λ y. Does (x, y))) (ReadThen (ReadBoth First Next) Does) r (λ o a. then_by o a.read a.is_read a.answer)
