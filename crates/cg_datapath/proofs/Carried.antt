-- Faults that are passed on.
use Rattle.std.proofs.Common.{◌≡◌, Result, Ok, Err, ap}

error_or : {X E : Type 0} → E → Result X E → E
error_or d (Ok x) = d
error_or d (Err e) = e

abbrev Fails : (X : Type 0) {E : Type 0} → E → E → Type 0
Fails X {E} f g = let a : Result X E = Err f in a ≡ Err g

-- a fault is the same in answers of any kind
pub carried : {X E : Type 0} (Y : Type 0) (f g : E) (P : Type 0) → (Fails X f g → P) × (P → Fails X f g) → (Fails Y f g → P) × (P → Fails Y f g)
unfolding error_or
carried Y f g P both = (λ e. both.0 (ap Err (ap (error_or f) e)), λ p. ap Err (ap (error_or f) (both.1 p)))
