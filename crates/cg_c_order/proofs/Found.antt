-- The first item that passes a test.
use Rattle.std.proofs.Common.{◌≡◌, ℕ, zero, suc, ◌<◌, Bool, true, false, List, [], ◌∷◌, length, refl, arith, take, get_or, cond}
use Rattle.std.specs.Prelude.{None, Option, Some, find}

found_first : {X : Type 0} (b : Bool) (x : X) (rest : Option X) → cond b (Some x) rest ≡ None → b ≡ false
found_first true x rest e = absurd (cc)
found_first false x rest e = refl

pub found_at : {X : Type 0} (p : X → Bool) (xs : List X) (i : ℕ) (d : X) → i < length xs → find p (take i xs) ≡ None → p (get_or xs i d) ≡ true → find p xs ≡ Some (get_or xs i d)
found_at p [] i d l e t = absurd (omega arith)
found_at p (x ∷ xs) zero d l e t = rw t refl
found_at p (x ∷ xs) (suc i) d l e t =
    let no_x : p x ≡ false = found_first (p x) x (find p (take i xs)) e in
    let e' : find p (take i xs) ≡ None = rw no_x at e in
    rw no_x (found_at p xs i d (omega arith) e' t)

pub found_more : {X : Type 0} (p : X → Bool) (xs : List X) (i : ℕ) (d : X) → i < length xs → find p (take i xs) ≡ None → p (get_or xs i d) ≡ false → find p (take (suc i) xs) ≡ None
found_more p [] i d l e t = refl
found_more p (x ∷ xs) zero d l e t = rw t refl
found_more p (x ∷ xs) (suc i) d l e t =
    let no_x : p x ≡ false = found_first (p x) x (find p (take i xs)) e in
    let e' : find p (take i xs) ≡ None = rw no_x at e in
    rw no_x (found_more p xs i d (omega arith) e' t)
