-- Going along a path.
use Rattle.std.proofs.Common.{◌≡◌, ℕ, suc, ◌+◌, ◌<◌, ◌≤◌, cond, List, [], ◌∷◌, ◌++◌, length, get_or, take, drop, Option, Some, None, refl, sym, ap, ◌∙◌, arith, append_assoc}
use Rattle.std.proofs.lemmas.List.{take_more, drop_more, take-append-drop}
use Rattle.cg_model.specs.Array.{Arch}
use Rattle.cg_model.specs.Mapping.{Position, positions_on, positions_after}
use Rattle.cg_congestion.specs.Claims.{same, uses}
use Rattle.cg_congestion.specs.Along.{arrives, positions_from}
use Rattle.cg_congestion.proofs.Uses.{uses_cons, uses_append, same_refl}

length_after : (A : Arch) (u q t : ℕ) (path : List ℕ) → length (positions_after A u q t path) ≡ length path
length_after A u q t [] = refl
length_after A u q t (r ∷ path) = ap suc (length_after A u r (arrives A (Some q) t r) path)

pub length_on : (A : Arch) (u t : ℕ) (path : List ℕ) → length (positions_on A u t path) ≡ length path
length_on A u t [] = refl
length_on A u t (r ∷ path) = ap suc (length_after A u r t path)

-- the position at which a value comes to r
abbrev pub next : Arch → ℕ → Option ℕ → ℕ → ℕ → Position
next A u from t r = record { source = u; resource = r; time = arrives A from t r; from = from }

from_cons : (A : Arch) (u : ℕ) (from : Option ℕ) (t r : ℕ) (path : List ℕ) → positions_from A u from t (r ∷ path) ≡ next A u from t r ∷ positions_from A u (Some r) (arrives A from t r) path
from_cons A u None t r path = refl
from_cons A u (Some q) t r path = refl

-- after i resources of the path the value comes from there at that time
pub record IsAlong (A : Arch) (u start : ℕ) (path : List ℕ) (i : ℕ) (from : Option ℕ) (time : ℕ) : Type 0 where
  pub along : (rest : List ℕ) → positions_on A u start (take i path ++ rest) ≡ positions_on A u start (take i path) ++ positions_from A u from time rest
  pub early : time ≤ start + i

pub begins : (A : Arch) (u start : ℕ) (path : List ℕ) → IsAlong A u start path 0 None start
begins A u start path = record { along = λ rest. refl; early = omega arith }

-- the positions so far, with the next
pub on_next : (A : Arch) (u start : ℕ) (path : List ℕ) (i : ℕ) (from : Option ℕ) (time : ℕ) → i < length path → IsAlong A u start path i from time →
    positions_on A u start (take (i + 1) path) ≡ positions_on A u start (take i path) ++ next A u from time (get_or path i 0) ∷ []
on_next A u start path i from time l along =
    ap (positions_on A u start) (take_more path i 0 l) ∙ along.along (get_or path i 0 ∷ []) ∙ ap (λ z. positions_on A u start (take i path) ++ z) (from_cons A u from time (get_or path i 0) [])

pub goes_on : (A : Arch) (u start : ℕ) (path : List ℕ) (i : ℕ) (from : Option ℕ) (time t : ℕ) → i < length path → t ≡ arrives A from time (get_or path i 0) → t ≤ time + 1 →
    IsAlong A u start path i from time → IsAlong A u start path (i + 1) (Some (get_or path i 0)) t
goes_on A u start path i from time t l e near along =
    let r : ℕ = get_or path i 0 in
    let p = next A u from time r in
    let early = along.early in
    record {
      along = λ rest.
          ap (λ z. positions_on A u start (z ++ rest)) (take_more path i 0 l)
          ∙ ap (positions_on A u start) (append_assoc (take i path) (r ∷ []) rest)
          ∙ along.along (r ∷ rest)
          ∙ ap (λ z. positions_on A u start (take i path) ++ z) (from_cons A u from time r rest)
          ∙ sym (append_assoc (positions_on A u start (take i path)) (p ∷ []) (positions_from A u (Some r) (arrives A from time r) rest))
          ∙ ap (λ z. z ++ positions_from A u (Some r) (arrives A from time r) rest) (sym (on_next A u start path i from time l along))
          ∙ ap (λ z. positions_on A u start (take (i + 1) path) ++ positions_from A u (Some r) z rest) (sym e);
      early = omega (arith, early, near);
    }

-- the positions of the path, with the next after those so far
pub on_whole : (A : Arch) (u start : ℕ) (path : List ℕ) (i : ℕ) (from : Option ℕ) (time : ℕ) → i < length path → IsAlong A u start path i from time →
    positions_on A u start path ≡ positions_on A u start (take i path) ++ next A u from time (get_or path i 0) ∷ positions_from A u (Some (get_or path i 0)) (arrives A from time (get_or path i 0)) (drop (i + 1) path)
on_whole A u start path i from time l along =
    ap (positions_on A u start) (sym (take-append-drop i path)) ∙ along.along (drop i path)
    ∙ ap (λ z. positions_on A u start (take i path) ++ z) (ap (positions_from A u from time) (drop_more path i 0 l) ∙ from_cons A u from time (get_or path i 0) (drop (i + 1) path))

-- where all positions of the path are held, and those so far were taken, the next is held
pub held_next : (A : Arch) (u start : ℕ) (path : List ℕ) (i : ℕ) (from : Option ℕ) (time : ℕ) (now old : List Position) → i < length path → IsAlong A u start path i from time →
    ((p : Position) → uses old p ≡ uses now p + uses (positions_on A u start (take i path)) p) → ((p : Position) → uses (positions_on A u start path) p ≤ uses old p) →
    0 < uses now (next A u from time (get_or path i 0))
held_next A u start path i from time now old l along taken held =
    let r : ℕ = get_or path i 0 in
    let p = next A u from time r in
    let rest = positions_from A u (Some r) (arrives A from time r) (drop (i + 1) path) in
    let a = taken p in
    let b = held p in
    let c : uses (positions_on A u start path) p ≡ uses (positions_on A u start (take i path)) p + uses (p ∷ rest) p =
    ap (λ z. uses z p) (on_whole A u start path i from time l along) ∙ uses_append (positions_on A u start (take i path)) (p ∷ rest) p in
    let d = uses_cons p rest p ∙ ap (λ z. cond z 1 0 + uses rest p) (same_refl p) in
    omega (arith, a, b, c, d)

-- the uses so far, with the next
pub uses_next : (A : Arch) (u start : ℕ) (path : List ℕ) (i : ℕ) (from : Option ℕ) (time : ℕ) → i < length path → IsAlong A u start path i from time → (p : Position) →
    uses (positions_on A u start (take (i + 1) path)) p ≡ uses (positions_on A u start (take i path)) p + cond (same p (next A u from time (get_or path i 0))) 1 0
uses_next A u start path i from time l along p =
    let q = next A u from time (get_or path i 0) in
    let a = ap (λ z. uses z p) (on_next A u start path i from time l along) ∙ uses_append (positions_on A u start (take i path)) (q ∷ []) p in
    let b = uses_cons q [] p in
    omega (arith, a, b)
