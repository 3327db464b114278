-- Where each resource stands in the order: each at one place, and before those that it drives without
-- delay.
use Rattle.std.proofs.Common.{◌≡◌, ℕ, zero, suc, ◌<◌, ◌≤◌, eqb, nat_lt, List, [], ◌∷◌, length, get_or, take, if◌then◌else◌, refl, sym, ap, ◌∙◌, subst, arith, ⊎_elim, inr}
use Rattle.std.specs.Prelude.{Contains, map, slice_index}
use Rattle.std.specs.List.{range_with_len}
use Rattle.std.proofs.lemmas.Bool.{cases_lt, cases_eq, eq-eqb, ne_eqb, lt-ltb, le-ltb}
use Rattle.std.proofs.lemmas.List.{get_or-take, get_or_default, get_or_past, length-take}
use Rattle.std.proofs.lemmas.List.FromFn.{get_or-map-range_with_len, length-map-range_with_len}
use Rattle.cg_model.specs.declared.array.Resource.{Resource}
use Rattle.cg_model.specs.declared.array.Kind.TheVariants.{Wire}
use Rattle.cg_levelize.specs.Topological.{Passes}
use Rattle.cg_route.specs.Layers.{Sought, IsSearch, size, rank, place_of, Drives, IsOpen, drivers, delay_into}
use Rattle.cg_model.proofs.Ranges.{pigeons}

-- the first place of what stands at place i
place_first : (xs : List ℕ) (i q : ℕ) → i < length xs → get_or xs i 0 ≡ q → (place_of q xs ≤ i) × (get_or xs (place_of q xs) 0 ≡ q)
unfolding place_of
place_first [] i q h e = absurd (omega arith)
place_first (x ∷ xs) zero q h e = rw (eq-eqb x q e) (omega arith, e)
place_first (x ∷ xs) (suc i) q h e =
    let p = place_first xs i q (omega arith) e in
    ⊎_elim
    (λ (a : x ≡ q). rw (eq-eqb x q a) (omega arith, a))
    (λ (a : x ≡ q → ⊥). rw (ne_eqb x q a) (omega (arith, p.0), p.1))
    (cases_eq x q)

place_in : (xs : List ℕ) (q : ℕ) → Contains xs q → (place_of q xs < length xs) × (get_or xs (place_of q xs) 0 ≡ q)
place_in xs q m =
    let p = place_first xs m.0 q m.1 (get_or_default xs m.0 0 q m.1 ∙ m.2) in
    let inside = m.1 in
    (omega (arith, p.0, inside), p.1)

place_among : (xs : List ℕ) (k q : ℕ) → k ≤ length xs → Contains (take k xs) q → place_of q xs < k
place_among xs k q le m =
    let inside : m.0 < k = omega (arith, m.1, length-take k xs) in
    let at : get_or xs m.0 0 ≡ q = get_or_default xs m.0 0 q (omega arith) ∙ sym (get_or-take k xs m.0 q inside) ∙ m.2 in
    let p = place_first xs m.0 q (omega arith) at in
    omega (arith, p.0, inside)

-- what has a driver is a resource
pub driven : (S : Sought) (q r : ℕ) → Drives S q r → r < size S
driven S q r m =
    ⊎_elim (λ a. a)
    (λ (a : size S ≤ r).
    let e : drivers S r ≡ [] = ap (λ (x : Resource). x.drivers) (get_or_past S.table.arch.resources r (record { name = []; kind = Wire; drivers = [] }) a) in
    let w : m.0 < 0 = subst (λ (l : List ℕ). m.0 < length l) e m.1 in
    absurd (omega arith))
    (cases_lt r (size S))

-- and a path may meet it
pub opened : (S : Sought) (q r : ℕ) → Drives S q r → IsOpen S r
opened S q r m = (driven S q r m, inr (let l = m.1 in omega arith))

-- each resource has one place
pub record IsRanked (S : Sought) : Type 0 where
  pub all : length S.order ≡ size S
  pub placed : (q : ℕ) → q < size S → (rank S q < size S) × (get_or S.order (rank S q) 0 ≡ q)
  pub ranks : (k : ℕ) → k < size S → rank S (get_or S.order k 0) ≡ k
  pub rises : (q r : ℕ) → Drives S q r → delay_into S r ≡ 0 → rank S q < rank S r

-- with a place more than one a resource there would be more places than resources
one_place : (n : ℕ) (order : List ℕ) (k : ℕ) → k < n → ((q : ℕ) → q < n → (place_of q order < n) × (get_or order (place_of q order) 0 ≡ q)) →
    ((q : ℕ) → q < n → place_of q order ≡ k → ⊥) → ⊥
one_place n order k l placed free =
    let f : ℕ → ℕ = λ i. if nat_lt i n then place_of i order else k in
    let ys = map f (range_with_len 0 (suc n)) in
    let long : length ys ≡ suc n = length-map-range_with_len f 0 (suc n) in
    let at : (i : ℕ) → i < suc n → slice_index ys i ≡ f i = λ i h. get_or-map-range_with_len f 0 (suc n) i i 0 h (omega arith) in
    let low : (i : ℕ) → i < n → slice_index ys i ≡ place_of i order = λ i h. at i (omega arith) ∙ ap (λ b. if b then place_of i order else k) (lt-ltb i n h) in
    let last : (i : ℕ) → i < suc n → n ≤ i → slice_index ys i ≡ k = λ i h m. at i h ∙ ap (λ b. if b then place_of i order else k) (le-ltb i n m) in
    let few = pigeons n ys
    (λ i h. ⊎_elim (λ a. let z = low i a in let p = (placed i a).0 in omega arith) (λ a. let z = last i (omega arith) a in omega arith) (cases_lt i n))
    (λ i j h m e.
    let a : i < n = omega arith in
    ⊎_elim
    (λ (b : j < n).
    let same : place_of i order ≡ place_of j order = sym (low i a) ∙ e ∙ low j b in
    let z : i ≡ j = sym (placed i a).1 ∙ ap (λ p. get_or order p 0) same ∙ (placed j b).1 in
    omega arith)
    (λ (b : n ≤ j). free i a (sym (low i a) ∙ e ∙ last j (omega arith) b))
    (cases_lt j n)) in
    omega arith

pub ranked : (S : Sought) → IsSearch S → IsRanked S
ranked S h =
    let n = size S in
    let order = S.order in
    let all : length order ≡ n = h.order.long in
    let placed : (q : ℕ) → q < n → (rank S q < n) × (get_or order (rank S q) 0 ≡ q) = λ q l. let p = place_in order q (h.order.all q l) in (omega (arith, p.0, all), p.1) in
    let ranks : (k : ℕ) → k < n → rank S (get_or order k 0) ≡ k = λ k l.
    let p = place_first order k (get_or order k 0) (omega arith) refl in
    ⊎_elim (λ e. e)
    (λ (ne : rank S (get_or order k 0) ≡ k → ⊥).
    absurd (one_place n order k l placed (λ q m e. ne (ap (λ x. rank S x) (ap (λ i. get_or order i 0) (sym e) ∙ (placed q m).1) ∙ e))))
    (cases_eq (rank S (get_or order k 0)) k) in
    record {
      all = all;
      placed = placed;
      ranks = ranks;
      rises = λ q r m z.
          let known : r < n = driven S q r m in
          let p = placed r known in
          let passes : Passes S.table.arch.resources q (get_or order (rank S r) 0) = subst (λ x. Passes S.table.arch.resources q x) (sym p.1) (record { driver = m; at_once = z }) in
          let before = h.order.rising (rank S r) q (omega (arith, p.0, all)) passes in
          place_among order (rank S r) q (omega (arith, p.0, all)) before;
    }
