-- Counting the positions of a plain table.
use Rattle.std.proofs.Common.{◌≡◌, ℕ, zero, suc, ◌+◌, ◌*◌, ◌/◌, ◌%◌, ◌<◌, ◌≤◌, Bool, true, false, cond, eqb, List, [], ◌∷◌, ◌++◌, length, get_or, map, drop, refl, sym, ap, ◌∙◌, arith, ⊎_elim}
use Rattle.std.specs.Prelude.{◌^◌, ◌&&◌, ◌||◌, not, filter, sum_by, HoldsAt, Result, Ok, Err, OnOk, OnErr}
use Rattle.std.specs.List.{list_any, range_with_len, swap_remove}
use Rattle.std.proofs.lemmas.Bool.{cases_Bool, and_parts, eqb-true, eq-eqb, ne_eqb}
use Rattle.std.proofs.lemmas.Nat.{div-add-mod'}
use Rattle.std.proofs.lemmas.List.{drop_more, length-map, length-append}
use Rattle.std.proofs.lemmas.List.Sums.{sum_by-cons, sum_by-swap_remove}
use Rattle.std.proofs.Math.Nat.{mul-le-mul_right}
use Rattle.cg_model.specs.Array.{Arch}
use Rattle.cg_model.specs.Mapping.{Position}
use Rattle.cg_mrrg.specs.declared.links.MNode.{MNode}
use Rattle.cg_mrrg.specs.Graph.{IsNode}
use Rattle.cg_mrrg.specs.Nodes.{node_at}
use Rattle.cg_congestion.specs.declared.laws.PlainPosition.{PlainPosition}
use Rattle.cg_congestion.specs.Claims.{same, uses, is_at, claims_at, excess_at, excess_below}
use Rattle.cg_congestion.specs.Plain.{plain, plains, plain_table, IsPlain}
use Rattle.cg_congestion.specs.Table.{toll}
use Rattle.cg_congestion.proofs.Uses.{same_is}
use Rattle.cg_congestion.proofs.Nodes.{place_of}
use Rattle.cg_congestion.proofs.Tables.{slot_is}
use Rattle.cg_model.proofs.Ranges.{sum_zero}

pub any_map : {X Y : Type 0} (q : Y → Bool) (f : X → Y) (xs : List X) → list_any (λ x. q (f x)) xs ≡ list_any q (map f xs)
any_map q f [] = refl
any_map q f (x ∷ xs) = ap (λ b. q (f x) || b) (any_map q f xs)

sum_map : {X Y : Type 0} (g : Y → ℕ) (f : X → Y) (xs : List X) → sum_by (λ x. g (f x)) xs ≡ sum_by g (map f xs)
sum_map g f [] = refl
sum_map g f (x ∷ xs) = let a = sum_by-cons (λ x. g (f x)) x xs in let b = sum_by-cons g (f x) (map f xs) in let c = sum_map g f xs in omega (arith, a, b, c)

-- a position was taken
pub uses_taken : (ps : List PlainPosition) (i : ℕ) (d p : PlainPosition) → i < length ps → HoldsAt (λ q. same (plain p) (plain q) ≡ true) ps i → (q : Position) →
    uses (plains ps) q ≡ uses (plains (swap_remove ps i d)) q + cond (same q (plain p)) 1 0
uses_taken ps i d p l h q =
    let f : PlainPosition → ℕ = λ x. cond (same q (plain x)) 1 0 in
    let a = sum_map (λ x. cond (same q x) 1 0) plain ps in
    let b = sum_map (λ x. cond (same q x) 1 0) plain (swap_remove ps i d) in
    let c = sum_by-swap_remove f ps i d l in
    let e = ap (same q) (same_is (plain p) (plain (get_or ps i d)) (h d)) in
    let w = ap (λ b. cond b 1 0 + uses [] q) e in
    omega (arith, a, b, c, w)

-- the same claims are at the same node
same_at : (ii : ℕ) (n : MNode) (p q : Position) → same p q ≡ true → is_at ii n p ≡ is_at ii n q
same_at ii n p q h = ap (is_at ii n) (same_is p q h)

module _ (ii : ℕ) (n : MNode) where
  any_by : (p q : Position) (qs : List Position) → is_at ii n p ≡ true → list_any (same p) (filter (is_at ii n) qs) ≡ list_any (same p) qs →
      (b : Bool) → is_at ii n q ≡ b → list_any (same p) (filter (is_at ii n) (q ∷ qs)) ≡ list_any (same p) (q ∷ qs)
  any_by p q qs h rest true e = rw e (ap (λ x. same p q || x) rest)
  any_by p q qs h rest false e =
      ⊎_elim (λ (a : same p q ≡ true). let z = same_at ii n p q a in absurd (cc))
      (λ (a : same p q ≡ false). rw (e, a) rest)
      (cases_Bool (same p q))

  any_at : (p : Position) (qs : List Position) → is_at ii n p ≡ true → list_any (same p) (filter (is_at ii n) qs) ≡ list_any (same p) qs
  any_at p [] h = refl
  any_at p (q ∷ qs) h = any_by p q qs h (any_at p qs h) (is_at ii n q) refl

  pub claims_cons : (p : Position) (ps : List Position) →
      claims_at ii (p ∷ ps) n ≡ cond (is_at ii n p && not (list_any (same p) ps)) (suc (claims_at ii ps n)) (claims_at ii ps n)
  unfolding claims_at
  claims_cons p ps =
      ⊎_elim
      (λ (a : is_at ii n p ≡ true).
      let z = any_at p ps a in
      ⊎_elim (λ (b : list_any (same p) ps ≡ true). let y = z ∙ b in rw (a, y, b) refl) (λ (b : list_any (same p) ps ≡ false). let y = z ∙ b in rw (a, y, b) refl)
      (cases_Bool (list_any (same p) ps)))
      (λ (a : is_at ii n p ≡ false). rw a refl)
      (cases_Bool (is_at ii n p))

  pub claims_none : claims_at ii [] n ≡ 0
  unfolding claims_at
  claims_none = refl

  pub claims_step : (p : Position) (ps : List Position) → claims_at ii (p ∷ ps) n ≤ claims_at ii ps n + cond (is_at ii n p) 1 0
  claims_step p ps =
      let c = claims_cons p ps in
      ⊎_elim
      (λ (h : is_at ii n p ≡ true).
      ⊎_elim (λ (g : list_any (same p) ps ≡ true). let d : claims_at ii (p ∷ ps) n ≡ claims_at ii ps n = rw (h, g) at c in rw h (omega (arith, d)))
      (λ (g : list_any (same p) ps ≡ false). let d : claims_at ii (p ∷ ps) n ≡ suc (claims_at ii ps n) = rw (h, g) at c in rw h (omega (arith, d)))
      (cases_Bool (list_any (same p) ps)))
      (λ (h : is_at ii n p ≡ false). let d : claims_at ii (p ∷ ps) n ≡ claims_at ii ps n = rw h at c in rw h (omega (arith, d)))
      (cases_Bool (is_at ii n p))

  pub claims_most : (ps : List Position) → claims_at ii ps n ≤ length ps
  claims_most [] = let z = claims_none in omega (arith, z)
  claims_most (p ∷ ps) =
      let a = claims_step p ps in
      let b = claims_most ps in
      ⊎_elim (λ (h : is_at ii n p ≡ true). let c = ap (λ b. claims_at ii ps n + cond b 1 0) h in omega (arith, a, b, c))
      (λ (h : is_at ii n p ≡ false). let c = ap (λ b. claims_at ii ps n + cond b 1 0) h in omega (arith, a, b, c))
      (cases_Bool (is_at ii n p))

  -- one position more of a plain list
  pub claims_more : (ps : List PlainPosition) (i : ℕ) (d : PlainPosition) (b : Bool) → i < length ps →
      b ≡ (is_at ii n (plain (get_or ps i d)) && not (list_any (λ q. same (plain (get_or ps i d)) (plain q)) (drop (i + 1) ps))) →
      claims_at ii (plains (drop i ps)) n ≡ cond b (suc (claims_at ii (plains (drop (i + 1) ps)) n)) (claims_at ii (plains (drop (i + 1) ps)) n)
  claims_more ps i d b h e =
      ap (λ (l : List PlainPosition). claims_at ii (plains l) n) (drop_more ps i d h) ∙ claims_cons (plain (get_or ps i d)) (plains (drop (i + 1) ps)) ∙
      ap (λ x. cond x (suc (claims_at ii (plains (drop (i + 1) ps)) n)) (claims_at ii (plains (drop (i + 1) ps)) n))
      (ap (λ b. is_at ii n (plain (get_or ps i d)) && not b) (sym (any_map (same (plain (get_or ps i d))) plain (drop (i + 1) ps))) ∙ sym e)

sum_le : (f g : ℕ → ℕ) (xs : List ℕ) → ((i : ℕ) → f i ≤ g i) → sum_by f xs ≤ sum_by g xs
sum_le f g [] h = omega arith
sum_le f g (x ∷ xs) h = let a = sum_by-cons f x xs in let b = sum_by-cons g x xs in let c = sum_le f g xs h in let d = h x in omega (arith, a, b, c, d)

sum_add : (f g : ℕ → ℕ) (xs : List ℕ) → sum_by (λ i. f i + g i) xs ≡ sum_by f xs + sum_by g xs
sum_add f g [] = refl
sum_add f g (x ∷ xs) = let a = sum_by-cons f x xs in let b = sum_by-cons g x xs in let e = sum_by-cons (λ i. f i + g i) x xs in let c = sum_add f g xs in omega (arith, a, b, c, e)

sum_suc : (f : ℕ → ℕ) (a n : ℕ) → sum_by f (range_with_len a (suc n)) ≡ sum_by f (range_with_len a n) + f (a + n)
sum_suc f a zero = let z : a + 0 ≡ a = omega arith in rw z refl
sum_suc f a (suc n) =
    let z : (a + 1) + n ≡ a + suc n = omega arith in
    let c = sum_by-cons f a (range_with_len (a + 1) (suc n)) in
    let d = sum_by-cons f a (range_with_len (a + 1) n) in
    let e = sum_suc f (a + 1) n ∙ ap (λ i. sum_by f (range_with_len (a + 1) n) + f i) z in
    c ∙ ap (λ y. f a + y) e ∙ omega (arith, d)

none_below : (x a n : ℕ) → x < a → sum_by (λ i. cond (eqb x i) 1 0) (range_with_len a n) ≡ 0
none_below x a zero l = refl
none_below x a (suc n) l =
    let c = sum_by-cons (λ i. cond (eqb x i) 1 0) a (range_with_len (a + 1) n) ∙ ap (λ b. cond b 1 0 + sum_by (λ i. cond (eqb x i) 1 0) (range_with_len (a + 1) n)) (ne_eqb x a (λ e. omega arith)) in
    let r = none_below x (a + 1) n (omega arith) in
    omega (arith, c, r)

one_at_most : (x a n : ℕ) → sum_by (λ i. cond (eqb x i) 1 0) (range_with_len a n) ≤ 1
one_at_most x a zero = omega arith
one_at_most x a (suc n) =
    let c = sum_by-cons (λ i. cond (eqb x i) 1 0) a (range_with_len (a + 1) n) in
    ⊎_elim
    (λ (h : eqb x a ≡ true).
    let r = none_below x (a + 1) n (let e = eqb-true x a h in omega (arith, e)) in
    let d = c ∙ ap (λ b. cond b 1 0 + sum_by (λ i. cond (eqb x i) 1 0) (range_with_len (a + 1) n)) h in omega (arith, d, r))
    (λ (h : eqb x a ≡ false).
    let r = one_at_most x (a + 1) n in
    let d = c ∙ ap (λ b. cond b 1 0 + sum_by (λ i. cond (eqb x i) 1 0) (range_with_len (a + 1) n)) h in omega (arith, d, r))
    (cases_Bool (eqb x a))

-- one position more is at one node at most
at_place : (ii : ℕ) (p : Position) (j : ℕ) → cond (is_at ii (node_at ii j) p) 1 0 ≤ cond (eqb (place_of ii p) j) 1 0
at_place ii p j =
    ⊎_elim
    (λ (h : is_at ii (node_at ii j) p ≡ true).
    let a = and_parts (eqb p.resource (j / ii)) (eqb (p.time % ii) (j % ii)) h in
    let e : place_of ii p ≡ j = ap (λ z. z * ii + p.time % ii) (eqb-true p.resource (j / ii) a.0) ∙ ap (λ z. j / ii * ii + z) (eqb-true (p.time % ii) (j % ii) a.1) ∙ div-add-mod' j ii in
    let b = eq-eqb (place_of ii p) j e in
    rw (h, b) (omega arith))
    (λ (h : is_at ii (node_at ii j) p ≡ false). rw h (omega arith))
    (cases_Bool (is_at ii (node_at ii j) p))

all_claims_le : (ii k : ℕ) (ps : List Position) → sum_by (λ j. claims_at ii ps (node_at ii j)) (range_with_len 0 k) ≤ length ps
all_claims_le ii k [] = let z = sum_zero (λ j. claims_at ii [] (node_at ii j)) (range_with_len 0 k) (λ j. claims_none ii (node_at ii j)) in omega (arith, z)
all_claims_le ii k (p ∷ ps) =
    let a = sum_le (λ j. claims_at ii (p ∷ ps) (node_at ii j)) (λ j. claims_at ii ps (node_at ii j) + cond (is_at ii (node_at ii j) p) 1 0) (range_with_len 0 k) (λ j. claims_step ii (node_at ii j) p ps) in
    let b = sum_add (λ j. claims_at ii ps (node_at ii j)) (λ j. cond (is_at ii (node_at ii j) p) 1 0) (range_with_len 0 k) in
    let c = sum_le (λ j. cond (is_at ii (node_at ii j) p) 1 0) (λ j. cond (eqb (place_of ii p) j) 1 0) (range_with_len 0 k) (at_place ii p) in
    let d = one_at_most (place_of ii p) 0 k in
    let e = all_claims_le ii k ps in
    omega (arith, a, b, c, d, e)

-- there is at most as much excess as there are positions
pub excess_le : (ii k : ℕ) (ps : List Position) → excess_below ii ps k ≤ length ps
excess_le ii k ps =
    let a = sum_le (λ j. excess_at ii ps (node_at ii j)) (λ j. claims_at ii ps (node_at ii j)) (range_with_len 0 k) (λ j. omega arith) in
    let b = all_claims_le ii k ps in
    omega (arith, a, b)

-- by how a call ended
pub either : {T E X : Type 0} (r : Result T E) (P Q : Type 0) → OnOk r P → OnErr r Q → (P → X) → (Q → X) → X
either (Ok x) P Q a b f g = f a
either (Err e) P Q a b f g = g b

-- positions were added or not
pub plain_kept : (A : Arch) (ii : ℕ) (few many : List PlainPosition) (history : List ℕ) (more : List Position) {T E : Type 0} (r : Result T E) → IsPlain A ii few history → length few + length more ≤ 2 ^ 48 →
    OnOk r (plains many ≡ plains few ++ more) → OnErr r (many ≡ few) → IsPlain A ii many history
plain_kept A ii few many history more r kept room a b =
    record {
      some = kept.some;
      few = kept.few;
      resources = kept.resources;
      histories = kept.histories;
      room =
          either r (plains many ≡ plains few ++ more) (many ≡ few) a b
          (λ e. let l = sym (length-map many plain) ∙ ap length e ∙ length-append (plains few) more in let m = length-map few plain in omega (arith, l, m, room))
          (λ e. let l = ap length e in let k = kept.room in omega (arith, l, k));
    }

pub near : (A : Arch) (ii : ℕ) (ps : List PlainPosition) (history : List ℕ) → IsPlain A ii ps history → length history ≤ 2 ^ 32 * ii
near A ii ps history kept = let h = kept.histories in let m = mul-le-mul_right ii kept.resources in omega (arith, h, m)

-- the price of a node
pub plain_toll : (A : Arch) (ii : ℕ) (ps : List PlainPosition) (history : List ℕ) (n : MNode) → IsNode (record { arch = A; interval = ii }) n →
    1 + get_or history (n.resource * ii + n.slot % ii) 0 + 8 * claims_at ii (plains ps) n ≡ toll (plain_table A ii ps history) n
unfolding toll
plain_toll A ii ps history n node = ap (λ z. 1 + get_or history (n.resource * ii + z) 0 + 8 * claims_at ii (plains ps) n) (slot_is A ii n node)
