-- What is asked of a table depends on the uses alone, and on no order of adding; and where a node has no excess its
-- positions are the same.
use Rattle.std.proofs.Common.{◌≡◌, ℕ, ◌+◌, ◌-◌, ◌*◌, ◌<◌, Bool, true, false, if◌then◌else◌, List, [], ◌∷◌, length, get_or, sym, ap, ◌∙◌, arith, refl, ⊎_elim}
use Rattle.std.specs.Prelude.{Contains, sum_by}
use Rattle.std.specs.List.{list_any, range_with_len}
use Rattle.std.proofs.lemmas.Bool.{cases_Bool}
use Rattle.std.proofs.lemmas.List.Sums.{sum_by-cons, get_or-le-sum_by}
use Rattle.std.proofs.lemmas.List.FromFn.{length-range_with_len, get_or-range_with_len}
use Rattle.cg_model.specs.Array.{Arch}
use Rattle.cg_model.specs.Mapping.{Position}
use Rattle.cg_mrrg.specs.declared.links.MNode.{MNode}
use Rattle.cg_mrrg.specs.Nodes.{node_at}
use Rattle.cg_congestion.specs.Claims.{same, uses, is_at, node_of, claims_at, excess_at, excess_below, excess as excess_of}
use Rattle.cg_congestion.specs.Table.{Table, toll, link_price, excess}
use Rattle.cg_congestion.proofs.Uses.{in_from_uses, uses_from_in, in_from_Contains}
use Rattle.cg_congestion.proofs.Different.{claims_same, one_of_few}

-- the same claims are there
pub any_same : (xs ys : List Position) → ((p : Position) → uses xs p ≡ uses ys p) → (p : Position) → list_any (same p) xs ≡ list_any (same p) ys
any_same xs ys h p =
    ⊎_elim
    (λ (a : list_any (same p) xs ≡ true).
    let u = uses_from_in p xs a in
    let e = h p in
    a ∙ sym (in_from_uses p ys (omega (arith, u, e))))
    (λ (a : list_any (same p) xs ≡ false).
    ⊎_elim
    (λ (b : list_any (same p) ys ≡ true).
    let u = uses_from_in p ys b in
    let e = h p in
    let c = in_from_uses p xs (omega (arith, u, e)) in
    absurd (cc))
    (λ (b : list_any (same p) ys ≡ false). a ∙ sym b)
    (cases_Bool (list_any (same p) ys)))
    (cases_Bool (list_any (same p) xs))

sum_same : (f g : ℕ → ℕ) (xs : List ℕ) → ((i : ℕ) → f i ≡ g i) → sum_by f xs ≡ sum_by g xs
sum_same f g [] h = refl
sum_same f g (x ∷ xs) h = let a = sum_by-cons f x xs in let b = sum_by-cons g x xs in let c = h x in let d = sum_same f g xs h in omega (arith, a, b, c, d)

-- the excess of two lists with the same uses is the same
pub excess_of_same : (ii n : ℕ) (xs ys : List Position) → ((p : Position) → uses xs p ≡ uses ys p) → excess_of ii n xs ≡ excess_of ii n ys
excess_of_same ii n xs ys h =
    sum_same (λ j. excess_at ii xs (node_at ii j)) (λ j. excess_at ii ys (node_at ii j)) (range_with_len 0 (n * ii)) (λ j. ap (λ z. z - 1) (claims_same ii (node_at ii j) xs ys h))

module _ (T R : Table) (interval : T.interval ≡ R.interval) (history : T.history ≡ R.history) (h : (p : Position) → uses T.positions p ≡ uses R.positions p) where
  -- the numbers of claims
  pub claims_at_same : (n : MNode) → claims_at T.interval T.positions n ≡ claims_at R.interval R.positions n
  claims_at_same n = claims_same T.interval n T.positions R.positions h ∙ ap (λ z. claims_at z R.positions n) interval

  -- what a claim more costs
  pub toll_same : (n : MNode) → toll T n ≡ toll R n
  unfolding toll
  toll_same n =
      ap (λ (z : List ℕ). 1 + get_or z (n.resource * T.interval + n.slot) 0 + 8 * claims_at T.interval T.positions n) history
      ∙ ap (λ z. 1 + get_or R.history (n.resource * z + n.slot) 0 + 8 * claims_at T.interval T.positions n) interval
      ∙ ap (λ z. 1 + get_or R.history (n.resource * R.interval + n.slot) 0 + 8 * z) (claims_at_same n)

  -- what a link costs
  pub link_price_same : (p : Position) → link_price T p ≡ link_price R p
  unfolding link_price
  link_price_same p =
      ap (λ (b : Bool). if b then 0 else toll T (node_of T.interval p)) (any_same T.positions R.positions h p)
      ∙ ap (λ z. if list_any (same p) R.positions then 0 else z) (toll_same (node_of T.interval p) ∙ ap (λ z. toll R (node_of z p)) interval)

  -- and, on one architecture, the excess
  pub excess_same : T.arch ≡ R.arch → excess T ≡ excess R
  excess_same arch =
      excess_of_same T.interval (length T.arch.resources) T.positions R.positions h
      ∙ ap (λ z. excess_of z (length T.arch.resources) R.positions) interval ∙ ap (λ (A : Arch). excess_of R.interval (length A.resources) R.positions) arch

-- where there is no excess over the first k nodes, each of them has none
pub no_excess : (ii : ℕ) (ps : List Position) (k j : ℕ) → excess_below ii ps k ≡ 0 → j < k → excess_at ii ps (node_at ii j) ≡ 0
no_excess ii ps k j none l =
    let f : ℕ → ℕ = λ i. excess_at ii ps (node_at ii i) in
    let long = length-range_with_len 0 k in
    let a = get_or-le-sum_by f (range_with_len 0 k) j 0 (omega (arith, long, l)) in
    let at : get_or (range_with_len 0 k) j 0 ≡ j = get_or-range_with_len 0 k j 0 l ∙ omega arith in
    let b : f (get_or (range_with_len 0 k) j 0) ≡ f j = ap f at in
    omega (arith, a, b, none)

-- where a node has no excess, its positions are the same
pub one_claim : (ii : ℕ) (ps : List Position) (n : MNode) (p q : Position) → excess_at ii ps n ≡ 0 → Contains ps p → Contains ps q → is_at ii n p ≡ true → is_at ii n q ≡ true → p ≡ q
one_claim ii ps n p q none a b x y = one_of_few ii n ps p q (omega (arith, none)) (in_from_Contains p ps a) (in_from_Contains q ps b) x y
