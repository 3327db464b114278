-- What depends on the numbers of uses alone.
use Rattle.std.proofs.Common.{◌≡◌, ℕ, ◌+◌, ◌-◌, ◌*◌, true, cond, ltb, List, [], ◌∷◌, length, map, Option, Some, None, refl, sym, ap, ◌∙◌, subst, arith}
use Rattle.std.specs.Prelude.{slice_index, sum_by}
use Rattle.std.specs.List.{range_with_len, list_any}
use mathlib.Core.Path.{fun_ext}
use Rattle.cg_model.specs.Kernel.{Kernel}
use Rattle.cg_model.specs.Array.{Arch, delay}
use Rattle.cg_model.specs.Mapping.{Position}
use Rattle.cg_mrrg.specs.Nodes.{node_at}
use Rattle.cg_congestion.specs.Claims.{same, uses, claims_at, node_of}
use Rattle.cg_congestion.specs.Table.{Table, IsMore, history_at, toll, link_price, excess, aged}
use Rattle.cg_congestion.proofs.Uses.{in_from_uses, uses_from_in}
use Rattle.cg_congestion.proofs.Different.{claims_same}
use Rattle.cg_route.specs.Prices.{price_after, price}
use Rattle.cg_route.specs.Least.{Ends, IsAtMost, IsLeastPath, IsFound}
use Rattle.cg_place.specs.Counts.{order_violations, unit_excess}
use Rattle.cg_walk_spec.specs.State.{State, table_of_state, missing, cost}
use Rattle.cg_walk_spec.specs.Alike.{AreAlike}
use Rattle.cg_congestion.proofs.Same.{any_same}

any_less : (ps qs : List Position) → ((p : Position) → uses ps p ≡ uses qs p) → (p : Position) → list_any (same p) ps ≡ true → list_any (same p) qs ≡ true
any_less ps qs h p m = let u = uses_from_in p ps m in let e = h p in in_from_uses p qs (omega (arith, u, e))

-- two tables that differ in their positions alone, and use each claim as often
module _ (A : Arch) (ii : ℕ) (ps qs : List Position) (history : List ℕ) (h : (p : Position) → uses ps p ≡ uses qs p) where
  abbrev T : Table
  T = record { arch = A; interval = ii; positions = ps; history = history }

  abbrev R : Table
  R = record { arch = A; interval = ii; positions = qs; history = history }

  excess_is : excess T ≡ excess R
  excess_is = ap (λ f. sum_by f (range_with_len 0 (length A.resources * ii))) (fun_ext (λ j. ap (λ c. c - 1) (claims_same ii (node_at ii j) ps qs h)))

  aged_is : aged T ≡ aged R
  aged_is =
      ap (λ f. map f (range_with_len 0 (length A.resources * ii)))
      (fun_ext (λ k. ap (λ c. slice_index history k + cond (ltb 1 c) 1 0) (claims_same ii (node_at ii k) ps qs h)))

  link_is : (p : Position) → link_price T p ≡ link_price R p
  unfolding link_price toll
  link_is p =
      ap (λ b. cond b 0 (1 + history_at T (node_of ii p) + 8 * claims_at ii ps (node_of ii p))) (any_same ps qs h p)
      ∙ ap (λ c. cond (list_any (same p) qs) 0 (1 + history_at T (node_of ii p) + 8 * c)) (claims_same ii (node_of ii p) ps qs h)

  after_is : (u q t : ℕ) (path : List ℕ) → price_after T u q t path ≡ price_after R u q t path
  after_is u q t [] = refl
  after_is u q t (r ∷ path) =
      ap (λ c. c + price_after T u r (t + delay A r) path) (link_is (record { source = u; resource = r; time = t + delay A r; from = Some q }))
      ∙ ap (λ c. link_price R (record { source = u; resource = r; time = t + delay A r; from = Some q }) + c) (after_is u r (t + delay A r) path)

  price_is : (u t : ℕ) (path : List ℕ) → price T u t path ≡ price R u t path
  price_is u t [] = refl
  price_is u t (q ∷ path) = after_is u q t path

  least_is : (u : ℕ) (ends : Ends) (path : List ℕ) → IsLeastPath T u ends path → IsLeastPath R u ends path
  least_is u ends path l = record {
    is_path = l.is_path;
    least = λ other o.
        subst (λ c. IsAtMost c path (price R u ends.start other) other) (price_is u ends.start path)
        (subst (λ c. IsAtMost (price T u ends.start path) path c other) (price_is u ends.start other) (l.least other o));
  }

  found_is : (u : ℕ) (ends : Ends) (found : Option (List ℕ)) → IsFound T u ends found → IsFound R u ends found
  found_is u ends (Some path) f = (least_is u ends path f.0, f.1)
  found_is u ends None f = f

-- the second of two tables that are alike, by the first and its own positions
alike_is : (T R : Table) → AreAlike T R → record T { positions = R.positions } ≡ R
alike_is T R a =
    ap (λ x. record { arch = x; interval = T.interval; positions = R.positions; history = T.history }) a.arch
    ∙ ap (λ x. record { arch = R.arch; interval = x; positions = R.positions; history = T.history }) a.interval
    ∙ ap (λ x. record { arch = R.arch; interval = R.interval; positions = R.positions; history = x }) a.history

pub excess_same : (T R : Table) → AreAlike T R → excess T ≡ excess R
excess_same T R a = excess_is T.arch T.interval T.positions R.positions T.history a.uses ∙ ap (λ x. excess x) (alike_is T R a)

pub aged_same : (T R : Table) → AreAlike T R → aged T ≡ aged R
aged_same T R a = aged_is T.arch T.interval T.positions R.positions T.history a.uses ∙ ap (λ x. aged x) (alike_is T R a)

pub link_price_same : (T R : Table) → AreAlike T R → (p : Position) → link_price T p ≡ link_price R p
link_price_same T R a p = link_is T.arch T.interval T.positions R.positions T.history a.uses p ∙ ap (λ x. link_price x p) (alike_is T R a)

pub price_same : (T R : Table) → AreAlike T R → (u t : ℕ) (path : List ℕ) → price T u t path ≡ price R u t path
price_same T R a u t path = price_is T.arch T.interval T.positions R.positions T.history a.uses u t path ∙ ap (λ x. price x u t path) (alike_is T R a)

pub found_same : (T R : Table) (u : ℕ) (ends : Ends) (found : Option (List ℕ)) → AreAlike T R → IsFound T u ends found → IsFound R u ends found
found_same T R u ends found a f =
    subst (λ x. IsFound x u ends found) (alike_is T R a) (found_is T.arch T.interval T.positions R.positions T.history a.uses u ends found f)

-- ---- tables that are alike

pub alike_refl : (T : Table) → AreAlike T T
alike_refl T = record { arch = refl; interval = refl; history = refl; uses = λ p. refl }

pub alike_sym : (T R : Table) → AreAlike T R → AreAlike R T
alike_sym T R a = record { arch = sym a.arch; interval = sym a.interval; history = sym a.history; uses = λ p. sym (a.uses p) }

pub alike_trans : (T R V : Table) → AreAlike T R → AreAlike R V → AreAlike T V
alike_trans T R V a b = record { arch = a.arch ∙ b.arch; interval = a.interval ∙ b.interval; history = a.history ∙ b.history; uses = λ p. a.uses p ∙ b.uses p }

-- they stay alike where the same positions are added to both
pub alike_more : (T R T' R' : Table) (ps : List Position) → AreAlike T R → IsMore T T' ps → IsMore R R' ps → AreAlike T' R'
alike_more T R T' R' ps a m n = record {
  arch = m.arch ∙ a.arch ∙ sym n.arch;
  interval = m.interval ∙ a.interval ∙ sym n.interval;
  history = m.history ∙ a.history ∙ sym n.history;
  uses = λ p. let x = m.uses p in let y = n.uses p in let z = a.uses p in omega (arith, x, y, z);
}

-- or taken away
pub alike_less : (T R T' R' : Table) (ps : List Position) → AreAlike T R → IsMore T' T ps → IsMore R' R ps → AreAlike T' R'
alike_less T R T' R' ps a m n = record {
  arch = sym m.arch ∙ a.arch ∙ n.arch;
  interval = sym m.interval ∙ a.interval ∙ n.interval;
  history = sym m.history ∙ a.history ∙ n.history;
  uses = λ p. let x = m.uses p in let y = n.uses p in let z = a.uses p in omega (arith, x, y, z);
}

-- ---- costs

pub cost_by : (A : Arch) (K : Kernel) (ii : ℕ) (S : State) (T : Table) → AreAlike T (table_of_state A K ii S) →
    cost A K ii S ≡ 1000 * (missing S + order_violations K ii S.places + unit_excess A ii S.places) + excess T
unfolding cost
cost_by A K ii S T a =
    ap (λ x. 1000 * (missing S + order_violations K ii S.places + unit_excess A ii S.places) + x) (sym (excess_same T (table_of_state A K ii S) a))
