-- What layers say of paths: the chain of next resources is a path of the entry's price, and no path is
-- better.
use Rattle.std.proofs.Common.{◌≡◌, ℕ, zero, suc, ◌+◌, ◌-◌, ◌<◌, ◌≤◌, List, [], ◌∷◌, length, Option, Some, None, refl, sym, ap, ◌∙◌, subst, arith, ⊎_elim, inl, inr}
use Rattle.std.specs.Prelude.{◌⊎◌}
use Rattle.std.proofs.lemmas.Bool.{cases_lt, cases_eq}
use Rattle.cg_model.specs.Mapping.{Goes}
use Rattle.cg_congestion.specs.Table.{Table}
use Rattle.cg_route.specs.Prices.{price, price_after}
use Rattle.cg_route.specs.Least.{Ends, IsTimedPath, IsNotAfter, IsAtMost, IsLeastPath}
use Rattle.cg_route.specs.Layers.{Step, Sought, Layer, at, layer_at, later_at, onward, Drives, IsOpen, delay_into, cost, AreLayers, IsChoice, IsBest, Follows}
use Rattle.cg_route.proofs.Ranks.{opened}
use Rattle.cg_route.proofs.Begins.{one_or_none, onward_now, onward_later}

pub goes_up : (S : Sought) (path : List ℕ) (q t r s : ℕ) → Goes S.table.arch q t path r s → t ≤ s
goes_up S [] q t r s h = omega (arith, h.1)
goes_up S (x ∷ path) q t r s h = omega (arith, goes_up S path x (t + delay_into S x) r s h.1)

module _ (S : Sought) (layers : List Layer) (h : AreLayers S layers) where
  -- the layer in which the way on from x stands
  pub onward_is : (x k : ℕ) → delay_into S x ≤ k → onward S (layer_at layers k) (later_at layers k) x ≡ at (layer_at layers (k - delay_into S x)) x
  onward_is x k l =
      ⊎_elim
      (λ (a : delay_into S x ≡ 0). onward_now S (layer_at layers k) (later_at layers k) x a ∙ ap (λ j. at (layer_at layers j) x) (omega (arith, a)))
      (λ (a : delay_into S x ≡ 1). onward_later S (layer_at layers k) (later_at layers k) x a ∙ before k (omega (arith, a, l)) ∙ ap (λ j. at (layer_at layers j) x) (omega (arith, a)))
      (one_or_none S x)
    where
      before : (k : ℕ) → 0 < k → at (later_at layers k) x ≡ at (layer_at layers (k - 1)) x
      before zero m = absurd (omega arith)
      before (suc k) m = ap (λ j. at (layer_at layers j) x) (omega arith)

  pub chosen : (k t q : ℕ) (s : Step) → IsOpen S q → k < length layers → k + t ≡ S.end → ((q ≡ S.to) × (k ≡ 0) → ⊥) → at (layer_at layers k) q ≡ Some s →
      IsChoice (Drives S q) (onward S (layer_at layers k) (later_at layers k)) (cost S q t) s
  chosen k t q s a b e further is =
      subst (λ o. IsBest (Drives S q) (onward S (layer_at layers k) (later_at layers k)) (cost S q t) o) is (((h.each k t b e).entries q a).before further)

  stuck : (k t q x : ℕ) → IsOpen S q → k < length layers → k + t ≡ S.end → ((q ≡ S.to) × (k ≡ 0) → ⊥) → at (layer_at layers k) q ≡ None →
      Drives S q x → onward S (layer_at layers k) (later_at layers k) x ≡ None
  stuck k t q x a b e further is m =
      (subst (λ o. IsBest (Drives S q) (onward S (layer_at layers k) (later_at layers k)) (cost S q t) o) is (((h.each k t b e).entries q a).before further)) x m

  -- the chain from an entry
  pub follows_goes : (path : List ℕ) (q t k : ℕ) → IsOpen S q → k < length layers → k + t ≡ S.end → Follows S layers k q path → Goes S.table.arch q t path S.to S.end
  follows_goes [] q t k a b e f = (f.0, omega (arith, f.1))
  follows_goes (x ∷ path) q t k a b e f =
      let c = chosen k t q f.2 a b e f.0 f.3 in
      let m : Drives S q x = subst (λ y. Drives S q y) f.4 c.next in
      (m, follows_goes path x (t + delay_into S x) (k - delay_into S x) (opened S q x m) (omega arith) (omega (arith, f.1)) f.5)

  pub follows_price : (path : List ℕ) (q t k : ℕ) (s : Step) → IsOpen S q → k < length layers → k + t ≡ S.end → Follows S layers k q path →
      at (layer_at layers k) q ≡ Some s → s.price ≡ price_after S.table S.source q t path
  follows_price [] q t k s a b e f is =
      let z : Some (record { price = 0; next = S.to }) ≡ Some s = sym (((h.each k t b e).entries q a).at_end f.0 f.1) ∙ is in
      let w : record { price = 0; next = S.to } ≡ s = cc in
      sym (ap (λ (y : Step). y.price) w)
  follows_price (x ∷ path) q t k s a b e f is =
      let same : f.2 ≡ s = cc in
      let c = chosen k t q s a b e f.0 is in
      let next : s.next ≡ x = ap (λ (y : Step). y.next) (sym same) ∙ f.4 in
      let m : Drives S q x = subst (λ y. Drives S q y) next c.next in
      let on : at (layer_at layers (k - delay_into S x)) x ≡ Some c.after =
      sym (onward_is x k f.1) ∙ subst (λ y. onward S (layer_at layers k) (later_at layers k) y ≡ Some c.after) next c.goes_on in
      let rest : c.after.price ≡ price_after S.table S.source x (t + delay_into S x) path =
      follows_price path x (t + delay_into S x) (k - delay_into S x) c.after (opened S q x m) (omega arith) (omega (arith, f.1)) f.5 on in
      c.is ∙ ap (λ y. cost S q t y + c.after.price) next ∙ ap (λ p. cost S q t x + p) rest

  -- an entry is at most any path from there
  abbrev pub Beats : ℕ → ℕ → ℕ → List ℕ → Type 0
  Beats q t k other =
      (s : Step) × (at (layer_at layers k) q ≡ Some s) × (s.price ≤ price_after S.table S.source q t other) ×
      ((mine : List ℕ) → Follows S layers k q mine → s.price ≡ price_after S.table S.source q t other → IsNotAfter mine other)

  beats_end : (q t k : ℕ) (other : List ℕ) → IsOpen S q → k < length layers → k + t ≡ S.end → q ≡ S.to → k ≡ 0 → Beats q t k other
  beats_end q t k other a b e at_to last = (
    record { price = 0; next = S.to },
    ((h.each k t b e).entries q a).at_end at_to last,
    omega arith,
    λ mine. elim mine as (λ m. Follows S layers k q m → 0 ≡ price_after S.table S.source q t other → IsNotAfter m other) [
      | [] ↦ λ f z. tt
      | y ∷ rest ↦ λ f z. absurd (f.0 (at_to, last))
    ],
  )

  beats_on : (q t k x : ℕ) (other : List ℕ) → IsOpen S q → k < length layers → k + t ≡ S.end → ((q ≡ S.to) × (k ≡ 0) → ⊥) → delay_into S x ≤ k →
      Drives S q x → Beats x (t + delay_into S x) (k - delay_into S x) other → (o : Option Step) → at (layer_at layers k) q ≡ o → Beats q t k (x ∷ other)
  beats_on q t k x other a b e further l m (s', is', le', after') None is =
      let z = stuck k t q x a b e further is m in
      let w = onward_is x k l in
      absurd (cc)
  beats_on q t k x other a b e further l m (s', is', le', after') (Some s) is =
      let c = chosen k t q s a b e further is in
      let better : (s.price < cost S q t x + s'.price) ⊎ ((s.price ≡ cost S q t x + s'.price) × (s.next ≤ x)) = c.least x s' m (onward_is x k l ∙ is') in (
        s,
        is,
        ⊎_elim (λ y. omega (arith, y, le')) (λ y. omega (arith, y.0, le')) better,
        λ mine. elim mine as (λ m. Follows S layers k q m → s.price ≡ price_after S.table S.source q t (x ∷ other) → IsNotAfter m (x ∷ other)) [
          | [] ↦ λ f z. tt
          | y ∷ rest ↦ λ f z.
              let same : f.2 ≡ s = cc in
              let next : s.next ≡ y = ap (λ (y : Step). y.next) (sym same) ∙ f.4 in
              ⊎_elim (λ less. absurd (omega (arith, less, le', z)))
              (λ equal.
              ⊎_elim (λ (u : y < x). inl u)
              (λ (u : x ≤ y).
              let v : y ≡ x = omega (arith, next, equal.1) in
              inr (v, after' rest (subst (λ j. Follows S layers (k - delay_into S j) j rest) v f.5) (omega (arith, equal.0, z))))
              (cases_lt y x))
              better
        ],
      )

  is_end : (q k : ℕ) → ((q ≡ S.to) × (k ≡ 0)) ⊎ ((q ≡ S.to) × (k ≡ 0) → ⊥)
  is_end q k = ⊎_elim (λ a. ⊎_elim (λ b. inl (a, b)) (λ b. inr (λ c. b c.1)) (cases_eq k 0)) (λ a. inr (λ c. a c.0)) (cases_eq q S.to)

  pub beats : (other : List ℕ) (q t k : ℕ) → IsOpen S q → k < length layers → k + t ≡ S.end → Goes S.table.arch q t other S.to S.end → Beats q t k other
  beats [] q t k a b e p = beats_end q t k [] a b e p.0 (omega (arith, p.1))
  beats (x ∷ other) q t k a b e p =
      let up = goes_up S other x (t + delay_into S x) S.to S.end p.1 in
      ⊎_elim (λ w. beats_end q t k (x ∷ other) a b e w.0 w.1)
      (λ w.
      beats_on q t k x other a b e w (omega arith) p.0
      (beats other x (t + delay_into S x) (k - delay_into S x) (opened S q x p.0) (omega arith) (omega arith) p.1) (at (layer_at layers k) q) refl)
      (is_end q k)

  -- no path from an entry is better than its chain
  at_most : (path : List ℕ) (q t k : ℕ) → IsOpen S q → k < length layers → k + t ≡ S.end → Follows S layers k q path →
      (other : List ℕ) → Goes S.table.arch q t other S.to S.end → IsAtMost (price_after S.table S.source q t path) (q ∷ path) (price_after S.table S.source q t other) (q ∷ other)
  at_most path q t k a b e f other p =
      let w = beats other q t k a b e p in
      let z = follows_price path q t k w.0 a b e f w.1 in
      ⊎_elim (λ u. inl (omega (arith, u, z))) (λ u. let x : w.0.price ≡ price_after S.table S.source q t other = omega (arith, u, z, w.2) in inr (sym z ∙ x, inr (refl, w.3 path f x)))
      (cases_lt w.0.price (price_after S.table S.source q t other))

  abbrev ends : ℕ → ℕ → Ends
  ends from start = record { from = from; start = start; to = S.to; end = S.end }

  pub is_least : (from start k : ℕ) (path : List ℕ) → IsOpen S from → k < length layers → k + start ≡ S.end → Follows S layers k from path →
      IsLeastPath S.table S.source (record { from = from; start = start; to = S.to; end = S.end }) (from ∷ path)
  is_least from start k path a b e f =
      record {
        is_path = (refl, follows_goes path from start k a b e f);
        least = λ other. elim other as (λ o. IsTimedPath S.table.arch (ends from start) o → IsAtMost (price_after S.table S.source from start path) (from ∷ path) (price S.table S.source start o) o) [
          | [] ↦ λ p. absurd p
          | x ∷ rest ↦ λ p. subst (λ y. IsAtMost (price_after S.table S.source from start path) (from ∷ path) (price_after S.table S.source y start rest) (y ∷ rest)) (sym p.0) (at_most path from start k a b e f rest p.1)
        ];
      }

  pub is_none : (from start k : ℕ) → IsOpen S from → k < length layers → k + start ≡ S.end → at (layer_at layers k) from ≡ None →
      (other : List ℕ) → IsTimedPath S.table.arch (record { from = from; start = start; to = S.to; end = S.end }) other → ⊥
  is_none from start k a b e is [] p = p
  is_none from start k a b e is (x ∷ rest) p =
      let w = beats rest from start k a b e p.1 in
      let z = w.1 in
      absurd (cc)

-- what was found, in the words that were asked
module _ (S : Sought) (T : Table) (u to end : ℕ) (table : S.table ≡ T) (source : S.source ≡ u) (ends_at : S.to ≡ to) (ends_when : S.end ≡ end) where
  pub least_told : (from start : ℕ) (path : List ℕ) → IsLeastPath S.table S.source (record { from = from; start = start; to = S.to; end = S.end }) path →
      IsLeastPath T u (record { from = from; start = start; to = to; end = end }) path
  least_told from start path h =
      subst (λ T. IsLeastPath T u (record { from = from; start = start; to = to; end = end }) path) table
      (subst (λ u. IsLeastPath S.table u (record { from = from; start = start; to = to; end = end }) path) source
      (subst (λ to. IsLeastPath S.table S.source (record { from = from; start = start; to = to; end = end }) path) ends_at
      (subst (λ end. IsLeastPath S.table S.source (record { from = from; start = start; to = S.to; end = end }) path) ends_when h)))

  pub path_told : (from start : ℕ) (path : List ℕ) → IsTimedPath T.arch (record { from = from; start = start; to = to; end = end }) path →
      IsTimedPath S.table.arch (record { from = from; start = start; to = S.to; end = S.end }) path
  path_told from start path h =
      subst (λ (T : Table). IsTimedPath T.arch (record { from = from; start = start; to = S.to; end = S.end }) path) (sym table)
      (subst (λ to. IsTimedPath T.arch (record { from = from; start = start; to = to; end = S.end }) path) (sym ends_at)
      (subst (λ end. IsTimedPath T.arch (record { from = from; start = start; to = to; end = end }) path) (sym ends_when) h))
