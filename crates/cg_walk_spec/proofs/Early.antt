-- Earliest times are small: a chain that reaches a node at its earliest time needs to meet no node
-- twice, so that it has fewer edges than there are nodes.
use Rattle.std.proofs.Common.{◌≡◌, ℕ, zero, suc, ◌+◌, ◌-◌, ◌*◌, ◌<◌, ◌≤◌, List, [], ◌∷◌, ◌++◌, length, get_or, take, drop, Option, Some, None, refl, sym, ap, ◌∙◌, subst, arith, ⊎_elim, inl, inr}
use Rattle.std.specs.Prelude.{◌⊎◌, slice_index, slice_get}
use Rattle.std.proofs.lemmas.Bool.{cases_lt, cases_eq}
use Rattle.std.proofs.lemmas.List.{length-append, length-take-le, length-drop, take-append-drop}
use Rattle.cg_model.specs.Limits.{most_nodes}
use Rattle.cg_model.specs.Kernel.{Kernel, IsKernel, size, node}
use Rattle.cg_model.specs.Array.{Arch, IsArch}
use Rattle.cg_recur.specs.declared.edge.Edge.{Edge}
use Rattle.cg_recur.specs.declared.edge.EdgeId.{EdgeId}
use Rattle.cg_recur.specs.declared.edge.EdgeId.TheVariants.{Arg, Order}
use Rattle.cg_recur.specs.Edges.{edge_of, of_operand, of_order, latency}
use Rattle.cg_recur.proofs.Latencies.{latency_small}
use Rattle.cg_recur.specs.Chain.{Goes, latencies, distances, IsCycle, IsEarly}
use Rattle.cg_recur.proofs.Chains.{latencies-append, distances-append, Goes-append}
use Rattle.cg_recur.specs.Recurrences.{IsRecurrence}
use Rattle.cg_recur.proofs.Named.{within}
use Rattle.cg_recur.proofs.Decided.{all_listed}
use Rattle.std.proofs.lemmas.Option.{slice_get-get_or, slice_get_within}
use Rattle.cg_model.specs.declared.kernel.Operand.{Operand}
use Rattle.cg_model.specs.declared.kernel.Operand.TheVariants.{Const as Constant, Edge as DataEdge}
use Rattle.cg_model.specs.declared.kernel.OrderEdge.{OrderEdge}
use Rattle.cg_model.proofs.Ranges.{pigeons}

-- where an edge leads
abbrev target_at : Option Edge → ℕ
target_at None = 0
target_at (Some e) = e.target

-- some number stands twice in a list, or none does
repeated : (xs : List ℕ) →
    ((i : ℕ) × (j : ℕ) × (i < j) × (j < length xs) × (slice_index xs i ≡ slice_index xs j)) ⊎ ((i j : ℕ) → i < j → j < length xs → slice_index xs i ≡ slice_index xs j → ⊥)
repeated [] = inr (λ i j a b e. omega arith)
repeated (x ∷ xs) =
    ⊎_elim
    (λ f. inl (suc f.0, suc f.1, (let a = f.2 in omega arith), (let b = f.3 in omega arith), f.4))
    (λ apart. ⊎_elim (λ f. inl (0, suc f.0, omega arith, (let b = f.1 in omega arith), sym f.2)) (λ none. inr (λ i. both apart none i)) (stands x xs))
    (repeated xs)
  where
    stands : (x : ℕ) (xs : List ℕ) → ((j : ℕ) × (j < length xs) × (slice_index xs j ≡ x)) ⊎ ((j : ℕ) → j < length xs → slice_index xs j ≡ x → ⊥)
    stands x [] = inr (λ j a e. omega arith)
    stands x (y ∷ ys) =
        ⊎_elim (λ (e : y ≡ x). inl (0, omega arith, e))
        (λ (ne : y ≡ x → ⊥). ⊎_elim (λ f. inl (suc f.0, (let a = f.1 in omega arith), f.2)) (λ none. inr (λ j. later ne none j)) (stands x ys))
        (cases_eq y x)
      where
        later : (y ≡ x → ⊥) → ((j : ℕ) → j < length ys → slice_index ys j ≡ x → ⊥) → (j : ℕ) → j < length (y ∷ ys) → slice_index (y ∷ ys) j ≡ x → ⊥
        later ne none zero a e = ne e
        later ne none (suc j) a e = none j (omega arith) e

    both : ((i j : ℕ) → i < j → j < length xs → slice_index xs i ≡ slice_index xs j → ⊥) → ((j : ℕ) → j < length xs → slice_index xs j ≡ x → ⊥) →
        (i j : ℕ) → i < j → j < length (x ∷ xs) → slice_index (x ∷ xs) i ≡ slice_index (x ∷ xs) j → ⊥
    both apart none i zero a b e = omega arith
    both apart none zero (suc j) a b e = none j (omega arith) (sym e)
    both apart none (suc i) (suc j) a b e = apart i j (omega arith) (omega arith) e

-- what is left of a chain without a loop that doesn't pay
balance : (ii t lat dis lat' dis' b d : ℕ) → lat ≡ lat' + b → dis ≡ dis' + d → lat ≡ t + ii * dis → b ≤ ii * d → lat' ≤ t + ii * dis' → lat' ≡ t + ii * dis'
balance ii t lat dis lat' dis' b d x y e f g = let p : lat ≡ t + ii * (dis' + d) = e ∙ ap (λ z. t + ii * z) y in omega (arith, p, x, f, g)

module _ {X : Type 0} (edge : X → Option Edge) where
  -- the nodes that a chain from u meets
  abbrev stops : ℕ → List X → List ℕ
  stops u [] = u ∷ []
  stops u (x ∷ xs) = u ∷ stops (target_at (edge x)) xs

  stops_long : (u : ℕ) (xs : List X) → length (stops u xs) ≡ suc (length xs)
  stops_long u [] = refl
  stops_long u (x ∷ xs) = ap suc (stops_long (target_at (edge x)) xs)

  abbrev stop : ℕ → List X → ℕ → ℕ
  stop u xs i = get_or (stops u xs) i 0

  stop_first : (u : ℕ) (xs : List X) → stop u xs 0 ≡ u
  stop_first u [] = refl
  stop_first u (x ∷ xs) = refl

  -- a chain is cut at one of them
  cut : (xs : List X) (i u v : ℕ) → i ≤ length xs → Goes edge u xs v → Goes edge u (take i xs) (stop u xs i) × Goes edge (stop u xs i) (drop i xs) v
  cut xs zero u v h g = (sym (stop_first u xs), subst (λ w. Goes edge w xs v) (sym (stop_first u xs)) g)
  cut [] (suc i) u v h g = absurd (omega arith)
  cut (x ∷ xs) (suc i) u v h (e, is, s, r) =
      let to : target_at (edge x) ≡ e.target = ap target_at is in
      let p = cut xs i (target_at (edge x)) v (omega arith) (subst (λ w. Goes edge w xs v) (sym to) r) in
      ((e, is, s, subst (λ w. Goes edge w (take i xs) (stop (target_at (edge x)) xs i)) to p.0), p.1)

  stop_later : (xs : List X) (i k u : ℕ) → i ≤ length xs → stop u xs (i + k) ≡ stop (stop u xs i) (drop i xs) k
  stop_later xs zero k u h = let e : 0 + k ≡ k = omega arith in ap (λ j. stop u xs j) e ∙ ap (λ w. stop w xs k) (sym (stop_first u xs))
  stop_later [] (suc i) k u h = absurd (omega arith)
  stop_later (x ∷ xs) (suc i) k u h =
      let e : suc i + k ≡ suc (i + k) = omega arith in
      ap (λ j. stop u (x ∷ xs) j) e ∙ stop_later xs i k (target_at (edge x)) (omega arith)

  module _ (ii n : ℕ) (fits : (x : X) (e : Edge) → edge x ≡ Some e → (e.latency ≤ 4) × (e.source < n) × (e.target < n)) where
    few : (u v : ℕ) (xs : List X) → Goes edge u xs v → latencies edge xs ≤ 4 * length xs
    few u v [] g = omega arith
    few u v (x ∷ xs) (e, is, s, r) =
        let a = (fits x e is).0 in
        let b = few e.target v xs r in
        let c : latencies edge (x ∷ xs) ≡ e.latency + latencies edge xs = ap (λ o. latency_at o + latencies edge xs) is in
        omega (arith, a, b, c)
      where
        latency_at : Option Edge → ℕ
        latency_at (Some e) = e.latency
        latency_at None = 0

    known : (u v : ℕ) (xs : List X) → Goes edge u xs v → v < n → (i : ℕ) → i < length (stops u xs) → slice_index (stops u xs) i < n
    known u v [] g l zero h = omega (arith, g)
    known u v [] g l (suc i) h = absurd (omega arith)
    known u v (x ∷ xs) (e, is, s, r) l zero h = let a = (fits x e is).1 in omega (arith, a, s)
    known u v (x ∷ xs) (e, is, s, r) l (suc i) h =
        let to : target_at (edge x) ≡ e.target = ap target_at is in
        known (target_at (edge x)) v xs (subst (λ w. Goes edge w xs v) (sym to) r) l i (omega arith)

    pub early_small : (v t : ℕ) → v < n → IsEarly edge ii v t → ((xs : List X) → IsCycle edge ii xs → ⊥) → t ≤ 4 * (n - 1)
    early_small v t l early none = let (u, xs, g, e) = early.reached in shorter (length xs) u xs (omega arith) g e
      where
        shorter : (m u : ℕ) (xs : List X) → length xs ≤ m → Goes edge u xs v → latencies edge xs ≡ t + ii * distances edge xs → t ≤ 4 * (n - 1)
        shorter zero u xs h g e = let f = few u v xs g in omega (arith, f, e, h)
        shorter (suc m) u xs h g e =
            ⊎_elim
            (λ (a : length xs < n). let f = few u v xs g in omega (arith, f, e, a))
            (λ (a : n ≤ length xs).
            ⊎_elim
            (λ f.
            let i : ℕ = f.0 in
            let j : ℕ = f.1 in
            let before : i < j = f.2 in
            let long = stops_long u xs in
            let inside : j ≤ length xs = (let b = f.3 in omega arith) in
            let k = j - i in
            let w = stop u xs i in
            let ys = drop i xs in
            let p = cut xs i u v (omega arith) g in
            let len_a : length (take i xs) ≡ i = length-take-le i xs (omega arith) in
            let len_y : length ys ≡ length xs - i = length-drop i xs in
            let again : stop w ys k ≡ w = sym (stop_later xs i k u (omega arith)) ∙ ap (λ z. stop u xs z) (omega arith) ∙ sym f.4 in
            let q = cut ys k w v (omega (arith, len_y)) p.1 in
            let loop : Goes edge w (take k ys) w = subst (λ z. Goes edge w (take k ys) z) again q.0 in
            let rest : Goes edge w (drop k ys) v = subst (λ z. Goes edge z (drop k ys) v) again q.1 in
            let len_b : length (take k ys) ≡ k = length-take-le k ys (omega (arith, len_y)) in
            let len_c : length (drop k ys) ≡ length ys - k = length-drop k ys in
            let zs = take i xs ++ drop k ys in
            let whole : Goes edge u zs v = Goes-append edge u w v (take i xs) (drop k ys) p.0 rest in
            let len_z : length zs ≡ length (take i xs) + length (drop k ys) = length-append (take i xs) (drop k ys) in
            let lat : latencies edge xs ≡ latencies edge (take i xs) + latencies edge ys = ap (latencies edge) (sym (take-append-drop i xs)) ∙ latencies-append edge (take i xs) ys in
            let lat_y : latencies edge ys ≡ latencies edge (take k ys) + latencies edge (drop k ys) = ap (latencies edge) (sym (take-append-drop k ys)) ∙ latencies-append edge (take k ys) (drop k ys) in
            let lat_z : latencies edge zs ≡ latencies edge (take i xs) + latencies edge (drop k ys) = latencies-append edge (take i xs) (drop k ys) in
            let dis : distances edge xs ≡ distances edge (take i xs) + distances edge ys = ap (distances edge) (sym (take-append-drop i xs)) ∙ distances-append edge (take i xs) ys in
            let dis_y : distances edge ys ≡ distances edge (take k ys) + distances edge (drop k ys) = ap (distances edge) (sym (take-append-drop k ys)) ∙ distances-append edge (take k ys) (drop k ys) in
            let dis_z : distances edge zs ≡ distances edge (take i xs) + distances edge (drop k ys) = distances-append edge (take i xs) (drop k ys) in
            let even : latencies edge (take k ys) ≤ ii * distances edge (take k ys) =
            ⊎_elim
            (λ (c : ii * distances edge (take k ys) < latencies edge (take k ys)). absurd (none (take k ys) (record { some = omega (arith, len_b, before); closed = (w, loop); long = c })))
            (λ c. c) (cases_lt (ii * distances edge (take k ys)) (latencies edge (take k ys))) in
            let most = early.greatest u zs whole in
            let same : latencies edge zs ≡ t + ii * distances edge zs = balance ii t (latencies edge xs) (distances edge xs) (latencies edge zs) (distances edge zs) (latencies edge (take k ys)) (distances edge (take k ys)) (omega (arith, lat, lat_y, lat_z)) (omega (arith, dis, dis_y, dis_z)) e even most in
            shorter m u zs (omega (arith, len_z, len_a, len_c, len_y, before, h, inside)) whole same)
            (λ apart. absurd (let p = pigeons n (stops u xs) (known u v xs g l) apart in let q = stops_long u xs in omega arith))
            (repeated (stops u xs)))
            (cases_lt (length xs) n)

-- where edges of the kernel lead, and how long they take
few_cycles : (A : Arch) (K : Kernel) → IsArch A → (x : EdgeId) (e : Edge) → edge_of A K x ≡ Some e → e.latency ≤ 4
few_cycles A K arch (Arg v p) e is = by_operand (slice_get (node K v).operands p) is
  where
    by_operand : (o : Option Operand) → of_operand A K v o ≡ Some e → e.latency ≤ 4
    by_operand None h = absurd (cc)
    by_operand (Some (Constant c)) h = absurd (cc)
    by_operand (Some (DataEdge u d init)) h =
        let q : record { source = u; target = v; latency = latency A (node K u).op; distance = d } ≡ e = cc in
        let small = latency_small A (node K u).op arch in
        omega (arith, ap (λ (z : Edge). z.latency) q, small)
few_cycles A K arch (Order k) e is = by_order (slice_get K.order k) is
  where
    by_order : (o : Option OrderEdge) → of_order o ≡ Some e → e.latency ≤ 4
    by_order None h = absurd (cc)
    by_order (Some o) h = let q : record { source = o.from; target = o.to; latency = 1; distance = o.distance } ≡ e = cc in omega (arith, ap (λ (z : Edge). z.latency) q)

joins : (A : Arch) (K : Kernel) → IsArch A → IsKernel K → (x : EdgeId) (e : Edge) → edge_of A K x ≡ Some e → (e.latency ≤ 4) × (e.source < size K) × (e.target < size K)
joins A K arch kernel x e is =
    let (names, edges, listed) = all_listed A K in
    let (k, at) = listed.whole x e is in
    let inside = slice_get_within names k x at in
    let each = listed.each in
    let f : Edge = get_or edges k (record { source = 0; target = 0; latency = 0; distance = 0 }) in
    let here : slice_get edges k ≡ Some f = slice_get-get_or edges k (record { source = 0; target = 0; latency = 0; distance = 0 }) (omega arith) in
    let named = listed.right k x f at here in
    let same : f ≡ e = (let w = sym named ∙ is in cc) in
    let ends = within A K (λ op. latency_small A op arch) kernel names edges edges K.nodes listed refl refl k f here in
    (few_cycles A K arch x e is, subst (λ (z : Edge). z.source < size K) same ends.0, subst (λ (z : Edge). z.target < size K) same ends.1)

-- so on a valid architecture the earliest times of a valid kernel are small
pub early_soon : (A : Arch) (K : Kernel) (ii : ℕ) (early : List ℕ) → IsArch A → IsKernel K → ((v : ℕ) → v < size K → IsEarly (edge_of A K) ii v (slice_index early v)) →
    ((ids : List EdgeId) → IsRecurrence A K ii ids → ⊥) → (v : ℕ) → v < size K → slice_index early v ≤ 4 * (most_nodes - 1)
early_soon A K ii early arch kernel times none v l =
    let small = early_small (edge_of A K) ii (size K) (joins A K arch kernel) v (slice_index early v) l (times v l) none in
    let few = kernel.few in
    omega (arith, small, few)
