-- For each interval there is a closed chain that is too long with the registers on ways, or none at all: by definitions alone.
use Rattle.std.proofs.Common.{◌≡◌, ℕ, zero, suc, ◌+◌, ◌<◌, ◌≤◌, List, [], ◌∷◌, length, map, Option, Some, refl, sym, ap, ◌∙◌, arith, inl, inr, ⊎_elim}
use Rattle.std.specs.Prelude.{◌⊎◌, slice_get, slice_index}
use Rattle.std.proofs.lemmas.List.{get_or-map}
use Rattle.std.proofs.Math.ListN.{length-map}
use Rattle.std.proofs.lemmas.Option.{slice_get-get_or}
use Rattle.cg_model.specs.Kernel.{Kernel, IsKernel, size}
use Rattle.cg_model.specs.Array.{Arch, IsArch}
use Rattle.cg_model.proofs.Ranges.{pigeons}
use Rattle.cg_recur.specs.Chain.{source_of, IsCycle, IsShown}
use Rattle.cg_recur.specs.declared.edge.Edge.{Edge}
use Rattle.cg_recur.specs.declared.edge.EdgeId.{EdgeId}
use Rattle.cg_recur.specs.declared.edge.EdgeId.TheVariants.{Order}
use Rattle.cg_recur.proofs.Latencies.{latency_small}
use Rattle.cg_recur.specs.Recurrences.{name_at}
use Rattle.cg_recur.proofs.Chains.{none_from_tight}
use Rattle.cg_recur.proofs.Names.{named}
use Rattle.cg_recur.proofs.Visits.{tight_or_deep}
use Rattle.cg_recur.proofs.Closing.{closed_chain}
use Rattle.cg_recur.proofs.Decided.{all_listed}
use Rattle.cg_bound_recurrence.specs.WayCycles.{registers_of, edge_with, IsWayCycle, HasNoWayCycle}
use Rattle.cg_bound_recurrence.specs.Lengthened.{AreLonger}
use Rattle.cg_bound_recurrence.proofs.Found.{all_within, back, cycle_named, none_named}

-- ---- the list of the longer edges

abbrev longer_edge : ℕ → Edge → Edge
longer_edge n e = record { source = e.source; target = e.target; latency = e.latency + n; distance = e.distance }

all_longer : (hops : ℕ → ℕ → ℕ) (names : List EdgeId) (es : List Edge) → (long : List Edge) × AreLonger hops names es long
all_longer hops names [] = ([], λ k. refl)
all_longer hops [] (e ∷ es) =
    let (long, h) = all_longer hops [] es in
    (longer_edge 0 e ∷ long, at long h)
  where
    at : (long : List Edge) → AreLonger hops [] es long → AreLonger hops [] (e ∷ es) (longer_edge 0 e ∷ long)
    at long h zero = refl
    at long h (suc k) = h k
all_longer hops (x ∷ xs) (e ∷ es) =
    let (long, h) = all_longer hops xs es in
    (longer_edge (registers_of hops x) e ∷ long, at long h)
  where
    at : (long : List Edge) → AreLonger hops xs es long → AreLonger hops (x ∷ xs) (e ∷ es) (longer_edge (registers_of hops x) e ∷ long)
    at long h zero = refl
    at long h (suc k) = h k

-- ---- chains that repeat no node

-- a closed chain that repeats no node is no longer than there are sources
short_by : (edge : EdgeId → Option Edge) (n ii : ℕ) (ids : List EdgeId) → ((x : EdgeId) (e : Edge) → edge x ≡ Some e → e.source < n) → IsCycle edge ii ids → IsShown edge ids → length ids ≤ n
short_by edge n ii ids inside c shown =
    let source : EdgeId → ℕ = λ x. source_of (edge x) in
    let sources : List ℕ = map source ids in
    let same : length sources ≡ length ids = length-map ids source in
    let has : (i : ℕ) → i < length ids → slice_get ids i ≡ Some (name_at ids i) = λ i l. slice_get-get_or ids i (Order 0) l in
    let at : (i : ℕ) → i < length ids → slice_index sources i ≡ source (name_at ids i) = λ i l. get_or-map source ids i (Order 0) 0 l in
    let below : (i : ℕ) → i < length sources → slice_index sources i < n =
    λ i l.
    let l' : i < length ids = omega arith in
    let (e, is) = named edge edge (λ x. x) (λ x e is. is) c.closed.0 c.closed.0 ids i (name_at ids i) c.closed.1 (has i l') in
    let a = inside (name_at ids i) e is in
    let b = ap source_of is in
    let d = at i l' in
    omega arith
    in
    let h =
    pigeons n sources below
    (λ i j l m e.
    let l' : i < length ids = omega arith in
    let m' : j < length ids = omega arith in
    shown.apart i j (name_at ids i) (name_at ids j) l (has i l') (has j m') (sym (at i l') ∙ e ∙ at j m'))
    in
    omega arith

-- ---- the decision

pub way_cycle_or_none : (A : Arch) (K : Kernel) (hops : ℕ → ℕ → ℕ) (ii : ℕ) → IsArch A → IsKernel K → ((v p : ℕ) → hops v p ≤ 4096) →
    ((ids : List EdgeId) × IsWayCycle A K hops ii ids × (length ids ≤ size K)) ⊎ HasNoWayCycle A K hops ii
way_cycle_or_none A K hops ii arch valid near =
    let (names, es, good) = all_listed A K in
    let (long, longs) = all_longer hops names es in
    let inside = all_within A K names es good hops long longs (λ op. latency_small A op arch) valid near K.nodes refl in
    ⊎_elim
    (λ (time, tight). inr (none_named A K names es good hops long longs ii (λ xs c. none_from_tight (slice_get long) ii time tight xs c)))
    (λ (log, last, g, deep).
    let (xs, c) = closed_chain long ii (size K) log last g deep in
    let h = cycle_named A K names es good hops long longs ii names xs xs (map (name_at names) xs) refl refl c refl in
    let few = short_by (edge_with A K hops) (size K) ii (map (name_at names) xs) (λ x e is. (inside _ e (back A K names es good hops long longs x e is)).0) h.0 h.1 in
    inl (map (name_at names) xs, h.0, few))
    (tight_or_deep long ii (size K) inside)
