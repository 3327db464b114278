-- Closed chains that are too long, where two functions give equal edges.
use Rattle.std.proofs.Common.{◌≡◌, ℕ, ◌+◌, ◌*◌, List, [], ◌∷◌, Option, Some, None, refl, sym, ap, ◌∙◌, arith}
use Rattle.std.specs.Prelude.{◌↔◌}
use Rattle.cg_model.specs.Kernel.{Kernel}
use Rattle.cg_model.specs.Array.{Arch}
use Rattle.cg_recur.specs.declared.edge.Edge.{Edge}
use Rattle.cg_recur.specs.declared.edge.EdgeId.{EdgeId}
use Rattle.cg_recur.specs.declared.edge.EdgeId.TheVariants.{Arg, Order}
use Rattle.cg_recur.specs.Edges.{edge_of}
use Rattle.cg_recur.specs.Chain.{Goes, latencies, distances, latency_of, distance_of, IsCycle}
use Rattle.cg_recur.specs.Recurrences.{IsRecurrence}
use Rattle.cg_bound_recurrence.specs.WayCycles.{longer, edge_with, IsWayCycle}

module _ {X : Type 0} (f g : X → Option Edge) (equal : (x : X) → f x ≡ g x) where
  goes_too : (u v : ℕ) (xs : List X) → Goes f u xs v → Goes g u xs v
  goes_too u v [] h = h
  goes_too u v (x ∷ xs) (e, is, s, r) = (e, sym (equal x) ∙ is, s, goes_too e.target v xs r)

  latencies_equal : (xs : List X) → latencies f xs ≡ latencies g xs
  latencies_equal [] = refl
  latencies_equal (x ∷ xs) = let a = ap latency_of (equal x) in let b = latencies_equal xs in omega arith

  distances_equal : (xs : List X) → distances f xs ≡ distances g xs
  distances_equal [] = refl
  distances_equal (x ∷ xs) = let a = ap distance_of (equal x) in let b = distances_equal xs in omega arith

  cycle_too : (ii : ℕ) (xs : List X) → IsCycle f ii xs → IsCycle g ii xs
  cycle_too ii xs c =
      record {
        some = c.some;
        closed = (c.closed.0, goes_too c.closed.0 c.closed.0 xs c.closed.1);
        long = let l = c.long in let a = latencies_equal xs in let b = ap (λ z. ii * z) (distances_equal xs) in omega arith;
      }

longer_none : (n : ℕ) (o : Option Edge) → n ≡ 0 → longer n o ≡ o
longer_none n None e = refl
longer_none n (Some a) e =
    let l : a.latency + n ≡ a.latency = omega arith in
    ap (λ z. Some (record { source = a.source; target = a.target; latency = z; distance = a.distance })) l

edge_plain : (A : Arch) (K : Kernel) (hops : ℕ → ℕ → ℕ) → ((v p : ℕ) → hops v p ≡ 0) → (x : EdgeId) → edge_with A K hops x ≡ edge_of A K x
edge_plain A K hops none (Arg v p) = longer_none (hops v p) (edge_of A K (Arg v p)) (none v p)
edge_plain A K hops none (Order k) = longer_none 0 (edge_of A K (Order k)) refl

pub plain : (A : Arch) (K : Kernel) (hops : ℕ → ℕ → ℕ) (ii : ℕ) (ids : List EdgeId) → ((v p : ℕ) → hops v p ≡ 0) → IsWayCycle A K hops ii ids ↔ IsRecurrence A K ii ids
plain A K hops ii ids none = (
  cycle_too (edge_with A K hops) (edge_of A K) (edge_plain A K hops none) ii ids,
  cycle_too (edge_of A K) (edge_with A K hops) (λ x. sym (edge_plain A K hops none x)) ii ids,
)
