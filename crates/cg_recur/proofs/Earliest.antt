-- Where no recurrence forbids an interval, all nodes have earliest times: by definitions alone.
use Rattle.std.proofs.Common.{◌≡◌, ℕ, ◌<◌, ◌≤◌, List, length, map, ⊎_elim, refl}
use Rattle.std.specs.Prelude.{slice_index}
use Rattle.std.proofs.Math.ListN.{length-map}
use Rattle.std.proofs.lemmas.List.{get_or-map}
use Rattle.cg_word.specs.declared.op.Op.{Op}
use Rattle.cg_model.specs.Kernel.{Kernel, IsKernel, size}
use Rattle.cg_model.specs.Array.{Arch}
use Rattle.cg_recur.specs.Chain.{IsEarly}
use Rattle.cg_recur.specs.declared.edge.EdgeId.{EdgeId}
use Rattle.cg_recur.specs.Edges.{edge_of, latency}
use Rattle.cg_recur.specs.declared.moments.Step.{Step}
use Rattle.cg_recur.specs.Log.{step, AreTimes}
use Rattle.cg_recur.specs.Recurrences.{IsRecurrence, name_at}
use Rattle.cg_recur.proofs.Ends.{answers}
use Rattle.cg_recur.proofs.Named.{within, cycle_named, times_named}
use Rattle.cg_recur.proofs.Visits.{log_or_deep}
use Rattle.cg_recur.proofs.Closing.{closed_chain}
use Rattle.cg_recur.proofs.Decided.{all_listed}

-- the times of a log
listed_times : (log : List Step) (last : List ℕ) → (ts : List ℕ) × AreTimes log last ts
listed_times log last =
    let time : ℕ → ℕ = λ i. (step log i).time in
    (map time last, (length-map last time, λ v l. get_or-map time last v 0 0 l))

pub earliest : (A : Arch) (K : Kernel) → ((op : Op) → latency A op ≤ 4) → IsKernel K → (ii : ℕ) → ((ids : List EdgeId) → IsRecurrence A K ii ids → ⊥) →
    (early : List ℕ) × (length early ≡ size K) × ((v : ℕ) → v < size K → IsEarly (edge_of A K) ii v (slice_index early v))
earliest A K small valid ii none =
    let (names, es, good) = all_listed A K in
    let inside = within A K small valid names es es K.nodes good refl refl in
    ⊎_elim
    (λ (log, last, g, t).
    let (ts, are) = listed_times log last in
    let a = answers es ii (size K) log last inside g t ts are in
    let b = times_named A K names es good ii (size K) ts refl a.0 a.1 a.2 in
    (ts, b.0, b.1))
    (λ (log, last, g, deep).
    let (xs, c) = closed_chain es ii (size K) log last g deep in
    let h = cycle_named A K names es good ii xs xs (map (name_at names) xs) refl c refl in
    absurd (none (map (name_at names) xs) h.0))
    (log_or_deep es ii (size K) inside)
