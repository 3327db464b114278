-- Where no edge asks for more, the times are the earliest ones.
use Rattle.std.proofs.Common.{◌≡◌, ℕ, zero, suc, ◌+◌, ◌*◌, ◌<◌, List, [], ◌∷◌, ◌++◌, length, Some, refl, sym, ap, ◌∙◌, subst, arith, inl, inr, ⊎_elim}
use Rattle.std.specs.Prelude.{slice_get, slice_index}
use Rattle.cg_recur.specs.declared.edge.Edge.{Edge}
use Rattle.cg_recur.specs.declared.moments.Step.{Step}
use Rattle.cg_recur.specs.Chain.{Goes, latencies, distances, latency_of, distance_of, IsCycle, IsEarly, IsTight}
use Rattle.std.proofs.lemmas.Bool.{cases_lt}
use Rattle.std.proofs.lemmas.Option.{slice_get_within}
use Rattle.cg_recur.specs.Log.{IsWithin, step, Follows, IsLog, IsShallow, time_of, IsSlack, IsSettled, IsBegun, IsCounting, IsNext, IsStill, AreSlack, AreTimes}
use Rattle.cg_recur.proofs.Chains.{latencies-append, distances-append, Goes-append, along, none_from_tight}

-- the start
pub begun : (es : List Edge) (ii n : ℕ) (log : List Step) (last : List ℕ) → IsBegun n log → IsCounting n last → IsLog es ii n log last × IsShallow n log × IsSettled es ii 0 0 log last
begun es ii n log last (le, at) (each, is) = (
  record {
    steps = λ i l. let l' : i < n = omega arith in let (a, b, c) = at i l' in record { node = omega arith; from = inl (b, c); small = omega arith };
    rising = λ i j l m same. absurd (let (a, b, c) = at i (omega arith) in let (d, e, f) = at j (omega arith) in omega arith);
    each = each;
    known = λ v l. let a = is v l in omega arith;
    its = λ v l. ap (λ z. (step log z).node) (is v l) ∙ (at v l).0;
    latest = λ i l. let l' : i < n = omega arith in let (a, b, c) = at i l' in omega arith;
  },
  λ i l. let (a, b, c) = at i (omega arith) in omega arith,
  λ k e x. (λ l. absurd (omega arith), inr (omega arith)),
)

-- the next round
pub next_round : (es : List Edge) (ii r : ℕ) (log : List Step) (last : List ℕ) → IsSettled es ii r (length es) log last → IsSettled es ii (r + 1) 0 log last
next_round es ii r log last h k e is = (λ l. absurd (omega arith), (h k e is).0 (slice_get_below es k e is))
  where
    slice_get_below : (es : List Edge) (k : ℕ) (e : Edge) → slice_get es k ≡ Some e → k < length es
    slice_get_below [] k e is = absurd (cc)
    slice_get_below (x ∷ es) zero e is = omega arith
    slice_get_below (x ∷ es) (suc k) e is = omega (arith, slice_get_below es k e is)

module _ (es : List Edge) (ii n : ℕ) (log : List Step) (last : List ℕ) (within : IsWithin es n) (good : IsLog es ii n log last) where
  -- after n rounds
  pub tight : IsShallow n log → IsSettled es ii n 0 log last → IsTight (slice_get es) ii (time_of log last)
  tight shallow h k e is =
      ⊎_elim (λ a. a)
      (λ a. absurd (let b = shallow (slice_index last e.source) (good.known e.source (within k e is).0) in omega arith))
      (h k e is).1

  -- a chain that has the time of a moment
  Attained : ℕ → Type 0
  Attained i = (u : ℕ) × (xs : List ℕ) × Goes (slice_get es) u xs (step log i).node × (latencies (slice_get es) xs ≡ (step log i).time + ii * distances (slice_get es) xs)

  attained : (fuel i : ℕ) → i < fuel → i < length log → Attained i
  unfolding Attained
  attained zero i l m = absurd (omega arith)
  attained (suc fuel) i l m =
      ⊎_elim
      (λ a. let t = a.1 in ((step log i).node, [], refl, omega arith))
      (λ (f : Follows es ii log i (step log i)).
      let b = f.earlier in
      let (u, xs, g, e) = attained fuel (step log i).before (omega arith) (omega arith) in
      let one : Goes (slice_get es) (step log (step log i).before).node ((step log i).edge ∷ []) (step log i).node = (f.by, f.is, f.source, f.target) in
      let s = f.sum in
      let la = latencies-append (slice_get es) xs ((step log i).edge ∷ []) in
      let da = distances-append (slice_get es) xs ((step log i).edge ∷ []) in
      let lb = ap latency_of f.is in
      let db = ap distance_of f.is in
      let dc = ap (λ z. ii * z) da in
      let dd = ap (λ z. ii * z) db in
      (u, xs ++ (step log i).edge ∷ [], Goes-append (slice_get es) u (step log (step log i).before).node (step log i).node xs ((step log i).edge ∷ []) g one, omega arith))
      (good.steps i m).from

  pub early : IsTight (slice_get es) ii (time_of log last) → (v : ℕ) → v < n → IsEarly (slice_get es) ii v (time_of log last v)
  unfolding Attained
  early t v l =
      let i = slice_index last v in
      let (u, xs, g, e) = attained (suc i) i (omega arith) (good.known v l) in
      record {
        reached = (u, xs, subst (λ z. Goes (slice_get es) u xs z) (good.its v l) g, e);
        greatest = λ u xs g. let a = along (slice_get es) ii (time_of log last) t u v xs g in omega arith;
      }

  pub slack_tight : AreSlack es ii (length es) log last → IsTight (slice_get es) ii (time_of log last)
  slack_tight h k e is = h k e (slice_get_within es k e is) is

  pub answers : IsTight (slice_get es) ii (time_of log last) → (ts : List ℕ) → AreTimes log last ts →
      (length ts ≡ n) × ((v : ℕ) → v < n → IsEarly (slice_get es) ii v (slice_index ts v)) × ((xs : List ℕ) → IsCycle (slice_get es) ii xs → ⊥)
  answers t ts (le, at) = (
    le ∙ good.each,
    λ v l. subst (λ z. IsEarly (slice_get es) ii v z) (sym (at v (let a = good.each in omega arith))) (early t v l),
    λ xs c. none_from_tight (slice_get es) ii (time_of log last) t xs c,
  )

-- a visit after which no chain has n edges, and no edge before asks for more if nothing rose
pub stays : (es : List Edge) (ii n j : ℕ) (log log' : List Step) (last last' : List ℕ) (r : ℕ) → IsNext es ii n j log last log' last' → IsShallow n log' → IsSettled es ii r j log last →
    IsLog es ii n log' last' × IsShallow n log' × IsSettled es ii r (j + 1) log' last'
stays es ii n j log log' last last' r (a, b) s h = (a, s, b r h)

pub still : (es : List Edge) (ii j : ℕ) (log log' : List Step) (last last' : List ℕ) → IsStill es ii j log last log' last' → AreSlack es ii j log last → AreSlack es ii (j + 1) log' last'
still es ii j log log' last last' (e, f, s) h k x l is =
    subst (λ z. IsSlack ii z last' x) (sym e) (subst (λ z. IsSlack ii log z x) (sym f)
    (⊎_elim (λ m. h k x m is) (λ m. let q : j ≡ k = omega arith in s x (ap (slice_get es) q ∙ is)) (cases_lt k j)))

pub times_from : (log l : List Step) (last m ts : List ℕ) → l ≡ log → m ≡ last → AreTimes l m ts → AreTimes log last ts
times_from log l last m ts e f h = subst (λ z. AreTimes z last ts) e (subst (λ z. AreTimes l z ts) f h)
