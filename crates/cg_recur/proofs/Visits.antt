-- Rounds of visits by definitions alone: times that no edge asks more than, or a log that is too deep.
use Rattle.std.proofs.Common.{◌≡◌, ℕ, zero, suc, ◌+◌, ◌-◌, ◌*◌, ◌<◌, ◌≤◌, List, [], ◌∷◌, ◌++◌, length, get_or, set, Some, refl, ap, ◌∙◌, subst, arith, inl, inr, ⊎_elim}
use Rattle.std.specs.Prelude.{◌⊎◌, slice_get, slice_index}
use Rattle.std.proofs.lemmas.Bool.{cases_eq, cases_lt}
use Rattle.std.proofs.lemmas.List.{get_or_append_left, get_or_push, length_push}
use Rattle.std.proofs.lemmas.Option.{slice_get-get_or}
use Rattle.cg_recur.specs.declared.edge.Edge.{Edge}
use Rattle.cg_recur.specs.Chain.{IsTight}
use Rattle.cg_recur.specs.declared.moments.Step.{Step}
use Rattle.cg_recur.specs.Log.{IsWithin, IsLog, IsShallow, time_of, depth_of, IsSettled, IsDeep, IsBegun, IsCounting}
use Rattle.cg_recur.proofs.Pushes.{step_kept, step_new, IsRise, next_raised, next_same, shallow_more}
use Rattle.cg_recur.proofs.Ends.{begun, next_round, tight}

-- ---- the start

abbrev start_of : ℕ → Step
start_of v = record { node = v; edge = 0; before = v; time = 0; depth = 0 }

starts_at : (v : ℕ) → ((start_of v).node ≡ v) × ((start_of v).depth ≡ 0) × ((start_of v).time ≡ 0)
starts_at v = (refl, refl, refl)

begin : (n : ℕ) → (log : List Step) × IsBegun n log
begin zero = ([], (refl, λ i l. absurd (omega arith)))
begin (suc n) =
    let (log, (len, at)) = begin n in
    let s = start_of n in
    let (a, b, c) = starts_at n in
    let long = length_push log s in (
      log ++ s ∷ [],
      (
        omega arith,
        λ i l.
            ⊎_elim
            (λ (h : i < n). let k = step_kept log s i (omega arith) in let (x, y, z) = at i h in (ap (λ t. t.node) k ∙ x, ap (λ t. t.depth) k ∙ y, ap (λ t. t.time) k ∙ z))
            (λ h. let q : n ≡ i = omega arith in let k = step_new log s i (len ∙ q) in (ap (λ t. t.node) k ∙ a ∙ q, ap (λ t. t.depth) k ∙ b, ap (λ t. t.time) k ∙ c))
            (cases_lt i n),
      ),
    )

count : (n : ℕ) → (last : List ℕ) × IsCounting n last
count zero = ([], (refl, λ i l. absurd (omega arith)))
count (suc n) =
    let (last, (len, at)) = count n in
    let long = length_push last n in (
      last ++ n ∷ [],
      (
        omega arith,
        λ i l.
            ⊎_elim
            (λ (h : i < n). get_or_append_left last (n ∷ []) 0 i (omega arith) ∙ at i h)
            (λ h. let q : n ≡ i = omega arith in get_or_push last n 0 i (len ∙ q) ∙ q)
            (cases_lt i n),
      ),
    )

-- ---- visits

abbrev no_edge : Edge
no_edge = record { source = 0; target = 0; latency = 0; distance = 0 }

module _ (es : List Edge) (ii n : ℕ) (within : IsWithin es n) where
  -- in round r, after the first j edges
  abbrev State : ℕ → ℕ → Type 0
  State r j = (log : List Step) × (last : List ℕ) × IsLog es ii n log last × IsShallow n log × IsSettled es ii r j log last

  -- a log that is too deep
  abbrev pub HasDeep : Type 0
  HasDeep = (log : List Step) × (last : List ℕ) × IsLog es ii n log last × IsDeep n log

  raised : (r j : ℕ) (e : Edge) (log : List Step) (last : List ℕ) → slice_get es j ≡ Some e → IsLog es ii n log last → IsShallow n log → IsSettled es ii r j log last →
      time_of log last e.target + ii * e.distance < time_of log last e.source + e.latency → State r (j + 1) ⊎ HasDeep
  raised r j e log last is good shallow settled lt =
      let s : Step = record { node = e.target; edge = j; before = slice_index last e.source; time = time_of log last e.source + e.latency - ii * e.distance; depth = depth_of log last e.source + 1 } in
      let rise : IsRise es ii n log last j e s = record { is = is; node = refl; edge = refl; before = refl; sum = omega arith; deeper = refl; rises = omega arith } in
      let next = next_raised es ii n log last j e s within good rise in
      let low = shallow (slice_index last e.source) (good.known e.source (within j e is).0) in
      ⊎_elim
      (λ (q : depth_of log last e.source + 1 ≡ n). inr (log ++ s ∷ [], set last e.target (length log), next.0, (length log, length_push log s, ap (λ z. z.depth) (step_new log s (length log) refl) ∙ q)))
      (λ ne. inl (log ++ s ∷ [], set last e.target (length log), next.0, shallow_more n log s shallow (omega arith), next.1 r settled))
      (cases_eq (depth_of log last e.source + 1) n)

  visit : (r j : ℕ) → j < length es → State r j → State r (j + 1) ⊎ HasDeep
  visit r j l (log, last, good, shallow, settled) =
      let e = get_or es j no_edge in
      let is : slice_get es j ≡ Some e = slice_get-get_or es j no_edge l in
      ⊎_elim
      (λ lt. raised r j e log last is good shallow settled lt)
      (λ slack. let next = next_same es ii n j log last e is good slack in inl (log, last, next.0, shallow, next.1 r settled))
      (cases_lt (time_of log last e.target + ii * e.distance) (time_of log last e.source + e.latency))

  visits : (r j : ℕ) → j ≤ length es → State r 0 → State r j ⊎ HasDeep
  visits r zero l s = inl s
  visits r (suc j) l s =
      let e : j + 1 ≡ suc j = omega arith in
      ⊎_elim (λ t. ⊎_elim (λ u. inl (subst (State r) e u)) (λ d. inr d) (visit r j (omega arith) t)) (λ d. inr d) (visits r j (omega arith) s)

  rounds : (r : ℕ) → State 0 0 → State r 0 ⊎ HasDeep
  rounds zero s = inl s
  rounds (suc r) s =
      let e : r + 1 ≡ suc r = omega arith in
      ⊎_elim
      (λ t. ⊎_elim (λ (log, last, a, b, c). inl (subst (λ z. State z 0) e (log, last, a, b, next_round es ii r log last c))) (λ d. inr d) (visits r (length es) (omega arith) t))
      (λ d. inr d)
      (rounds r s)

  -- a log whose times no edge asks more than
  abbrev pub HasTight : Type 0
  HasTight = (log : List Step) × (last : List ℕ) × IsLog es ii n log last × IsTight (slice_get es) ii (time_of log last)

  pub log_or_deep : HasTight ⊎ HasDeep
  log_or_deep =
      let (log, b) = begin n in
      let (last, c) = count n in
      let (g, s, h) = begun es ii n log last b c in
      ⊎_elim (λ (log, last, good, shallow, settled). inl (log, last, good, tight es ii n log last within good shallow settled)) (λ d. inr d) (rounds n (log, last, g, s, h))

  pub tight_or_deep : ((time : ℕ → ℕ) × IsTight (slice_get es) ii time) ⊎ HasDeep
  tight_or_deep = ⊎_elim (λ (log, last, good, t). inl (time_of log last, t)) (λ d. inr d) log_or_deep
