-- All answers are alike, and a mapping that is answered is legal.
use Rattle.std.proofs.Common.{◌≡◌, ℕ, ◌+◌, ◌-◌, ◌<◌, List, length, Option, sym, ap, ◌∙◌, subst, arith, ⊎_elim}
use Rattle.std.specs.Prelude.{slice_index}
use Rattle.std.proofs.lemmas.Bool.{cases_lt}
use Rattle.cg_model.specs.Kernel.{Kernel, IsKernel}
use Rattle.cg_model.specs.Array.{Arch, IsArch}
use Rattle.cg_model.specs.Mapping.{IsLegal}
use Rattle.cg_check.specs.Legal.{Mapped as MappedValue}
use Rattle.cg_intervals.specs.declared.answering.FoundBy.{FoundBy}
use Rattle.cg_map.specs.declared.trying.Attempt.TheVariants as at
use Rattle.cg_intervals.specs.declared.answering.Answer.{Answer}
use Rattle.cg_intervals.specs.declared.answering.Answer.TheVariants.{Impossible, Mapped, Unmapped}
use Rattle.cg_intervals.specs.Intervals.{IsAsked, last_tried}
use Rattle.cg_intervals.specs.Answers.{IsMapping, IsSearched}
use Rattle.cg_intervals.proofs.Answers.{not_impossible}
use Rattle.cg_map.specs.declared.answering.Costs.{Costs}
use Rattle.cg_map.specs.Tried.{IsAttempt, IsTried, IsFirstMapping, AreAllLeft, IsAnswer}
use Rattle.cg_map.specs.Laws.{AreAlike}
use Rattle.cg_hub.proofs.Legal.{hub_legal}
use Rattle.cg_hub.proofs.Hubs.{hub_interval}
use Rattle.cg_hub.specs.Hub.{HubEnough, hub_map}
use Rattle.cg_bound.proofs.Legal.{excluded}
use Rattle.cg_intervals.proofs.Intervals.{shown_forbids, one_first, first_within, last_positive, open_from}
use Rattle.cg_map.proofs.Attempts.{not_left, one_mapped, left_at, one_costs, legal_attempt}

module _ (A : Arch) (K : Kernel) (arch : IsArch A) (kernel : IsKernel K) (asked : Option ℕ) (seed moves : ℕ) where
  -- no interval before that of a first mapping has one
  not_before : (first : ℕ) (m n : MappedValue) (way by : FoundBy) (p : IsFirstMapping A K asked seed moves first m way) (q : IsFirstMapping A K asked seed moves first n by) → length p.costs < length q.costs → ⊥
  not_before first m n way by p q l = not_left A K arch kernel seed moves (first + length p.costs) m way (slice_index q.costs (length p.costs)) p.attempt (left_at A K arch kernel seed moves first q.costs (length p.costs) q.left l)

  same_mapping : (first : ℕ) (m n : MappedValue) (way by : FoundBy) → IsFirstMapping A K asked seed moves first m way → IsFirstMapping A K asked seed moves first n by → (m ≡ n) × (way ≡ by)
  same_mapping first m n way by p q =
      ⊎_elim (λ l. absurd (not_before first m n way by p q l))
      (λ h. ⊎_elim (λ l. absurd (not_before first n m by way q p l))
      (λ g. let e : first + length q.costs ≡ first + length p.costs = omega (arith, h, g) in
      one_mapped A K arch kernel seed moves (first + length p.costs) m n way by p.attempt (subst (λ z. IsAttempt A K seed moves z (at.Mapped n by)) e q.attempt))
      (cases_lt (length q.costs) (length p.costs)))
      (cases_lt (length p.costs) (length q.costs))

  -- where all costs are left there is no mapping
  none_left : (first : ℕ) (m : MappedValue) (way : FoundBy) (costs : List ℕ) → IsFirstMapping A K asked seed moves first m way → AreAllLeft A K asked seed moves first costs → ⊥
  none_left first m way costs p q =
      not_left A K arch kernel seed moves (first + length p.costs) m way (slice_index costs (length p.costs)) p.attempt
      (left_at A K arch kernel seed moves first costs (length p.costs) q.left (let w = p.within in let e = q.all in omega (arith, w, e)))

  same_costs : (first : ℕ) (cs ds : List ℕ) → AreAllLeft A K asked seed moves first cs → AreAllLeft A K asked seed moves first ds → cs ≡ ds
  same_costs first cs ds p q = one_costs A K arch kernel seed moves first cs ds (let a = p.all in let b = q.all in omega (arith, a, b)) p.left q.left

  -- ---- answers

  abbrev Answered : Answer Costs → Type 0
  Answered a = IsAnswer A K asked seed moves a

  -- what comes of one first interval
  same_tried : (first : ℕ) (a b : Answer Costs) → IsTried A K asked seed moves first a → IsTried A K asked seed moves first b → AreAlike a b
  same_tried first (Impossible c) b p q = absurd p
  same_tried first (Mapped m way) (Impossible d) p q = absurd q
  same_tried first (Mapped m way) (Mapped n by) p q = same_mapping first m n way by p q
  same_tried first (Mapped m way) (Unmapped d) p q = absurd (none_left first m way d.costs.items p q.1)
  same_tried first (Unmapped c) (Impossible d) p q = absurd q
  same_tried first (Unmapped c) (Mapped n by) p q = absurd (none_left first n by c.costs.items q p.1)
  same_tried first (Unmapped c) (Unmapped d) p q = (p.0 ∙ sym q.0, same_costs first c.costs.items d.costs.items p.1 q.1)

  abbrev Comes : ℕ → Answer Costs → Type 0
  Comes = IsTried A K asked seed moves

  same_search : (a b : Answer Costs) → IsSearched A K asked Comes a → IsSearched A K asked Comes b → AreAlike a b
  same_search a b p q =
      let e : p.first ≡ q.first = one_first A K asked p.first q.first p.is_first q.is_first in
      same_tried q.first a b (subst (λ z. IsTried A K asked seed moves z a) e p.tried) q.tried

  pub alike : (a b : Answer Costs) → Answered a → Answered b → AreAlike a b
  alike (Impossible c) (Impossible d) p q = tt
  alike (Impossible c) (Mapped n by) p q = absurd (not_impossible A K asked Comes (Mapped n by) q c p)
  alike (Impossible c) (Unmapped d) p q = absurd (not_impossible A K asked Comes (Unmapped d) q c p)
  alike (Mapped m way) (Impossible d) p q = absurd (not_impossible A K asked Comes (Mapped m way) p d q)
  alike (Mapped m way) (Mapped n by) p q = same_search (Mapped m way) (Mapped n by) p q
  alike (Mapped m way) (Unmapped d) p q = same_search (Mapped m way) (Unmapped d) p q
  alike (Unmapped c) (Impossible d) p q = absurd (not_impossible A K asked Comes (Unmapped c) p d q)
  alike (Unmapped c) (Mapped n by) p q = same_search (Unmapped c) (Mapped n by) p q
  alike (Unmapped c) (Unmapped d) p q = same_search (Unmapped c) (Unmapped d) p q

  -- a mapping that is answered is legal
  pub legal : IsAsked A asked → (m : MappedValue) (way : FoundBy) → Answered (Mapped m way) → (m.arch ≡ A) × (m.kernel ≡ K) × IsLegal A K m.mapping
  legal is m way p =
      let (some, most) = last_positive A K asked arch is in
      let (positive, l) = first_within A K asked p.first arch is p.free p.is_first in
      let t = p.tried in
      let w = t.within in
      let ii = p.first + length t.costs in
      legal_attempt A K arch kernel seed moves ii m way (omega (arith, positive)) (omega (arith, w, most))
      (open_from A K asked p.first ii p.free p.is_first (omega arith) w) t.attempt

  -- where the hub suffices at the last interval a mapping is answered
  pub by_hub : IsAsked A asked → HubEnough A K (last_tried A asked) → (a : Answer Costs) → Answered a → IsMapping a
  by_hub is enough (Mapped m way) p = tt
  by_hub is enough (Impossible c) p =
      let ii = last_tried A asked in
      excluded A K ii kernel (shown_forbids A K ii c p) (hub_map A K ii) (hub_interval A K ii) (hub_legal A K ii arch kernel enough)
  by_hub is enough (Unmapped c) p =
      let (positive, l) = first_within A K asked p.first arch is p.free p.is_first in
      let all = p.tried.1.all in
      let n = last_tried A asked - p.first in
      let e : p.first + n ≡ last_tried A asked = omega (arith, l) in
      let left = left_at A K arch kernel seed moves p.first c.costs.items n p.tried.1.left (omega (arith, all, l)) in
      left.0 (subst (HubEnough A K) (sym e) enough)
