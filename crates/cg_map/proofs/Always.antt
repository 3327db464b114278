-- There is always an answer, by definitions alone.
use Rattle.std.proofs.Common.{◌≡◌, ℕ, zero, suc, ◌+◌, ◌-◌, ◌≤◌, List, [], ◌∷◌, ◌++◌, length, Option, refl, ap, arith}
use Rattle.std.proofs.Math.ListN.{length-append}
use Rattle.cg_model.specs.Kernel.{Kernel, IsKernel}
use Rattle.cg_model.specs.Array.{Arch, IsArch}
use Rattle.cg_bound.specs.Bound.{IsOpen}
use Rattle.cg_map.specs.declared.trying.Attempt.{Attempt}
use Rattle.cg_map.specs.declared.trying.Attempt.TheVariants as at
use Rattle.cg_intervals.specs.declared.answering.Answer.{Answer}
use Rattle.cg_intervals.specs.declared.answering.Answer.TheVariants.{Mapped, Unmapped}
use Rattle.cg_intervals.specs.Intervals.{IsAsked, last_tried, IsFirst}
use Rattle.cg_map.specs.declared.answering.Costs.{Costs}
use Rattle.cg_map.specs.Tried.{IsAttempt, AreLeft, IsTried, IsAnswer}
use Rattle.cg_intervals.proofs.Intervals.{first_within, last_positive, open_from}
use Rattle.cg_intervals.proofs.Answers as answers
use Rattle.cg_intervals.proofs.Answers.{held}
use Rattle.cg_map.proofs.Attempts.{some_attempt, left_more}

module _ (A : Arch) (K : Kernel) (arch : IsArch A) (kernel : IsKernel K) (asked : Option ℕ) (seed moves : ℕ) (is : IsAsked A asked) where
  module _ (free : IsOpen A K (last_tried A asked)) (first : ℕ) (is_first : IsFirst A K asked first) where
    abbrev Comes : Type 0
    Comes = (a : Answer Costs) × IsAnswer A K asked seed moves a

    -- a mapping comes, or one cost more is left
    on_from : (costs : List ℕ) → AreLeft A K seed moves first costs → first + length costs ≤ last_tried A asked
        → ((c : ℕ) → AreLeft A K seed moves first (costs ++ c ∷ []) → Comes) → (a : Attempt) → IsAttempt A K seed moves (first + length costs) a → Comes
    on_from costs left within more (at.Mapped m way) p =
        (Mapped m way, record { free = free; first = first; is_first = is_first; tried = record { costs = costs; left = left; within = within; attempt = p } })
    on_from costs left within more (at.Left c) p = more c (left_more A K seed moves first costs c left p)

    -- on from the intervals whose costs are left
    upwards : (fuel : ℕ) (costs : List ℕ) → AreLeft A K seed moves first costs → first + length costs + fuel ≡ last_tried A asked + 1 → Comes
    upwards zero costs left e =
        let (some, most) = last_positive A K asked arch is in
        let few = arch.small.contexts.1 in
        let all : first + length costs ≡ last_tried A asked + 1 = omega (arith, e) in
        let v = held costs (omega (arith, all, most, few)) in
        (Unmapped (record { first = first; costs = v }), record { free = free; first = first; is_first = is_first; tried = (refl, record { left = left; all = all }) })
    upwards (suc fuel) costs left e =
        let (some, most) = last_positive A K asked arch is in
        let (positive, l) = first_within A K asked first arch is free is_first in
        let ii = first + length costs in
        let within : ii ≤ last_tried A asked = omega (arith, e) in
        let (a, p) = some_attempt A K arch kernel seed moves ii (omega (arith, positive)) (omega (arith, within, most)) (open_from A K asked first ii free is_first (omega arith) within) in
        on_from costs left within
        (λ c left'.
        let longer : length (costs ++ c ∷ []) ≡ length costs + 1 = length-append costs (c ∷ []) in
        upwards fuel (costs ++ c ∷ []) left' (omega (arith, e, longer)))
        a p

  pub some_answer : (a : Answer Costs) × IsAnswer A K asked seed moves a
  some_answer =
      answers.some_answer A K asked (IsTried A K asked seed moves) arch kernel
      (λ first free is_first.
      let (positive, l) = first_within A K asked first arch is free is_first in
      upwards free first is_first (last_tried A asked + 1 - first) [] tt (omega (arith, l)))
