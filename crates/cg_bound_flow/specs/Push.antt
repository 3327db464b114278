-- Flows on links, and flow that is sent along steps.
use Rattle.std.specs.Prelude.{◌≡◌, ℕ, ◌+◌, ◌*◌, ◌<◌, ◌≤◌, ◌⊎◌, eqb, List, length, slice_index}
use Rattle.cg_bound_registers.specs.Pressure.{total, one_if}
use Rattle.cg_bound_flow.specs.declared.network.Link.{Link}
use Rattle.cg_bound_flow.specs.declared.reach.Step.{Step}
use Rattle.cg_bound_flow.specs.Network.{link, IsTight}
use Rattle.cg_bound_flow.specs.Reach.{step}

-- the sum of f over the links, each times its flow
abbrev pub gather : List Link → List ℕ → (Link → ℕ) → ℕ
gather links flow f = total (length links) (λ k. slice_index flow k * f (link links k))

-- the flow into place x, and out of it
abbrev pub into : List Link → List ℕ → ℕ → ℕ
into links flow x = gather links flow (λ l. one_if (eqb l.to x))

abbrev pub out_of : List Link → List ℕ → ℕ → ℕ
out_of links flow x = gather links flow (λ l. one_if (eqb l.from x))

-- the flow from place a to place b is increased by `by`, over tight links
pub record IsPushed (links : List Link) (at flow : List ℕ) (a b by : ℕ) (flow' : List ℕ) : Type 0 where
  pub each : length flow' ≡ length flow
  pub balanced : (x : ℕ) → into links flow' x + out_of links flow x + by * one_if (eqb a x) ≡ into links flow x + out_of links flow' x + by * one_if (eqb b x)
  pub tight : (k : ℕ) → k < length links → (slice_index flow' k ≡ slice_index flow k) ⊎ IsTight at (link links k)
  pub small : (k : ℕ) → slice_index flow' k ≤ slice_index flow k + by

-- the flow is increased from step i on so far, and the links of the steps up to i are unchanged
pub record IsPushing (links : List Link) (at flow : List ℕ) (steps : List Step) (i b by : ℕ) (flow' : List ℕ) : Type 0 where
  pub inside : i < length steps
  pub pushed : IsPushed links at flow (step steps i).place b by flow'
  pub rest : (j : ℕ) → 0 < j → j ≤ i → slice_index flow' (step steps j).link ≡ slice_index flow (step steps j).link
