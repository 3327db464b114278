-- How great the numbers of a state can be.
use Rattle.std.specs.Prelude.{ℕ, ◌+◌, ◌*◌, ◌<◌, ◌≤◌, length}
use Rattle.cg_model.specs.Limits.{latest_time, most_contexts, most_resources}
use Rattle.cg_model.specs.Array.{Arch}
use Rattle.cg_route.specs.Least.{Ends}

-- between resources of the architecture, at times that result from nodes of a mapping with latencies of at most 4
-- cycles and distances of at most 4 iterations
pub record AreInRange (A : Arch) (ends : Ends) : Type 0 where
  pub from : ends.from < length A.resources
  pub to : ends.to < length A.resources
  pub start : ends.start ≤ latest_time + 4
  pub end : ends.end ≤ latest_time + 4 * most_contexts

-- the greatest number of resources on a path between such ends, which is on each at most once in a cycle: 269,479,936
abbrev pub most_steps : ℕ
most_steps = (latest_time + 4 * most_contexts + 1) * most_resources
