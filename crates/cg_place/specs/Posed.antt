-- A kernel that is to be mapped on an architecture, at an interval.
use Rattle.std.specs.Prelude.{ℕ, ◌<◌, ◌≤◌, List}
use Rattle.cg_model.specs.Kernel.{Kernel, IsKernel}
use Rattle.cg_model.specs.Array.{Arch, IsArch}
use Rattle.cg_recur.specs.Recurrences.{HasNoRecurrence, AreEarliest}
use Rattle.cg_place.specs.Placed.{IsOffered}

-- an architecture, a kernel, an interval, and a time of each node
pub record Posed : Type 0 where
  pub arch : Arch
  pub kernel : Kernel
  pub ii : ℕ
  pub early : List ℕ

-- the interval has at least one cycle and at most the number of contexts, and no recurrence forbids it; a unit offers
-- each operation; and the times are the earliest ones
pub record IsTask (T : Posed) : Type 0 where
  pub arch : IsArch T.arch
  pub kernel : IsKernel T.kernel
  pub some : 0 < T.ii
  pub contexts : T.ii ≤ T.arch.contexts
  pub offered : IsOffered T.arch T.kernel
  pub free : HasNoRecurrence T.arch T.kernel T.ii
  pub times : AreEarliest T.arch T.kernel T.ii T.early
