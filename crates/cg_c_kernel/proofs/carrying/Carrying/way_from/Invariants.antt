use Rattle.std.proofs.Common.{ℕ, ◌<◌, length}
use Rattle.std.specs.Prelude.{slice_index}
use Rattle.cg_c_values.specs.Listed.{listed}
use Rattle.cg_c_kernel.specs.Made.{IsLiveWord}
use Rattle.cg_c_kernel.proofs.carrying.Carrying.way_from.Given as goal

abbrev pub invariant-loop : goal.invariant-loop
invariant-loop l =
    record {
      way : (i : ℕ) → i < length l.way.items → IsLiveWord (listed l.live.values.now) l.live.marks.items (slice_index l.way.items i);
      last : IsLiveWord (listed l.live.values.now) l.live.marks.items l.last;
    }
