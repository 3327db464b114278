use Rattle.std.proofs.Common.{◌≡◌, ℕ, ◌<◌, ◌==◌, length, get_or, take}
use Rattle.cg_mapping.specs.Tally.{IsSeen}
use Rattle.cg_mapping.specs.declared.tally.Seen.TheVariants.{Never}
use Rattle.cg_mapping.proofs.tally.tally.Given as goal

abbrev pub invariant-loop-place : goal.invariant-loop-place
invariant-loop-place l = record {
  len : length l.table.items ≡ l.size;
  seen : (k : ℕ) → k < l.size → IsSeen (λ key. key == k) (take l.place l.keys) (get_or l.table.items k Never);
}
