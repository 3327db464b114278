use Rattle.std.proofs.Common.{◌≡◌, ◌≤◌, take}
use Rattle.cg_class.specs.Class.{load}
use Rattle.cg_class.proofs.counts.count_on.Given as goal

abbrev pub invariant-loop-place : goal.invariant-loop-place
invariant-loop-place l = (l.count ≡ load (take l.place-index l.places) l.unit) × (l.count ≤ l.place-index)
