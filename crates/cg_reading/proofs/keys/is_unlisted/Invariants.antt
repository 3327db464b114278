use Rattle.std.proofs.Common.{◌≡◌, drop, map}
use Rattle.cg_reading.specs.Keys.{is_unlisted}
use Rattle.cg_reading.proofs.keys.is_unlisted.Given as goal

abbrev pub invariant-loop-other : goal.invariant-loop-other
invariant-loop-other l = is_unlisted (map (λ k. k.now) (drop l.other-index l.known)) l.key ≡ is_unlisted (map (λ k. k.now) l.known) l.key
