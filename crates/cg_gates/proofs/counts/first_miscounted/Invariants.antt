use Rattle.std.proofs.Common.{◌≡◌, drop}
use Rattle.std.specs.Prelude.{find}
use Rattle.cg_gates.specs.Numbers.{is_uncounted}
use Rattle.cg_gates.proofs.counts.first_miscounted.Given as goal

abbrev pub invariant-loop-net : goal.invariant-loop-net
invariant-loop-net l = find (is_uncounted l.counts) (drop l.net-index l.nets) ≡ find (is_uncounted l.counts) l.nets
