-- All that follows from how a call ends.
use Rattle.std.proofs.Common.{List}
use Rattle.cg_effects.specs.declared.outcome.Status.{Status}
use Rattle.cg_effects.specs.Outcome.{Name}
use Rattle.cg_effects.specs.Ends.{Moment}
use Rattle.cg_top.specs.TopCall.{Ends, KeepsCounts, IsCall}
use Rattle.cg_top.proofs.Complete.{complete, impossible}
use Rattle.cg_top.proofs.Effects.{effect}
use Rattle.cg_top.proofs.Exact.{exact}
use Rattle.cg_top.proofs.Left.{left}
use Rattle.cg_top.proofs.Table.{table}

pub call : (words : List Name) (before after : Moment) (status : Status) → Ends words before after status → KeepsCounts before after → IsCall words before after status
call words before after status ends counts = record {
  ends = ends;
  exact = exact words before after status ends;
  table = table words before after status ends;
  effect = effect words before after status ends;
  complete = complete words before after status ends;
  impossible = impossible words before after status ends;
  counts = counts;
  left = left words before after status ends;
}
