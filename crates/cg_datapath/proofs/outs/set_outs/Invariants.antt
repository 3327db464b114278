use Rattle.std.proofs.Common.{◌≡◌, ℕ, ◌<◌}
use Rattle.std.specs.Prelude.{slice_index}
use Rattle.cg_datapath.specs.Terminals.{terminals}
use Rattle.cg_datapath.specs.Course.{Keeps}
use Rattle.cg_datapath.specs.Outs.{AreGiven}
use Rattle.cg_datapath.proofs.outs.set_outs.Given as goal

abbrev pub invariant-loop-x : goal.invariant-loop-x
invariant-loop-x l = record {
  kept : (f : ℕ → ℕ) → AreGiven l.units l.row l.history f → Keeps f l.initial.words l.words;
  right : (f : ℕ → ℕ) → AreGiven l.units l.row l.history f → (x : ℕ) → x < l.x → slice_index l.words (terminals l.units x).out ≡ f (terminals l.units x).out;
}
