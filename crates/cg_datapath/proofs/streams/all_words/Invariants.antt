use Rattle.std.proofs.Common.{◌≡◌, ◌≤◌, length}
use Rattle.std.specs.Prelude.{vec_capacity}
use Rattle.cg_datapath.specs.Reserved.{all_words}
use Rattle.cg_datapath.proofs.streams.all_words.Given as goal

abbrev pub invariant-loop-stream : goal.invariant-loop-stream
invariant-loop-stream l = record { items : l.finished.items ≡ all_words l.yielded; room : length l.fn.streams.items ≤ vec_capacity l.finished }
