use Rattle.std.proofs.Common.{◌≡◌, ◌<◌, ℕ, take, length}
use Rattle.cg_datapath.specs.Terminals.{terminals}
use Rattle.cg_gates_run.proofs.run.copied.Given as goal

abbrev pub invariant-loop-j : goal.invariant-loop-j
invariant-loop-j l = record {
  copied : l.copy.items ≡ take l.j l.units;
  three : (x : ℕ) → x < l.j → length (terminals l.units x).ports ≡ 3;
}
