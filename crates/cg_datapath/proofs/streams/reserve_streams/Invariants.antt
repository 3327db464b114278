use Rattle.std.proofs.Common.{◌≡◌, ℕ, ◌<◌, true, false, length, []}
use Rattle.std.specs.Prelude.{slice_index_or}
use Rattle.cg_datapath.specs.Reserved.{stream}
use Rattle.cg_datapath.proofs.streams.reserve_streams.Given as goal

abbrev pub invariant-loop-port : goal.invariant-loop-port
invariant-loop-port g l = record {
  long : length l.streams.items ≡ l.port;
  empty : (port : ℕ) → (stream l.streams.items port).words ≡ [];
  used : (port : ℕ) → port < l.port → slice_index_or l.used port false ≡ true → (stream l.streams.items port).room ≡ l.n;
  unused : (port : ℕ) → slice_index_or l.used port false ≡ false → (stream l.streams.items port).room ≡ 0;
}
