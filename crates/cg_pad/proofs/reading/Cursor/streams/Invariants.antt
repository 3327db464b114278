use Rattle.std.proofs.Common.{◌≡◌, ◌-◌, length}
use Rattle.cg_pad.specs.Bytes.{read_streams}
use Rattle.cg_pad.proofs.Steps.{streams_after}
use Rattle.cg_pad.proofs.reading.Cursor.streams.Given as goal

-- the streams so far, and then those that are still to come
abbrev pub invariant-loop-port : goal.invariant-loop-port
invariant-loop-port l = record {
  taken : streams_after l.streams.items (read_streams l.self.size l.port (16 - l.port) l.self.rest.now) ≡ read_streams l.fn.self.size 0 16 l.fn.self.rest.now;
  long : length l.streams.items ≡ l.port;
  size : l.self.size ≡ l.fn.self.size;
}
