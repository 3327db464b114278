use Rattle.std.proofs.Common.{◌≡◌, ◌++◌, ◌<◌, ℕ, [], get_or}
use Rattle.std.specs.Prelude.{string_bytes}
use Rattle.cg_list_laws.specs.Below.{lists_below}
use Rattle.cg_image_text.specs.Printed.{stream_at, AreWords}
use Rattle.cg_image_text.proofs.print.push_streams.Given as goal

abbrev pub invariant-loop-port : goal.invariant-loop-port
invariant-loop-port l = record {
  text : string_bytes l.text ≡ string_bytes l.fn.text ++ lists_below (stream_at l.streams) l.port;
  words : (port : ℕ) → port < l.port → AreWords (get_or l.streams port []);
}
