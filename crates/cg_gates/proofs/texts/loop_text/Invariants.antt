use Rattle.std.proofs.Common.{◌≡◌, ◌++◌, drop, string_bytes, flat_map}
use Rattle.std.specs.Prelude.{codes}
use Rattle.cg_gates.proofs.texts.loop_text.Given as goal

abbrev pub invariant-loop-net : goal.invariant-loop-net
invariant-loop-net l = string_bytes l.text ++ flat_map (λ net. codes " " ++ net) (drop l.net-index l.nets) ≡ codes "E3 MuxLoop" ++ flat_map (λ net. codes " " ++ net) l.nets
