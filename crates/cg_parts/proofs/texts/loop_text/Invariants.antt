use Rattle.std.proofs.Common.{◌≡◌, ◌++◌, drop, string_bytes}
use Rattle.std.specs.Prelude.{codes}
use Rattle.cg_parts.specs.Texts.{spaced_names}
use Rattle.cg_parts.proofs.texts.loop_text.Given as goal

abbrev pub invariant-loop-name : goal.invariant-loop-name
invariant-loop-name l = string_bytes l.text ++ spaced_names (drop l.name-index l.names) ≡ codes "A6 ZeroDelayLoop" ++ spaced_names l.names
