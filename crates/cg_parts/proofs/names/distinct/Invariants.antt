use Rattle.std.proofs.Common.{◌≡◌, [], take, fold}
use Rattle.cg_parts.specs.Parts.{texts, with_name}
use Rattle.cg_parts.proofs.names.distinct.Given as goal

abbrev pub invariant-loop-name : goal.invariant-loop-name
invariant-loop-name l = (texts l.seen.keys ≡ l.kept.items) × (l.kept.items ≡ fold with_name [] (take l.name-index l.names))
