use Rattle.std.proofs.Common.{◌≡◌, take, map}
use Rattle.cg_loop.specs.Known.{env_of, known_of, operand_of}
use Rattle.cg_loop.proofs.names.value_of.Given as goal

abbrev pub invariant-loop-named : goal.invariant-loop-named
invariant-loop-named l = operand_of l.value ≡ env_of (map known_of (take l.named-index l.known)) l.name
