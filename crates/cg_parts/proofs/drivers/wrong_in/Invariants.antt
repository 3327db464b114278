use Rattle.std.proofs.Common.{◌≡◌, drop}
use Rattle.cg_model.specs.First.{first_such}
use Rattle.cg_parts.specs.Rules.{is_wrong}
use Rattle.cg_parts.proofs.drivers.wrong_in.Given as goal

abbrev pub invariant-loop-name : goal.invariant-loop-name
invariant-loop-name l = first_such (is_wrong l.rule l.resources) (drop l.name-index l.drivers) ≡ first_such (is_wrong l.rule l.resources) l.drivers
