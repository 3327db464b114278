use Rattle.std.proofs.Common.{◌≡◌, [], take, drop}
use Rattle.cg_validate.specs.Hub.{first_bad_entry}
use Rattle.cg_validate.proofs.hub.first_bad_entry.Given as goal

abbrev pub invariant-loop-place : goal.invariant-loop-place
invariant-loop-place l = first_bad_entry l.resources (take l.place l.names) (drop l.place l.names) ≡ first_bad_entry l.resources [] l.names
