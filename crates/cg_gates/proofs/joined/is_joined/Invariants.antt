use Rattle.std.proofs.Common.{◌≡◌, drop}
use Rattle.std.specs.List.{list_all}
use Rattle.cg_gates.specs.Accepts.{is_joined_pin}
use Rattle.cg_gates.proofs.joined.is_joined.Given as goal

abbrev pub invariant-loop-pin : goal.invariant-loop-pin
invariant-loop-pin l = list_all (is_joined_pin l.nets l.form) (drop l.pin-index l.pin-items) ≡ list_all (is_joined_pin l.nets l.form) l.pin-items
