use Rattle.std.proofs.Common.{◌≡◌, ℕ, ◌<◌, ◌||◌, true}
use Rattle.cg_model.specs.Canonical.{port_free}
use Rattle.cg_config.specs.Parts.{Notes, given_in, given_before}
use Rattle.cg_config.proofs.checking.has_ports_in.Given as goal

abbrev pub invariant-loop-x : goal.invariant-loop-x
invariant-loop-x l = record {
  noted : Notes l.taken (λ q. given_before l.arch l.config l.slot q || given_in l.config l.slot l.x q);
  free : (y : ℕ) → y < l.x → port_free l.arch l.config y l.slot ≡ true;
}
