use Rattle.std.proofs.Common.{◌≡◌, Result, Ok, Err, IfOk, subst, sym}
use Rattle.std.specs.declared.alloc.AllocError.{AllocError}
use Rattle.cg_model.specs.Array.{Arch}
use Rattle.cg_model.specs.Config.{Config}
use Rattle.cg_model.specs.Canonical.{IsCanonical}
use Rattle.cg_config.specs.Changes.{all_off}
use Rattle.cg_config.proofs.Changed.{off_canonical}
use Rattle.cg_config.proofs.config.Config.new.Goals as goal

canonical : (A : Arch) (C : Config) (r : Result Config AllocError) → IsCanonical A C → IfOk r (λ D. D ≡ C) → IfOk r (λ D. IsCanonical A D)
canonical A C (Ok D) right e = subst (IsCanonical A) (sym e) right
canonical A C (Err f) right e = tt

pub returns-clause-canonical : goal.returns-clause-canonical
returns-clause-canonical c = canonical c.args.arch.now (all_off c.args.arch.now c.args.ii) c.all_off.result (off_canonical c.args.arch.now c.args.ii c.requires.some c.requires.contexts) c.all_off.ensures
