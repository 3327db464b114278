-- Facts about canonical configurations: fields that are all zero keep the rules, stages have room, and greatest numbers.
use Rattle.std.proofs.Common.{◌≤◌, true, leb, List}
use Rattle.std.proofs.lemmas.Bool.{leb-true, and_parts}
use Rattle.cg_word.specs.declared.op.Op.{Op}
use Rattle.cg_model.specs.declared.config.UnitFields.{UnitFields}
use Rattle.cg_model.specs.Canonical.{AreFields}

-- a stage has room in 16 bits, and so does one more
pub stage_fits : (ops : List Op) (f : UnitFields) → AreFields ops f → f.stage ≤ 65534
stage_fits ops f are = leb-true _ _ (and_parts _ _ are.stage).0
