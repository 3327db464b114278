-- Parts that validate with the same result as others.
use Rattle.cg_model.specs.Array.{Arch}
use Rattle.cg_parts.specs.declared.parts.Parts.{Parts}
use Rattle.cg_parts.specs.declared.fault.ArchFault.{ArchFault}
use Rattle.cg_validate.specs.Answer.{IsFault, AreValid}

-- each result that holds of the parts also holds of the others
pub record AnswersFor (parts others : Parts) : Type 0 where
  pub valid : (A : Arch) → AreValid parts A → AreValid others A
  pub fault : (f : ArchFault) → IsFault parts f → IsFault others f
