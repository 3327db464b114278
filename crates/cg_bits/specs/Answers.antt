-- The result of reading bytes: the configuration that they encode, or their first fault.
use Rattle.std.specs.Prelude.{ℕ, List, [], ◌∷◌, Result, Ok, Err}
use Rattle.cg_model.specs.Array.{Arch}
use Rattle.cg_model.specs.Config.{Config}
use Rattle.cg_arch.specs.Kept.{digest_of}
use Rattle.cg_bits.specs.declared.fault.BitsFault.{BitsFault}
use Rattle.cg_bits.specs.declared.format.Format.{Format}
use Rattle.cg_bits.specs.Format.{cgb2}
use Rattle.cg_bits.specs.Reading.{config_at}
use Rattle.cg_bits.specs.Faults.{faults}

-- all faults of bytes as a bitstream of a format for an architecture, in the order of numbers and then of places
abbrev pub faults_in : Format → Arch → List ℕ → List BitsFault
faults_in F A bytes = faults F A (digest_of A) bytes

-- the value, unless there is a fault
abbrev pub unless_fault : {X : Type 0} → List BitsFault → X → Result X BitsFault
unless_fault [] x = Ok x
unless_fault (f ∷ fs) x = Err f

-- the configuration that bytes encode in a format, or the first of their faults
abbrev pub answer_in : Format → Arch → List ℕ → Result Config BitsFault
answer_in F A bytes = unless_fault (faults_in F A bytes) (config_at F A bytes)

-- ---- in `CGB2`

abbrev pub faults_of : Arch → List ℕ → List BitsFault
faults_of A bytes = faults_in cgb2 A bytes

-- the configuration that bytes would encode
abbrev pub config_of : Arch → List ℕ → Config
config_of A bytes = config_at cgb2 A bytes

abbrev pub answer_of : Arch → List ℕ → Result Config BitsFault
answer_of A bytes = answer_in cgb2 A bytes
