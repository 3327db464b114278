use Rattle.std.proofs.Common.{◌≡◌, ℕ, arith, List, [], ◌∷◌, length, Result, Ok, Err, IfOk, refl}
use Rattle.cg_model.specs.Array.{Arch, IsArch}
use Rattle.cg_bits.specs.declared.fault.BitsFault.{BitsFault}
use Rattle.cg_bits.specs.Spelling.{AreBits}
use Rattle.cg_bits.specs.Ranges.{IsBytes}
use Rattle.cg_bits.specs.Checks.{Checks}
use Rattle.cg_arch.specs.Kept.{digest_of}
use Rattle.cg_bits.specs.Answers.{faults_of, config_of}
use Rattle.cg_bits.proofs.Answered.{answer_is, bits_of, none_of, config_is}
use Rattle.cg_bits.proofs.Rising.{places_rise}
use Rattle.cg_bits.proofs.check.check_bits.Goals as goal

accepted : (r : Result (Unit {0}) BitsFault) (A : Arch) (bytes : List ℕ) → IsArch A → length (digest_of A) ≡ 32 → IsBytes bytes → Checks r (faults_of A bytes) → IfOk r (λ u. AreBits A (config_of A bytes) bytes)
accepted (Ok u) A bytes valid sized fits h = bits_of A bytes valid sized fits h
accepted (Err f) A bytes valid sized fits h = tt

right : (r : Result (Unit {0}) BitsFault) (fs : List BitsFault) → fs ≡ [] → Checks r fs → r ≡ Ok tt
right (Ok u) fs e h = refl
right (Err f) [] e h = absurd cc
right (Err f) (g ∷ fs) e h = absurd cc

pub returns-clause-bits : goal.returns-clause-bits
returns-clause-bits c =
    accepted c.check.result c.args.arch.now c.args.bytes.now c.check.ensures.valid c.check.ensures.sized (λ i. let h = c.type_inv.bytes i in omega arith) c.check.ensures.faults

pub returns-clause-all : goal.returns-clause-all
returns-clause-all c = λ C bits. (
  right c.check.result _ (none_of c.args.arch.now C c.args.bytes.now c.check.ensures.valid c.check.ensures.sized bits) c.check.ensures.faults,
  config_is c.args.arch.now C c.args.bytes.now c.check.ensures.valid c.check.ensures.sized bits,
)

pub returns-clause-answer : goal.returns-clause-answer
returns-clause-answer c = answer_is c.check.result tt (faults_of c.args.arch.now c.args.bytes.now) (λ y e. refl) c.check.ensures.faults

pub returns-clause-rising : goal.returns-clause-rising
returns-clause-rising c = places_rise c.args.arch.now c.args.bytes.now
