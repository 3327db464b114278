-- What is answered of bytes, and what they spell then.
use Rattle.std.proofs.Common.{◌≡◌, ℕ, List, [], ◌∷◌, length, Result, Ok, Err, IfOk, refl, sym, ap, ◌∙◌, subst, arith}
use Rattle.cg_model.specs.Array.{Arch, IsArch}
use Rattle.cg_model.specs.Answers.{Gives}
use Rattle.cg_model.specs.Config.{Config}
use Rattle.cg_model.specs.Canonical.{IsCanonical}
use Rattle.cg_arch.specs.Kept.{digest_of}
use Rattle.cg_bits.specs.declared.fault.BitsFault.{BitsFault}
use Rattle.cg_bits.specs.Format.{cgb1, cgb2}
use Rattle.cg_bits.specs.Reading.{config_at}
use Rattle.cg_bits.specs.Spelling.{AreBits, AreFirstBits}
use Rattle.cg_bits.specs.Ranges.{IsFormat, IsBytes}
use Rattle.cg_bits.specs.Checks.{Checks}
use Rattle.cg_bits.specs.declared.fault.BitsFault.TheVariants.{Memory}
use Rattle.cg_bits.specs.Answers.{faults_in, faults_of, config_of, unless_fault}
use Rattle.cg_bits.proofs.Room.{room_of}
use Rattle.cg_bits.proofs.Bytes.{reads_back, one_spelling}
use Rattle.cg_bits.proofs.Exact.{parts_none, canonical, spelled, no_fault}

pub is_cgb1 : IsFormat cgb1
is_cgb1 = record { narrow = omega arith; codes_fit = omega arith; known = omega arith }

pub is_cgb2 : IsFormat cgb2
is_cgb2 = record { narrow = omega arith; codes_fit = omega arith; known = omega arith }

pub answer_is : {X : Type 0} (r : Result X BitsFault) (x : X) (faults : List BitsFault) → ((y : X) → r ≡ Ok y → y ≡ x) → Checks r faults → r ≡ unless_fault faults x
answer_is (Ok y) x [] same h = ap (λ z. Ok z) (same y refl)
answer_is (Ok y) x (f ∷ fs) same h = absurd cc
answer_is (Err f) x [] same h = absurd cc
answer_is (Err f) x (g ∷ fs) same h = cc

-- ---- in `CGB2`

-- bytes without a fault are a bitstream of what is read
pub bits_of : (A : Arch) (bytes : List ℕ) → IsArch A → length (digest_of A) ≡ 32 → IsBytes bytes → faults_of A bytes ≡ [] → AreBits A (config_of A bytes) bytes
bits_of A bytes valid sized fits none =
    let parts = parts_none cgb2 A (digest_of A) bytes none in
    record {
      canonical = canonical cgb2 is_cgb2 A (room_of A valid) (digest_of A) sized bytes parts;
      spelled = spelled cgb2 is_cgb2 A (room_of A valid) (digest_of A) sized bytes parts fits;
    }

-- and a bitstream has no fault
pub none_of : (A : Arch) (C : Config) (bytes : List ℕ) → IsArch A → length (digest_of A) ≡ 32 → AreBits A C bytes → faults_of A bytes ≡ []
none_of A C bytes valid sized bits = no_fault cgb2 is_cgb2 A (room_of A valid) (digest_of A) sized C bytes bits.canonical bits.spelled

-- and is read as its configuration
pub config_is : (A : Arch) (C : Config) (bytes : List ℕ) → IsArch A → length (digest_of A) ≡ 32 → AreBits A C bytes → config_of A bytes ≡ C
config_is A C bytes valid sized bits = reads_back cgb2 is_cgb2 A (room_of A valid) (digest_of A) sized C bytes bits.canonical bits.spelled

pub same_bytes : (A : Arch) (C : Config) (a b : List ℕ) → IsArch A → length (digest_of A) ≡ 32 → IsBytes a → IsBytes b → AreBits A C a → AreBits A C b → a ≡ b
same_bytes A C a b valid sized fits fit s t = one_spelling cgb2 is_cgb2 A (room_of A valid) (digest_of A) sized C a b fits fit s.spelled t.spelled

-- ---- the same in `CGB1`

pub first_bits_of : (A : Arch) (bytes : List ℕ) → IsArch A → length (digest_of A) ≡ 32 → IsBytes bytes → faults_in cgb1 A bytes ≡ [] → AreFirstBits A (config_at cgb1 A bytes) bytes
first_bits_of A bytes valid sized fits none =
    let parts = parts_none cgb1 A (digest_of A) bytes none in
    record {
      canonical = canonical cgb1 is_cgb1 A (room_of A valid) (digest_of A) sized bytes parts;
      spelled = spelled cgb1 is_cgb1 A (room_of A valid) (digest_of A) sized bytes parts fits;
    }

pub none_first : (A : Arch) (C : Config) (bytes : List ℕ) → IsArch A → length (digest_of A) ≡ 32 → AreFirstBits A C bytes → faults_in cgb1 A bytes ≡ []
none_first A C bytes valid sized bits = no_fault cgb1 is_cgb1 A (room_of A valid) (digest_of A) sized C bytes bits.canonical bits.spelled

pub first_config_is : (A : Arch) (C : Config) (bytes : List ℕ) → IsArch A → length (digest_of A) ≡ 32 → AreFirstBits A C bytes → config_at cgb1 A bytes ≡ C
first_config_is A C bytes valid sized bits = reads_back cgb1 is_cgb1 A (room_of A valid) (digest_of A) sized C bytes bits.canonical bits.spelled

-- ---- what is answered

-- an answer of one kind, and of another
pub none_answered : {X : Type 0} (x y : X) (faults : List BitsFault) → Ok y ≡ unless_fault faults x → faults ≡ []
none_answered x y [] e = refl
none_answered x y (f ∷ fs) e = absurd cc

pub fault_answered : {X Y : Type 0} (x : X) (y : Y) (f : BitsFault) (faults : List BitsFault) → Err f ≡ unless_fault faults x → Err f ≡ unless_fault faults y
fault_answered x y f [] e = absurd cc
fault_answered x y f (g ∷ fs) e = let same : f ≡ g = cc in ap (λ z. Err z) same

-- what is read without a fault
pub value_answered : {X : Type 0} (x y : X) (faults : List BitsFault) → Ok y ≡ unless_fault faults x → y ≡ x
value_answered x y [] e = let same : y ≡ x = cc in same
value_answered x y (f ∷ fs) e = absurd cc

-- the first fault is answered
pub fault_gives : {X : Type 0} (x : X) (f : BitsFault) (faults : List BitsFault) → Checks {X = X} (Err f) faults → Gives Memory (Err f) (unless_fault faults x)
fault_gives x f [] h = absurd cc
fault_gives x f (g ∷ fs) h = λ other. cc

-- where there is no fault, what may run out of memory gives what is read
pub none_gives : {X : Type 0} (r : Result X BitsFault) (x y : X) (faults : List BitsFault) → faults ≡ [] → x ≡ y → Gives Memory r (unless_fault faults x) → Gives Memory r (Ok y)
none_gives r x y faults none same h = subst (Gives Memory r) (ap (λ fs. unless_fault fs x) none ∙ ap (λ z. Ok z) same) h

-- what is given is a bitstream of what is read
pub bits_given : (r : Result Config BitsFault) (A : Arch) (bytes : List ℕ) → IsArch A → length (digest_of A) ≡ 32 → IsBytes bytes
    → Gives Memory r (unless_fault (faults_of A bytes) (config_of A bytes)) → IfOk r (λ C. AreBits A C bytes)
bits_given (Err f) A bytes valid sized fits h = tt
bits_given (Ok C) A bytes valid sized fits h =
    subst (λ K. AreBits A K bytes) (sym (value_answered (config_of A bytes) C (faults_of A bytes) h))
    (bits_of A bytes valid sized fits (none_answered (config_of A bytes) C (faults_of A bytes) h))

pub first_bits_given : (r : Result Config BitsFault) (A : Arch) (bytes : List ℕ) → IsArch A → length (digest_of A) ≡ 32 → IsBytes bytes
    → Gives Memory r (unless_fault (faults_in cgb1 A bytes) (config_at cgb1 A bytes)) → IfOk r (λ C. AreFirstBits A C bytes)
first_bits_given (Err f) A bytes valid sized fits h = tt
first_bits_given (Ok C) A bytes valid sized fits h =
    subst (λ K. AreFirstBits A K bytes) (sym (value_answered (config_at cgb1 A bytes) C (faults_in cgb1 A bytes) h))
    (first_bits_of A bytes valid sized fits (none_answered (config_at cgb1 A bytes) C (faults_in cgb1 A bytes) h))

-- what numbers of any size give, bytes or not, is canonical
pub first_canonical : (A : Arch) (C : Config) (bytes : List ℕ) → IsArch A → length (digest_of A) ≡ 32
    → unless_fault (faults_in cgb1 A bytes) (config_at cgb1 A bytes) ≡ Ok C → IsCanonical A C
first_canonical A C bytes valid sized e =
    let none = none_answered (config_at cgb1 A bytes) C (faults_in cgb1 A bytes) (sym e) in
    subst (IsCanonical A) (sym (value_answered (config_at cgb1 A bytes) C (faults_in cgb1 A bytes) (sym e)))
    (canonical cgb1 is_cgb1 A (room_of A valid) (digest_of A) sized bytes (parts_none cgb1 A (digest_of A) bytes none))
