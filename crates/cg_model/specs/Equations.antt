-- The array as equations over all cycles at once, without an order of evaluation.
use Rattle.std.specs.Prelude.{◌≡◌, ℕ, suc, ◌+◌, ◌/◌, ◌%◌, ◌<◌, List, [], ◌++◌, length, Option, slice_get}
use Rattle.cg_model.specs.Work.{Image, Work}
use Rattle.cg_model.specs.Array.{Arch, Wire, Register, Port, resource, unit}
use Rattle.cg_model.specs.Config.{Config, select, fields}
use Rattle.cg_model.specs.Machine.{driver, driven, begun, result_of, memory_by, sent_by_units, missed_by_units}

-- two families of the same kinds agree on all resources and units of the architecture
pub record AreSame (A : Arch) (w v : ℕ → ℕ → ℕ) (b d : ℕ → ℕ → Option Work) (r s : ℕ → ℕ → ℕ)
    (m l : ℕ → List ℕ) (x y : ℕ → ℕ → List ℕ) (o p : ℕ → ℕ) : Type 0 where
  pub words : (q c : ℕ) → q < length A.resources → w q c ≡ v q c
  pub begins : (u c : ℕ) → u < length A.units → b u c ≡ d u c
  pub results : (u c : ℕ) → u < length A.units → r u c ≡ s u c
  pub memory : (c : ℕ) → m c ≡ l c
  pub streams : (port c : ℕ) → x port c ≡ y port c
  pub outside : (c : ℕ) → o c ≡ p c

-- the word on each resource in each cycle, what each unit begins and its result in each cycle, and the memory, the
-- output streams and the outside count at the start of each cycle, related by the array's equations
pub record IsRun (A : Arch) (C : Config) (n : ℕ) (image : Image)
    (word : ℕ → ℕ → ℕ) (begins : ℕ → ℕ → Option Work) (result : ℕ → ℕ → ℕ)
    (memory : ℕ → List ℕ) (streams : ℕ → ℕ → List ℕ) (outside : ℕ → ℕ) : Type 0 where
  -- a wire or port has the word that its selected driver has in the same cycle, 0 where none is
  -- selected
  pub wires : (r c : ℕ) → r < length A.resources → (resource A r).kind ≡ Wire →
      word r c ≡ driven (λ q. word q c) (driver (resource A r).drivers (select C r (c % C.ii)))
  pub ports : (r c : ℕ) → r < length A.resources → (resource A r).kind ≡ Port →
      word r c ≡ driven (λ q. word q c) (driver (resource A r).drivers (select C r (c % C.ii)))
  -- a register has the word that its selected driver had one cycle ago, by the select of the slot of arrival; 0 in the
  -- first cycle
  pub registers : (r c : ℕ) → r < length A.resources → (resource A r).kind ≡ Register →
      word r (suc c) ≡ driven (λ q. word q c) (driver (resource A r).drivers (select C r (suc c % C.ii)))
  pub registers_first : (r : ℕ) → r < length A.resources → (resource A r).kind ≡ Register → word r 0 ≡ 0
  -- an out has the result of what its unit began a latency ago, 0 where that is before the first
  -- cycle
  pub outs : (x c : ℕ) → x < length A.units → word (unit A x).out (c + (unit A x).latency) ≡ result x c
  pub outs_first : (x c : ℕ) → x < length A.units → c < (unit A x).latency → word (unit A x).out c ≡ 0
  -- a unit begins what its fields at the slot say for the round, on the words of its ports
  pub units : (x c : ℕ) →
      begins x c ≡
      begun (fields C x (c % C.ii)) n (c / C.ii) (λ p. driven (λ q. word q c) (slice_get (unit A x).ports p))
  -- a result is computed with the memory at the cycle's start
  pub results : (x c : ℕ) → result x c ≡ result_of image (memory c) (begins x c)
  -- the memory starts as the image's; the stores of a cycle take effect at its end, in unit order
  pub memory_first : memory 0 ≡ image.memory
  pub memory_next : (c : ℕ) → memory (suc c) ≡ memory_by (λ x. begins x c) (memory c) (length A.units)
  -- a stream grows by what the units send in each cycle
  pub streams_first : (port : ℕ) → streams port 0 ≡ []
  pub streams_next : (port c : ℕ) →
      streams port (suc c) ≡ streams port c ++ sent_by_units (λ x. begins x c) port (length A.units)
  -- the count grows by the accesses outside the memory in each cycle
  pub outside_first : outside 0 ≡ 0
  pub outside_next : (c : ℕ) →
      outside (suc c) ≡ outside c + missed_by_units (λ x. begins x c) (length (memory c)) (length A.units)
