-- A netlist as equations over all cycles at once, without an order of evaluation.
use Rattle.std.specs.Prelude.{◌≡◌, ℕ, suc, ◌+◌, ◌/◌, ◌%◌, ◌<◌, List, [], ◌++◌, length, Option, slice_get, Contains}
use Rattle.cg_model.specs.Work.{Image, Work}
use Rattle.cg_model.specs.Array.{Arch, unit}
use Rattle.cg_model.specs.Config.{Config, select, fields}
use Rattle.cg_model.specs.Machine.{begun, result_of, memory_by, sent_by_units, missed_by_units}
use Rattle.cg_netlist.specs.declared.forms.Form.TheVariants.{Context as ContextForm, Preselect as PreselectForm, Mux as MuxForm, Register as RegisterForm, Zero as ZeroForm, FunctionalUnit as UnitForm}
use Rattle.cg_netlist.specs.declared.parts.Net.{Net}
use Rattle.cg_netlist.specs.Netlist.{NetGraph}
use Rattle.cg_gates.specs.Shape.{Shape, shapes}
use Rattle.cg_gates.specs.Gates.{stem, resource_named, unit_named, unit_instance, pins_named, word_on, picked}

-- the word on each net in each cycle, what each unit begins and its result in each cycle, and the memory, the output
-- streams and the outside count at the start of each cycle, related by the cells
pub record IsGateRun (A : Arch) (N : NetGraph) (C : Config) (n : ℕ) (image : Image)
    (word : List ℕ → ℕ → ℕ) (begins : ℕ → ℕ → Option Work) (result : ℕ → ℕ → ℕ)
    (memory : ℕ → List ℕ) (streams : ℕ → ℕ → List ℕ) (outside : ℕ → ℕ) : Type 0 where
  -- a context gives the select of its resource at the cycle's slot, a preselect the select at the next cycle's slot
  pub contexts : (cell : Shape) (w c : ℕ) → Contains (shapes N) cell → cell.form ≡ ContextForm w →
      word cell.q c ≡ select C (resource_named A (stem cell.name)) (c % C.ii)
  pub preselects : (cell : Shape) (w c : ℕ) → Contains (shapes N) cell → cell.form ≡ PreselectForm w →
      word cell.q c ≡ select C (resource_named A (stem cell.name)) ((c + 1) % C.ii)
  -- a mux gives the word on the d that s numbers; a register gives that word of the cycle before, and 0 in the first
  -- cycle
  pub muxes : (cell : Shape) (k c : ℕ) → Contains (shapes N) cell → cell.form ≡ MuxForm k →
      word cell.q c ≡ picked (λ net. word net c) cell.ins
  pub registers : (cell : Shape) (k c : ℕ) → Contains (shapes N) cell → cell.form ≡ RegisterForm k →
      word cell.q (suc c) ≡ picked (λ net. word net c) cell.ins
  pub registers_first : (cell : Shape) (k : ℕ) → Contains (shapes N) cell → cell.form ≡ RegisterForm k → word cell.q 0 ≡ 0
  pub zeros : (cell : Shape) (c : ℕ) → Contains (shapes N) cell → cell.form ≡ ZeroForm → word cell.q c ≡ 0
  -- a unit's cell gives the result of the work that its unit began a latency ago, 0 where that is before the first
  -- cycle
  pub units : (cell : Shape) (p l h c : ℕ) → Contains (shapes N) cell → cell.form ≡ UnitForm p l h →
      word cell.q (c + l) ≡ result (unit_named A (stem cell.name)) c
  pub units_first : (cell : Shape) (p l h c : ℕ) → Contains (shapes N) cell → cell.form ≡ UnitForm p l h → c < l →
      word cell.q c ≡ 0
  -- a unit begins the work that its fields at the slot encode, in the round, on the words of its cell's pins
  pub begun_by : (x c : ℕ) → x < length A.units →
      begins x c ≡
      begun (fields C x (c % C.ii)) n (c / C.ii) (λ p. word_on (λ net. word net c) (slice_get (pins_named (unit_instance (unit A x).name) (shapes N)) p))
  -- a result is taken over the memory of the cycle's start
  pub results : (x c : ℕ) → x < length A.units → result x c ≡ result_of image (memory c) (begins x c)
  -- the memory starts as the image's; the stores of a cycle take effect at its end, in the order of the architecture's
  -- units
  pub memory_first : memory 0 ≡ image.memory
  pub memory_next : (c : ℕ) → memory (suc c) ≡ memory_by (λ x. begins x c) (memory c) (length A.units)
  -- a stream grows by what the units send in each cycle
  pub streams_first : (port : ℕ) → streams port 0 ≡ []
  pub streams_next : (port c : ℕ) →
      streams port (suc c) ≡ streams port c ++ sent_by_units (λ x. begins x c) port (length A.units)
  -- the count grows by the accesses outside the memory in each cycle
  pub outside_first : outside 0 ≡ 0
  pub outside_next : (c : ℕ) →
      outside (suc c) ≡ outside c + missed_by_units (λ x. begins x c) (length (memory c)) (length A.units)

-- two families of the same kinds agree, on the declared nets and on the existing units
pub record GatesAgree (A : Arch) (N : NetGraph) (w v : List ℕ → ℕ → ℕ) (b d : ℕ → ℕ → Option Work) (r s : ℕ → ℕ → ℕ)
    (m l : ℕ → List ℕ) (x y : ℕ → ℕ → List ℕ) (o p : ℕ → ℕ) : Type 0 where
  pub words : (net : Net) (c : ℕ) → Contains N.nets net → w net.name c ≡ v net.name c
  pub begins : (u c : ℕ) → u < length A.units → b u c ≡ d u c
  pub results : (u c : ℕ) → u < length A.units → r u c ≡ s u c
  pub memory : (c : ℕ) → m c ≡ l c
  pub streams : (port c : ℕ) → x port c ≡ y port c
  pub outside : (c : ℕ) → o c ≡ p c
