-- The array running a configuration, cycle by cycle. Cycle c has slot c % ii and round c / ii; all
-- units act at once.
use Rattle.std.specs.Prelude.{ℕ, zero, suc, ◌+◌, ◌-◌, ◌*◌, ◌/◌, ◌%◌, nat_lt, nat_le, ◌&&◌, if◌then◌else◌, Bool, List, [], ◌∷◌, ◌++◌, length, Option, Some, None, slice_index, slice_index_or, slice_get, map}
use Rattle.std.specs.List.{range_with_len}
use Rattle.cg_word.specs.declared.op.Op.{Op}
use Rattle.cg_word.specs.Word.{arity}
use Rattle.cg_model.specs.Work.{Image, Work, Left, left, value, stored, sent, missed}
use Rattle.cg_model.specs.Array.{Arch, Kind, Wire, Register, Port, Out, resource, unit, owner}
use Rattle.cg_model.specs.Config.{Config, UnitFields, ArgFields, arg, select, fields}

-- a completed cycle: the word on each resource, and the result of what each unit began in it, 0 for none
pub record Cycle : Type 0 where
  pub words : ℕ → ℕ
  pub results : ℕ → ℕ

-- the array at the start of a cycle
pub record State : Type 0 where
  pub past : List Cycle  -- the cycles that are over, the last one first
  pub memory : List ℕ
  pub streams : ℕ → List ℕ  -- the output streams, by port
  pub outside : ℕ

-- the cycle d cycles ago; before the first cycle all words and results are 0
abbrev pub ago : List Cycle → ℕ → Cycle
ago past d = slice_index_or past (d - 1) (record { words = λ r. 0; results = λ x. 0 })

-- driver number j, counted from 1; 0 means none
abbrev pub driver : List ℕ → ℕ → Option ℕ
driver drivers zero = None
driver drivers (suc j) = slice_get drivers j

-- the word of that driver, or 0
abbrev pub driven : (ℕ → ℕ) → Option ℕ → ℕ
driven words None = 0
driven words (Some q) = words q

-- the word on a resource by its kind: a wire or port has its driver's word now, a register its driver's word of one
-- cycle ago, an out its unit's result now
abbrev pub by_kind : Kind → ℕ → ℕ → ℕ → ℕ
by_kind Wire now before given = now
by_kind Port now before given = now
by_kind Register now before given = before
by_kind Out now before given = given

-- the word on resource r at a slot, after that past. The select is that of the slot of arrival. An out has the result
-- of what its unit began a latency ago. The links of delay 0 are acyclic, so a chain of them has at most `fuel`
-- resources.
unfoldable pub word_by : Arch → Config → ℕ → List Cycle → ℕ → ℕ → ℕ
word_by A C slot past zero r = 0
word_by A C slot past (suc fuel) r =
    by_kind (resource A r).kind
    (driven (word_by A C slot past fuel) (driver (resource A r).drivers (select C r slot)))
    (driven (ago past 1).words (driver (resource A r).drivers (select C r slot)))
    ((ago past (unit A (owner A r)).latency).results (owner A r))

-- an argument in a turn: the immediate where the mode bit is set, else the initial word with the turn's number where
-- that number is below the count, else the word on the port
abbrev pub argument : UnitFields → ℕ → ℕ → ArgFields → ℕ
argument f turn word a =
    if a.fixed then f.immediate else if nat_lt turn a.count then slice_index a.init turn else word

-- the first k arguments
abbrev pub arguments : UnitFields → ℕ → (ℕ → ℕ) → ℕ → List ℕ
arguments f turn on_port k = map (λ p. argument f turn (on_port p) (arg f p)) (range_with_len 0 k)

-- a unit with these fields is active for n rounds from round `stage` on, one for each turn
abbrev pub active : UnitFields → ℕ → ℕ → Bool
active f n round = nat_le f.stage round && nat_lt round (f.stage + n)

-- what a unit with this operation begins in a round: where it is active, the operation of turn round - stage on its
-- arguments
abbrev pub begun_by : UnitFields → ℕ → ℕ → (ℕ → ℕ) → Option Op → Option Work
begun_by f n round on_port None = None
begun_by f n round on_port (Some op) =
    if active f n round
    then
    Some
    (record {
      op = op;
      port = f.port;
      turn = round - f.stage;
      args = arguments f (round - f.stage) on_port (arity op);
    })
    else None

-- what a unit with these fields begins in a round; nothing where it is off
abbrev pub begun : UnitFields → ℕ → ℕ → (ℕ → ℕ) → Option Work
begun f n round on_port = begun_by f n round on_port f.op

-- the result of what a unit began, 0 for nothing
abbrev pub result_of : Image → List ℕ → Option Work → ℕ
result_of image memory None = 0
result_of image memory (Some w) = value image memory w

-- the memory after what a unit began
abbrev pub memory_after : List ℕ → Option Work → List ℕ
memory_after memory None = memory
memory_after memory (Some w) = stored memory w

-- what it appends to the stream of a port
abbrev pub sent_after : ℕ → Option Work → List ℕ
sent_after port None = []
sent_after port (Some w) = sent port w

-- what it adds to the count of accesses outside the memory
abbrev pub missed_after : ℕ → Option Work → ℕ
missed_after size None = 0
missed_after size (Some w) = missed size w

-- the memory after the stores of the first x units, in unit order
unfoldable pub memory_by : (ℕ → Option Work) → List ℕ → ℕ → List ℕ
memory_by works memory zero = memory
memory_by works memory (suc x) = memory_after (memory_by works memory x) (works x)

-- what the first x units append to the stream of a port, in unit order
unfoldable pub sent_by_units : (ℕ → Option Work) → ℕ → ℕ → List ℕ
sent_by_units works port zero = []
sent_by_units works port (suc x) = sent_by_units works port x ++ sent_after port (works x)

-- the number of accesses outside the memory by the first x units
unfoldable pub missed_by_units : (ℕ → Option Work) → ℕ → ℕ → ℕ
missed_by_units works size zero = 0
missed_by_units works size (suc x) = missed_by_units works size x + missed_after size (works x)

-- the number of cycles of n turns: 0 for no turns, else n + stages - 1 times the interval (Rau 1994)
abbrev pub cycles : Config → ℕ → ℕ
cycles C zero = 0
cycles C (suc n) = (suc n + C.stages - 1) * C.ii

module _ (A : Arch) (C : Config) (n : ℕ) (image : Image) where
  -- in cycle c, after that past: the word on each resource
  abbrev pub words_in : ℕ → List Cycle → ℕ → ℕ
  words_in c past r = word_by A C (c % C.ii) past (length A.resources) r

  -- what each unit begins in that cycle
  abbrev pub works_in : ℕ → List Cycle → ℕ → Option Work
  works_in c past x =
      begun (fields C x (c % C.ii)) n (c / C.ii) (λ p. driven (words_in c past) (slice_get (unit A x).ports p))

  -- the state after cycle c, in which the units begin these works: loads see the memory at the cycle's start, and
  -- stores take effect at its end
  abbrev pub after_cycle : ℕ → State → (ℕ → Option Work) → State
  after_cycle c s works =
      record {
        past =
            record { words = words_in c s.past; results = λ x. result_of image s.memory (works x) } ∷ s.past;
        memory = memory_by works s.memory (length A.units);
        streams = λ port. s.streams port ++ sent_by_units works port (length A.units);
        outside = s.outside + missed_by_units works (length s.memory) (length A.units);
      }

  -- the state at the start of cycle c
  unfoldable pub at_cycle : ℕ → State
  at_cycle zero = record { past = []; memory = image.memory; streams = λ port. []; outside = 0 }
  at_cycle (suc c) = after_cycle c (at_cycle c) (works_in c (at_cycle c).past)

  -- the word on resource r in cycle c
  abbrev pub word : ℕ → ℕ → ℕ
  word r c = words_in c (at_cycle c).past r

  -- what unit x begins in cycle c
  abbrev pub begins : ℕ → ℕ → Option Work
  begins x c = works_in c (at_cycle c).past x

  -- the result of what unit x begins in cycle c, which is on the unit's out a latency later
  abbrev pub result : ℕ → ℕ → ℕ
  result x c = result_of image (at_cycle c).memory (begins x c)

  -- the state after the whole run
  abbrev pub machine : State
  machine = at_cycle (cycles C n)

  -- what the run leaves
  abbrev pub machine_left : Left
  machine_left = left machine.memory machine.streams machine.outside
