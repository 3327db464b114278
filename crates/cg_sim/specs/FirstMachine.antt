-- The array as it was before guarded accesses, with the first 22 operations: accesses are load and store alone, and an
-- output always appends its operand. The word of each resource, and what a unit begins, are as in the present array.
use Rattle.std.specs.Prelude.{◌≡◌, ℕ, zero, suc, ◌+◌, ◌%◌, ◌<◌, ◌≤◌, nat_le, eqb, if◌then◌else◌, List, [], ◌∷◌, ◌++◌, length, Option, Some, None, slice_index, slice_index_or, slice_set}
use Rattle.cg_word.specs.declared.op.Op.{Op}
use Rattle.cg_word.specs.declared.op.Op.TheVariants.{Iter, Input, Load, Store, Output}
use Rattle.cg_word.specs.Word.{words, code, apply_of}
use Rattle.cg_model.specs.Work.{Image, Work, Left, left}
use Rattle.cg_model.specs.Array.{Arch}
use Rattle.cg_model.specs.Config.{Config, fields}
use Rattle.cg_model.specs.Machine.{State, cycles, words_in, works_in, machine_left}

-- ---- what one operation does

-- its value over the memory that it finds: for iter the iteration modulo 2^32; for input the word of its stream with
-- the iteration's number, 0 past the stream's end; for load the word at its address, 0 outside; for the others what
-- their operands alone give
unfoldable pub first_value_by : Image → List ℕ → ℕ → ℕ → List ℕ → Op → ℕ
first_value_by image memory port turn args Iter = turn % words
first_value_by image memory port turn args Input = slice_index (slice_index_or image.streams port []) turn
first_value_by image memory port turn args Load = slice_index memory (slice_index args 0)
first_value_by image memory port turn args op = apply_of op (slice_index args 0) (slice_index args 1) (slice_index args 2)

-- the memory after it: a store sets the word at its address, and has no effect outside the memory
abbrev pub first_stored_by : List ℕ → List ℕ → Op → List ℕ
first_stored_by memory args Store = slice_set memory (slice_index args 0) (slice_index args 1)
first_stored_by memory args _ = memory

-- what it appends to the stream of port `at`, where `port` is its own port
abbrev pub first_sent_by : ℕ → ℕ → List ℕ → Op → List ℕ
first_sent_by at port args Output = if eqb port at then slice_index args 0 ∷ [] else []
first_sent_by at port args _ = []

-- the number of its accesses outside a memory of `size` words
abbrev pub first_missed_by : ℕ → List ℕ → Op → ℕ
first_missed_by size args Load = if nat_le size (slice_index args 0) then 1 else 0
first_missed_by size args Store = if nat_le size (slice_index args 0) then 1 else 0
first_missed_by size args _ = 0

-- these four for an operation at work
abbrev pub first_value : Image → List ℕ → Work → ℕ
first_value image memory w = first_value_by image memory w.port w.turn w.args w.op

unfoldable pub first_stored : List ℕ → Work → List ℕ
first_stored memory w = first_stored_by memory w.args w.op

unfoldable pub first_sent : ℕ → Work → List ℕ
first_sent at w = first_sent_by at w.port w.args w.op

unfoldable pub first_missed : ℕ → Work → ℕ
first_missed size w = first_missed_by size w.args w.op

-- ---- what the units do in a cycle

-- the result of what a unit began, 0 for nothing
abbrev pub first_result_of : Image → List ℕ → Option Work → ℕ
first_result_of image memory None = 0
first_result_of image memory (Some w) = first_value image memory w

-- the memory after what a unit began
abbrev pub first_memory_after : List ℕ → Option Work → List ℕ
first_memory_after memory None = memory
first_memory_after memory (Some w) = first_stored memory w

-- what it appends to the stream of a port
abbrev pub first_sent_after : ℕ → Option Work → List ℕ
first_sent_after port None = []
first_sent_after port (Some w) = first_sent port w

-- what it adds to the count of accesses outside
abbrev pub first_missed_after : ℕ → Option Work → ℕ
first_missed_after size None = 0
first_missed_after size (Some w) = first_missed size w

-- the memory after the stores of the first x units, in unit order
unfoldable pub first_memory_by : (ℕ → Option Work) → List ℕ → ℕ → List ℕ
first_memory_by works memory zero = memory
first_memory_by works memory (suc x) = first_memory_after (first_memory_by works memory x) (works x)

-- what the first x units append to the stream of a port, in unit order
unfoldable pub first_sent_by_units : (ℕ → Option Work) → ℕ → ℕ → List ℕ
first_sent_by_units works port zero = []
first_sent_by_units works port (suc x) = first_sent_by_units works port x ++ first_sent_after port (works x)

-- the accesses of the first x units outside the memory
unfoldable pub first_missed_by_units : (ℕ → Option Work) → ℕ → ℕ → ℕ
first_missed_by_units works size zero = 0
first_missed_by_units works size (suc x) = first_missed_by_units works size x + first_missed_after size (works x)

-- ---- cycle by cycle

module _ (A : Arch) (C : Config) (n : ℕ) (image : Image) where
  -- the array after cycle c, in which the units begin these works: loads saw the memory of the cycle's start, and
  -- stores take effect at its end
  abbrev pub first_after_cycle : ℕ → State → (ℕ → Option Work) → State
  first_after_cycle c s works =
      record {
        past = record { words = words_in A C n image c s.past; results = λ x. first_result_of image s.memory (works x) } ∷ s.past;
        memory = first_memory_by works s.memory (length A.units);
        streams = λ port. s.streams port ++ first_sent_by_units works port (length A.units);
        outside = s.outside + first_missed_by_units works (length s.memory) (length A.units);
      }

  -- at the start of cycle c
  unfoldable pub first_at_cycle : ℕ → State
  first_at_cycle zero = record { past = []; memory = image.memory; streams = λ port. []; outside = 0 }
  first_at_cycle (suc c) = first_after_cycle c (first_at_cycle c) (works_in A C n image c (first_at_cycle c).past)

  -- after the whole run
  abbrev pub first_machine : State
  first_machine = first_at_cycle (cycles C n)

  -- what it leaves
  abbrev pub first_left : Left
  first_left = left first_machine.memory first_machine.streams first_machine.outside

-- ---- comparison with the present machine

-- the greatest code of an operation of the first machine
abbrev pub first_greatest : ℕ
first_greatest = 22

-- off, or one of the first 22 operations
abbrev pub IsFirstOp : Option Op → Type 0
IsFirstOp None = Unit {0}
IsFirstOp (Some op) = code op ≤ first_greatest

-- a configuration of the first machine: each operation is one of the first 22
pub record IsFirst (C : Config) : Type 0 where
  pub interval : 0 < C.ii
  pub known : (x slot : ℕ) → slot < C.ii → IsFirstOp (fields C x slot).op

-- under this configuration both machines leave the same memory, streams and count, for every architecture, number of
-- iterations and image
abbrev pub MachinesAgree : Config → Type 0
MachinesAgree C = (A : Arch) (n : ℕ) (image : Image) → first_left A C n image ≡ machine_left A C n image
