-- The effect of one operation on its operands, both in a turn of the kernel and in a unit of the array.
use Rattle.std.specs.Prelude.{◌≡◌, ℕ, ◌<◌, ◌%◌, nat_le, nat_lt, eqb, if◌then◌else◌, Bool, true, ◌&&◌, List, [], ◌∷◌, length, map, slice_index, slice_index_or, slice_set}
use Rattle.std.specs.List.{range_with_len}
use Rattle.cg_word.specs.declared.op.Op.{Op}
use Rattle.cg_word.specs.declared.op.Op.TheVariants.{Iter, Input, Load, LoadIf}
use Rattle.cg_model.specs.Limits.{port_count}
use Rattle.cg_word.specs.Word.{words, apply_of, is_guarded, is_access, is_store, is_output, address_arg, last_arg}

-- the start of a run: the words of the scratchpad memory by address, and the input streams by port
pub record Image : Type 0 where
  pub memory : List ℕ
  pub streams : List (List ℕ)

-- it has sixteen streams, and words of 32 bits everywhere
pub record IsImage (image : Image) : Type 0 where
  pub sixteen : length image.streams ≡ port_count
  pub memory : (a : ℕ) → a < length image.memory → slice_index image.memory a < words
  pub streams : (port k : ℕ) → k < length (slice_index_or image.streams port []) →
      slice_index (slice_index_or image.streams port []) k < words

-- the end of a run: an image of its memory and its sixteen output streams, and the number of accesses outside the
-- memory
pub record Left : Type 0 where
  pub image : Image
  pub outside : ℕ

-- the end of a run with this memory, these streams by port and this count; the input streams aren't carried over
abbrev pub left : List ℕ → (ℕ → List ℕ) → ℕ → Left
left memory streams outside =
    record {
      image = record { memory = memory; streams = map streams (range_with_len 0 port_count) };
      outside = outside;
    }

-- one operation at work: the port that it names, the turn that it belongs to, and the words of its operands in order
pub record Work : Type 0 where
  pub op : Op
  pub port : ℕ
  pub turn : ℕ
  pub args : List ℕ

-- it acts where it isn't guarded, or where its guard, the first operand, isn't 0
abbrev pub acts : Op → List ℕ → Bool
acts op args = if is_guarded op then nat_lt 0 (slice_index args 0) else true

-- the address of an access
abbrev pub address : Op → List ℕ → ℕ
address op args = slice_index args (address_arg op)

-- the word that is stored or appended, the last operand
abbrev pub last_operand : Op → List ℕ → ℕ
last_operand op args = slice_index args (last_arg op)

-- the value of an operation on a memory: for iter the turn modulo 2^32; for input the word of its stream with the
-- turn's number, 0 past the stream's end; for load the word at its address, 0 outside the memory; for loadif the loaded
-- word where it acts, else 0; for the others the value of their operands alone, which is 0 for those without a value
unfoldable pub value_by : Image → List ℕ → ℕ → ℕ → List ℕ → Op → ℕ
value_by image memory port turn args Iter = turn % words
value_by image memory port turn args Input = slice_index (slice_index_or image.streams port []) turn
value_by image memory port turn args Load = slice_index memory (slice_index args 0)
value_by image memory port turn args LoadIf =
    if nat_lt 0 (slice_index args 0) then slice_index memory (slice_index args 1) else 0
value_by image memory port turn args op =
    apply_of op (slice_index args 0) (slice_index args 1) (slice_index args 2)

-- the value of w on a memory
abbrev pub value : Image → List ℕ → Work → ℕ
value image memory w = value_by image memory w.port w.turn w.args w.op

-- w is an acting store or storeif
abbrev pub stores : Work → Bool
stores w = is_store w.op && acts w.op w.args

-- the memory after w: an acting store sets the word at its address; a store outside the memory sets nothing
unfoldable pub stored : List ℕ → Work → List ℕ
stored memory w =
    if stores w then slice_set memory (address w.op w.args) (last_operand w.op w.args) else memory

-- w is an acting output or outputif to that port
abbrev pub sends : ℕ → Work → Bool
sends at w = is_output w.op && (acts w.op w.args && eqb w.port at)

-- what w appends to the output stream of a port
unfoldable pub sent : ℕ → Work → List ℕ
sent at w = if sends at w then last_operand w.op w.args ∷ [] else []

-- w is an acting access whose address is outside a memory of `size` words
abbrev pub misses : ℕ → Work → Bool
misses size w = is_access w.op && (acts w.op w.args && nat_le size (address w.op w.args))

-- what w adds to the count of accesses outside the memory
unfoldable pub missed : ℕ → Work → ℕ
missed size w = if misses size w then 1 else 0

-- w accesses the word at that address; a guarded operation that doesn't act accesses nothing
pub record Reaches (w : Work) (a : ℕ) : Type 0 where
  pub is : is_access w.op ≡ true
  pub acting : acts w.op w.args ≡ true
  pub there : address w.op w.args ≡ a

-- w is a store to that address
pub record Writes (w : Work) (a : ℕ) : Type 0 where
  pub is : is_store w.op ≡ true
  pub acting : acts w.op w.args ≡ true
  pub there : address w.op w.args ≡ a
