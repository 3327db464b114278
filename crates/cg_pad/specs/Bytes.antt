-- Image files: four letters, the memory, and each of the sixteen streams. Every number takes four bytes, the most
-- significant first.
use Rattle.std.specs.Prelude.{ℕ, zero, suc, ◌+◌, ◌-◌, ◌<◌, ◌≤◌, ◌∷◌, [], ◌++◌, List, length, take, drop, Option, Some, None, Result, Ok, Err, option_map, option_and_then, slice_index, slice_index_or, nat_lt, nat_eq, if◌then◌else◌}
use Rattle.std.specs.Int.{to_be_bytes, from_be_bytes, w32}
use Rattle.std.specs.List.{flat_map, starts_with}
use Rattle.cg_model.specs.Work.{Image}
use Rattle.cg_pad.specs.declared.fault.ImageFault.{ImageFault}
use Rattle.cg_pad.specs.declared.fault.ImageFault.TheVariants.{Magic, Truncated, TooLarge, Trailing}
use Rattle.cg_pad.specs.declared.fault.TooLargePlace.TheVariants as place
use Rattle.cg_model.specs.Limits.{most_memory, most_stream, port_count}

-- ---- writing

-- `CGI1`
abbrev pub magic : List ℕ
magic = 67 ∷ 71 ∷ 73 ∷ 49 ∷ []

-- the number of words, and then the words
abbrev pub block_bytes : List ℕ → List ℕ
block_bytes words = to_be_bytes w32 (length words) ++ flat_map (to_be_bytes w32) words

-- the bytes of an image
unfoldable pub image_bytes : Image → List ℕ
image_bytes image = magic ++ (block_bytes image.memory ++ flat_map block_bytes image.streams)

-- each item is below 256; past the end the value is 0
abbrev pub AreBytes : List ℕ → Type 0
AreBytes bytes = (k : ℕ) → slice_index bytes k < 256

-- the number of words of each stream fits a file
abbrev pub HasStorableStreams : Image → Type 0
HasStorableStreams image = (port : ℕ) → length (slice_index_or image.streams port []) ≤ most_stream

-- the numbers of words fit a file
pub record IsStorable (image : Image) : Type 0 where
  pub memory : length image.memory ≤ most_memory
  pub streams : HasStorableStreams image

-- ---- reading, from left to right: a value and the bytes after it

abbrev pub take_number : List ℕ → Option (ℕ × List ℕ)
take_number (a ∷ b ∷ c ∷ d ∷ rest) = Some (from_be_bytes w32 (a ∷ b ∷ c ∷ d ∷ []), rest)
take_number _ = None

-- one more item before those that were read
abbrev pub with_first : {A : Type 0} → A → List A × List ℕ → List A × List ℕ
with_first x p = (x ∷ p.0, p.1)

-- the given number of words, and the bytes that are left
abbrev pub take_words : ℕ → List ℕ → Option (List ℕ × List ℕ)
take_words zero bytes = Some ([], bytes)
take_words (suc n) bytes = option_and_then (λ p. option_map (with_first p.0) (take_words n p.1)) (take_number bytes)

-- the fault where the bytes end early, in a file of that size
abbrev pub or_truncated : {A : Type 0} → ℕ → Option A → Result A ImageFault
or_truncated size None = Err (Truncated size)
or_truncated size (Some x) = Ok x

abbrev pub and_then : {A B : Type 0} → Result A ImageFault → (A → Result B ImageFault) → Result B ImageFault
and_then (Ok x) f = f x
and_then (Err e) f = Err e

-- the fault for too many words of the memory, or of the stream of a port
abbrev pub memory_too_large : ℕ → ImageFault
memory_too_large n = TooLarge (place.Memory n)

abbrev pub stream_too_large : ℕ → ℕ → ImageFault
stream_too_large port n = TooLarge (place.Stream port n)

-- a block of at most `most` words; a greater number of words is refused as soon as it is read
abbrev pub read_block : ℕ → (ℕ → ImageFault) → ℕ → List ℕ → Result (List ℕ × List ℕ) ImageFault
read_block most too_large size bytes =
    and_then (or_truncated size (take_number bytes)) (λ p. if nat_lt most p.0 then Err (too_large p.0) else or_truncated size (take_words p.0 p.1))

-- the blocks of a number of streams, from that port on
unfoldable pub read_streams : ℕ → ℕ → ℕ → List ℕ → Result (List (List ℕ) × List ℕ) ImageFault
read_streams size port zero bytes = Ok ([], bytes)
read_streams size port (suc n) bytes =
    and_then (read_block most_stream (stream_too_large port) size bytes) (λ p. and_then (read_streams size (port + 1) n p.1) (λ q. Ok (with_first p.0 q)))

-- no bytes may follow
abbrev pub at_end : ℕ → Image → List ℕ → Result Image ImageFault
at_end size image [] = Ok image
at_end size image (b ∷ rest) = Err (Trailing (size - length (b ∷ rest)))

-- the blocks of memory and streams
abbrev pub read_blocks : ℕ → List ℕ → Result Image ImageFault
read_blocks size bytes =
    and_then (read_block most_memory memory_too_large size bytes)
    (λ p. and_then (read_streams size 0 port_count p.1) (λ q. at_end size (record { memory = p.0; streams = q.0 }) q.1))

-- after the letters: the first four bytes, or fewer if there are fewer, must be a prefix of the letters
abbrev pub read_magic : ℕ → List ℕ → Result (List ℕ) ImageFault
read_magic size bytes =
    if starts_with nat_eq magic (take 4 bytes) then (if nat_lt (length bytes) 4 then Err (Truncated size) else Ok (drop 4 bytes)) else Err Magic

-- the image that the bytes encode, or why they encode none
unfoldable pub answer_of : List ℕ → Result Image ImageFault
answer_of bytes = and_then (read_magic (length bytes) bytes) (read_blocks (length bytes))
