-- The text of an image: the words of its memory and of its streams in decimal, eight on each line, with the address of
-- the first of them at the end of the line.
use Rattle.std.specs.Prelude.{ℕ, ◌+◌, ◌-◌, ◌*◌, ◌/◌, ◌<◌, min, List, [], ◌∷◌, ◌++◌, length, slice_index, slice_index_or, codes, decimal}
use Rattle.cg_word.specs.Word.{words}
use Rattle.cg_model.specs.Limits.{port_count}
use Rattle.cg_model.specs.Work.{Image}
use Rattle.cg_list_laws.specs.Below.{lists_below}

-- a word followed by a space
abbrev pub word_text : ℕ → List ℕ
word_text word = decimal word ++ codes " "

-- each item is a word of 32 bits; past the end the value is 0
abbrev pub AreWords : List ℕ → Type 0
AreWords list = (k : ℕ) → slice_index list k < words

-- the number of words in a row: eight, or the remaining ones
abbrev pub row_length : List ℕ → ℕ → ℕ
row_length list row = min 8 (length list - 8 * row)

-- the text of one word of a row
abbrev pub row_word : List ℕ → ℕ → ℕ → List ℕ
row_word list row k = word_text (slice_index list (8 * row + k))

-- an address in a comment, which ends a line
abbrev pub address_text : ℕ → List ℕ
address_text address = codes "# " ++ (decimal address ++ codes "\n")

-- a row: its words, and the address of the first
abbrev pub row_text : List ℕ → ℕ → List ℕ
row_text list row = lists_below (row_word list row) (row_length list row) ++ address_text (8 * row)

-- all rows
abbrev pub rows_text : List ℕ → List ℕ
rows_text list = lists_below (row_text list) ((length list + 7) / 8)

-- the section of the memory
abbrev pub memory_text : List ℕ → List ℕ
memory_text list = codes "memory\n" ++ rows_text list

-- the line that begins the section of a stream
abbrev pub stream_line : ℕ → List ℕ
stream_line port = codes "stream " ++ (decimal port ++ codes "\n")

-- the section of a stream, omitted where it has no words
abbrev pub stream_text : ℕ → List ℕ → List ℕ
stream_text port [] = []
stream_text port (word ∷ rest) = stream_line port ++ rows_text (word ∷ rest)

-- the section of the stream of a port
abbrev pub stream_at : List (List ℕ) → ℕ → List ℕ
stream_at streams port = stream_text port (slice_index_or streams port [])

-- the text of an image
unfoldable pub text_of : Image → List ℕ
text_of image = memory_text image.memory ++ lists_below (stream_at image.streams) port_count
