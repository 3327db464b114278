-- The sizes of the memory and the streams of a bench.
use Rattle.std.specs.Prelude.{ℕ, max, min, List, [], length, slice_index_or}
use Rattle.cg_model.specs.Limits.{port_count}
use Rattle.cg_model.specs.Work.{Image, Left}
use Rattle.cg_list_laws.specs.Below.{greatest_below}

-- stream p
abbrev pub stream : List (List ℕ) → ℕ → List ℕ
stream streams p = slice_index_or streams p []

-- the number of its words that n iterations can take
abbrev pub taken : ℕ → List (List ℕ) → ℕ → ℕ
taken n streams p = min (length (stream streams p)) n

-- the number of words of stream p
abbrev pub sent : List (List ℕ) → ℕ → ℕ
sent streams p = length (stream streams p)

-- the number of words for which the bench has room in each input stream, and in each output stream
abbrev pub depth : ℕ → Image → ℕ
depth n image = max (greatest_below (taken n image.streams) port_count) 1

abbrev pub room : Left → ℕ
room left = max (greatest_below (sent left.image.streams) port_count) 1
