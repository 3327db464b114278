-- The results of a run, by the sequential meaning.
use Rattle.std.specs.Prelude.{◌≡◌, ◌≤◌, ℕ, List, [], length, slice_index_or}
use Rattle.cg_model.specs.Work.{Image, Left}
use Rattle.cg_turns.specs.declared.turns.TurnsDone.{TurnsDone}

abbrev pub left_by : List ℕ → List (List ℕ) → ℕ → Left
left_by memory streams outside = record { image = record { memory = memory; streams = streams }; outside = outside }

-- the image and the outside count
abbrev pub left_of : TurnsDone → Left
left_of d = record { image = d.image; outside = d.outside }

-- n turns leave a memory of the same length, and streams of at most n words each
abbrev pub IsSmall : Image → ℕ → Image → Type 0
IsSmall before n after = (length after.memory ≡ length before.memory) × ((port : ℕ) → length (slice_index_or after.streams port []) ≤ n)
