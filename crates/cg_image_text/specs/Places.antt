-- Places in a text, counted from 1.
use Rattle.std.specs.Prelude.{ℕ, ◌+◌, Bool, not, ◌==◌, List, take}
use Rattle.std.specs.List.{count_by, suffix_len}
use Rattle.cg_image_text.specs.declared.place.Place.{Place}

abbrev pub is_line_feed : ℕ → Bool
is_line_feed b = b == 10

-- the place after the first n bytes: line feeds among them begin lines, and the bytes after the last line feed are in
-- its line
unfoldable pub place_behind : List ℕ → ℕ → Place
place_behind text n = record {
  line = count_by is_line_feed (take n text) + 1;
  column = suffix_len (λ b. not (is_line_feed b)) (take n text) + 1;
}
