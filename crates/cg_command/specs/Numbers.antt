-- The numbers that words of a command line write.
use Rattle.std.specs.Prelude.{ℕ, Bool, ◌&&◌, List, length, Option, Some, None, option_and_then, if◌then◌else◌, nat_lt, nat_le}
use Rattle.std.specs.Char.{is_ascii_digit}
use Rattle.std.specs.List.{list_all}
use Rattle.std.specs.Str.Parse.{digits_value}
use Rattle.cg_model.specs.Limits.{most_contexts, most_moves, most_turns}

-- the bytes of a word
abbrev pub Text : Type 0
Text = List ℕ

-- a word is a number where it has 1 to 20 digits
abbrev pub is_number : Text → Bool
is_number word = nat_lt 0 (length word) && (nat_le (length word) 20 && list_all is_ascii_digit word)

-- the number of a word, where it is in its range
abbrev pub number_up_to : ℕ → Text → Option ℕ
number_up_to most word = if is_number word && nat_le (digits_value 10 word) most then Some (digits_value 10 word) else None

-- the number, where it isn't 0
abbrev pub positive : ℕ → Option ℕ
positive n = if nat_lt 0 n then Some n else None

-- TURNS: 0 to 1,000,000
abbrev pub turns_of : Text → Option ℕ
turns_of word = number_up_to most_turns word

-- `--ii`: 1 to 64
abbrev pub interval_of : Text → Option ℕ
interval_of word = option_and_then positive (number_up_to most_contexts word)

-- `--seed`: 0 to 18,446,744,073,709,551,615
abbrev pub seed_of : Text → Option ℕ
seed_of word = number_up_to 18446744073709551615 word

-- `--moves`: 0 to 1,000,000
abbrev pub moves_of : Text → Option ℕ
moves_of word = number_up_to most_moves word

-- the seed where none is given
abbrev pub usual_seed : ℕ
usual_seed = 1

-- the number of the walk's moves where none is given
abbrev pub usual_moves : ℕ
usual_moves = 10000

-- the number of best responses where none is given
abbrev pub usual_responses : ℕ
usual_responses = 240000
