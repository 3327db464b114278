-- The words that a field denotes.
use Rattle.std.specs.Prelude.{ℕ, zero, suc, ◌+◌, ◌-◌, ◌%◌, Bool, not, ◌||◌, ◌==◌, List, [], ◌∷◌, take, drop, codes, Result, Ok, if◌then◌else◌}
use Rattle.std.specs.List.{prefix_len}
use Rattle.cg_word.specs.Word.{words}
use Rattle.cg_image_text.specs.declared.fault.Misread.{Misread}
use Rattle.cg_image_text.specs.declared.run.Run.{Run}
use Rattle.cg_image_text.specs.Numbers.{and_then, begins, numeral, number}

-- n words, each differing from the previous one by the step, modulo 2^32
abbrev pub words_from : ℕ → ℕ → ℕ → List ℕ
words_from word step zero = []
words_from word step (suc n) = word ∷ words_from ((word + step) % words) step n

-- the words of a run
abbrev pub run_words : Run → List ℕ
run_words run = words_from run.first run.step run.count

-- N, one word
abbrev pub single : List ℕ → Result Run Misread
single text = and_then (number text) (λ word. Ok (record { first = word; step = 0; count = 1 }))

-- the words from a to b, up by 1 and modulo 2^32
abbrev pub from_to : ℕ → ℕ → Run
from_to a b = record { first = a; step = 1; count = (b + (words - a)) % words + 1 }

-- A..B, the words from A to B
abbrev pub span : List ℕ → List ℕ → Result Run Misread
span first last = and_then (number first) (λ a. and_then (number last) (λ b. Ok (from_to a b)))

-- W*N, the word N times
abbrev pub repeat : List ℕ → List ℕ → Result Run Misread
repeat first count = and_then (number first) (λ word. and_then (numeral 10 count) (λ n. Ok (record { first = word; step = 0; count = n })))

-- a byte of the number that a field begins with
abbrev pub is_in_first : ℕ → Bool
is_in_first b = not (b == 46 || b == 42)

-- the kind of field, decided by what follows the first number
abbrev pub run_by : List ℕ → List ℕ → List ℕ → Result Run Misread
run_by text first rest =
    if begins (codes "..") rest then span first (drop 2 rest) else (if begins (codes "*") rest then repeat first (drop 1 rest) else single text)

-- the words that the field denotes
unfoldable pub run_of : List ℕ → Result Run Misread
run_of text = let n = prefix_len is_in_first text in run_by text (take n text) (drop n text)
