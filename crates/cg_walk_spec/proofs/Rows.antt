-- Worked values. The words are the first of PCG's reference output for state 42 and stream 54.
use Rattle.std.proofs.Common.{◌≡◌, true, false, refl}
use Rattle.cg_walk_spec.specs.Words.{generator, after_words, word}
use Rattle.cg_walk_spec.specs.Walk.{heat, is_taken}

-- the seed gives the state and the interval the stream
first_word : word 0 (generator 42 54) ≡ 0xa15c02b7
first_word = refl

fourth_word : word 3 (generator 42 54) ≡ 0x83d2f293
fourth_word = refl

-- the next move's first word is the fifth
fifth_word : word 0 (after_words 4 (generator 42 54)) ≡ 0xbfa4784b
fifth_word = refl

-- the walk cools from 65 to 1 and some
heat_first : heat 10 0 ≡ 65
heat_first = refl

heat_half : heat 10 5 ≡ 33
heat_half = refl

heat_rounded_down : heat 3 1 ≡ 43
heat_rounded_down = refl

heat_last : heat 100 99 ≡ 1
heat_last = refl

-- no rise is always taken, a rise below the heat too, a rise of the heat for half of the words
no_rise_taken : is_taken 10 0 500 500 4294967295 ≡ true
no_rise_taken = refl

small_rise_taken : is_taken 10 0 500 564 4294967295 ≡ true
small_rise_taken = refl

half_taken : is_taken 10 0 500 565 2147483647 ≡ true
half_taken = refl

half_refused : is_taken 10 0 500 565 2147483648 ≡ false
half_refused = refl

-- and the greatest rises for two words
great_rise_taken : is_taken 10 0 0 1000000 1 ≡ true
great_rise_taken = refl

great_rise_refused : is_taken 10 0 0 1000000 2 ≡ false
great_rise_refused = refl
