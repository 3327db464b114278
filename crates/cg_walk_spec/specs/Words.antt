-- The words that a move draws from the generator.
use Rattle.std.specs.Prelude.{ℕ, zero, suc}
use Rattle.rand_pcg.specs.Lcg.{Lcg, started, increment_of}
use Rattle.rand_pcg.specs.Pcg.{pcg32, multiplier_64}

-- the walk's generator: started from the seed, on the interval's stream
abbrev pub generator : ℕ → ℕ → Lcg
generator seed ii = started 64 multiplier_64 seed (increment_of 64 ii)

-- a generator after n words
abbrev pub after_words : ℕ → Lcg → Lcg
after_words zero g = g
after_words (suc n) g = (pcg32 (after_words n g)).1

-- the word that it gives after n words
abbrev pub word : ℕ → Lcg → ℕ
word n g = (pcg32 (after_words n g)).0
