-- The random words of a seed's generator, one after another, and the random numbers computed from them.
use Rattle.std.specs.Prelude.{ℕ, zero, suc, List, [], ◌∷◌}
use Rattle.rand_pcg.specs.Lcg.{Lcg, started, increment_of}
use Rattle.rand_pcg.specs.Pcg.{pcg32, multiplier_64}
use Rattle.cg_place.specs.Draws.{draw}

-- the generator of a seed: the seed is its state, and its stream is 0
unfoldable pub generator : ℕ → Lcg
generator seed = started 64 multiplier_64 seed (increment_of 64 0)

-- the next random word of a generator
unfoldable pub next : Lcg → ℕ
next g = (pcg32 g).0

-- the generator after that word
unfoldable pub rest : Lcg → Lcg
rest g = (pcg32 g).1

-- a random number below n, computed from the next word
unfoldable pub below : ℕ → Lcg → ℕ
below n g = draw n (next g)

-- the next n random words
abbrev pub words_of : ℕ → Lcg → List ℕ
words_of zero g = []
words_of (suc n) g = next g ∷ words_of n (rest g)

-- the generator after n words
abbrev pub after : ℕ → Lcg → Lcg
after zero g = g
after (suc n) g = after n (rest g)
