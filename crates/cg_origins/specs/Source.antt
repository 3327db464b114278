-- Where the words of a slot come from.
use Rattle.std.specs.Prelude.{◌≡◌, ℕ, ◌-◌, ◌%◌, ◌<◌, ◌≤◌, true, List, length, ⊤}
use Rattle.cg_model.specs.Array.{Arch}
use Rattle.cg_model.specs.Config.{Config, fields}
use Rattle.cg_model.specs.Canonical.{is_on}
use Rattle.cg_model.specs.Work.{Image}
use Rattle.cg_model.specs.Machine.{Cycle, ago, at_cycle, word}
use Rattle.cg_origins.specs.declared.source.Source.{Source}
use Rattle.cg_origins.specs.declared.source.Source.TheVariants as source

-- the greatest age of a result that is kept
abbrev pub most_delay : ℕ
most_delay = 255

-- the word that a source has after that past
abbrev pub source_word : List Cycle → Source → ℕ
source_word past (source.Word w) = w
source_word past (source.Result x d) = (ago past d).results x

-- the age of the result, 0 for a word
abbrev pub delay_of : Source → ℕ
delay_of (source.Word w) = 0
delay_of (source.Result x d) = d

-- in each cycle of the slot, whatever the run, the word on resource r is that of the source
abbrev pub IsFrom : Arch → Config → ℕ → ℕ → Source → Type 0
IsFrom A C slot r s = (n : ℕ) (image : Image) (c : ℕ) → c % C.ii ≡ slot →
    word A C n image r c ≡ source_word (at_cycle A C n image c).past s

-- unit x is on, d cycles before each cycle of the slot
pub record IsResult (A : Arch) (C : Config) (slot x d : ℕ) : Type 0 where
  pub known : x < length A.units
  pub some : 0 < d
  pub near : d ≤ most_delay
  pub on : (c : ℕ) → c % C.ii ≡ slot → d ≤ c → is_on (fields C x ((c - d) % C.ii)).op ≡ true

-- a source that needs no result of a unit that was off
abbrev pub IsReadable : Arch → Config → ℕ → Source → Type 0
IsReadable A C slot (source.Word w) = ⊤
IsReadable A C slot (source.Result x d) = IsResult A C slot x d
