-- The state of a run of units over words by number, as contracts see it: all of the state except the words.
use Rattle.std.specs.Prelude.{◌≡◌, ℕ, ◌+◌, ◌-◌, ◌*◌, ◌/◌, ◌%◌, ◌<◌, ◌≤◌, List, [], ◌++◌, Option, length, replicate, slice_index, slice_index_or}
use Rattle.cg_model.specs.Limits.{port_count}
use Rattle.cg_model.specs.Array.{Arch}
use Rattle.cg_model.specs.Config.{Config}
use Rattle.cg_model.specs.Work.{Image, Work}
use Rattle.cg_model.specs.Machine.{cycles, result_of, memory_by, sent_by_units, missed_by_units}
use Rattle.cg_datapath.specs.declared.terminals.Terminals.{Terminals}
use Rattle.cg_datapath.specs.Terminals.{terminals, works_on}

-- an architecture with a configuration, the number of iterations, the image that they start from and the terminals of
-- the units; the number of cycles done, and what they left: the memory, the words of each output stream, the number of
-- accesses outside the memory, and the results of the last four cycles, those of each unit together
pub record Course : Type 0 where
  pub arch : Arch
  pub config : Config
  pub n : ℕ
  pub image : Image
  pub terminals : List Terminals
  pub done : ℕ
  pub memory : List ℕ
  pub streams : List (List ℕ)
  pub outside : ℕ
  pub history : List ℕ

-- the cycles of the whole run
abbrev pub course_cycles : Course → ℕ
course_cycles k = cycles k.config k.n

-- the result that unit x gave d cycles ago, for d from 1 to 4
abbrev pub result_ago : Course → ℕ → ℕ → ℕ
result_ago k x d = slice_index k.history (4 * x + (k.done + 4 - d) % 4)

-- what unit x begins in the next cycle, on the given words
abbrev pub works : Course → List ℕ → ℕ → Option Work
works k words = works_on k.config k.terminals k.n (k.done % k.config.ii) (k.done / k.config.ii) words

-- before the first cycle
pub record IsStart (A : Arch) (C : Config) (turns : ℕ) (from : Image) (us : List Terminals) (k : Course) : Type 0 where
  pub arch : k.arch ≡ A
  pub config : k.config ≡ C
  pub n : k.n ≡ turns
  pub image : k.image ≡ from
  pub terminals : k.terminals ≡ us
  pub done : k.done ≡ 0
  pub memory : k.memory ≡ from.memory
  pub streams : k.streams ≡ replicate port_count []
  pub outside : k.outside ≡ 0
  pub results : (x d : ℕ) → result_ago k x d ≡ 0

-- a word that was right stays right
abbrev pub Keeps : (ℕ → ℕ) → List ℕ → List ℕ → Type 0
Keeps f old new = (r : ℕ) → slice_index old r ≡ f r → slice_index new r ≡ f r

-- the outs have their words
abbrev pub AreOutsRight : List Terminals → List ℕ → (ℕ → ℕ) → Type 0
AreOutsRight us words f = (x : ℕ) → x < length us → slice_index words (terminals us x).out ≡ f (terminals us x).out

-- among the words f each out has the result that its unit gave one latency ago
abbrev pub GiveOuts : Course → (ℕ → ℕ) → Type 0
GiveOuts k f = (x : ℕ) → x < length k.terminals →
    result_ago k x (terminals k.terminals x).latency ≡ f (terminals k.terminals x).out

-- no unit's latency exceeds the number of its results that are kept
abbrev pub AreShort : List Terminals → Type 0
AreShort us = (x : ℕ) → x < length us → (terminals us x).latency ≤ 4

-- there is a word for each port of each unit
abbrev pub ArePortsKnown : List Terminals → List ℕ → Type 0
ArePortsKnown us words =
    (x p : ℕ) → x < length us → p < 3 → slice_index (terminals us x).ports p < length words

-- one more cycle, on the given words: every unit finds the memory of the cycle's start, and the stores take effect at
-- its end
pub record Advances (old : Course) (words : List ℕ) (new : Course) : Type 0 where
  pub arch : new.arch ≡ old.arch
  pub config : new.config ≡ old.config
  pub n : new.n ≡ old.n
  pub image : new.image ≡ old.image
  pub terminals : new.terminals ≡ old.terminals
  pub done : new.done ≡ old.done + 1
  pub memory : new.memory ≡ memory_by (works old words) old.memory (length old.terminals)
  pub sixteen : length new.streams ≡ port_count
  pub streams : (port : ℕ) → port < port_count → slice_index_or new.streams port [] ≡
      slice_index_or old.streams port [] ++ sent_by_units (works old words) port (length old.terminals)
  pub outside : new.outside ≡ old.outside + missed_by_units (works old words) (length old.memory) (length old.terminals)
  pub results : (x : ℕ) → x < length old.terminals →
      result_ago new x 1 ≡ result_of old.image old.memory (works old words x)
  pub earlier : (x d : ℕ) → 0 < d → d < 4 → result_ago new x (d + 1) ≡ result_ago old x d
