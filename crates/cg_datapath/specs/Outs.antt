-- The words of the outs, from the results of the last four cycles.
use Rattle.std.specs.Prelude.{◌≡◌, ℕ, ◌+◌, ◌-◌, ◌*◌, ◌%◌, ◌<◌, List, length, slice_index}
use Rattle.cg_datapath.specs.declared.terminals.Terminals.{Terminals}
use Rattle.cg_datapath.specs.Terminals.{terminals}

-- the result that unit x gave one latency ago, where the last four results of each unit are adjacent and those of this
-- cycle will be in the given row
abbrev pub delayed : List Terminals → ℕ → List ℕ → ℕ → ℕ
delayed us row history x = slice_index history (4 * x + (row + 4 - (terminals us x).latency) % 4)

-- the history gives the outs their words
abbrev pub AreGiven : List Terminals → ℕ → List ℕ → (ℕ → ℕ) → Type 0
AreGiven us row history f = (x : ℕ) → x < length us → delayed us row history x ≡ f (terminals us x).out
