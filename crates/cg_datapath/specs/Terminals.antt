-- The work that the units of a run begin on words by number.
use Rattle.std.specs.Prelude.{ℕ, ◌-◌, List, [], Option, length, slice_index, slice_index_or}
use Rattle.cg_model.specs.Config.{Config, fields}
use Rattle.cg_model.specs.Work.{Work}
use Rattle.cg_model.specs.Machine.{begun}
use Rattle.cg_datapath.specs.declared.terminals.Terminals.{Terminals}

-- unit x
abbrev pub terminals : List Terminals → ℕ → Terminals
terminals us x = slice_index_or us x (record { ports = []; out = 0; latency = 0 })

-- the word on port p of a unit with these ports; a port that doesn't exist has the last word, which is never written
abbrev pub on_ports : List ℕ → List ℕ → ℕ → ℕ
on_ports ports words p = slice_index words (slice_index_or ports p (length words - 1))

-- what unit x begins on the given words
abbrev pub works_on : Config → List Terminals → ℕ → ℕ → ℕ → List ℕ → ℕ → Option Work
works_on C us n slot round words x = begun (fields C x slot) n round (on_ports (terminals us x).ports words)
