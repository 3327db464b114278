-- A run of a netlist, as contracts see it: the netlist and its input, and the number of past cycles.
use Rattle.std.specs.Prelude.{ℕ}
use Rattle.cg_model.specs.Work.{Image}
use Rattle.cg_model.specs.Array.{Arch}
use Rattle.cg_model.specs.Config.{Config}
use Rattle.cg_model.specs.Machine.{cycles}
use Rattle.cg_netlist.specs.Netlist.{NetGraph}
use Rattle.cg_gates.specs.Gates.{GateState, gates_at}

-- a netlist over an architecture with a configuration, the number of iterations and the image from which it starts, and
-- the number of past cycles
pub record Run : Type 0 where
  pub arch : Arch
  pub netlist : NetGraph
  pub config : Config
  pub n : ℕ
  pub image : Image
  pub done : ℕ

-- the run before the first cycle
abbrev pub start_of : Arch → NetGraph → Config → ℕ → Image → Run
start_of A N C n image = record { arch = A; netlist = N; config = C; n = n; image = image; done = 0 }

-- the netlist at the start of the next cycle
abbrev pub state : Run → GateState
state r = gates_at r.arch r.netlist r.config r.n r.image r.done

-- the number of cycles of the whole run
abbrev pub all_cycles : Run → ℕ
all_cycles r = cycles r.config r.n
