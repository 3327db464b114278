-- The fields of a run of a netlist.
use Rattle.std.specs.Prelude.{◌≡◌, ℕ, ◌<◌, List, [], length, slice_index_or}
use Rattle.cg_model.specs.Array.{Arch}
use Rattle.cg_model.specs.Config.{Config}
use Rattle.cg_model.specs.Work.{Image}
use Rattle.cg_netlist.specs.Netlist.{NetGraph}
use Rattle.cg_datapath.specs.Course.{Course}
use Rattle.cg_datapath.specs.declared.terminals.Terminals.{Terminals}
use Rattle.cg_datapath.specs.Terminals.{terminals}
use Rattle.cg_gates.specs.Gates.{gates_at}
use Rattle.cg_gates_run.specs.Settle.{AreByNet, IsFitted, Precedes}

-- each unit has a place for three ports
abbrev pub HaveThree : List Terminals → Type 0
HaveThree us = (x : ℕ) → x < length us → length (terminals us x).ports ≡ 3

-- after c cycles: the course has the same memory, streams and count as the netlist, and the words are those of the last
-- cycle
pub record IsState (A : Arch) (N : NetGraph) (C : Config) (n : ℕ) (image : Image) (c : ℕ) (k : Course) (words : List ℕ) : Type 0 where
  pub memory : k.memory ≡ (gates_at A N C n image c).memory
  pub sixteen : length k.streams ≡ 16
  pub streams : (port : ℕ) → port < 16 → slice_index_or k.streams port [] ≡ (gates_at A N C n image c).streams port
  pub outside : k.outside ≡ (gates_at A N C n image c).outside
  pub precedes : Precedes A N (gates_at A N C n image c).past k words

-- a run of a netlist, with the words of the last cycle and of the one before it by net
pub record IsRunning (A : Arch) (N : NetGraph) (C : Config) (k : Course) (words before : List ℕ) : Type 0 where
  pub fitted : IsFitted A N C k
  pub three : HaveThree k.terminals
  pub words_by_net : AreByNet N words
  pub before_by_net : AreByNet N before
  pub state_is : IsState A N C k.n k.image k.done k words
