-- The relation of an architecture to its netlist, and the meaning of the equations of a netlist.
use Rattle.std.specs.Prelude.{◌≡◌, ℕ, ◌<◌, length, List, Option}
use Rattle.cg_model.specs.Work.{Image, Work}
use Rattle.cg_model.specs.Array.{Arch, IsArch, resource}
use Rattle.cg_model.specs.Config.{Config}
use Rattle.cg_model.specs.Machine.{word, machine_left}
use Rattle.cg_netlist.specs.Netlist.{NetGraph, word_net, netlist_of}
use Rattle.cg_netlist.specs.Graph.{IsNetGraph}
use Rattle.cg_gates.specs.Gates.{net_word, gate_begins, gate_result, gates_at, gates_left}
use Rattle.cg_gates.specs.Accepts.{IsAccepted}
use Rattle.cg_gates.specs.Equations.{IsGateRun, GatesAgree}

-- the netlist of an architecture has a meaning over it
abbrev pub AcceptsOwn : Arch → Type 0
AcceptsOwn A = IsArch A → IsAccepted A (netlist_of A)

-- under any configuration, in each cycle the net of a resource has the resource's word
abbrev pub WordsFollow : Arch → Config → ℕ → Image → Type 0
WordsFollow A C n image = IsArch A → (r c : ℕ) → r < length A.resources →
    net_word A (netlist_of A) C n image (word_net (resource A r)) c ≡ word A C n image r c

-- the netlist leaves the same memory, streams and count as the array
abbrev pub LeavesAlike : Arch → Config → ℕ → Image → Type 0
LeavesAlike A C n image = IsArch A → gates_left A (netlist_of A) C n image ≡ machine_left A C n image

-- the values that are computed cycle by cycle solve the equations
abbrev pub SolvesEquations : Arch → NetGraph → Config → ℕ → Image → Type 0
SolvesEquations A N C n image = IsNetGraph N → IsAccepted A N →
    IsGateRun A N C n image (net_word A N C n image) (gate_begins A N C n image) (gate_result A N C n image)
    (λ c. (gates_at A N C n image c).memory) (λ port c. (gates_at A N C n image c).streams port)
    (λ c. (gates_at A N C n image c).outside)

-- and any two solutions agree
abbrev pub HasOneSolution : Arch → NetGraph → Config → ℕ → Image → Type 0
HasOneSolution A N C n image = IsNetGraph N → IsAccepted A N →
    (w v : List ℕ → ℕ → ℕ) (b d : ℕ → ℕ → Option Work) (r s : ℕ → ℕ → ℕ) (m l : ℕ → List ℕ) (x y : ℕ → ℕ → List ℕ) (o p : ℕ → ℕ) →
    IsGateRun A N C n image w b r m x o → IsGateRun A N C n image v d s l y p → GatesAgree A N w v b d r s m l x y o p
