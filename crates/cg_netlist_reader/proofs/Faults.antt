-- Faults of nets and cells are faults of the bytes that spell them.
use Rattle.std.proofs.Common.{◌≡◌, ℕ, List, None, Ok, Err, Result, ap, sym, ◌∙◌, subst}
use Rattle.std.specs.Prelude.{All, IfOk, IfErr}
use Rattle.cg_tokens.specs.Tokens.{tokens_of, texts}
use Rattle.cg_verilog.specs.Module.{ModuleText, WireText, CellText, IsModule, module_tokens}
use Rattle.cg_netlist_reader.specs.declared.fault.VerilogFault.{VerilogFault}
use Rattle.cg_netlist_reader.specs.declared.fault.VerilogFault.TheVariants as faults
use Rattle.cg_netlist.specs.Netlist.{NetGraph}
use Rattle.cg_netlist.specs.Text.{module_of}
use Rattle.cg_netlist_reader.specs.Reading.{Spells, IsFormed, unknown_net, IsFault}
use Rattle.cg_netlist_reader.specs.Wrong.{IsOfNet, IsBad, IsWrong}

pub net_bad : (G : NetGraph) (e : VerilogFault) → All IsFormed G.cells → IsOfNet e (unknown_net G) → IsBad e G
net_bad G faults.Memory formed h = tt
net_bad G (faults.UnknownNet name) formed h = (formed, h)
net_bad G (faults.Text place) formed h = h
net_bad G (faults.UnknownCell i) formed h = absurd h

bad_wrong : (G : NetGraph) (m : ModuleText) → module_of G ≡ m → (e : VerilogFault) → IsBad e G → IsWrong e m
bad_wrong G m is faults.Memory h = tt
bad_wrong G m is (faults.UnknownCell i) h = (G, is, h)
bad_wrong G m is (faults.Text place) h = h
bad_wrong G m is (faults.UnknownNet name) h = (G, is, h.0, h.1)

pub graph_found : (G : NetGraph) (m : ModuleText) (r : Result NetGraph VerilogFault) → module_of G ≡ m → IfOk r (λ H. H ≡ G) → IfOk r (λ H. module_of H ≡ m)
graph_found G m (Ok H) is h = ap module_of h ∙ is
graph_found G m (Err e) is h = tt

pub graph_fault : (G : NetGraph) (m : ModuleText) (r : Result NetGraph VerilogFault) → module_of G ≡ m → IfErr r (λ e. IsBad e G) → IfErr r (λ e. IsWrong e m)
graph_fault G m (Ok H) is h = tt
graph_fault G m (Err e) is h = bad_wrong G m is e h

-- a graph with the module that the bytes spell is spelled by them
pub spelled : (bytes : List ℕ) (m : ModuleText) (G : NetGraph) → IsModule m → texts (tokens_of None bytes) ≡ module_tokens m → module_of G ≡ m → Spells bytes G
spelled bytes m G valid tokens is = record { valid = subst IsModule (sym is) valid; tokens = tokens ∙ ap module_tokens (sym is) }

pub wrong_is : (bytes : List ℕ) (m : ModuleText) → IsModule m → texts (tokens_of None bytes) ≡ module_tokens m → (e : VerilogFault) → IsWrong e m → IsFault e bytes
wrong_is bytes m valid tokens faults.Memory h = tt
wrong_is bytes m valid tokens (faults.Text place) h = absurd h
wrong_is bytes m valid tokens (faults.UnknownCell i) h = (h.0, spelled bytes m h.0 valid tokens h.1, h.2)
wrong_is bytes m valid tokens (faults.UnknownNet name) h = (h.0, spelled bytes m h.0 valid tokens h.1, h.2, h.3)

-- ---- what is answered of a module that the bytes spell

pub read_found : (bytes : List ℕ) (m : ModuleText) (r : Result NetGraph VerilogFault) → IsModule m → texts (tokens_of None bytes) ≡ module_tokens m → IfOk r (λ g. module_of g ≡ m) → IfOk r (λ g. Spells bytes g)
read_found bytes m (Ok g) valid tokens h = spelled bytes m g valid tokens h
read_found bytes m (Err e) valid tokens h = tt

pub read_fault : (bytes : List ℕ) (m : ModuleText) (r : Result NetGraph VerilogFault) → IsModule m → texts (tokens_of None bytes) ≡ module_tokens m → IfErr r (λ e. IsWrong e m) → IfErr r (λ e. IsFault e bytes)
read_fault bytes m (Ok g) valid tokens h = tt
read_fault bytes m (Err e) valid tokens h = wrong_is bytes m valid tokens e h

-- ---- the same for what a function has at hand

pub same_module : (m n : ModuleText) → m.wires ≡ n.wires → m.cells ≡ n.cells → m ≡ n
same_module m n wires cells = ap (λ (x : List WireText). record m { wires = x }) wires ∙ ap (λ (x : List CellText). record { wires = n.wires; cells = x }) cells
