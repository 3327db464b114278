-- A graph that the bytes spell is what is read of them, and a fault that they have is what is answered.
use Rattle.std.proofs.Common.{◌≡◌, ◌≢◌, ◌⊎◌, inl, inr, ℕ, List, None, Ok, Err, Result, refl, ap, ◌∙◌}
use Rattle.std.specs.Prelude.{IfOk, IfErr}
use Rattle.cg_tokens.specs.Tokens.{tokens_of, texts}
use Rattle.cg_verilog.specs.Printed.{module_text}
use Rattle.cg_verilog.proofs.Printing.{printed}
use Rattle.cg_netlist_reader.specs.declared.fault.VerilogFault.{VerilogFault}
use Rattle.cg_netlist_reader.specs.declared.fault.VerilogFault.TheVariants as faults
use Rattle.cg_netlist.specs.Netlist.{NetGraph}
use Rattle.cg_netlist.specs.Graph.{IsNetGraph}
use Rattle.cg_netlist.specs.Text.{module_of}
use Rattle.cg_netlist_reader.specs.Reading.{Spells, IsFault, Gives, GivesFault, IsAnswer}
use Rattle.cg_netlist_reader.proofs.NotBoth.{one_graph, not_both, one_fault}
use Rattle.cg_netlist.proofs.Printable.{is_module}

memory_or : (e : VerilogFault) → (e ≡ faults.Memory) ⊎ (e ≢ faults.Memory)
memory_or faults.Memory = inl refl
memory_or (faults.Text place) = inr (λ e. cc)
memory_or (faults.UnknownCell i) = inr (λ e. cc)
memory_or (faults.UnknownNet name) = inr (λ e. cc)

pub only_of : (bytes : List ℕ) (r : Result NetGraph VerilogFault) → IfOk r (λ H. Spells bytes H) → IfErr r (λ e. IsFault e bytes) → (G : NetGraph) → IsNetGraph G → Spells bytes G → Gives G r
only_of bytes (Ok H) h f G graph g = one_graph bytes H G h g
only_of bytes (Err e) h f G graph g = elim (memory_or e) [ inl m ↦ m | inr other ↦ absurd (not_both bytes G e graph g other f) ]

pub answer_of : (bytes : List ℕ) (r : Result NetGraph VerilogFault) → IfOk r (λ H. Spells bytes H) → IfOk r IsNetGraph → IfErr r (λ e. IsFault e bytes) → IsAnswer bytes r
answer_of bytes (Ok H) spells graph f = (graph, spells)
answer_of bytes (Err e) spells graph f = f

pub exact_of : (bytes : List ℕ) (r : Result NetGraph VerilogFault) → IsAnswer bytes r → (e : VerilogFault) → e ≢ faults.Memory → IsFault e bytes → GivesFault e r
exact_of bytes (Ok H) h e some k = absurd (not_both bytes H e h.0 h.1 some k)
exact_of bytes (Err f) h e some k = elim (memory_or f) [ inl m ↦ inr (ap Err m) | inr other ↦ inl (ap Err (one_fault bytes f e other some h k)) ]

-- what is printed of a graph spells it
pub printed_spells : (bytes : List ℕ) (G : NetGraph) → IsNetGraph G → bytes ≡ module_text (module_of G) → Spells bytes G
printed_spells bytes G graph is =
    let valid = is_module G graph in
    record { valid = valid; tokens = ap (λ b. texts (tokens_of None b)) is ∙ printed (module_of G) valid }
