-- A netlist has a meaning over an architecture, or a fault, and never both.
use Rattle.std.proofs.Common.{◌≡◌, ◌≢◌, ◌⊎◌, inl, inr, Option, Some, None, refl, ap, sym, ◌∙◌, ⊎_elim}
use Rattle.std.specs.Option.{option_map, option_or}
use Rattle.cg_model.specs.Array.{Arch}
use Rattle.cg_levelize.proofs.Solved.{order_or_loop}
use Rattle.cg_netlist.specs.Netlist.{NetGraph}
use Rattle.cg_netlist.specs.Graph.{IsNetGraph}
use Rattle.cg_gates.specs.declared.fault.GateFault.{GateFault}
use Rattle.cg_gates.specs.declared.fault.GateFault.TheVariants as fault
use Rattle.cg_gates.specs.Accepts.{miscounted, misjoined, repeated_instance, unknown_instance, missing_unit, fault_before_loops, fault_after_loops, HasNoMuxLoop, IsFault, early, a_loop, late, IsAccepted, names_of}
use Rattle.cg_gates.specs.Order.{mux_graph}
use Rattle.cg_gates.proofs.Rings.{turned}
use Rattle.cg_gates.proofs.Graph.{are_known, loop_rings, no_ring}

-- ---- no fault is out of memory

mapped_never : {X : Type 0} (f : X → GateFault) (o : Option X) → ((x : X) → f x ≡ fault.Memory → ⊥) → option_map f o ≡ Some fault.Memory → ⊥
mapped_never f None never e = let bad : None ≡ Some fault.Memory = e in absurd (cc)
mapped_never f (Some x) never e = never x (cc)

first_of_two : (o p : Option GateFault) → (o ≡ Some fault.Memory → ⊥) → (p ≡ Some fault.Memory → ⊥) → option_or o p ≡ Some fault.Memory → ⊥
first_of_two (Some f) p left right e = left e
first_of_two None p left right e = right e

early_never : (N : NetGraph) → fault_before_loops N ≡ Some fault.Memory → ⊥
unfolding fault_before_loops
early_never N e =
    first_of_two (option_map fault.DriverCount (miscounted N)) (option_map fault.PinNet (misjoined N))
    (mapped_never fault.DriverCount (miscounted N) (λ x same. cc)) (mapped_never fault.PinNet (misjoined N) (λ x same. cc)) e

late_never : (A : Arch) (N : NetGraph) → fault_after_loops A N ≡ Some fault.Memory → ⊥
unfolding fault_after_loops
late_never A N e =
    first_of_two (option_map fault.RepeatedInstance (repeated_instance N)) _
    (mapped_never fault.RepeatedInstance (repeated_instance N) (λ x same. cc))
    (first_of_two (option_map fault.UnknownInstance (unknown_instance A N)) (option_map fault.MissingUnit (missing_unit A N))
    (mapped_never fault.UnknownInstance (unknown_instance A N) (λ x same. cc)) (mapped_never fault.MissingUnit (missing_unit A N) (λ x same. cc)))
    e

-- ---- answers

-- a meaning, or a fault that isn't out of memory
abbrev pub HasAnswer : Arch → NetGraph → Type 0
HasAnswer A N = IsAccepted A N ⊎ ((f : GateFault) × ((f ≢ fault.Memory) × IsFault A N f))

not_memory : (o : Option GateFault) (f : GateFault) → o ≡ Some f → (o ≡ Some fault.Memory → ⊥) → f ≢ fault.Memory
not_memory o f is never e = never (is ∙ ap Some e)

ordered : (A : Arch) (N : NetGraph) → fault_before_loops N ≡ None → HasNoMuxLoop N → (o : Option GateFault) → fault_after_loops A N ≡ o → HasAnswer A N
ordered A N none rising None e = inl (record { early = none; no_loop = rising; late = e })
ordered A N none rising (Some f) e = inr (f, (not_memory (fault_after_loops A N) f e (late_never A N), late none rising e))

judged : (A : Arch) (N : NetGraph) → IsNetGraph N → (o : Option GateFault) → fault_before_loops N ≡ o → HasAnswer A N
judged A N graph (Some f) e = inr (f, (not_memory (fault_before_loops N) f e (early_never N), early e))
judged A N graph None e =
    ⊎_elim
    (λ order. ordered A N e (no_ring N e graph order.0 order.1) (fault_after_loops A N) refl)
    (λ loop. inr (fault.MuxLoop (names_of N (turned loop.0)), ((λ same. cc), a_loop e (loop_rings N e graph loop.0 loop.1))))
    (order_or_loop (mux_graph N) (are_known N e graph))

-- any netlist has an answer
pub some_answer : (A : Arch) (N : NetGraph) → IsNetGraph N → HasAnswer A N
some_answer A N graph = judged A N graph (fault_before_loops N) refl

-- a netlist that has a meaning has no fault
pub not_both : (A : Arch) (N : NetGraph) (f : GateFault) → IsAccepted A N → IsFault A N f → ⊥
not_both A N f is (early e) = let bad : None ≡ Some f = sym is.early ∙ e in absurd (cc)
not_both A N _ is (a_loop {loop} e ring) = is.no_loop loop ring
not_both A N f is (late e none l) = let bad : None ≡ Some f = sym is.late ∙ l in absurd (cc)
