-- Worked rows over the netlist of a small array: what its cells are, what runs leave, and each fault at its place.
use Rattle.std.proofs.Common.{◌≡◌, ℕ, zero, suc, ◌+◌, ◌<◌, ◌≤◌, arith, false, List, [], ◌∷◌, ◌++◌, Some, None, take, drop, map, set, refl}
use Rattle.std.specs.Prelude.{codes, slice_index, slice_index_or}
use Rattle.std.specs.Fmt.{digits}
use Rattle.cg_word.specs.declared.op.Op.TheVariants.{Iter, Add, Output}
use Rattle.cg_word.specs.Word.{apply_of}
use Rattle.cg_model.specs.declared.array.Kind.TheVariants.{Register, Port, Out}
use Rattle.cg_model.specs.declared.array.Resource.{Resource}
use Rattle.cg_model.specs.declared.config.ArgFields.{ArgFields}
use Rattle.cg_model.specs.Work.{Image, value_by, stored, sent, missed}
use Rattle.cg_model.specs.Array.{Arch}
use Rattle.cg_model.specs.Config.{Config, no_arg}
use Rattle.cg_model.specs.Machine.{memory_by, sent_by_units, missed_by_units}
use Rattle.cg_flat.specs.Slots.{width_by}
use Rattle.cg_netlist.specs.declared.forms.Form.TheVariants.{Context as ContextForm, Preselect as PreselectForm, Mux as MuxForm, Register as RegisterForm, FunctionalUnit as UnitForm}
use Rattle.cg_netlist.specs.declared.parts.Pin.{Pin}
use Rattle.cg_netlist.specs.declared.parts.Cell.{Cell}
use Rattle.cg_netlist.specs.Forms.{form_of, said_form}
use Rattle.cg_netlist.specs.Netlist.{NetGraph, netlist_of, bits_of}
use Rattle.cg_gates.specs.Shape.{shapes, shape_of}
use Rattle.cg_gates.specs.Gates.{resource_named, unit_named, net_by, gates_at, gates}
use Rattle.cg_gates.specs.Accepts.{Hears, IsMuxLoop, net_name, miscounted, misjoined, fault_before_loops, repeated_instance, unknown_instance, missing_unit, fault_after_loops}
use Rattle.cg_gates.specs.Order.{net_number, mux_graph}
use Rattle.cg_gates.specs.Texts.{gate_fault_text}
use Rattle.cg_gates.specs.declared.fault.GateFault.TheVariants as fault

abbrev one_unit : Arch
one_unit = record {
  name = codes "t1";
  contexts = 4;
  memory = 16;
  resources =
      record { name = codes "r"; kind = Register; drivers = 3 ∷ 0 ∷ [] }
      ∷ record { name = codes "u_a"; kind = Port; drivers = 3 ∷ 0 ∷ [] }
      ∷ record { name = codes "u_b"; kind = Port; drivers = 3 ∷ 0 ∷ [] }
      ∷ record { name = codes "u_o"; kind = Out; drivers = [] }
      ∷ [];
  units = record { name = codes "u"; ops = Iter ∷ Add ∷ Output ∷ []; latency = 1; ports = 1 ∷ 2 ∷ []; out = 3 } ∷ [];
  hub = 0 ∷ [];
}

-- ---- cells as they are meant

clocks : List (List ℕ)
clocks = codes "clk" ∷ codes "rst" ∷ []

its_shapes : shapes (netlist_of one_unit) ≡
    record { form = PreselectForm 2; name = codes "p_r"; clocks = clocks; ins = []; q = codes "s_r" }
    ∷ record { form = RegisterForm 2; name = codes "r_r"; clocks = clocks; ins = codes "s_r" ∷ codes "n_u_o" ∷ codes "n_r" ∷ []; q = codes "n_r" }
    ∷ record { form = ContextForm 2; name = codes "c_u_a"; clocks = clocks; ins = []; q = codes "s_u_a" }
    ∷ record { form = MuxForm 2; name = codes "m_u_a"; clocks = []; ins = codes "s_u_a" ∷ codes "n_u_o" ∷ codes "n_r" ∷ []; q = codes "n_u_a" }
    ∷ record { form = ContextForm 2; name = codes "c_u_b"; clocks = clocks; ins = []; q = codes "s_u_b" }
    ∷ record { form = MuxForm 2; name = codes "m_u_b"; clocks = []; ins = codes "s_u_b" ∷ codes "n_u_o" ∷ codes "n_r" ∷ []; q = codes "n_u_b" }
    ∷ record { form = UnitForm 2 1 4194324; name = codes "u_u"; clocks = clocks; ins = codes "n_u_a" ∷ codes "n_u_b" ∷ []; q = codes "n_u_o" }
    ∷ []
unfolding netlist_of bits_of width_by digits shape_of form_of said_form clocks
its_shapes = refl

-- a mux hears by the numbers of nets; registers, contexts and units hear nothing in the same cycle
its_muxes : map (λ (r : Resource). r.drivers) (mux_graph (netlist_of one_unit)) ≡ [] ∷ [] ∷ (6 ∷ 0 ∷ []) ∷ [] ∷ (6 ∷ 0 ∷ []) ∷ [] ∷ [] ∷ []
unfolding netlist_of bits_of width_by digits shape_of form_of said_form mux_graph net_number
its_muxes = refl

-- ---- what runs leave

-- the running sum of the turns' numbers, three turns of it
first : ArgFields
first = record { fixed = false; count = 1; init = 0 ∷ [] }

abbrev config : Config
config = record {
  ii = 3;
  stages = 1;
  selects = (1 ∷ 0 ∷ 0 ∷ 0 ∷ []) ∷ (2 ∷ 2 ∷ 1 ∷ 0 ∷ []) ∷ (0 ∷ 1 ∷ 0 ∷ 0 ∷ []) ∷ [];
  units =
      (record { op = Some Iter; stage = 0; port = 0; immediate = 0; args = [] } ∷ [])
      ∷ (record { op = Some Add; stage = 0; port = 0; immediate = 0; args = first ∷ no_arg ∷ [] } ∷ [])
      ∷ (record { op = Some Output; stage = 0; port = 0; immediate = 0; args = no_arg ∷ [] } ∷ [])
      ∷ [];
}

abbrev nothing : Image
nothing = record { memory = []; streams = [] }

its_sums : (gates one_unit (netlist_of one_unit) config 3 nothing).streams 0 ≡ 0 ∷ 1 ∷ 3 ∷ []
unfolding netlist_of bits_of width_by digits shape_of form_of said_form gates_at net_by resource_named unit_named first memory_by sent_by_units missed_by_units value_by stored sent missed apply_of
its_sums = refl

-- ---- netlists with a change

-- the cells in order: p_r, r_r, c_u_a, m_u_a, c_u_b, m_u_b, u_u
abbrev with_cells : (List Cell → List Cell) → NetGraph
with_cells f = record { nets = (netlist_of one_unit).nets; cells = f (netlist_of one_unit).cells }

abbrev cell_of : List Cell → ℕ → Cell
cell_of cs i = slice_index_or cs i (record { «module» = []; name = []; pins = [] })

-- cell i with another name
abbrev renamed : ℕ → List ℕ → List Cell → List Cell
renamed i name cs = set cs i (record (cell_of cs i) { name = name })

abbrev moved : Pin → List ℕ → Pin
moved p net = record p { net = net }

-- cell i with pin k on another net
abbrev rejoined : ℕ → ℕ → List ℕ → List Cell → List Cell
rejoined i k net cs =
    set cs i (record (cell_of cs i) { pins = set (cell_of cs i).pins k (moved (slice_index_or (cell_of cs i).pins k (record { port = []; net = [] })) net) })

-- with d1 and d2 of one mux exchanged the sum stays 0
exchanged_sums : (gates one_unit (with_cells (λ cs. rejoined 3 2 (codes "n_u_o") (rejoined 3 1 (codes "n_r") cs))) config 3 nothing).streams 0 ≡ 0 ∷ 0 ∷ 0 ∷ []
unfolding netlist_of bits_of width_by digits shape_of form_of said_form gates_at net_by resource_named unit_named first memory_by sent_by_units missed_by_units value_by stored sent missed apply_of
exchanged_sums = refl

-- muxes that hear each other
ring_of_two : map (λ (r : Resource). r.drivers) (mux_graph (with_cells (λ cs. rejoined 5 1 (codes "n_u_a") (rejoined 3 1 (codes "n_u_b") cs)))) ≡ [] ∷ [] ∷ (4 ∷ 0 ∷ []) ∷ [] ∷ (2 ∷ 0 ∷ []) ∷ [] ∷ [] ∷ []
unfolding netlist_of bits_of width_by digits shape_of form_of said_form mux_graph net_number
ring_of_two = refl

abbrev ring : NetGraph
ring = with_cells (λ cs. rejoined 5 1 (codes "n_u_a") (rejoined 3 1 (codes "n_u_b") cs))

first_hears : Hears ring (codes "n_u_a") (codes "n_u_b")
unfolding netlist_of bits_of width_by digits shape_of form_of said_form
first_hears = record {
  cell = record { form = MuxForm 2; name = codes "m_u_a"; clocks = []; ins = codes "s_u_a" ∷ codes "n_u_b" ∷ codes "n_r" ∷ []; q = codes "n_u_a" };
  there = (3, omega arith, refl);
  drives = refl;
  hears = (0, omega arith, refl);
}

second_hears : Hears ring (codes "n_u_b") (codes "n_u_a")
unfolding netlist_of bits_of width_by digits shape_of form_of said_form
second_hears = record {
  cell = record { form = MuxForm 2; name = codes "m_u_b"; clocks = []; ins = codes "s_u_b" ∷ codes "n_u_a" ∷ codes "n_r" ∷ []; q = codes "n_u_b" };
  there = (5, omega arith, refl);
  drives = refl;
  hears = (0, omega arith, refl);
}

-- E3: the ring is named from the net that is declared first on
its_ring : IsMuxLoop ring (2 ∷ 4 ∷ [])
unfolding netlist_of width_by
its_ring = record { some = omega arith; known = known; once = once; links = links; closed = second_hears; least = least }
  where
    known : (k : ℕ) → k < 2 → slice_index (2 ∷ 4 ∷ []) k < 7
    known zero l = omega arith
    known (suc zero) l = omega arith
    known (suc (suc k)) l = absurd (omega arith)

    once : (j k : ℕ) → j < 2 → k < 2 → slice_index (2 ∷ 4 ∷ []) j ≡ slice_index (2 ∷ 4 ∷ []) k → j ≡ k
    once zero zero l m e = refl
    once zero (suc zero) l m e = absurd (omega arith)
    once (suc zero) zero l m e = absurd (omega arith)
    once (suc zero) (suc zero) l m e = refl
    once (suc (suc j)) k l m e = absurd (omega arith)
    once j (suc (suc k)) l m e = absurd (omega arith)

    links : (k : ℕ) → k + 1 < 2 → Hears ring (net_name ring (slice_index (2 ∷ 4 ∷ []) k)) (net_name ring (slice_index (2 ∷ 4 ∷ []) (k + 1)))
    links zero l = first_hears
    links (suc k) l = absurd (omega arith)

    least : (k : ℕ) → k < 2 → 2 ≤ slice_index (2 ∷ 4 ∷ []) k
    least zero l = omega arith
    least (suc zero) l = omega arith
    least (suc (suc k)) l = absurd (omega arith)

-- ---- faults

none_early : fault_before_loops (netlist_of one_unit) ≡ None
unfolding netlist_of bits_of width_by digits shape_of form_of said_form fault_before_loops miscounted misjoined
none_early = refl

none_late : fault_after_loops one_unit (netlist_of one_unit) ≡ None
unfolding netlist_of bits_of width_by digits shape_of form_of said_form fault_after_loops repeated_instance unknown_instance missing_unit
none_late = refl

-- E1: no cell drives the net, or two do; the first net of those in question is named
without_unit : fault_before_loops (with_cells (take 6)) ≡ Some (fault.DriverCount (codes "n_u_o"))
unfolding netlist_of bits_of width_by digits shape_of form_of said_form fault_before_loops miscounted misjoined
without_unit = refl

without_two : fault_before_loops (with_cells (drop 2)) ≡ Some (fault.DriverCount (codes "n_r"))
unfolding netlist_of bits_of width_by digits shape_of form_of said_form fault_before_loops miscounted misjoined
without_two = refl

driven_twice : fault_before_loops (with_cells (λ cs. cs ++ drop 6 cs)) ≡ Some (fault.DriverCount (codes "n_u_o"))
unfolding netlist_of bits_of width_by digits shape_of form_of said_form fault_before_loops miscounted misjoined
driven_twice = refl

-- E2: a d on a net of two bits, a select on one of 32 or on that of another width, a clock on the reset, and a d on the clock
narrow_pin : fault_before_loops (with_cells (rejoined 3 1 (codes "s_r"))) ≡ Some (fault.PinNet 3)
unfolding netlist_of bits_of width_by digits shape_of form_of said_form fault_before_loops miscounted misjoined
narrow_pin = refl

wide_select : fault_before_loops (with_cells (rejoined 5 0 (codes "n_r"))) ≡ Some (fault.PinNet 5)
unfolding netlist_of bits_of width_by digits shape_of form_of said_form fault_before_loops miscounted misjoined
wide_select = refl

clock_on_reset : fault_before_loops (with_cells (rejoined 6 0 (codes "rst"))) ≡ Some (fault.PinNet 6)
unfolding netlist_of bits_of width_by digits shape_of form_of said_form fault_before_loops miscounted misjoined
clock_on_reset = refl

pin_on_clock : fault_before_loops (with_cells (rejoined 6 3 (codes "clk"))) ≡ Some (fault.PinNet 6)
unfolding netlist_of bits_of width_by digits shape_of form_of said_form fault_before_loops miscounted misjoined
pin_on_clock = refl

-- a select may come from another resource's cell of the same width
shared_select : fault_before_loops (with_cells (rejoined 5 0 (codes "s_u_a"))) ≡ None
unfolding netlist_of bits_of width_by digits shape_of form_of said_form fault_before_loops miscounted misjoined
shared_select = refl

-- E1 goes before E2, and of two E2 the first cell's
both_early : fault_before_loops (with_cells (λ cs. take 6 (rejoined 0 0 (codes "rst") cs))) ≡ Some (fault.DriverCount (codes "n_u_o"))
unfolding netlist_of bits_of width_by digits shape_of form_of said_form fault_before_loops miscounted misjoined
both_early = refl

two_pins : fault_before_loops (with_cells (λ cs. rejoined 3 1 (codes "s_r") (rejoined 5 1 (codes "s_r") cs))) ≡ Some (fault.PinNet 3)
unfolding netlist_of bits_of width_by digits shape_of form_of said_form fault_before_loops miscounted misjoined
two_pins = refl

-- E4: the later of two cells is named
one_name : fault_after_loops one_unit (with_cells (renamed 3 (codes "m_u_b"))) ≡ Some (fault.RepeatedInstance 5)
unfolding netlist_of bits_of width_by digits shape_of form_of said_form fault_after_loops repeated_instance unknown_instance missing_unit
one_name = refl

-- muxes may have any name
other_name : fault_after_loops one_unit (with_cells (renamed 3 (codes "any"))) ≡ None
unfolding netlist_of bits_of width_by digits shape_of form_of said_form fault_after_loops repeated_instance unknown_instance missing_unit
other_name = refl

-- E5: no such resource, one without drivers, another letter, no such unit
unknown_resource : fault_after_loops one_unit (with_cells (renamed 2 (codes "c_x"))) ≡ Some (fault.UnknownInstance 2)
unfolding netlist_of bits_of width_by digits shape_of form_of said_form fault_after_loops repeated_instance unknown_instance missing_unit
unknown_resource = refl

undriven_resource : fault_after_loops one_unit (with_cells (renamed 2 (codes "c_u_o"))) ≡ Some (fault.UnknownInstance 2)
unfolding netlist_of bits_of width_by digits shape_of form_of said_form fault_after_loops repeated_instance unknown_instance missing_unit
undriven_resource = refl

other_letter : fault_after_loops one_unit (with_cells (renamed 0 (codes "c_r"))) ≡ Some (fault.UnknownInstance 0)
unfolding netlist_of bits_of width_by digits shape_of form_of said_form fault_after_loops repeated_instance unknown_instance missing_unit
other_letter = refl

unknown_unit : fault_after_loops one_unit (with_cells (renamed 6 (codes "u_x"))) ≡ Some (fault.UnknownInstance 6)
unfolding netlist_of bits_of width_by digits shape_of form_of said_form fault_after_loops repeated_instance unknown_instance missing_unit
unknown_unit = refl

-- a context may be named after another resource of the same width
other_resource : fault_after_loops one_unit (with_cells (renamed 2 (codes "c_r"))) ≡ None
unfolding netlist_of bits_of width_by digits shape_of form_of said_form fault_after_loops repeated_instance unknown_instance missing_unit
other_resource = refl

-- E6
no_unit : fault_after_loops one_unit (with_cells (take 6)) ≡ Some (fault.MissingUnit (codes "u"))
unfolding netlist_of bits_of width_by digits shape_of form_of said_form fault_after_loops repeated_instance unknown_instance missing_unit
no_unit = refl

-- E4 goes before E5, and E5 before E6
repeated_unknown : fault_after_loops one_unit (with_cells (λ cs. renamed 0 (codes "p_x") (renamed 3 (codes "m_u_b") cs))) ≡ Some (fault.RepeatedInstance 5)
unfolding netlist_of bits_of width_by digits shape_of form_of said_form fault_after_loops repeated_instance unknown_instance missing_unit
repeated_unknown = refl

unknown_missing : fault_after_loops one_unit (with_cells (λ cs. take 6 (renamed 4 (codes "c_x") cs))) ≡ Some (fault.UnknownInstance 4)
unfolding netlist_of bits_of width_by digits shape_of form_of said_form fault_after_loops repeated_instance unknown_instance missing_unit
unknown_missing = refl

-- ---- texts

its_texts : map gate_fault_text
    (fault.Memory ∷ fault.DriverCount (codes "n_r") ∷ fault.PinNet 10 ∷ fault.MuxLoop (codes "n_u_a" ∷ codes "n_u_b" ∷ []) ∷ fault.RepeatedInstance 5 ∷ fault.UnknownInstance 0 ∷ fault.MissingUnit (codes "u") ∷ [])
    ≡ [] ∷ codes "E1 DriverCount net n_r" ∷ codes "E2 PinNet cell 10" ∷ codes "E3 MuxLoop n_u_a n_u_b" ∷ codes "E4 RepeatedInstance cell 5" ∷ codes "E5 UnknownInstance cell 0" ∷ codes "E6 MissingUnit unit u" ∷ []
unfolding digits
its_texts = refl
