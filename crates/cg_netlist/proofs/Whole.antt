-- The netlist of a valid architecture is a graph of nets and cells.
use Rattle.std.proofs.Common.{◌≡◌, ℕ, suc, ◌+◌, ◌^◌, ◌<◌, ◌≤◌, inl, inr, ⊎_elim, true, false, eqb, List, [], ◌∷◌, ◌++◌, length, map, refl, ap, sym, ◌∙◌, subst, arith}
use Rattle.std.specs.Prelude.{All, Contains, codes, bytes_eq, flat_map, slice_index}
use Rattle.std.specs.List.{IsDistinct}
use Rattle.std.proofs.lemmas.Bool.{cases_lt, cond_both, eqb-false}
use Rattle.std.proofs.lemmas.List.Elements.{All-nil, All-cons, All-append, All-head, All-tail, All-from_get_or, All-map}
use Rattle.cg_model.specs.declared.array.Kind.{Kind}
use Rattle.cg_model.specs.declared.array.Kind.TheVariants.{Wire, Register, Port, Out}
use Rattle.cg_model.specs.declared.array.Resource.{Resource}
use Rattle.cg_model.specs.Array.{Arch, IsArch, resource, unit}
use Rattle.cg_flat.specs.Slots.{width}
use Rattle.cg_flat.proofs.Widths.{is_width}
use Rattle.cg_netlist.specs.Forms.{ContextForm, PreselectForm, MuxForm, RegisterForm, ZeroForm}
use Rattle.cg_netlist.specs.Netlist.{Net, Pin, Cell, NetGraph, pin, nets_of, word_net, select_net, select_width, clock_pins, select_pin, driver_pins, argument_pins, output_pins, choice_pins, context_cell, preselect_cell, mux_cell, register_cell, zero_cell, wire_cells, register_cells, cells_by, resource_cells, unit_form, unit_cell, netlist_of}
use Rattle.cg_netlist.specs.Graph.{IsNet, IsConnected, IsCell, IsNetGraph}
use Rattle.cg_netlist.specs.Built.{IsDriven}
use Rattle.cg_netlist.proofs.Letters.{IsPlain, word_name, select_name, context_name, preselect_name, mux_name, register_name, zero_name, unit_name}
use Rattle.cg_netlist.proofs.Bits.{bits_below, bits_some}
use Rattle.cg_netlist.proofs.Ports.{choice_ports, unit_ports}
use Rattle.cg_netlist.proofs.Nets.{net_names, has_word, has_select}
use Rattle.cg_netlist.proofs.Named.{distinct_from, distinct_nets, one, two}
use Rattle.cg_netlist.proofs.Valid.{resource_plain, unit_plain, is_driven, is_placed}

all_flat : {X Y : Type 0} (P : Y → Type 0) (f : X → List Y) (xs : List X) → All (λ x. All P (f x)) xs → All P (flat_map f xs)
all_flat P f [] all = All-nil P
all_flat P f (x ∷ xs) all =
    All-append P (f x) (flat_map f xs) (All-head (λ x. All P (f x)) x xs all) (all_flat P f xs (All-tail (λ x. All P (f x)) x xs all))

-- ---- nets

word_is : (r : Resource) → IsPlain r.name → IsNet (record { name = word_net r; width = 32 })
word_is r plain = record {
  name = word_name r.name plain;
  no_clock = λ e. let bad : false ≡ true = ap (λ n. bytes_eq n (codes "clk")) e in cc;
  no_reset = λ e. let bad : false ≡ true = ap (λ n. bytes_eq n (codes "rst")) e in cc;
  some = omega arith;
  wide = omega arith;
}

-- the width of a select among some drivers
pub few_bits : (k : ℕ) → k ≤ 65536 → width k ≤ 17
few_bits k few = (is_width k).least 17 (omega arith)

pub some_bits : (k : ℕ) → 0 < k → 0 < width k
some_bits k some =
    ⊎_elim (λ l. l) (λ le. let none : width k ≡ 0 = omega arith in let one : k < 2 ^ 0 = subst (λ w. k < 2 ^ w) none (is_width k).enough in absurd (omega arith)) (cases_lt 0 (width k))

select_is : (r : Resource) → IsPlain r.name → length r.drivers ≤ 65536 → 0 < length r.drivers → IsNet (record { name = select_net r; width = select_width r })
select_is r plain few some =
    let most = few_bits (length r.drivers) few in
    record {
      name = select_name r.name plain;
      no_clock = λ e. let bad : false ≡ true = ap (λ n. bytes_eq n (codes "clk")) e in cc;
      no_reset = λ e. let bad : false ≡ true = ap (λ n. bytes_eq n (codes "rst")) e in cc;
      some = some_bits (length r.drivers) some;
      wide = omega (arith, most);
    }

nets_are : (r : Resource) → IsPlain r.name → length r.drivers ≤ 65536 → All IsNet (nets_of r)
nets_are r plain few =
    All-cons IsNet (record { name = word_net r; width = 32 }) _ (word_is r plain)
    (cond_both (eqb (length r.drivers) 0) [] (record { name = select_net r; width = select_width r } ∷ []) (All IsNet)
    (λ e. All-nil IsNet)
    (λ e. let apart = eqb-false (length r.drivers) 0 e in let some : 0 < length r.drivers = omega (arith, apart) in
    All-cons IsNet (record { name = select_net r; width = select_width r }) [] (select_is r plain few some) (All-nil IsNet)))

all_nets : (A : Arch) → IsArch A → All IsNet (flat_map nets_of A.resources)
all_nets A arch =
    all_flat IsNet nets_of A.resources (All-from_get_or (λ r. All IsNet (nets_of r)) A.resources (record { name = []; kind = Wire; drivers = [] })
    (λ r l. nets_are (resource A r) (resource_plain A arch r l) (is_driven A arch r l).few))

names_once : (A : Arch) → IsArch A → IsDistinct bytes_eq (net_names A.resources)
names_once A arch = distinct_from (λ (n : Net). n.name) (flat_map nets_of A.resources) (distinct_nets A arch).once

-- ---- pins

abbrev Joins : Arch → Pin → Type 0
Joins A p = IsConnected (net_names A.resources) p

word_known : (A : Arch) (r : ℕ) → r < length A.resources → Contains (net_names A.resources) (word_net (resource A r))
word_known A r l = has_word A.resources r (record { name = []; kind = Wire; drivers = [] }) l

clocks_join : (A : Arch) → All (Joins A) clock_pins
clocks_join A =
    All-cons (Joins A) (pin (codes "clk") (codes "clk")) (pin (codes "rst") (codes "rst") ∷ []) (inr (inl refl))
    (All-cons (Joins A) (pin (codes "rst") (codes "rst")) [] (inr (inr refl)) (All-nil (Joins A)))

output_joins : (A : Arch) (net : List ℕ) → Contains (net_names A.resources) net → All (Joins A) (output_pins net)
output_joins A net has = All-cons (Joins A) (pin (codes "q") net) [] (inl has) (All-nil (Joins A))

drivers_join : (A : Arch) (k : ℕ) (qs : List ℕ) → ((j : ℕ) → j < length qs → slice_index qs j < length A.resources) → All (Joins A) (driver_pins A k qs)
drivers_join A k [] known = All-nil (Joins A)
drivers_join A k (q ∷ qs) known =
    All-cons (Joins A) _ (driver_pins A (k + 1) qs) (inl (word_known A q (known 0 (omega arith)))) (drivers_join A (k + 1) qs (λ j h. known (suc j) (omega arith)))

arguments_join : (A : Arch) (p : ℕ) (rs : List ℕ) → ((j : ℕ) → j < length rs → slice_index rs j < length A.resources) → All (Joins A) (argument_pins A p rs)
arguments_join A p [] known = All-nil (Joins A)
arguments_join A p (r ∷ rs) known =
    All-cons (Joins A) _ (argument_pins A (p + 1) rs) (inl (word_known A r (known 0 (omega arith)))) (arguments_join A (p + 1) rs (λ j h. known (suc j) (omega arith)))

-- ---- cells

abbrev IsCellIn : Arch → Cell → Type 0
IsCellIn A c = IsCell (net_names A.resources) c

-- a resource with drivers, whose nets are there
record IsWired (A : Arch) (r : Resource) : Type 0 where
  plain : IsPlain r.name
  driven : IsDriven A r
  some : 0 < length r.drivers
  word : Contains (net_names A.resources) (word_net r)
  select : Contains (net_names A.resources) (select_net r)

choice_joins : (A : Arch) (r : Resource) → IsWired A r → All (Joins A) (choice_pins A r)
choice_joins A r h =
    All-cons (Joins A) (select_pin r) (driver_pins A 1 r.drivers ++ output_pins (word_net r)) (inl h.select)
    (All-append (Joins A) (driver_pins A 1 r.drivers) (output_pins (word_net r)) (drivers_join A 1 r.drivers h.driven.known) (output_joins A (word_net r) h.word))

context_is : (A : Arch) (r : Resource) → IsWired A r → IsCellIn A (context_cell r)
context_is A r h = record {
  name = context_name r.name h.plain;
  form = ContextForm (select_width r);
  valid = (some_bits (length r.drivers) h.some, few_bits (length r.drivers) h.driven.few);
  called = refl;
  ports = refl;
  connected = All-append (Joins A) clock_pins (output_pins (select_net r)) (clocks_join A) (output_joins A (select_net r) h.select);
}

preselect_is : (A : Arch) (r : Resource) → IsWired A r → IsCellIn A (preselect_cell r)
preselect_is A r h = record {
  name = preselect_name r.name h.plain;
  form = PreselectForm (select_width r);
  valid = (some_bits (length r.drivers) h.some, few_bits (length r.drivers) h.driven.few);
  called = refl;
  ports = refl;
  connected = All-append (Joins A) clock_pins (output_pins (select_net r)) (clocks_join A) (output_joins A (select_net r) h.select);
}

mux_is : (A : Arch) (r : Resource) → IsWired A r → IsCellIn A (mux_cell A r)
mux_is A r h = record {
  name = mux_name r.name h.plain;
  form = MuxForm (length r.drivers);
  valid = (h.some, h.driven.few);
  called = refl;
  ports = choice_ports A r;
  connected = choice_joins A r h;
}

register_is : (A : Arch) (r : Resource) → IsWired A r → IsCellIn A (register_cell A r)
register_is A r h = record {
  name = register_name r.name h.plain;
  form = RegisterForm (length r.drivers);
  valid = (h.some, h.driven.few);
  called = refl;
  ports = ap (λ ps. codes "clk" ∷ codes "rst" ∷ ps) (choice_ports A r);
  connected = All-append (Joins A) clock_pins (choice_pins A r) (clocks_join A) (choice_joins A r h);
}

zero_is : (A : Arch) (r : Resource) → IsPlain r.name → Contains (net_names A.resources) (word_net r) → IsCellIn A (zero_cell r)
zero_is A r plain word = record {
  name = zero_name r.name plain;
  form = ZeroForm;
  valid = tt;
  called = refl;
  ports = refl;
  connected = output_joins A (word_net r) word;
}

wired : (A : Arch) → IsArch A → (r : ℕ) → r < length A.resources → eqb (length (resource A r).drivers) 0 ≡ false → IsWired A (resource A r)
wired A arch r l e =
    let apart = eqb-false (length (resource A r).drivers) 0 e in
    let some : 0 < length (resource A r).drivers = omega (arith, apart) in
    record {
      plain = resource_plain A arch r l;
      driven = is_driven A arch r l;
      some = some;
      word = word_known A r l;
      select = has_select A.resources r (record { name = []; kind = Wire; drivers = [] }) l some;
    }

unwired : (A : Arch) → IsArch A → (r : ℕ) → r < length A.resources → All (IsCellIn A) (zero_cell (resource A r) ∷ [])
unwired A arch r l = one (IsCellIn A) (zero_cell (resource A r)) (zero_is A (resource A r) (resource_plain A arch r l) (word_known A r l))

wires_are : (A : Arch) → IsArch A → (r : ℕ) → r < length A.resources → All (IsCellIn A) (wire_cells A (resource A r))
wires_are A arch r l =
    let q = resource A r in
    cond_both (eqb (length q.drivers) 0) (zero_cell q ∷ []) (context_cell q ∷ mux_cell A q ∷ []) (All (IsCellIn A))
    (λ e. unwired A arch r l) (λ e. let h = wired A arch r l e in two (IsCellIn A) (context_cell q) (mux_cell A q) (context_is A q h) (mux_is A q h))

registers_are : (A : Arch) → IsArch A → (r : ℕ) → r < length A.resources → All (IsCellIn A) (register_cells A (resource A r))
registers_are A arch r l =
    let q = resource A r in
    cond_both (eqb (length q.drivers) 0) (zero_cell q ∷ []) (preselect_cell q ∷ register_cell A q ∷ []) (All (IsCellIn A))
    (λ e. unwired A arch r l) (λ e. let h = wired A arch r l e in two (IsCellIn A) (preselect_cell q) (register_cell A q) (preselect_is A q h) (register_is A q h))

cells_are : (A : Arch) → IsArch A → (r : ℕ) → r < length A.resources → (kind : Kind) → All (IsCellIn A) (cells_by kind A (resource A r))
cells_are A arch r l Wire = wires_are A arch r l
cells_are A arch r l Port = wires_are A arch r l
cells_are A arch r l Register = registers_are A arch r l
cells_are A arch r l Out = All-nil (IsCellIn A)

unit_is : (A : Arch) → IsArch A → (x : ℕ) → x < length A.units → IsCellIn A (unit_cell A (unit A x))
unit_is A arch x l =
    let u = unit A x in
    let placed = is_placed A arch x l in
    let word = word_known A u.out placed.out in
    record {
      name = unit_name u.name (unit_plain A arch x l);
      form = unit_form u;
      valid = (placed.few, (arch.latencies x l).0, (arch.latencies x l).1, bits_some u.ops (arch.some_op x l), bits_below u.ops);
      called = refl;
      ports = ap (λ ps. codes "clk" ∷ codes "rst" ∷ ps) (unit_ports A u.ports (word_net (resource A u.out)));
      connected =
          All-append (Joins A) clock_pins (argument_pins A 0 u.ports ++ output_pins (word_net (resource A u.out))) (clocks_join A)
          (All-append (Joins A) (argument_pins A 0 u.ports) (output_pins (word_net (resource A u.out)))
          (arguments_join A 0 u.ports placed.known) (output_joins A (word_net (resource A u.out)) word));
    }

all_cells : (A : Arch) → IsArch A → All (IsCellIn A) (flat_map (resource_cells A) A.resources ++ map (unit_cell A) A.units)
all_cells A arch =
    All-append (IsCellIn A) (flat_map (resource_cells A) A.resources) (map (unit_cell A) A.units)
    (all_flat (IsCellIn A) (resource_cells A) A.resources (All-from_get_or (λ r. All (IsCellIn A) (resource_cells A r)) A.resources (record { name = []; kind = Wire; drivers = [] })
    (λ r l. cells_are A arch r l (resource A r).kind)))
    (All-map (IsCellIn A) (unit_cell A) A.units (All-from_get_or (λ u. IsCellIn A (unit_cell A u)) A.units (record { name = []; ops = []; latency = 1; ports = []; out = 0 })
    (λ x l. unit_is A arch x l)))

pub is_graph : (A : Arch) → IsArch A → IsNetGraph (netlist_of A)
unfolding netlist_of
is_graph A arch = record {
  nets = all_nets A arch;
  once = names_once A arch;
  cells = all_cells A arch;
}

-- ---- what is built, part after part

pub built : (A : Arch) (nets : List Net) (none some all : List Cell) → nets ≡ flat_map nets_of A.resources → none ≡ [] → some ≡ none ++ flat_map (resource_cells A) A.resources
    → all ≡ some ++ map (unit_cell A) A.units → record { nets = nets; cells = all } ≡ netlist_of A
unfolding netlist_of
built A nets none some all nets_are empty more last =
    ap (λ ns. record { nets = ns; cells = all }) nets_are
    ∙ ap (λ cs. record { nets = flat_map nets_of A.resources; cells = cs }) (last ∙ ap (λ cs. cs ++ map (unit_cell A) A.units) (more ∙ ap (λ cs. cs ++ flat_map (resource_cells A) A.resources) empty))

pub built_is : (A : Arch) (G : NetGraph) → IsArch A → G ≡ netlist_of A → IsNetGraph G
built_is A G arch is = subst IsNetGraph (sym is) (is_graph A arch)
