-- What is checked of a text's nets and cells makes them a graph, and nothing less does.
use Rattle.std.proofs.Common.{◌≡◌, ℕ, ⊎_elim, true, false, ◌||◌, List, [], ◌∷◌, ◌++◌, map, Option, None, refl, ap, sym, ◌∙◌, subst}
use Rattle.std.specs.Prelude.{All, codes, bytes_eq}
use Rattle.std.specs.List.{flat_map, AllByRecursion}
use Rattle.std.specs.Option.{option_or}
use Rattle.std.proofs.lemmas.Bool.{false_from_ne_true, or_cases}
use Rattle.std.proofs.lemmas.List.Elements.{All-nil, All-cons, All-append, All-head, All-tail, All-weaker}
use Rattle.std.proofs.lemmas.Slice.Eq.{bytes_eq-Decides}
use Rattle.cg_verilog.specs.Words.{is_name}
use Rattle.cg_verilog.specs.Module as text
use Rattle.cg_netlist.specs.declared.parts.Net.{Net}
use Rattle.cg_netlist.specs.declared.parts.Pin.{Pin}
use Rattle.cg_netlist.specs.declared.parts.Cell.{Cell}
use Rattle.cg_netlist.specs.Netlist.{NetGraph}
use Rattle.cg_netlist.specs.Graph.{names, IsNet, IsConnected, IsCell, IsNetGraph}
use Rattle.cg_netlist.specs.Text.{wire_of, pin_of, cell_with, cell_of, module_of}
use Rattle.cg_netlist_reader.specs.Ported.{net_taken, pin_taken, cell_taken, graph_taken}
use Rattle.cg_netlist_reader.specs.Reading.{IsFormed, given, has, repeated, unknown, pin_net, pin_nets, unknown_net}
use Rattle.cg_netlist_reader.proofs.Known.{IsFresh, IsKnown, none_repeated, never_repeated, none_unknown, never_unknown, connected, known_pin}
use Rattle.cg_model.proofs.Options.{or_none}

-- ---- parts of an answer

none_both : {X : Type 0} (a b : Option X) → a ≡ None → b ≡ None → option_or a b ≡ None
none_both a b p q = ap (λ o. option_or o b) p ∙ q

-- ---- pins of all cells

all_of_flat : (P : List ℕ → Type 0) (cells : List Cell) → All P (flat_map pin_nets cells) → All (λ c. All P (pin_nets c)) cells
all_of_flat P [] all = All-nil (λ c. All P (pin_nets c))
all_of_flat P (c ∷ cells) all =
    let both = parts (pin_nets c) (flat_map pin_nets cells) all in
    All-cons (λ d. All P (pin_nets d)) c cells both.0 (all_of_flat P cells both.1)
  where
    parts : (xs ys : List (List ℕ)) → All P (xs ++ ys) → All P xs × All P ys
    parts [] ys h = (All-nil P, h)
    parts (x ∷ xs) ys h =
        let rest = parts xs ys (All-tail P x (xs ++ ys) h) in
        (All-cons P x xs (All-head P x (xs ++ ys) h) rest.0, rest.1)

flat_of_all : (P : List ℕ → Type 0) (cells : List Cell) → All (λ c. All P (pin_nets c)) cells → All P (flat_map pin_nets cells)
flat_of_all P [] all = All-nil P
flat_of_all P (c ∷ cells) all =
    All-append P (pin_nets c) (flat_map pin_nets cells) (All-head (λ d. All P (pin_nets d)) c cells all) (flat_of_all P cells (All-tail (λ d. All P (pin_nets d)) c cells all))

pins_connected : (nets : List (List ℕ)) (pins : List Pin) → All (IsKnown (given ++ nets)) (flat_map pin_net pins) → All (IsConnected nets) pins
pins_connected nets [] all = All-nil (IsConnected nets)
pins_connected nets (p ∷ pins) all =
    All-cons (IsConnected nets) p pins (connected nets p (All-head (IsKnown (given ++ nets)) p.net (flat_map pin_net pins) all))
    (pins_connected nets pins (All-tail (IsKnown (given ++ nets)) p.net (flat_map pin_net pins) all))

pins_known : (nets : List (List ℕ)) (pins : List Pin) → All (IsConnected nets) pins → All (IsKnown (given ++ nets)) (flat_map pin_net pins)
pins_known nets [] all = All-nil (IsKnown (given ++ nets))
pins_known nets (p ∷ pins) all =
    All-cons (IsKnown (given ++ nets)) p.net (flat_map pin_net pins) (known_pin nets p (All-head (IsConnected nets) p pins all))
    (pins_known nets pins (All-tail (IsConnected nets) p pins all))

-- ---- what is checked makes a graph

nets_are : (nets : List Net) → AllByRecursion text.IsWire (map wire_of nets) → All (IsFresh given) (names nets) → All IsNet nets
nets_are [] wires fresh = All-nil IsNet
nets_are (n ∷ nets) wires fresh =
    let new : has given n.name ≡ false = All-head (IsFresh given) n.name (names nets) fresh in
    let first = wires.0 in
    All-cons IsNet n nets
    (record {
      name = first.name;
      no_clock = λ e. let bad : true ≡ false = sym (ap (has given) e) ∙ new in cc;
      no_reset = λ e. let bad : true ≡ false = sym (ap (has given) e) ∙ new in cc;
      some = first.some;
      wide = first.most;
    })
    (nets_are nets wires.1 (All-tail (IsFresh given) n.name (names nets) fresh))

named : (c : Cell) (pins : List Pin) → text.IsCell (cell_with c pins) → is_name c.name ≡ true
named c [] h = h.name
named c (p ∷ pins) h = h.name

cells_are : (nets : List (List ℕ)) (cells : List Cell) → AllByRecursion text.IsCell (map cell_of cells) → All IsFormed cells → All (λ c. All (IsKnown (given ++ nets)) (pin_nets c)) cells → All (IsCell nets) cells
cells_are nets [] texts formed known = All-nil (IsCell nets)
cells_are nets (c ∷ cells) texts formed known =
    let own = All-head IsFormed c cells formed in
    All-cons (IsCell nets) c cells
    (record {
      name = named c c.pins texts.0;
      form = own.0;
      valid = own.1.valid;
      called = own.1.called;
      ports = own.1.ports;
      connected = pins_connected nets c.pins (All-head (λ d. All (IsKnown (given ++ nets)) (pin_nets d)) c cells known);
    })
    (cells_are nets cells texts.1 (All-tail IsFormed c cells formed) (All-tail (λ d. All (IsKnown (given ++ nets)) (pin_nets d)) c cells known))

pub graph_of : (G : NetGraph) → text.IsModule (module_of G) → All IsFormed G.cells → unknown_net G ≡ None → IsNetGraph G
graph_of G valid formed none =
    let both = or_none (repeated given (names G.nets)) (unknown (given ++ names G.nets) (flat_map pin_nets G.cells)) none in
    let once = none_repeated given (names G.nets) both.0 in
    let known = none_unknown (given ++ names G.nets) (flat_map pin_nets G.cells) both.1 in
    record {
      nets = nets_are G.nets valid.wires once.0;
      once = once.1;
      cells = cells_are (names G.nets) G.cells valid.cells formed (all_of_flat (IsKnown (given ++ names G.nets)) G.cells known);
    }

-- the same for what a function has at hand
pub graph_is : (nets n : List Net) (cells m : List Cell) → text.IsModule (module_of (record { nets = nets; cells = cells })) → n ≡ nets → m ≡ cells → All IsFormed cells
    → unknown_net (record { nets = n; cells = m }) ≡ None → IsNetGraph (record { nets = nets; cells = cells })
graph_is nets n cells m valid b d formed none =
    let Q : List Net → Type 0 = λ x. unknown_net (record { nets = x; cells = m }) ≡ None in
    let R : List Cell → Type 0 = λ x. unknown_net (record { nets = nets; cells = x }) ≡ None in
    graph_of (record { nets = nets; cells = cells }) valid formed (subst R d (subst Q b none))

-- ---- a graph passes what is checked

pub graph_formed : (G : NetGraph) → IsNetGraph G → All IsFormed G.cells
graph_formed G h = All-weaker (IsCell (names G.nets)) IsFormed (λ c k. (k.form, record { valid = k.valid; called = k.called; ports = k.ports })) G.cells h.cells

fresh_net : (n : Net) → IsNet n → IsFresh given n.name
fresh_net n h =
    false_from_ne_true (has given n.name)
    (λ e. ⊎_elim (λ clock. h.no_clock (sym ((bytes_eq-Decides (codes "clk") n.name).0 clock)))
    (λ rest. ⊎_elim (λ reset. h.no_reset (sym ((bytes_eq-Decides (codes "rst") n.name).0 reset))) (λ bad. let no : false ≡ true = bad in absurd (cc)) (or_cases (bytes_eq (codes "rst") n.name) false rest))
    (or_cases (bytes_eq (codes "clk") n.name) (bytes_eq (codes "rst") n.name || false) e))

fresh_nets : (nets : List Net) → All IsNet nets → All (IsFresh given) (names nets)
fresh_nets [] all = All-nil (IsFresh given)
fresh_nets (n ∷ nets) all = All-cons (IsFresh given) n.name (names nets) (fresh_net n (All-head IsNet n nets all)) (fresh_nets nets (All-tail IsNet n nets all))

pub graph_known : (G : NetGraph) → IsNetGraph G → unknown_net G ≡ None
graph_known G h =
    none_both (repeated given (names G.nets)) (unknown (given ++ names G.nets) (flat_map pin_nets G.cells))
    (never_repeated given (names G.nets) (fresh_nets G.nets h.nets) h.once)
    (never_unknown (given ++ names G.nets) (flat_map pin_nets G.cells)
    (flat_of_all (IsKnown (given ++ names G.nets)) G.cells (All-weaker (IsCell (names G.nets)) (λ c. All (IsKnown (given ++ names G.nets)) (pin_nets c)) (λ c k. pins_known (names G.nets) c.pins k.connected) G.cells h.cells)))

-- ---- a graph is told by its module

same_wires : (ns ms : List Net) → map wire_of ns ≡ map wire_of ms → ns ≡ ms
same_wires [] [] e = refl
same_wires [] (m ∷ ms) e = let bad : [] ≡ wire_of m ∷ map wire_of ms = e in cc
same_wires (n ∷ ns) [] e = let bad : wire_of n ∷ map wire_of ns ≡ [] = e in cc
same_wires (n ∷ ns) (m ∷ ms) e =
    let both : (wire_of n ≡ wire_of m) × (map wire_of ns ≡ map wire_of ms) = (cc, cc) in
    let rest = same_wires ns ms both.1 in
    let first : n ≡ m = ap (λ (w : text.WireText). record { name = w.name; width = w.width }) both.0 in
    cc

same_pins : (ps qs : List Pin) → map pin_of ps ≡ map pin_of qs → ps ≡ qs
same_pins [] [] e = refl
same_pins [] (q ∷ qs) e = let bad : [] ≡ pin_of q ∷ map pin_of qs = e in cc
same_pins (p ∷ ps) [] e = let bad : pin_of p ∷ map pin_of ps ≡ [] = e in cc
same_pins (p ∷ ps) (q ∷ qs) e =
    let both : (pin_of p ≡ pin_of q) × (map pin_of ps ≡ map pin_of qs) = (cc, cc) in
    let rest = same_pins ps qs both.1 in
    let first : p ≡ q = ap (λ (t : text.PinText). record { port = t.port; net = t.net }) both.0 in
    cc

same_cell : (c d : Cell) (ps qs : List Pin) → text.IsCell (cell_with c ps) → text.IsCell (cell_with d qs) → cell_with c ps ≡ cell_with d qs
    → (c.«module» ≡ d.«module») × (c.name ≡ d.name) × (ps ≡ qs)
same_cell c d [] qs h k e = let bad : false ≡ true = h.first.port in absurd (cc)
same_cell c d (p ∷ ps) [] h k e = let bad : false ≡ true = k.first.port in absurd (cc)
same_cell c d (p ∷ ps) (q ∷ qs) h k e =
    let first : pin_of p ≡ pin_of q = ap (λ (t : text.CellText). t.first) e in
    let rest : map pin_of ps ≡ map pin_of qs = ap (λ (t : text.CellText). t.rest) e in
    let all : map pin_of (p ∷ ps) ≡ map pin_of (q ∷ qs) = ap (λ t. t ∷ map pin_of ps) first ∙ ap (λ ts. pin_of q ∷ ts) rest in
    (ap (λ (t : text.CellText). t.form) e, ap (λ (t : text.CellText). t.name) e, same_pins (p ∷ ps) (q ∷ qs) all)

cell_is : (c d : Cell) → c.«module» ≡ d.«module» → c.name ≡ d.name → c.pins ≡ d.pins → c ≡ d
cell_is c d form name pins =
    ap (λ (x : List ℕ). record c { «module» = x }) form
    ∙ ap (λ (x : List ℕ). record { «module» = d.«module»; name = x; pins = c.pins }) name
    ∙ ap (λ (x : List Pin). record { «module» = d.«module»; name = d.name; pins = x }) pins

same_cells : (cs ds : List Cell) → AllByRecursion text.IsCell (map cell_of cs) → AllByRecursion text.IsCell (map cell_of ds) → map cell_of cs ≡ map cell_of ds → cs ≡ ds
same_cells [] [] h k e = refl
same_cells [] (d ∷ ds) h k e = let bad : [] ≡ cell_of d ∷ map cell_of ds = e in cc
same_cells (c ∷ cs) [] h k e = let bad : cell_of c ∷ map cell_of cs ≡ [] = e in cc
same_cells (c ∷ cs) (d ∷ ds) h k e =
    let both : (cell_of c ≡ cell_of d) × (map cell_of cs ≡ map cell_of ds) = (cc, cc) in
    let first = same_cell c d c.pins d.pins h.0 k.0 both.0 in
    let own : c ≡ d = cell_is c d first.0 first.1 first.2 in
    let rest : cs ≡ ds = same_cells cs ds h.1 k.1 both.1 in
    ap (λ x. x ∷ cs) own ∙ ap (λ xs. d ∷ xs) rest

pub same_graph : (G H : NetGraph) → text.IsModule (module_of G) → text.IsModule (module_of H) → module_of G ≡ module_of H → G ≡ H
same_graph G H g h e =
    let nets : G.nets ≡ H.nets = same_wires G.nets H.nets (ap (λ (m : text.ModuleText). m.wires) e) in
    let cells : G.cells ≡ H.cells = same_cells G.cells H.cells g.cells h.cells (ap (λ (m : text.ModuleText). m.cells) e) in
    ap (λ (x : List Net). record { nets = x; cells = G.cells }) nets ∙ ap (λ (x : List Cell). record { nets = H.nets; cells = x }) cells

-- ---- what is taken of a module's text

wires_back : (ws : List text.WireText) → map wire_of (map net_taken ws) ≡ ws
wires_back [] = refl
wires_back (w ∷ ws) = ap (λ xs. w ∷ xs) (wires_back ws)

pins_back : (ps : List text.PinText) → map pin_of (map pin_taken ps) ≡ ps
pins_back [] = refl
pins_back (p ∷ ps) = ap (λ xs. p ∷ xs) (pins_back ps)

cells_back : (cs : List text.CellText) → map cell_of (map cell_taken cs) ≡ cs
cells_back [] = refl
cells_back (c ∷ cs) =
    ap (λ (ps : List text.PinText). record { form = c.form; name = c.name; first = c.first; rest = ps } ∷ map cell_of (map cell_taken cs)) (pins_back c.rest)
    ∙ ap (λ xs. c ∷ xs) (cells_back cs)

pub module_back : (m : text.ModuleText) → module_of (graph_taken m) ≡ m
module_back m =
    ap (λ (ws : List text.WireText). record { wires = ws; cells = map cell_of (map cell_taken m.cells) }) (wires_back m.wires)
    ∙ ap (λ (cs : List text.CellText). record { wires = m.wires; cells = cs }) (cells_back m.cells)

-- cells that a text stands for are of forms where what is taken of it is
pub formed_taken : (cs : List text.CellText) (own : List Cell) → AllByRecursion text.IsCell cs → map cell_of own ≡ cs → All IsFormed (map cell_taken cs) → All IsFormed own
formed_taken cs own valid is formed =
    let back = cells_back cs in
    let P : List text.CellText → Type 0 = λ xs. AllByRecursion text.IsCell xs in
    let same : own ≡ map cell_taken cs = same_cells own (map cell_taken cs) (subst P (sym is) valid) (subst P (sym back) valid) (is ∙ sym back) in
    subst (λ (xs : List Cell). All IsFormed xs) (sym same) formed
