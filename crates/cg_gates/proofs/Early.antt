-- In a netlist without the faults that come before loops each declared net is driven by one cell, and pins are on nets of their widths.
use Rattle.std.proofs.Common.{◌≡◌, ℕ, zero, suc, ◌+◌, ◌-◌, ◌<◌, ◌≤◌, ◌⊎◌, inl, inr, Bool, true, false, ◌||◌, not, cond, eqb, List, [], ◌∷◌, ◌++◌, length, map, take, drop, get_or, Option, Some, None, refl, ap, sym, ◌∙◌, subst, arith, ⊎_elim}
use Rattle.std.specs.Prelude.{Contains, find, codes, bytes_eq, slice_range, slice_index_or}
use Rattle.std.specs.List.{range_with_len, list_all}
use Rattle.std.specs.Option.{option_map, option_map_or}
use Rattle.std.proofs.lemmas.Bool.{true≢false, eqb-true, eq-eqb, not-false, cases_order, and_parts, cond-false, false_from_ne_true}
use Rattle.std.proofs.lemmas.List.{length-map, length-append, length-take, length-drop, get_or-map, get_or-take, get_or-drop, get_or_append_left, get_or-append_right, get_or_default}
use Rattle.std.proofs.lemmas.List.FromFn.{length-map-range_with_len, get_or-map-range_with_len}
use Rattle.std.proofs.lemmas.List.Elements.{All-contains, Contains-get_or}
use Rattle.std.proofs.lemmas.List.Sums.{position_or_len_is}
use Rattle.std.proofs.lemmas.Map.Keys.{apart_from_distinct}
use Rattle.std.proofs.lemmas.Option.{slice_get-get_or}
use Rattle.cg_model.proofs.Options.{or_none, map_none}
use Rattle.cg_model.proofs.Positions.{first_from_none}
use Rattle.cg_model.proofs.Elements.{all_true}
use Rattle.cg_flat.specs.Slots.{width}
use Rattle.cg_netlist.specs.declared.forms.Form.{Form}
use Rattle.cg_netlist.specs.declared.forms.Form.TheVariants.{Context as ContextForm, Preselect as PreselectForm, Mux as MuxForm, Register as RegisterForm, Zero as ZeroForm, FunctionalUnit as UnitForm}
use Rattle.cg_netlist.specs.declared.parts.Net.{Net}
use Rattle.cg_netlist.specs.declared.parts.Pin.{Pin}
use Rattle.cg_netlist.specs.declared.parts.Cell.{Cell}
use Rattle.cg_netlist.specs.Forms.{form_ports, form_of, driver_port, argument_port, IsForm}
use Rattle.cg_netlist.specs.Netlist.{NetGraph}
use Rattle.cg_netlist.specs.Graph.{names, IsCell, IsNetGraph}
use Rattle.cg_netlist.proofs.Called.{form_named}
use Rattle.cg_netlist.proofs.Whole.{few_bits}
use Rattle.cg_gates.specs.Shape.{Shape, shapes, shape_of, shape_by, clock_count, form_said, said_or_zero, nets_of_pins, is_context, is_preselect}
use Rattle.cg_gates.specs.Gates.{driving}
use Rattle.cg_gates.specs.declared.fault.GateFault.TheVariants as fault
use Rattle.cg_gates.specs.Accepts.{is_miscounted, miscounted, driver_count, ways, output_width, port_width, is_clock, has_width, is_joined_pin, is_joined, misjoined, fault_before_loops, net_name}
use Rattle.cg_gates.specs.Order.{net_number}
use Rattle.cg_gates.specs.Tables.{IsNumber}
use Rattle.cg_gates.proofs.Finds.{same_text, text_same, Contains-map, Contains-map_from, find_from, find_none, find_only, count_one}

-- ---- cells by number

abbrev pub cell_at : NetGraph → ℕ → Cell
cell_at N k = slice_index_or N.cells k (record { «module» = []; name = []; pins = [] })

abbrev pub shape_at : NetGraph → ℕ → Shape
shape_at N k = shape_of (cell_at N k)

-- cell k alone drives the net of that name
pub record IsDriver (N : NetGraph) (name : List ℕ) (k : ℕ) : Type 0 where
  pub within : k < length N.cells
  pub drives : (shape_at N k).q ≡ name
  pub only : (j : ℕ) → j < length N.cells → (shape_at N j).q ≡ name → j ≡ k

-- ---- the pins of a form

-- how many pins a form has besides clk, rst and q
abbrev pub in_count : Form → ℕ
in_count (ContextForm w) = 0
in_count (PreselectForm w) = 0
in_count (MuxForm k) = suc k
in_count (RegisterForm k) = suc k
in_count ZeroForm = 0
in_count (UnitForm p l h) = p

-- the width of the first of d's and of the select
abbrev pub choice_width : ℕ → ℕ → ℕ
choice_width k zero = width k
choice_width k (suc j) = 32

-- the width of pin j of these
abbrev pub in_width : Form → ℕ → ℕ
in_width (ContextForm w) j = 32
in_width (PreselectForm w) j = 32
in_width (MuxForm k) j = choice_width k j
in_width (RegisterForm k) j = choice_width k j
in_width ZeroForm j = 32
in_width (UnitForm p l h) j = 32

-- its nets of clk and rst
abbrev pub clocks_of : Form → List (List ℕ)
clocks_of (ContextForm w) = codes "clk" ∷ codes "rst" ∷ []
clocks_of (PreselectForm w) = codes "clk" ∷ codes "rst" ∷ []
clocks_of (MuxForm k) = []
clocks_of (RegisterForm k) = codes "clk" ∷ codes "rst" ∷ []
clocks_of ZeroForm = []
clocks_of (UnitForm p l h) = codes "clk" ∷ codes "rst" ∷ []

-- a port that is no clock, of that width
pub record IsPort (f : Form) (w : ℕ) (port : List ℕ) : Type 0 where
  pub quiet : is_clock port ≡ false
  pub wide : port_width f port ≡ w

port_along : (f : Form) (w : ℕ) (a b : List ℕ) → a ≡ b → IsPort f w b → IsPort f w a
port_along f w a b e h = subst (IsPort f w) (sym e) h

choice_count : (k : ℕ) → length (map driver_port (range_with_len 1 k) ++ codes "q" ∷ []) ≡ k + 1
choice_count k = length-append (map driver_port (range_with_len 1 k)) (codes "q" ∷ []) ∙ ap (λ n. n + 1) (length-map-range_with_len driver_port 1 k)

argument_count : (p : ℕ) → length (map argument_port (range_with_len 0 p) ++ codes "q" ∷ []) ≡ p + 1
argument_count p = length-append (map argument_port (range_with_len 0 p)) (codes "q" ∷ []) ∙ ap (λ n. n + 1) (length-map-range_with_len argument_port 0 p)

port_count : (f : Form) → length (form_ports f) ≡ clock_count f + in_count f + 1
port_count (ContextForm w) = refl
port_count (PreselectForm w) = refl
port_count (MuxForm k) = omega (arith, choice_count k)
port_count (RegisterForm k) = omega (arith, choice_count k)
port_count ZeroForm = refl
port_count (UnitForm p l h) = omega (arith, argument_count p)

driver_is : (k i : ℕ) → i < k → get_or (map driver_port (range_with_len 1 k) ++ codes "q" ∷ []) i [] ≡ driver_port (1 + i)
driver_is k i l =
    get_or_append_left (map driver_port (range_with_len 1 k)) (codes "q" ∷ []) [] i (omega (arith, length-map-range_with_len driver_port 1 k))
    ∙ get_or-map-range_with_len driver_port 1 k i (1 + i) [] l refl

choice_last : (k : ℕ) → get_or (map driver_port (range_with_len 1 k) ++ codes "q" ∷ []) k [] ≡ codes "q"
choice_last k =
    let z : k - k ≡ 0 = omega arith in
    get_or-append_right (map driver_port (range_with_len 1 k)) (codes "q" ∷ []) k k [] (length-map-range_with_len driver_port 1 k) (omega arith)
    ∙ ap (λ i. get_or (codes "q" ∷ []) i []) z

argument_is : (p i : ℕ) → i < p → get_or (map argument_port (range_with_len 0 p) ++ codes "q" ∷ []) i [] ≡ argument_port i
argument_is p i l =
    get_or_append_left (map argument_port (range_with_len 0 p)) (codes "q" ∷ []) [] i (omega (arith, length-map-range_with_len argument_port 0 p))
    ∙ get_or-map-range_with_len argument_port 0 p i i [] l (omega arith)

argument_last : (p : ℕ) → get_or (map argument_port (range_with_len 0 p) ++ codes "q" ∷ []) p [] ≡ codes "q"
argument_last p =
    let z : p - p ≡ 0 = omega arith in
    get_or-append_right (map argument_port (range_with_len 0 p)) (codes "q" ∷ []) p p [] (length-map-range_with_len argument_port 0 p) (omega arith)
    ∙ ap (λ i. get_or (codes "q" ∷ []) i []) z

-- a choice's select and drivers
choice_port : (f : Form) (k j : ℕ) → ways f ≡ k → j < suc k → IsPort f (choice_width k j) (get_or (codes "s" ∷ (map driver_port (range_with_len 1 k) ++ codes "q" ∷ [])) j [])
choice_port f k zero e l = record { quiet = refl; wide = ap width e }
choice_port f k (suc j) e l = port_along f 32 _ (driver_port (1 + j)) (driver_is k j (omega arith)) (record { quiet = refl; wide = refl })

pub argument_one : (p l h i : ℕ) → i < 3 → IsPort (UnitForm p l h) 32 (argument_port i)
argument_one p l h zero low = record { quiet = refl; wide = refl }
argument_one p l h (suc zero) low = record { quiet = refl; wide = refl }
argument_one p l h (suc (suc zero)) low = record { quiet = refl; wide = refl }
argument_one p l h (suc (suc (suc i))) low = absurd (omega arith)

-- pin j
in_port : (f : Form) (j : ℕ) → IsForm f → j < in_count f → IsPort f (in_width f j) (get_or (form_ports f) (clock_count f + j) [])
in_port (ContextForm w) j is l = absurd (omega arith)
in_port (PreselectForm w) j is l = absurd (omega arith)
in_port (MuxForm k) j is l = let z : 0 + j ≡ j = omega arith in rw z (choice_port (MuxForm k) k j refl l)
in_port (RegisterForm k) j is l = let z : 2 + j ≡ suc (suc j) = omega arith in rw z (choice_port (RegisterForm k) k j refl l)
in_port ZeroForm j is l = absurd (omega arith)
in_port (UnitForm p l h) j is lt =
    let z : 2 + j ≡ suc (suc j) = omega arith in
    let few : p ≤ 3 = is.0 in
    rw z (port_along (UnitForm p l h) 32 _ (argument_port j) (argument_is p j lt) (argument_one p l h j (omega arith)))

-- pin q
out_port : (f : Form) → get_or (form_ports f) (clock_count f + in_count f) [] ≡ codes "q"
out_port (ContextForm w) = refl
out_port (PreselectForm w) = refl
out_port (MuxForm k) = let z : 0 + suc k ≡ suc k = omega arith in rw z (choice_last k)
out_port (RegisterForm k) = let z : 2 + suc k ≡ suc (suc (suc k)) = omega arith in rw z (choice_last k)
out_port ZeroForm = refl
out_port (UnitForm p l h) = let z : 2 + p ≡ suc (suc p) = omega arith in rw z (argument_last p)

q_port : (f : Form) → IsPort f (output_width f) (codes "q")
q_port f = record { quiet = refl; wide = refl }

-- ---- nets by name

-- a net of that name is declared, with that width
abbrev pub IsWide : NetGraph → List ℕ → ℕ → Type 0
IsWide N name w = has_width N.nets name w ≡ true

abbrev wide_by : ℕ → Option Net → Bool
wide_by w o = option_map_or (λ (n : Net). eqb n.width w) o false

pub wide_net : (N : NetGraph) (name : List ℕ) (w : ℕ) → IsWide N name w → (n : Net) × Contains N.nets n × (n.name ≡ name) × (n.width ≡ w)
wide_net N name w is = by (find (λ (n : Net). bytes_eq n.name name) N.nets) refl
  where
    by : (o : Option Net) → find (λ (n : Net). bytes_eq n.name name) N.nets ≡ o → (n : Net) × Contains N.nets n × (n.name ≡ name) × (n.width ≡ w)
    by None e = absurd (true≢false (sym is ∙ ap (wide_by w) e))
    by (Some n) e =
        let (a, b) = find_from (λ (n : Net). bytes_eq n.name name) N.nets n e in
        (n, a, same_text n.name name b, eqb-true n.width w (sym (ap (wide_by w) e) ∙ is))

pub wide_known : (N : NetGraph) (name : List ℕ) (w : ℕ) → IsWide N name w → Contains (names N.nets) name
wide_known N name w is = let (n, a, b, c) = wide_net N name w is in subst (Contains (names N.nets)) b (Contains-map (λ (n : Net). n.name) N.nets n a)

-- a net has one width
pub one_width : (N : NetGraph) (name : List ℕ) (w v : ℕ) → IsWide N name w → IsWide N name v → w ≡ v
one_width N name w v is too = by (find (λ (n : Net). bytes_eq n.name name) N.nets) refl
  where
    by : (o : Option Net) → find (λ (n : Net). bytes_eq n.name name) N.nets ≡ o → w ≡ v
    by None e = absurd (true≢false (sym is ∙ ap (wide_by w) e))
    by (Some n) e = sym (eqb-true n.width w (sym (ap (wide_by w) e) ∙ is)) ∙ eqb-true n.width v (sym (ap (wide_by v) e) ∙ too)

-- ---- cells

-- what holds of each cell as it is meant
pub record IsMeant (N : NetGraph) (c : Shape) : Type 0 where
  pub valid : IsForm c.form
  pub clocks : c.clocks ≡ clocks_of c.form
  pub many : length c.ins ≡ in_count c.form
  pub ins : (j : ℕ) → j < length c.ins → IsWide N (slice_index_or c.ins j []) (in_width c.form j)
  pub out : IsWide N c.q (output_width c.form)

module _ (N : NetGraph) (graph : IsNetGraph N) where
  pub cell_is : (d : Cell) → Contains N.cells d → IsCell (names N.nets) d
  cell_is d m = All-contains (IsCell (names N.nets)) N.cells d graph.cells m

  -- the form of a cell is the one that its module says
  pub form_is : (d : Cell) → (is : IsCell (names N.nets) d) → form_said d ≡ is.form
  form_is d is = ap (λ m. said_or_zero (form_of m)) is.called ∙ ap said_or_zero (form_named is.form is.valid)

  pub shape_form : (d : Cell) → (shape_of d).form ≡ form_said d
  unfolding shape_of
  shape_form d = refl

-- ---- the pins of a cell

abbrev pin_at : List Pin → ℕ → Pin
pin_at pins i = slice_index_or pins i (record { port = []; net = [] })

-- a pin of that port
abbrev joined_at : List Net → Form → List ℕ → List ℕ → Bool
joined_at nets f net port = cond (is_clock port) (bytes_eq net port) (has_width nets net (port_width f port))

two_clocks : (nets : List Net) (f : Form) (pins : List Pin) (rest : List (List ℕ)) → map (λ (p : Pin). p.port) pins ≡ codes "clk" ∷ codes "rst" ∷ rest → list_all (is_joined_pin nets f) pins ≡ true
    → take 2 (map (λ (p : Pin). p.net) pins) ≡ codes "clk" ∷ codes "rst" ∷ []
two_clocks nets f [] rest e all = absurd (cc)
two_clocks nets f (p ∷ []) rest e all = absurd (cc)
two_clocks nets f (p ∷ q ∷ ps) rest e all =
    let one : p.port ≡ codes "clk" = cc in
    let two : q.port ≡ codes "rst" = cc in
    let a = and_parts (is_joined_pin nets f p) (list_all (is_joined_pin nets f) (q ∷ ps)) all in
    let b = and_parts (is_joined_pin nets f q) (list_all (is_joined_pin nets f) ps) a.1 in
    let x : p.net ≡ codes "clk" = same_text p.net (codes "clk") (sym (ap (joined_at nets f p.net) one) ∙ a.0) in
    let y : q.net ≡ codes "rst" = same_text q.net (codes "rst") (sym (ap (joined_at nets f q.net) two) ∙ b.0) in
    ap (λ z. z ∷ q.net ∷ []) x ∙ ap (λ z. codes "clk" ∷ z ∷ []) y

clocks_are : (nets : List Net) (f : Form) (pins : List Pin) → map (λ (p : Pin). p.port) pins ≡ form_ports f → list_all (is_joined_pin nets f) pins ≡ true
    → take (clock_count f) (map (λ (p : Pin). p.net) pins) ≡ clocks_of f
clocks_are nets (ContextForm w) pins e all = two_clocks nets (ContextForm w) pins _ e all
clocks_are nets (PreselectForm w) pins e all = two_clocks nets (PreselectForm w) pins _ e all
clocks_are nets (MuxForm k) pins e all = refl
clocks_are nets (RegisterForm k) pins e all = two_clocks nets (RegisterForm k) pins _ e all
clocks_are nets ZeroForm pins e all = refl
clocks_are nets (UnitForm p l h) pins e all = two_clocks nets (UnitForm p l h) pins _ e all

module _ (N : NetGraph) (f : Form) (name : List ℕ) (pins : List Pin) (valid : IsForm f) (ports : map (λ (p : Pin). p.port) pins ≡ form_ports f) (all : list_all (is_joined_pin N.nets f) pins ≡ true) where
  abbrev here : List (List ℕ)
  here = map (λ (p : Pin). p.net) pins

  long : length pins ≡ clock_count f + in_count f + 1
  long = sym (length-map pins (λ (p : Pin). p.port)) ∙ ap length ports ∙ port_count f

  longer : length here ≡ clock_count f + in_count f + 1
  longer = length-map pins (λ (p : Pin). p.net) ∙ long

  -- the pin in that place is on a net of its port's width
  wide_at : (i w : ℕ) → i < length pins → IsPort f w (get_or (form_ports f) i []) → IsWide N (get_or here i []) w
  wide_at i w l is =
      let p : Pin = pin_at pins i in
      let port : p.port ≡ get_or (form_ports f) i [] = sym (get_or-map (λ (p : Pin). p.port) pins i (record { port = []; net = [] }) [] l) ∙ ap (λ ps. get_or ps i []) ports in
      let net : get_or here i [] ≡ p.net = get_or-map (λ (p : Pin). p.net) pins i (record { port = []; net = [] }) [] l in
      let fits : IsPort f w p.port = port_along f w p.port (get_or (form_ports f) i []) port is in
      let passes : is_joined_pin N.nets f p ≡ true = all_true (is_joined_pin N.nets f) pins i p (slice_get-get_or pins i (record { port = []; net = [] }) l) all in
      ap (λ n. has_width N.nets n w) net
      ∙ ap (has_width N.nets p.net) (sym fits.wide)
      ∙ sym (cond-false (is_clock p.port) (bytes_eq p.net p.port) (has_width N.nets p.net (port_width f p.port)) fits.quiet)
      ∙ passes

  last : length here - 1 ≡ clock_count f + in_count f
  last = omega (arith, longer)

  ins_at : (j : ℕ) → j < in_count f → get_or (slice_range here (clock_count f) (length here - 1)) j [] ≡ get_or here (clock_count f + j) []
  ins_at j l =
      get_or-take (length here - 1 - clock_count f) (drop (clock_count f) here) j [] (omega (arith, last))
      ∙ get_or-drop (clock_count f) here j []

  ins_long : length (slice_range here (clock_count f) (length here - 1)) ≡ in_count f
  ins_long = omega (arith, longer, length-take (length here - 1 - clock_count f) (drop (clock_count f) here), length-drop (clock_count f) here)

  shape_meant : IsMeant N (shape_by f name here)
  shape_meant = record {
    valid = valid;
    clocks = clocks_are N.nets f pins ports all;
    many = ins_long;
    ins = λ j l.
        let low : j < in_count f = omega (arith, l, ins_long) in
        subst (λ n. IsWide N n (in_width f j)) (sym (ins_at j low)) (wide_at (clock_count f + j) (in_width f j) (omega (arith, long)) (in_port f j valid low));
    out =
        subst (λ i. IsWide N (get_or here i []) (output_width f)) (sym last)
        (wide_at (clock_count f + in_count f) (output_width f) (omega (arith, long)) (port_along f (output_width f) _ (codes "q") (out_port f) (q_port f)));
  }

-- what gives selects has few bits
given_by : (f : Form) (w : ℕ) → output_width f ≡ w → w ≤ 17 → (is_context f || is_preselect f) ≡ true
given_by (ContextForm v) w e few = refl
given_by (PreselectForm v) w e few = refl
given_by (MuxForm k) w e few = absurd (omega arith)
given_by (RegisterForm k) w e few = absurd (omega arith)
given_by ZeroForm w e few = absurd (omega arith)
given_by (UnitForm p l h) w e few = absurd (omega arith)

select_by : (N : NetGraph) (c : Shape) (k : ℕ) (f : Form) → IsMeant N c → c.form ≡ f → in_count f ≡ suc k → in_width f 0 ≡ width k → (IsForm f → k ≤ 65536) → IsWide N (slice_index_or c.ins 0 []) (width k) × (width k ≤ 17)
select_by N c k f is e many wide few =
    let long : length c.ins ≡ suc k = is.many ∙ ap in_count e ∙ many in (
      subst (IsWide N (slice_index_or c.ins 0 [])) (ap (λ f. in_width f 0) e ∙ wide) (is.ins 0 (omega arith)),
      few_bits k (few (subst IsForm e is.valid)),
    )

-- the select of a mux or a register has its width, and few bits
pub select_wide : (N : NetGraph) (c : Shape) (k : ℕ) → IsMeant N c → (c.form ≡ MuxForm k) ⊎ (c.form ≡ RegisterForm k) → IsWide N (slice_index_or c.ins 0 []) (width k) × (width k ≤ 17)
select_wide N c k is (inl e) = select_by N c k (MuxForm k) is e refl refl (λ v. v.1)
select_wide N c k is (inr e) = select_by N c k (RegisterForm k) is e refl refl (λ v. v.1)

module _ (N : NetGraph) (early : fault_before_loops N ≡ None) where
  -- neither fault
  parts : (miscounted N ≡ None) × (misjoined N ≡ None)
  unfolding fault_before_loops
  parts =
      let both = or_none (option_map fault.DriverCount (miscounted N)) (option_map fault.PinNet (misjoined N)) early in
      (map_none fault.DriverCount (miscounted N) both.0, map_none fault.PinNet (misjoined N) both.1)

  -- exactly one cell drives a declared net
  counted : (n : Net) → Contains N.nets n → driver_count N n.name ≡ 1
  unfolding miscounted
  counted n m =
      let none = map_none (λ (n : Net). n.name) (find (is_miscounted N) N.nets) parts.0 in
      eqb-true (driver_count N n.name) 1 (not-false (eqb (driver_count N n.name) 1) (find_none (is_miscounted N) N.nets n none m))

  shape_there : (k : ℕ) → k < length N.cells → get_or (shapes N) k (shape_at N 0) ≡ shape_at N k
  shape_there k l = get_or-map shape_of N.cells k (record { «module» = []; name = []; pins = [] }) (shape_at N 0) l

  pub driven : (name : List ℕ) → Contains (names N.nets) name → (k : ℕ) × IsDriver N name k
  driven name m =
      let (n, a, e) = Contains-map_from (λ (n : Net). n.name) N.nets name m in
      let one : driver_count N name ≡ 1 = ap (driver_count N) e ∙ counted n a in
      let (k, o) = count_one (λ (c : Shape). bytes_eq c.q name) (shapes N) (shape_at N 0) one in
      let long : length (shapes N) ≡ length N.cells = length-map N.cells shape_of in
      let within : k < length (shapes N) = o.within in
      let low : k < length N.cells = omega arith in (
        k,
        record {
          within = low;
          drives = ap (λ (c : Shape). c.q) (sym (shape_there k low)) ∙ same_text (get_or (shapes N) k (shape_at N 0)).q name o.passes;
          only = λ j l f. o.only j (omega arith) (text_same (get_or (shapes N) j (shape_at N 0)).q name (ap (λ (c : Shape). c.q) (shape_there j l) ∙ f));
        },
      )

  -- each pin of a cell is joined
  joined : (d : Cell) → Contains N.cells d → is_joined N.nets d ≡ true
  unfolding misjoined
  joined d (k, l, e) =
      not-false (is_joined N.nets d)
      (first_from_none (λ i c. not (is_joined N.nets c)) 0 N.cells k k d parts.1 (slice_get-get_or N.cells k d l ∙ ap Some e) (omega arith))

  pub meant : IsNetGraph N → (c : Shape) → Contains (shapes N) c → IsMeant N c
  unfolding shape_of
  meant graph c m =
      let (d, a, e) = Contains-map_from shape_of N.cells c m in
      let is = cell_is N graph d a in
      let said = form_is N graph d is in
      let all : list_all (is_joined_pin N.nets is.form) d.pins ≡ true = ap (λ f. list_all (is_joined_pin N.nets f) d.pins) (sym said) ∙ joined d a in
      let same : c ≡ shape_by is.form d.name (nets_of_pins d) = e ∙ ap (λ f. shape_by f d.name (nets_of_pins d)) said in
      subst (IsMeant N) (sym same) (shape_meant N is.form d.name d.pins is.valid is.ports all)

  module _ (graph : IsNetGraph N) where
    -- the net that a cell drives is declared
    pub q_known : (c : Shape) → Contains (shapes N) c → Contains (names N.nets) c.q
    q_known c m = wide_known N c.q (output_width c.form) (meant graph c m).out

    -- as are those that it hears
    pub in_known : (c : Shape) (net : List ℕ) → Contains (shapes N) c → Contains c.ins net → Contains (names N.nets) net
    in_known c net m (j, l, e) =
        subst (Contains (names N.nets)) (get_or_default c.ins j [] net l ∙ e) (wide_known N (slice_index_or c.ins j []) (in_width c.form j) ((meant graph c m).ins j l))

    -- no two cells drive one net
    pub one_driver : (b c : Shape) → Contains (shapes N) b → Contains (shapes N) c → b.q ≡ c.q → b ≡ c
    one_driver b c m n e =
        let (i, li, ei) = m in
        let (j, lj, ej) = n in
        let (k, o) = driven c.q (q_known c n) in
        let long : length (shapes N) ≡ length N.cells = length-map N.cells shape_of in
        let low : i < length N.cells = omega (arith, li, long) in
        let high : j < length N.cells = omega (arith, lj, long) in
        let at : shape_at N i ≡ b = sym (shape_there i low) ∙ get_or_default (shapes N) i (shape_at N 0) b li ∙ ei in
        let and : shape_at N j ≡ c = sym (shape_there j high) ∙ get_or_default (shapes N) j (shape_at N 0) c lj ∙ ej in
        let one : i ≡ k = o.only i low (ap (λ (c : Shape). c.q) at ∙ e) in
        let two : j ≡ k = o.only j high (ap (λ (c : Shape). c.q) and) in
        sym at ∙ ap (shape_at N) (one ∙ sym two) ∙ and

    -- the cell that drives a net is the only one of it
    pub driving_only : (c : Shape) (net : List ℕ) → Contains (shapes N) c → c.q ≡ net → driving net (shapes N) ≡ Some c
    driving_only c net m e =
        find_only (λ (d : Shape). bytes_eq d.q net) (shapes N) c m (text_same c.q net e) (λ d k f. one_driver d c k m (same_text d.q net f ∙ sym e))

    -- and there is one
    pub driving_some : (net : List ℕ) → Contains (names N.nets) net → (c : Shape) × Contains (shapes N) c × (c.q ≡ net) × (driving net (shapes N) ≡ Some c)
    driving_some net m =
        let (k, o) = driven net m in
        let there : Contains (shapes N) (shape_at N k) = Contains-map shape_of N.cells (cell_at N k) (Contains-get_or N.cells k (record { «module» = []; name = []; pins = [] }) o.within) in
        (shape_at N k, there, o.drives, driving_only (shape_at N k) net there o.drives)

    -- the cell that drives the select of a mux or a register gives selects
    pub select_given : (c d : Shape) (k : ℕ) → Contains (shapes N) c → Contains (shapes N) d → (c.form ≡ MuxForm k) ⊎ (c.form ≡ RegisterForm k) → d.q ≡ slice_index_or c.ins 0 [] → (is_context d.form || is_preselect d.form) ≡ true
    select_given c d k m n is e =
        let (w, few) = select_wide N c k (meant graph c m) is in
        given_by d.form (width k) (one_width N d.q (output_width d.form) (width k) (meant graph d n).out (subst (λ s. IsWide N s (width k)) (sym e) w)) few

-- the cell that is found drives the net
pub driving_from : (N : NetGraph) (net : List ℕ) (c : Shape) → driving net (shapes N) ≡ Some c → Contains (shapes N) c × (c.q ≡ net)
driving_from N net c e =
    let (a, b) = find_from (λ (d : Shape). bytes_eq d.q net) (shapes N) c e in (a, same_text c.q net b)

-- ---- nets by number

module _ (N : NetGraph) (graph : IsNetGraph N) where
  -- no two have one name
  pub nets_apart : (i j : ℕ) → i < length N.nets → j < length N.nets → net_name N i ≡ net_name N j → i ≡ j
  nets_apart i j l m e =
      let long : length (names N.nets) ≡ length N.nets = length-map N.nets (λ (n : Net). n.name) in
      ⊎_elim (λ same. same)
      (λ apart. ⊎_elim (λ lt. absurd (differ i j lt (omega arith) e)) (λ lt. absurd (differ j i lt (omega arith) (sym e))) apart)
      (cases_order i j)
    where
      name_at : (i : ℕ) → i < length (names N.nets) → get_or (names N.nets) i [] ≡ net_name N i
      name_at i l = get_or-map (λ (n : Net). n.name) N.nets i (record { name = []; width = 0 }) [] (omega (arith, length-map N.nets (λ (n : Net). n.name)))

      differ : (i j : ℕ) → i < j → j < length (names N.nets) → net_name N i ≡ net_name N j → ⊥
      differ i j lt m e =
          true≢false
          (sym (text_same (get_or (names N.nets) i []) (get_or (names N.nets) j []) (name_at i (omega arith) ∙ e ∙ sym (name_at j m)))
          ∙ apart_from_distinct bytes_eq (names N.nets) i j [] graph.once lt m)

  pub number_is : (i : ℕ) → i < length N.nets → net_number N (net_name N i) ≡ i
  unfolding net_number
  number_is i l =
      position_or_len_is (λ (n : Net). bytes_eq n.name (net_name N i)) N.nets i (record { name = []; width = 0 }) (omega arith)
      (λ k low. false_from_ne_true _ (λ e. let same : k ≡ i = nets_apart k i (omega arith) l (same_text (net_name N k) (net_name N i) e) in omega arith))
      (λ l. text_same (net_name N i) (net_name N i) refl)

  pub number_of : (name : List ℕ) → Contains (names N.nets) name → (net_number N name < length N.nets) × (net_name N (net_number N name) ≡ name)
  number_of name (i, l, e) =
      let low : i < length N.nets = omega (arith, l, length-map N.nets (λ (n : Net). n.name)) in
      let named : net_name N i ≡ name = sym (get_or-map (λ (n : Net). n.name) N.nets i (record { name = []; width = 0 }) name low) ∙ e in
      let number : net_number N name ≡ i = ap (net_number N) (sym named) ∙ number_is i low in
      (subst (λ k. k < length N.nets) (sym number) low, ap (net_name N) number ∙ named)

  pub name_known : (i : ℕ) → i < length N.nets → Contains (names N.nets) (net_name N i)
  name_known i l = Contains-map (λ (n : Net). n.name) N.nets _ (Contains-get_or N.nets i (record { name = []; width = 0 }) l)

  -- a declared net has its width
  pub wide_from : (n : Net) → Contains N.nets n → IsWide N n.name n.width
  wide_from n (i, l, e) =
      let found : find (λ (m : Net). bytes_eq m.name n.name) N.nets ≡ Some n =
      find_only (λ (m : Net). bytes_eq m.name n.name) N.nets n (i, l, e) (text_same n.name n.name refl)
      (λ m (j, k, f) named.
      let at : slice_index_or N.nets i (record { name = []; width = 0 }) ≡ n = get_or_default N.nets i _ n l ∙ e in
      let and : slice_index_or N.nets j (record { name = []; width = 0 }) ≡ m = get_or_default N.nets j _ m k ∙ f in
      let same : j ≡ i = nets_apart j i k l (ap (λ (m : Net). m.name) and ∙ same_text m.name n.name named ∙ ap (λ (m : Net). m.name) (sym at)) in
      sym and ∙ ap (λ j. slice_index_or N.nets j (record { name = []; width = 0 })) same ∙ at) in
      ap (wide_by n.width) found ∙ eq-eqb n.width n.width refl

  pub is_number : (name : List ℕ) → Contains (names N.nets) name → IsNumber N name (net_number N name)
  is_number name m = let (low, named) = number_of name m in record { within = low; named = named }
