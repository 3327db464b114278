-- What the cells of an architecture's netlist are.
use Rattle.std.proofs.Common.{◌≡◌, ℕ, ◌+◌, ◌-◌, ◌<◌, ◌≤◌, ◌⊎◌, inl, inr, Bool, true, false, cond, eqb, List, [], ◌∷◌, ◌++◌, length, map, take, drop, get_or, refl, ap, sym, ◌∙◌, subst, arith, ⊎_elim}
use Rattle.std.specs.Prelude.{Contains, codes, flat_map}
use Rattle.std.proofs.lemmas.Bool.{eqb-true, eqb-false, eq-eqb, ne_eqb}
use Rattle.std.proofs.lemmas.List.{append_assoc, map-append, length-map, get_or-map, length-append, take_at, drop_at, get_or_push, get_or_default}
use Rattle.std.proofs.lemmas.List.Elements.{Contains-append_left, Contains-append_right, Contains-append_cases, Contains-get_or}
use Rattle.std.proofs.lemmas.Option.{slice_get-get_or}
use Rattle.cg_model.specs.declared.array.Kind.{Kind}
use Rattle.cg_model.specs.declared.array.Kind.TheVariants.{Wire, Register, Port, Out}
use Rattle.cg_model.specs.declared.array.Resource.{Resource}
use Rattle.cg_model.specs.declared.array.Unit.{Unit}
use Rattle.cg_model.specs.Array.{Arch, IsArch, resource, unit, owner, delay_by}
use Rattle.cg_model.proofs.Lookups.{Contains-nil}
use Rattle.cg_netlist.specs.declared.forms.Form.{Form}
use Rattle.cg_netlist.specs.declared.forms.Form.TheVariants.{Context as ContextForm, Preselect as PreselectForm, Mux as MuxForm, Register as RegisterForm, Zero as ZeroForm}
use Rattle.cg_netlist.specs.declared.parts.Pin.{Pin}
use Rattle.cg_netlist.specs.declared.parts.Cell.{Cell}
use Rattle.cg_netlist.specs.Forms.{form_name, form_of, IsForm}
use Rattle.cg_netlist.specs.Netlist.{word_net, select_net, select_width, driver_pins, argument_pins, context_cell, preselect_cell, mux_cell, register_cell, zero_cell, cells_by, resource_cells, unit_form, unit_cell, netlist_of}
use Rattle.cg_netlist.proofs.Called.{form_named}
use Rattle.cg_netlist.proofs.Bits.{bits_below, bits_some}
use Rattle.cg_netlist.proofs.Named.{named_apart}
use Rattle.cg_netlist.proofs.Valid.{is_driven, is_placed}
use Rattle.cg_netlist.proofs.Whole.{few_bits, some_bits}
use Rattle.cg_gates.specs.Shape.{Shape, shapes, shape_of, shape_by, clock_count, form_said, said_or_zero, nets_of_pins}
use Rattle.cg_gates.proofs.Early.{cell_at, shape_at}
use Rattle.cg_gates.proofs.Finds.{Contains-first, Contains-later, Contains-cases, Contains-flat_map, Contains-flat_map_from, Contains-map, Contains-map_from}

-- ---- the shapes of the cells

abbrev pub word_at : Arch → ℕ → List ℕ
word_at A q = word_net (resource A q)

abbrev pub clock_nets : List (List ℕ)
clock_nets = codes "clk" ∷ codes "rst" ∷ []

abbrev pub choice_ins : Arch → Resource → List (List ℕ)
choice_ins A r = select_net r ∷ map (word_at A) r.drivers

abbrev pub zero_shape : Resource → Shape
zero_shape r = record { form = ZeroForm; name = codes "z_" ++ r.name; clocks = []; ins = []; q = word_net r }

abbrev pub context_shape : Resource → Shape
context_shape r = record { form = ContextForm (select_width r); name = codes "c_" ++ r.name; clocks = clock_nets; ins = []; q = select_net r }

abbrev pub preselect_shape : Resource → Shape
preselect_shape r = record { form = PreselectForm (select_width r); name = codes "p_" ++ r.name; clocks = clock_nets; ins = []; q = select_net r }

abbrev pub mux_shape : Arch → Resource → Shape
mux_shape A r = record { form = MuxForm (length r.drivers); name = codes "m_" ++ r.name; clocks = []; ins = choice_ins A r; q = word_net r }

abbrev pub register_shape : Arch → Resource → Shape
register_shape A r = record { form = RegisterForm (length r.drivers); name = codes "r_" ++ r.name; clocks = clock_nets; ins = choice_ins A r; q = word_net r }

abbrev pub unit_shape : Arch → Unit → Shape
unit_shape A u = record { form = unit_form u; name = codes "u_" ++ u.name; clocks = clock_nets; ins = map (word_at A) u.ports; q = word_net (resource A u.out) }

-- ---- each is the shape of its cell

-- a cell has its shape's form and name
pub form_from : (d : Cell) (s : Shape) → shape_of d ≡ s → form_said d ≡ s.form
unfolding shape_of
form_from d s e = ap (λ (c : Shape). c.form) e

pub name_from : (d : Cell) (s : Shape) → shape_of d ≡ s → d.name ≡ s.name
unfolding shape_of
name_from d s e = ap (λ (c : Shape). c.name) e

same_shape : (f : Form) (name : List ℕ) (cs ds xs ys : List (List ℕ)) (p q : List ℕ) → cs ≡ ds → xs ≡ ys → p ≡ q
    → ◌≡◌ {A = Shape} (record { form = f; name = name; clocks = cs; ins = xs; q = p }) (record { form = f; name = name; clocks = ds; ins = ys; q = q })
same_shape f name cs ds xs ys p q a b c = cc

-- what stands before the last net, behind the clocks
shape_made : (f : Form) (name : List ℕ) (cs xs : List (List ℕ)) (q : List ℕ) → clock_count f ≡ length cs → shape_by f name (cs ++ (xs ++ q ∷ [])) ≡ record { form = f; name = name; clocks = cs; ins = xs; q = q }
shape_made f name cs xs q e =
    let n : ℕ = length (cs ++ (xs ++ q ∷ [])) - 1 in
    let long : length (cs ++ (xs ++ q ∷ [])) ≡ length cs + (length xs + 1) = omega (arith, length-append cs (xs ++ q ∷ []), length-append xs (q ∷ [])) in
    same_shape f name (take (clock_count f) (cs ++ (xs ++ q ∷ []))) cs (take (n - clock_count f) (drop (clock_count f) (cs ++ (xs ++ q ∷ [])))) xs (get_or (cs ++ (xs ++ q ∷ [])) n []) q
    (take_at cs (xs ++ q ∷ []) (clock_count f) (sym e))
    (ap (take (n - clock_count f)) (drop_at cs (xs ++ q ∷ []) (clock_count f) (sym e)) ∙ take_at xs (q ∷ []) (n - clock_count f) (omega arith))
    (ap (λ ns. get_or ns n []) (sym (append_assoc cs xs (q ∷ []))) ∙ get_or_push (cs ++ xs) q [] n (omega (arith, length-append cs xs)))

said : (f : Form) (c : Cell) → IsForm f → c.«module» ≡ form_name f → form_said c ≡ f
said f c valid called = ap (λ m. said_or_zero (form_of m)) called ∙ ap said_or_zero (form_named f valid)

driver_nets : (A : Arch) (k : ℕ) (qs : List ℕ) → map (λ (p : Pin). p.net) (driver_pins A k qs) ≡ map (word_at A) qs
driver_nets A k [] = refl
driver_nets A k (q ∷ qs) = ap (λ ns. word_at A q ∷ ns) (driver_nets A (k + 1) qs)

argument_nets : (A : Arch) (k : ℕ) (qs : List ℕ) → map (λ (p : Pin). p.net) (argument_pins A k qs) ≡ map (word_at A) qs
argument_nets A k [] = refl
argument_nets A k (q ∷ qs) = ap (λ ns. word_at A q ∷ ns) (argument_nets A (k + 1) qs)

shape_is : (f : Form) (c : Cell) (name : List ℕ) (cs xs : List (List ℕ)) (q : List ℕ) → IsForm f → c.«module» ≡ form_name f → c.name ≡ name → nets_of_pins c ≡ cs ++ (xs ++ q ∷ []) → clock_count f ≡ length cs
    → shape_of c ≡ record { form = f; name = name; clocks = cs; ins = xs; q = q }
unfolding shape_of
shape_is f c name cs xs q valid called named nets count =
    ap (λ g. shape_by g c.name (nets_of_pins c)) (said f c valid called)
    ∙ ap (λ n. shape_by f n (nets_of_pins c)) named
    ∙ ap (shape_by f name) nets
    ∙ shape_made f name cs xs q count

choice_nets : (A : Arch) (r : Resource) → map (λ (p : Pin). p.net) (driver_pins A 1 r.drivers ++ (record { port = codes "q"; net = word_net r } ∷ [])) ≡ map (word_at A) r.drivers ++ word_net r ∷ []
choice_nets A r = map-append (λ (p : Pin). p.net) (driver_pins A 1 r.drivers) (record { port = codes "q"; net = word_net r } ∷ []) ∙ ap (λ ns. ns ++ word_net r ∷ []) (driver_nets A 1 r.drivers)

pub shape_of_zero : (r : Resource) → shape_of (zero_cell r) ≡ zero_shape r
shape_of_zero r = shape_is ZeroForm (zero_cell r) (codes "z_" ++ r.name) [] [] (word_net r) tt refl refl refl refl

-- a resource has some drivers, and no more than there can be
pub record IsFed (r : Resource) : Type 0 where
  pub some : 0 < length r.drivers
  pub few : length r.drivers ≤ 65536

pub shape_of_context : (r : Resource) → IsFed r → shape_of (context_cell r) ≡ context_shape r
shape_of_context r h =
    shape_is (ContextForm (select_width r)) (context_cell r) (codes "c_" ++ r.name) clock_nets [] (select_net r) (some_bits (length r.drivers) h.some, few_bits (length r.drivers) h.few) refl refl refl refl

pub shape_of_preselect : (r : Resource) → IsFed r → shape_of (preselect_cell r) ≡ preselect_shape r
shape_of_preselect r h =
    shape_is (PreselectForm (select_width r)) (preselect_cell r) (codes "p_" ++ r.name) clock_nets [] (select_net r) (some_bits (length r.drivers) h.some, few_bits (length r.drivers) h.few) refl refl refl refl

pub shape_of_mux : (A : Arch) (r : Resource) → IsFed r → shape_of (mux_cell A r) ≡ mux_shape A r
shape_of_mux A r h =
    shape_is (MuxForm (length r.drivers)) (mux_cell A r) (codes "m_" ++ r.name) [] (choice_ins A r) (word_net r) (h.some, h.few) refl refl (ap (λ ns. select_net r ∷ ns) (choice_nets A r)) refl

pub shape_of_register : (A : Arch) (r : Resource) → IsFed r → shape_of (register_cell A r) ≡ register_shape A r
shape_of_register A r h =
    shape_is (RegisterForm (length r.drivers)) (register_cell A r) (codes "r_" ++ r.name) clock_nets (choice_ins A r) (word_net r) (h.some, h.few) refl refl
    (ap (λ ns. codes "clk" ∷ codes "rst" ∷ select_net r ∷ ns) (choice_nets A r)) refl

pub shape_of_unit : (A : Arch) → IsArch A → (x : ℕ) → x < length A.units → shape_of (unit_cell A (unit A x)) ≡ unit_shape A (unit A x)
shape_of_unit A is x l =
    let u = unit A x in
    let placed = is_placed A is x l in
    shape_is (unit_form u) (unit_cell A u) (codes "u_" ++ u.name) clock_nets (map (word_at A) u.ports) (word_net (resource A u.out))
    (placed.few, (is.latencies x l).0, (is.latencies x l).1, bits_some u.ops (is.some_op x l), bits_below u.ops) refl refl
    (ap (λ ns. codes "clk" ∷ codes "rst" ∷ ns)
    (map-append (λ (p : Pin). p.net) (argument_pins A 0 u.ports) (record { port = codes "q"; net = word_net (resource A u.out) } ∷ [])
    ∙ ap (λ ns. ns ++ word_net (resource A u.out) ∷ []) (argument_nets A 0 u.ports))) refl

-- ---- what holds of the cells of each kind holds of all

pub record HoldsOfEach (A : Arch) (P : Cell → Type 0) : Type 0 where
  pub zeros : (r : ℕ) → r < length A.resources → ((resource A r).kind ≡ Out → ⊥) → length (resource A r).drivers ≡ 0 → P (zero_cell (resource A r))
  pub contexts : (r : ℕ) → r < length A.resources → ((resource A r).kind ≡ Out → ⊥) → delay_by (resource A r).kind ≡ 0 → 0 < length (resource A r).drivers → P (context_cell (resource A r))
  pub muxes : (r : ℕ) → r < length A.resources → ((resource A r).kind ≡ Out → ⊥) → delay_by (resource A r).kind ≡ 0 → 0 < length (resource A r).drivers → P (mux_cell A (resource A r))
  pub preselects : (r : ℕ) → r < length A.resources → (resource A r).kind ≡ Register → 0 < length (resource A r).drivers → P (preselect_cell (resource A r))
  pub registers : (r : ℕ) → r < length A.resources → (resource A r).kind ≡ Register → 0 < length (resource A r).drivers → P (register_cell A (resource A r))
  pub units : (x : ℕ) → x < length A.units → P (unit_cell A (unit A x))

by_one : (P : Cell → Type 0) (w c : Cell) → P w → Contains (w ∷ []) c → P c
by_one P w c p m = ⊎_elim (λ e. subst P e p) (λ l. absurd (Contains-nil c l)) (Contains-cases c w [] m)

by_two : (P : Cell → Type 0) (s w c : Cell) → P s → P w → Contains (s ∷ w ∷ []) c → P c
by_two P s w c p q m = ⊎_elim (λ e. subst P e p) (λ l. by_one P w c q l) (Contains-cases c s (w ∷ []) m)

by_drivers : (P : Cell → Type 0) (r : Resource) (z s w c : Cell) (b : Bool) → eqb (length r.drivers) 0 ≡ b → (length r.drivers ≡ 0 → P z) → (0 < length r.drivers → P s) → (0 < length r.drivers → P w)
    → Contains (cond b (z ∷ []) (s ∷ w ∷ [])) c → P c
by_drivers P r z s w c true e none some more m = by_one P z c (none (eqb-true (length r.drivers) 0 e)) m
by_drivers P r z s w c false e none some more m =
    let apart = eqb-false (length r.drivers) 0 e in
    let lt : 0 < length r.drivers = omega arith in
    by_two P s w c (some lt) (more lt) m

module _ (A : Arch) (P : Cell → Type 0) (h : HoldsOfEach A P) where
  of_resource : (r : ℕ) → r < length A.resources → (c : Cell) (k : Kind) → (resource A r).kind ≡ k → Contains (cells_by k A (resource A r)) c → P c
  of_resource r l c Wire e m =
      let own : (resource A r).kind ≡ Out → ⊥ = λ f. let bad : Wire ≡ Out = sym e ∙ f in cc in
      by_drivers P (resource A r) (zero_cell (resource A r)) (context_cell (resource A r)) (mux_cell A (resource A r)) c (eqb (length (resource A r).drivers) 0) refl
      (h.zeros r l own) (h.contexts r l own (ap delay_by e)) (h.muxes r l own (ap delay_by e)) m
  of_resource r l c Port e m =
      let own : (resource A r).kind ≡ Out → ⊥ = λ f. let bad : Port ≡ Out = sym e ∙ f in cc in
      by_drivers P (resource A r) (zero_cell (resource A r)) (context_cell (resource A r)) (mux_cell A (resource A r)) c (eqb (length (resource A r).drivers) 0) refl
      (h.zeros r l own) (h.contexts r l own (ap delay_by e)) (h.muxes r l own (ap delay_by e)) m
  of_resource r l c Register e m =
      let own : (resource A r).kind ≡ Out → ⊥ = λ f. let bad : Register ≡ Out = sym e ∙ f in cc in
      by_drivers P (resource A r) (zero_cell (resource A r)) (preselect_cell (resource A r)) (register_cell A (resource A r)) c (eqb (length (resource A r).drivers) 0) refl
      (h.zeros r l own) (h.preselects r l e) (h.registers r l e) m
  of_resource r l c Out e m = absurd (Contains-nil c m)

  pub each_cell : (c : Cell) → Contains (netlist_of A).cells c → P c
  unfolding netlist_of
  each_cell c m =
      ⊎_elim
      (λ f. let (q, (r, l, e), b) = Contains-flat_map_from (resource_cells A) A.resources c f in
      let same : q ≡ resource A r = sym e ∙ get_or_default A.resources r q (record { name = []; kind = Wire; drivers = [] }) l in
      of_resource r l c (resource A r).kind refl (subst (λ q. Contains (resource_cells A q) c) same b))
      (λ f. let (u, (x, l, e), b) = Contains-map_from (unit_cell A) A.units c f in
      let same : u ≡ unit A x = sym e ∙ get_or_default A.units x u (record { name = []; ops = []; latency = 1; ports = []; out = 0 }) l in
      subst P (sym (b ∙ ap (unit_cell A) same)) (h.units x l))
      (Contains-append_cases (flat_map (resource_cells A) A.resources) (map (unit_cell A) A.units) c m)

-- ---- which cells are there

zero_found : {X : Type 0} (z s w : X) (b : Bool) → b ≡ true → Contains (cond b (z ∷ []) (s ∷ w ∷ [])) z
zero_found z s w true e = Contains-first z []
zero_found z s w false e = let bad : false ≡ true = e in absurd (cc)

first_found : {X : Type 0} (z s w : X) (b : Bool) → b ≡ false → Contains (cond b (z ∷ []) (s ∷ w ∷ [])) s
first_found z s w false e = Contains-first s (w ∷ [])
first_found z s w true e = let bad : true ≡ false = e in absurd (cc)

second_found : {X : Type 0} (z s w : X) (b : Bool) → b ≡ false → Contains (cond b (z ∷ []) (s ∷ w ∷ [])) w
second_found z s w false e = Contains-later w s (w ∷ []) (Contains-first w [])
second_found z s w true e = let bad : true ≡ false = e in absurd (cc)

-- those on the two nets of a resource
abbrev pub word_by : Arch → ℕ → Kind → Bool → Shape
word_by A r Out b = unit_shape A (unit A (owner A r))
word_by A r Wire true = zero_shape (resource A r)
word_by A r Wire false = mux_shape A (resource A r)
word_by A r Port true = zero_shape (resource A r)
word_by A r Port false = mux_shape A (resource A r)
word_by A r Register true = zero_shape (resource A r)
word_by A r Register false = register_shape A (resource A r)

abbrev pub select_by : Arch → ℕ → Kind → Shape
select_by A r Out = context_shape (resource A r)
select_by A r Wire = context_shape (resource A r)
select_by A r Port = context_shape (resource A r)
select_by A r Register = preselect_shape (resource A r)

abbrev pub is_undriven : Arch → ℕ → Bool
is_undriven A r = eqb (length (resource A r).drivers) 0

abbrev pub word_shape : Arch → ℕ → Shape
word_shape A r = word_by A r (resource A r).kind (is_undriven A r)

abbrev pub select_shape : Arch → ℕ → Shape
select_shape A r = select_by A r (resource A r).kind

-- a cell is one of those two of a resource
abbrev pub IsOne : Arch → Shape → Type 0
IsOne A c = (s : ℕ) × (s < length A.resources) × (((c ≡ word_shape A s) × (c.q ≡ word_at A s)) ⊎ ((c ≡ select_shape A s) × (c.q ≡ select_net (resource A s))))

zero_word : (A : Arch) (r : ℕ) (k : Kind) (b : Bool) → (k ≡ Out → ⊥) → b ≡ true → zero_shape (resource A r) ≡ word_by A r k b
zero_word A r Out b n e = absurd (n refl)
zero_word A r Wire true n e = refl
zero_word A r Port true n e = refl
zero_word A r Register true n e = refl
zero_word A r Wire false n e = let bad : false ≡ true = e in absurd (cc)
zero_word A r Port false n e = let bad : false ≡ true = e in absurd (cc)
zero_word A r Register false n e = let bad : false ≡ true = e in absurd (cc)

mux_word : (A : Arch) (r : ℕ) (k : Kind) (b : Bool) → (k ≡ Out → ⊥) → delay_by k ≡ 0 → b ≡ false → mux_shape A (resource A r) ≡ word_by A r k b
mux_word A r Out b n d e = absurd (n refl)
mux_word A r Register b n d e = absurd (omega arith)
mux_word A r Wire false n d e = refl
mux_word A r Port false n d e = refl
mux_word A r Wire true n d e = let bad : true ≡ false = e in absurd (cc)
mux_word A r Port true n d e = let bad : true ≡ false = e in absurd (cc)

context_select : (A : Arch) (r : ℕ) (k : Kind) → (k ≡ Out → ⊥) → delay_by k ≡ 0 → context_shape (resource A r) ≡ select_by A r k
context_select A r Out n d = refl
context_select A r Register n d = absurd (omega arith)
context_select A r Wire n d = refl
context_select A r Port n d = refl

register_word : (A : Arch) (r : ℕ) (k : Kind) (b : Bool) → k ≡ Register → b ≡ false → register_shape A (resource A r) ≡ word_by A r k b
register_word A r k b e f = ap (λ b. word_by A r Register b) (sym f) ∙ ap (λ k. word_by A r k b) (sym e)

module _ (A : Arch) (is : IsArch A) where
  pub fed : (r : ℕ) → r < length A.resources → 0 < length (resource A r).drivers → IsFed (resource A r)
  fed r l some = record { some = some; few = (is_driven A is r l).few }

  some_drivers : (r : ℕ) → is_undriven A r ≡ false → 0 < length (resource A r).drivers
  some_drivers r e = let apart = eqb-false (length (resource A r).drivers) 0 e in omega arith

  driven : (r : ℕ) → 0 < length (resource A r).drivers → is_undriven A r ≡ false
  driven r some = ne_eqb (length (resource A r).drivers) 0 (λ e. omega arith)

  pub resource_cell : (r : ℕ) (c : Cell) → r < length A.resources → Contains (resource_cells A (resource A r)) c → Contains (netlist_of A).cells c
  unfolding netlist_of
  resource_cell r c l m =
      Contains-append_left (flat_map (resource_cells A) A.resources) (map (unit_cell A) A.units) c
      (Contains-flat_map (resource_cells A) A.resources (resource A r) c (Contains-get_or A.resources r (record { name = []; kind = Wire; drivers = [] }) l) m)

  pub unit_cell_there : (x : ℕ) → x < length A.units → Contains (netlist_of A).cells (unit_cell A (unit A x))
  unfolding netlist_of
  unit_cell_there x l =
      Contains-append_right (flat_map (resource_cells A) A.resources) (map (unit_cell A) A.units) (unit_cell A (unit A x))
      (Contains-map (unit_cell A) A.units (unit A x) (Contains-get_or A.units x (record { name = []; ops = []; latency = 1; ports = []; out = 0 }) l))

  shaped : (c : Cell) (s : Shape) → Contains (netlist_of A).cells c → shape_of c ≡ s → Contains (shapes (netlist_of A)) s
  shaped c s m e = subst (Contains (shapes (netlist_of A))) e (Contains-map shape_of (netlist_of A).cells c m)

  pub unit_there : (x : ℕ) → x < length A.units → Contains (shapes (netlist_of A)) (unit_shape A (unit A x))
  unit_there x l = shaped (unit_cell A (unit A x)) (unit_shape A (unit A x)) (unit_cell_there x l) (shape_of_unit A is x l)

  of_kind : (r : ℕ) (k : Kind) (c : Cell) → r < length A.resources → (resource A r).kind ≡ k → Contains (cells_by k A (resource A r)) c → Contains (netlist_of A).cells c
  of_kind r k c l e m = resource_cell r c l (subst (λ k. Contains (cells_by k A (resource A r)) c) (sym e) m)

  word_there_by : (r : ℕ) (k : Kind) (b : Bool) → r < length A.resources → (resource A r).kind ≡ k → is_undriven A r ≡ b → Contains (shapes (netlist_of A)) (word_by A r k b) × ((word_by A r k b).q ≡ word_at A r)
  word_there_by r Out b l e f =
      let own = is.owned r e in
      (unit_there (owner A r) own.0, ap (λ s. word_net (resource A s)) own.1)
  word_there_by r Wire true l e f = (shaped (zero_cell (resource A r)) (zero_shape (resource A r)) (of_kind r Wire (zero_cell (resource A r)) l e (zero_found _ _ _ (is_undriven A r) f)) (shape_of_zero (resource A r)), refl)
  word_there_by r Port true l e f = (shaped (zero_cell (resource A r)) (zero_shape (resource A r)) (of_kind r Port (zero_cell (resource A r)) l e (zero_found _ _ _ (is_undriven A r) f)) (shape_of_zero (resource A r)), refl)
  word_there_by r Register true l e f = (shaped (zero_cell (resource A r)) (zero_shape (resource A r)) (of_kind r Register (zero_cell (resource A r)) l e (zero_found _ _ _ (is_undriven A r) f)) (shape_of_zero (resource A r)), refl)
  word_there_by r Wire false l e f = (shaped (mux_cell A (resource A r)) (mux_shape A (resource A r)) (of_kind r Wire (mux_cell A (resource A r)) l e (second_found _ _ _ (is_undriven A r) f)) (shape_of_mux A (resource A r) (fed r l (some_drivers r f))), refl)
  word_there_by r Port false l e f = (shaped (mux_cell A (resource A r)) (mux_shape A (resource A r)) (of_kind r Port (mux_cell A (resource A r)) l e (second_found _ _ _ (is_undriven A r) f)) (shape_of_mux A (resource A r) (fed r l (some_drivers r f))), refl)
  word_there_by r Register false l e f = (shaped (register_cell A (resource A r)) (register_shape A (resource A r)) (of_kind r Register (register_cell A (resource A r)) l e (second_found _ _ _ (is_undriven A r) f)) (shape_of_register A (resource A r) (fed r l (some_drivers r f))), refl)

  pub word_there : (r : ℕ) → r < length A.resources → Contains (shapes (netlist_of A)) (word_shape A r) × ((word_shape A r).q ≡ word_at A r)
  word_there r l = word_there_by r (resource A r).kind (is_undriven A r) l refl refl

  select_there_by : (r : ℕ) (k : Kind) → r < length A.resources → (resource A r).kind ≡ k → 0 < length (resource A r).drivers → Contains (shapes (netlist_of A)) (select_by A r k)
  select_there_by r Out l e some = let none : length (resource A r).drivers ≡ 0 = ap length (is.undriven r e) in absurd (omega arith)
  select_there_by r Wire l e some = shaped (context_cell (resource A r)) (context_shape (resource A r)) (of_kind r Wire (context_cell (resource A r)) l e (first_found _ _ _ (is_undriven A r) (driven r some))) (shape_of_context (resource A r) (fed r l some))
  select_there_by r Port l e some = shaped (context_cell (resource A r)) (context_shape (resource A r)) (of_kind r Port (context_cell (resource A r)) l e (first_found _ _ _ (is_undriven A r) (driven r some))) (shape_of_context (resource A r) (fed r l some))
  select_there_by r Register l e some = shaped (preselect_cell (resource A r)) (preselect_shape (resource A r)) (of_kind r Register (preselect_cell (resource A r)) l e (first_found _ _ _ (is_undriven A r) (driven r some))) (shape_of_preselect (resource A r) (fed r l some))

  pub select_there : (r : ℕ) → r < length A.resources → 0 < length (resource A r).drivers → Contains (shapes (netlist_of A)) (select_shape A r)
  select_there r l some = select_there_by r (resource A r).kind l refl some

  ones : HoldsOfEach A (λ d. IsOne A (shape_of d))
  ones = record {
    zeros = λ r l n e.
        let same = shape_of_zero (resource A r) in
        (r, l, inl (same ∙ zero_word A r (resource A r).kind (is_undriven A r) n (eq-eqb (length (resource A r).drivers) 0 e), ap (λ (c : Shape). c.q) same));
    contexts = λ r l n d some.
        let same = shape_of_context (resource A r) (fed r l some) in
        (r, l, inr (same ∙ context_select A r (resource A r).kind n d, ap (λ (c : Shape). c.q) same));
    muxes = λ r l n d some.
        let same = shape_of_mux A (resource A r) (fed r l some) in
        (r, l, inl (same ∙ mux_word A r (resource A r).kind (is_undriven A r) n d (driven r some), ap (λ (c : Shape). c.q) same));
    preselects = λ r l e some.
        let same = shape_of_preselect (resource A r) (fed r l some) in
        (r, l, inr (same ∙ ap (select_by A r) (sym e), ap (λ (c : Shape). c.q) same));
    registers = λ r l e some.
        let same = shape_of_register A (resource A r) (fed r l some) in
        (r, l, inl (same ∙ register_word A r (resource A r).kind (is_undriven A r) e (driven r some), ap (λ (c : Shape). c.q) same));
    units = λ x l.
        let same = shape_of_unit A is x l in
        let out = (unit A x).out in
        let kind : (resource A out).kind ≡ Out = is.outs x l in (
          out,
          (is_placed A is x l).out,
          inl (
            same ∙ ap (λ y. unit_shape A (unit A y)) (sym (is.owners x l)) ∙ ap (λ k. word_by A out k (is_undriven A out)) (sym kind),
            ap (λ (c : Shape). c.q) same,
          ),
        );
  }

  pub is_one : (c : Shape) → Contains (shapes (netlist_of A)) c → IsOne A c
  is_one c m =
      let (d, a, e) = Contains-map_from shape_of (netlist_of A).cells c m in
      subst (IsOne A) (sym e) (each_cell A (λ d. IsOne A (shape_of d)) ones d a)

  -- a resource is known by its nets
  pub same_word : (r s : ℕ) → r < length A.resources → s < length A.resources → word_at A r ≡ word_at A s → r ≡ s
  same_word r s l m e = is.names.resources_apart r s l m (ap (drop 2) e)

  pub same_select : (r s : ℕ) → r < length A.resources → s < length A.resources → select_net (resource A r) ≡ select_net (resource A s) → r ≡ s
  same_select r s l m e = is.names.resources_apart r s l m (ap (drop 2) e)

  pub differ : (r s : ℕ) → word_at A r ≡ select_net (resource A s) → ⊥
  differ r s e = let f = ap (λ (l : List ℕ). get_or l 0 0) e in omega arith

  -- so a net has one cell
  pub only_word : (r : ℕ) (c : Shape) → r < length A.resources → Contains (shapes (netlist_of A)) c → c.q ≡ word_at A r → c ≡ word_shape A r
  only_word r c l m e =
      let (s, ls, h) = is_one c m in
      ⊎_elim
      (λ (a, b). a ∙ ap (word_shape A) (same_word s r ls l (sym b ∙ e)))
      (λ (a, b). absurd (differ r s (sym e ∙ b)))
      h

  pub only_select : (r : ℕ) (c : Shape) → r < length A.resources → Contains (shapes (netlist_of A)) c → c.q ≡ select_net (resource A r) → c ≡ select_shape A r
  only_select r c l m e =
      let (s, ls, h) = is_one c m in
      ⊎_elim
      (λ (a, b). absurd (differ s r (sym b ∙ e)))
      (λ (a, b). a ∙ ap (select_shape A) (same_select s r ls l (sym b ∙ e)))
      h

  -- nor have two cells one name
  pub named_once : (i j : ℕ) → i < length (netlist_of A).cells → j < length (netlist_of A).cells → (cell_at (netlist_of A) i).name ≡ (cell_at (netlist_of A) j).name → i ≡ j
  named_once i j l m e =
      (named_apart A (netlist_of A) is refl).cells i j (cell_at (netlist_of A) i) (cell_at (netlist_of A) j)
      (slice_get-get_or (netlist_of A).cells i _ l) (slice_get-get_or (netlist_of A).cells j _ m) e

  pub same_named : (b c : Shape) → Contains (shapes (netlist_of A)) b → Contains (shapes (netlist_of A)) c → b.name ≡ c.name → b ≡ c
  same_named b c (i, li, ei) (j, lj, ej) e =
      let long : length (shapes (netlist_of A)) ≡ length (netlist_of A).cells = length-map (netlist_of A).cells shape_of in
      let at : shape_at (netlist_of A) i ≡ b = sym (get_or-map shape_of (netlist_of A).cells i _ b (omega arith)) ∙ ei in
      let and : shape_at (netlist_of A) j ≡ c = sym (get_or-map shape_of (netlist_of A).cells j _ c (omega arith)) ∙ ej in
      let same : i ≡ j = named_once i j (omega arith) (omega arith) (name_from (cell_at (netlist_of A) i) b at ∙ e ∙ sym (name_from (cell_at (netlist_of A) j) c and)) in
      sym at ∙ ap (shape_at (netlist_of A)) same ∙ and
