-- The netlist of a valid architecture has a meaning over it.
use Rattle.std.proofs.Common.{◌≡◌, ℕ, zero, suc, ◌+◌, ◌-◌, ◌<◌, ◌≤◌, ◌⊎◌, inl, inr, Bool, true, false, ◌&&◌, not, cond, eqb, List, [], ◌∷◌, ◌++◌, length, get_or, Option, Some, None, refl, ap, sym, ◌∙◌, subst, arith, ⊎_elim, add-one}
use Rattle.std.specs.Prelude.{Contains, bytes_eq, find, slice_index, slice_get}
use Rattle.std.specs.List.{list_all}
use Rattle.std.specs.Option.{option_map, option_map_or, option_or}
use Rattle.std.proofs.lemmas.Bool.{eqb-false, eq-eqb, ne_eqb, and_from, not_from_true, cond-false, le-ltb}
use Rattle.std.proofs.lemmas.List.{length-map, get_or-map, get_or_default}
use Rattle.std.proofs.lemmas.List.Elements.{Contains-get_or}
use Rattle.std.proofs.lemmas.List.Folds.{list_all-append, list_any_at}
use Rattle.std.proofs.lemmas.List.Sums.{position_or_len_is}
use Rattle.cg_model.specs.First.{is_before}
use Rattle.cg_model.specs.declared.array.Kind.{Kind}
use Rattle.cg_model.specs.declared.array.Kind.TheVariants.{Wire, Register, Port, Out}
use Rattle.cg_model.specs.declared.array.Resource.{Resource}
use Rattle.cg_model.specs.declared.array.Unit.{Unit}
use Rattle.cg_model.specs.Array.{Arch, IsArch, resource, unit, delay_by}
use Rattle.cg_model.proofs.Lookups.{Contains-nil, Contains-get, first_from-none}
use Rattle.cg_model.proofs.Positions.{position_from-found}
use Rattle.cg_netlist.specs.declared.forms.Form.{Form}
use Rattle.cg_netlist.specs.declared.forms.Form.TheVariants.{Mux as MuxForm, Register as RegisterForm, FunctionalUnit as UnitForm}
use Rattle.cg_netlist.specs.declared.parts.Net.{Net}
use Rattle.cg_netlist.specs.declared.parts.Pin.{Pin}
use Rattle.cg_netlist.specs.declared.parts.Cell.{Cell}
use Rattle.cg_netlist.specs.Forms.{argument_port}
use Rattle.cg_netlist.specs.Netlist.{select_net, select_width, nets_of, driver_pins, argument_pins, output_pins, context_cell, preselect_cell, mux_cell, register_cell, zero_cell, unit_cell, bits_of, netlist_of}
use Rattle.cg_netlist.proofs.Named.{named_apart}
use Rattle.cg_netlist.proofs.Whole.{is_graph}
use Rattle.cg_netlist.proofs.Valid.{is_placed}
use Rattle.cg_gates.specs.Shape.{Shape, shapes, shape_of, form_said}
use Rattle.cg_gates.specs.Gates.{resource_named, unit_named, stem, unit_instance, is_instance}
use Rattle.cg_gates.specs.Accepts.{miscounted, is_miscounted, driver_count, misjoined, is_joined, is_joined_pin, has_width, is_clock, port_width, output_width, fault_before_loops, net_name, data_now, Hears, IsMuxLoop, HasNoMuxLoop, cell_named, repeated_instance, gives_select, is_unit_of, is_known, unknown_instance, has_cell, missing_unit, fault_after_loops, IsAccepted}
use Rattle.cg_gates.specs.declared.fault.GateFault.TheVariants as fault
use Rattle.cg_gates.proofs.Finds.{same_text, text_same, Contains-first, Contains-later, Contains-cases, Contains-flat_map, Contains-flat_map_from, Contains-map_from, find_only, none_found, one_count}
use Rattle.cg_gates.proofs.Early.{cell_at, IsWide, wide_from, argument_one}
use Rattle.cg_gates.proofs.Cells.{form_from, name_from, unit_shape, word_at, word_by, word_shape, select_by, select_shape, is_undriven, HoldsOfEach, each_cell, fed, shape_of_zero, shape_of_context, shape_of_preselect, shape_of_mux, shape_of_register, shape_of_unit, unit_there, word_there, select_there, is_one, only_word, only_select, named_once}

abbrev no_resource : Resource
no_resource = record { name = []; kind = Wire; drivers = [] }

abbrev no_unit : Unit
no_unit = record { name = []; ops = []; latency = 1; ports = []; out = 0 }

module _ (A : Arch) (is : IsArch A) where
  -- ---- resources and units by name

  pub resource_found : (r : ℕ) → r < length A.resources → resource_named A (resource A r).name ≡ r
  unfolding resource_named
  resource_found r l =
      position_or_len_is (λ (q : Resource). bytes_eq q.name (resource A r).name) A.resources r no_resource (omega arith)
      (λ k low. not_same k low (bytes_eq (resource A k).name (resource A r).name) refl)
      (λ l. text_same (resource A r).name (resource A r).name refl)
    where
      not_same : (k : ℕ) → k < r → (b : Bool) → bytes_eq (resource A k).name (resource A r).name ≡ b → bytes_eq (resource A k).name (resource A r).name ≡ false
      not_same k low true e = let same : k ≡ r = is.names.resources_apart k r (omega arith) l (same_text (resource A k).name (resource A r).name e) in absurd (omega arith)
      not_same k low false e = e

  pub unit_found : (x : ℕ) → x < length A.units → unit_named A (unit A x).name ≡ x
  unfolding unit_named
  unit_found x l =
      position_or_len_is (λ (u : Unit). bytes_eq u.name (unit A x).name) A.units x no_unit (omega arith)
      (λ k low. not_same k low (bytes_eq (unit A k).name (unit A x).name) refl)
      (λ l. text_same (unit A x).name (unit A x).name refl)
    where
      not_same : (k : ℕ) → k < x → (b : Bool) → bytes_eq (unit A k).name (unit A x).name ≡ b → bytes_eq (unit A k).name (unit A x).name ≡ false
      not_same k low true e = let same : k ≡ x = is.names.units_apart k x (omega arith) l (same_text (unit A k).name (unit A x).name e) in absurd (omega arith)
      not_same k low false e = e

  found_resource : (r : ℕ) → r < length A.resources → find (λ (q : Resource). bytes_eq q.name (resource A r).name) A.resources ≡ Some (resource A r)
  found_resource r l =
      find_only (λ (q : Resource). bytes_eq q.name (resource A r).name) A.resources (resource A r) (Contains-get_or A.resources r no_resource l) (text_same (resource A r).name (resource A r).name refl)
      (λ q (k, low, e) named.
      let at : resource A k ≡ q = get_or_default A.resources k no_resource q low ∙ e in
      let same : k ≡ r = is.names.resources_apart k r low l (ap (λ (q : Resource). q.name) at ∙ same_text q.name (resource A r).name named) in
      sym at ∙ ap (resource A) same)

  found_unit : (x : ℕ) → x < length A.units → find (λ (u : Unit). bytes_eq u.name (unit A x).name) A.units ≡ Some (unit A x)
  found_unit x l =
      find_only (λ (u : Unit). bytes_eq u.name (unit A x).name) A.units (unit A x) (Contains-get_or A.units x no_unit l) (text_same (unit A x).name (unit A x).name refl)
      (λ u (k, low, e) named.
      let at : unit A k ≡ u = get_or_default A.units k no_unit u low ∙ e in
      let same : k ≡ x = is.names.units_apart k x low l (ap (λ (u : Unit). u.name) at ∙ same_text u.name (unit A x).name named) in
      sym at ∙ ap (unit A) same)

  -- ---- nets

  abbrev word_line : ℕ → Net
  word_line r = record { name = word_at A r; width = 32 }

  abbrev select_line : ℕ → Net
  select_line r = record { name = select_net (resource A r); width = select_width (resource A r) }

  net_by : (r : ℕ) (n : Net) (b : Bool) → is_undriven A r ≡ b → Contains (word_line r ∷ cond b [] (select_line r ∷ [])) n → (n ≡ word_line r) ⊎ ((0 < length (resource A r).drivers) × (n ≡ select_line r))
  net_by r n true e m = ⊎_elim (λ f. inl (sym f)) (λ l. absurd (Contains-nil n l)) (Contains-cases n (word_line r) [] m)
  net_by r n false e m =
      let apart = eqb-false (length (resource A r).drivers) 0 e in
      ⊎_elim (λ f. inl (sym f))
      (λ l. ⊎_elim (λ g. inr (omega arith, sym g)) (λ z. absurd (Contains-nil n z)) (Contains-cases n (select_line r) [] l))
      (Contains-cases n (word_line r) (select_line r ∷ []) m)

  net_from : (n : Net) → Contains (netlist_of A).nets n → (r : ℕ) × (r < length A.resources) × ((n ≡ word_line r) ⊎ ((0 < length (resource A r).drivers) × (n ≡ select_line r)))
  unfolding netlist_of
  net_from n m =
      let (q, (r, l, e), b) = Contains-flat_map_from nets_of A.resources n m in
      let same : q ≡ resource A r = sym e ∙ get_or_default A.resources r q no_resource l in
      (r, l, net_by r n (is_undriven A r) refl (subst (λ q. Contains (nets_of q) n) same b))

  net_there : (r : ℕ) (n : Net) → r < length A.resources → Contains (nets_of (resource A r)) n → Contains (netlist_of A).nets n
  unfolding netlist_of
  net_there r n l m = Contains-flat_map nets_of A.resources (resource A r) n (Contains-get_or A.resources r no_resource l) m

  pub word_wide : (r : ℕ) → r < length A.resources → IsWide (netlist_of A) (word_at A r) 32
  word_wide r l = wide_from (netlist_of A) (is_graph A is) (word_line r) (net_there r (word_line r) l (Contains-first (word_line r) _))

  select_in : (r : ℕ) (b : Bool) → b ≡ false → Contains (cond b [] (select_line r ∷ [])) (select_line r)
  select_in r false e = Contains-first (select_line r) []
  select_in r true e = let bad : true ≡ false = e in absurd (cc)

  pub select_wide : (r : ℕ) → r < length A.resources → 0 < length (resource A r).drivers → IsWide (netlist_of A) (select_net (resource A r)) (select_width (resource A r))
  select_wide r l some =
      let driven : is_undriven A r ≡ false = ne_eqb (length (resource A r).drivers) 0 (λ e. omega arith) in
      wide_from (netlist_of A) (is_graph A is) (select_line r)
      (net_there r (select_line r) l (Contains-later (select_line r) (word_line r) (cond (is_undriven A r) [] (select_line r ∷ [])) (select_in r (is_undriven A r) driven)))

  -- ---- each net has one driver

  counted_one : (net : List ℕ) (c : Shape) → Contains (shapes (netlist_of A)) c → c.q ≡ net → ((d : Shape) → Contains (shapes (netlist_of A)) d → d.q ≡ net → d ≡ c) → driver_count (netlist_of A) net ≡ 1
  counted_one net c (k, l, e) drives only =
      let long : length (shapes (netlist_of A)) ≡ length (netlist_of A).cells = length-map (netlist_of A).cells shape_of in
      let name_at : (j : ℕ) → j < length (shapes (netlist_of A)) → (cell_at (netlist_of A) j).name ≡ (get_or (shapes (netlist_of A)) j c).name =
      λ j lj. name_from (cell_at (netlist_of A) j) (get_or (shapes (netlist_of A)) j c) (sym (get_or-map shape_of (netlist_of A).cells j _ c (omega arith))) in
      one_count (λ (d : Shape). bytes_eq d.q net) (shapes (netlist_of A)) c k
      (record {
        within = l;
        passes = text_same (get_or (shapes (netlist_of A)) k c).q net (ap (λ (d : Shape). d.q) e ∙ drives);
        only = λ j lj f.
            let same : get_or (shapes (netlist_of A)) j c ≡ c = only (get_or (shapes (netlist_of A)) j c) (Contains-get_or (shapes (netlist_of A)) j c lj) (same_text (get_or (shapes (netlist_of A)) j c).q net f) in
            named_once A is j k (omega arith) (omega arith) (name_at j lj ∙ ap (λ (d : Shape). d.name) (same ∙ sym e) ∙ sym (name_at k l));
      })

  counted : (n : Net) → Contains (netlist_of A).nets n → driver_count (netlist_of A) n.name ≡ 1
  counted n m =
      let (r, l, h) = net_from n m in
      ⊎_elim
      (λ e.
      let (a, b) = word_there A is r l in
      ap (λ (n : Net). driver_count (netlist_of A) n.name) e ∙ counted_one (word_at A r) (word_shape A r) a b (λ d k f. only_word A is r d l k f))
      (λ (some, e).
      ap (λ (n : Net). driver_count (netlist_of A) n.name) e
      ∙ counted_one (select_net (resource A r)) (select_shape A r) (select_there A is r l some) (select_q r (resource A r).kind) (λ d k f. only_select A is r d l k f))
      h
    where
      select_q : (r : ℕ) (k : Kind) → (select_by A r k).q ≡ select_net (resource A r)
      select_q r Wire = refl
      select_q r Port = refl
      select_q r Register = refl
      select_q r Out = refl

  none_miscounted : miscounted (netlist_of A) ≡ None
  unfolding miscounted
  none_miscounted =
      ap (option_map (λ (n : Net). n.name))
      (none_found (is_miscounted (netlist_of A)) (netlist_of A).nets
      (λ n m. not_from_true (eqb (driver_count (netlist_of A) n.name) 1) (eq-eqb (driver_count (netlist_of A) n.name) 1 (counted n m))))

  -- ---- pins are joined

  abbrev joins : Form → List Pin → Bool
  joins f pins = list_all (is_joined_pin (netlist_of A).nets f) pins

  joined_by : (d : Cell) (s : Shape) → shape_of d ≡ s → joins s.form d.pins ≡ true → is_joined (netlist_of A).nets d ≡ true
  joined_by d s e h = ap (λ f. joins f d.pins) (form_from d s e) ∙ h

  drivers_join : (f : Form) (k : ℕ) (qs : List ℕ) → ((q : ℕ) → Contains qs q → q < length A.resources) → joins f (driver_pins A k qs) ≡ true
  drivers_join f k [] known = refl
  drivers_join f k (q ∷ qs) known =
      and_from _ (joins f (driver_pins A (k + 1) qs)) (word_wide q (known q (Contains-first q qs))) (drivers_join f (k + 1) qs (λ p m. known p (Contains-later p q qs m)))

  arguments_join : (p l h k : ℕ) (qs : List ℕ) → k + length qs ≤ 3 → ((q : ℕ) → Contains qs q → q < length A.resources) → joins (UnitForm p l h) (argument_pins A k qs) ≡ true
  arguments_join p l h k [] few known = refl
  arguments_join p l h k (q ∷ qs) few known =
      let port = argument_one p l h k (omega arith) in
      let first : is_joined_pin (netlist_of A).nets (UnitForm p l h) (record { port = argument_port k; net = word_at A q }) ≡ true =
      cond-false (is_clock (argument_port k)) (bytes_eq (word_at A q) (argument_port k)) (has_width (netlist_of A).nets (word_at A q) (port_width (UnitForm p l h) (argument_port k))) port.quiet
      ∙ ap (has_width (netlist_of A).nets (word_at A q)) port.wide
      ∙ word_wide q (known q (Contains-first q qs)) in
      and_from (is_joined_pin (netlist_of A).nets (UnitForm p l h) (record { port = argument_port k; net = word_at A q })) (joins (UnitForm p l h) (argument_pins A (k + 1) qs))
      first (arguments_join p l h (k + 1) qs (omega arith) (λ z m. known z (Contains-later z q qs m)))

  choice_joins : (f : Form) (r : ℕ) → r < length A.resources → joins f (driver_pins A 1 (resource A r).drivers) ≡ true → IsWide (netlist_of A) (word_at A r) (output_width f) → joins f (driver_pins A 1 (resource A r).drivers ++ output_pins (word_at A r)) ≡ true
  choice_joins f r l h w =
      list_all-append (is_joined_pin (netlist_of A).nets f) (driver_pins A 1 (resource A r).drivers) (output_pins (word_at A r))
      ∙ and_from (joins f (driver_pins A 1 (resource A r).drivers)) (joins f (output_pins (word_at A r))) h (and_from _ true w refl)

  ports_known : (x q : ℕ) → x < length A.units → Contains (unit A x).ports q → q < length A.resources
  ports_known x q l (k, lk, e) = subst (λ z. z < length A.resources) (get_or_default (unit A x).ports k 0 q lk ∙ e) (is.ports_known x k l lk)

  all_joined : HoldsOfEach A (λ d. is_joined (netlist_of A).nets d ≡ true)
  all_joined = record {
    zeros = λ r l n e. joined_by (zero_cell (resource A r)) _ (shape_of_zero (resource A r)) (and_from _ true (word_wide r l) refl);
    contexts = λ r l n d some. joined_by (context_cell (resource A r)) _ (shape_of_context (resource A r) (fed A is r l some)) (and_from _ true (select_wide r l some) refl);
    muxes = λ r l n d some.
        joined_by (mux_cell A (resource A r)) _ (shape_of_mux A (resource A r) (fed A is r l some))
        (and_from _ _ (select_wide r l some)
        (choice_joins (MuxForm (length (resource A r).drivers)) r l (drivers_join (MuxForm (length (resource A r).drivers)) 1 (resource A r).drivers (λ q m. is.known q r m)) (word_wide r l)));
    preselects = λ r l e some. joined_by (preselect_cell (resource A r)) _ (shape_of_preselect (resource A r) (fed A is r l some)) (and_from _ true (select_wide r l some) refl);
    registers = λ r l e some.
        joined_by (register_cell A (resource A r)) _ (shape_of_register A (resource A r) (fed A is r l some))
        (and_from _ _ (select_wide r l some)
        (choice_joins (RegisterForm (length (resource A r).drivers)) r l (drivers_join (RegisterForm (length (resource A r).drivers)) 1 (resource A r).drivers (λ q m. is.known q r m)) (word_wide r l)));
    units = λ x l.
        let u = unit A x in
        let f : Form = UnitForm (length u.ports) u.latency (bits_of u.ops) in
        let few = is.few_ports x l in
        joined_by (unit_cell A u) _ (shape_of_unit A is x l)
        (list_all-append (is_joined_pin (netlist_of A).nets f) (argument_pins A 0 u.ports) (output_pins (word_at A u.out))
        ∙ and_from (joins f (argument_pins A 0 u.ports)) (joins f (output_pins (word_at A u.out)))
        (arguments_join (length u.ports) u.latency (bits_of u.ops) 0 u.ports (omega arith) (λ q m. ports_known x q l m))
        (and_from _ true (word_wide u.out (is_placed A is x l).out) refl));
  }

  none_misjoined : misjoined (netlist_of A) ≡ None
  unfolding misjoined
  none_misjoined =
      first_from-none (λ i c. not (is_joined (netlist_of A).nets c)) 0 (netlist_of A).cells
      (λ k j c at here. not_from_true (is_joined (netlist_of A).nets c) (each_cell A (λ d. is_joined (netlist_of A).nets d ≡ true) all_joined c (Contains-get (netlist_of A).cells k c at)))

  -- ---- muxes form no ring

  falls_by : (s : ℕ) (k : Kind) (b : Bool) (d : List ℕ) → Contains (data_now (word_by A s k b).form (word_by A s k b).ins) d → (t : ℕ) × Contains (resource A s).drivers t × (d ≡ word_at A t) × (delay_by k ≡ 0)
  falls_by s Wire false d m = let (t, a, e) = Contains-map_from (word_at A) (resource A s).drivers d m in (t, a, e, refl)
  falls_by s Port false d m = let (t, a, e) = Contains-map_from (word_at A) (resource A s).drivers d m in (t, a, e, refl)
  falls_by s Wire true d m = absurd (Contains-nil d m)
  falls_by s Port true d m = absurd (Contains-nil d m)
  falls_by s Register true d m = absurd (Contains-nil d m)
  falls_by s Register false d m = absurd (Contains-nil d m)
  falls_by s Out b d m = absurd (Contains-nil d m)

  none_heard : (s : ℕ) (k : Kind) (d : List ℕ) → Contains (data_now (select_by A s k).form (select_by A s k).ins) d → ⊥
  none_heard s Wire d m = Contains-nil d m
  none_heard s Port d m = Contains-nil d m
  none_heard s Register d m = Contains-nil d m
  none_heard s Out d m = Contains-nil d m

  -- the level of the resource that a net is named after
  abbrev level_of : List ℕ → ℕ
  level_of net = is.level (resource_named A (stem net))

  level_word : (r : ℕ) → r < length A.resources → level_of (word_at A r) ≡ is.level r
  level_word r l = ap is.level (resource_found r l)

  falls : (q d : List ℕ) → Hears (netlist_of A) q d → level_of d < level_of q
  falls q d h =
      let c = h.cell in
      let (s, ls, one) = is_one A is c h.there in
      ⊎_elim
      (λ (a, b).
      let (t, m, e, z) = falls_by s (resource A s).kind (is_undriven A s) d (subst (λ (c : Shape). Contains (data_now c.form c.ins) d) a h.hears) in
      let up : is.level t < is.level s = is.rising t s m z in
      let low : level_of d ≡ is.level t = ap level_of e ∙ level_word t (is.known t s m) in
      let high : level_of q ≡ is.level s = ap level_of (sym h.drives ∙ b) ∙ level_word s ls in
      omega arith)
      (λ (a, b). absurd (none_heard s (resource A s).kind d (subst (λ (c : Shape). Contains (data_now c.form c.ins) d) a h.hears)))
      one

  -- so they fall along a ring
  along : (loop : List ℕ) → IsMuxLoop (netlist_of A) loop → (k : ℕ) → k < length loop → level_of (net_name (netlist_of A) (slice_index loop k)) ≤ level_of (net_name (netlist_of A) (slice_index loop 0))
  along loop l zero h = omega arith
  along loop l (suc k) h =
      let before = along loop l k (omega arith) in
      let down = falls (net_name (netlist_of A) (slice_index loop k)) (net_name (netlist_of A) (slice_index loop (k + 1))) (l.links k (omega arith)) in
      let same = ap (λ n. level_of (net_name (netlist_of A) (slice_index loop n))) (add-one k) in
      omega arith

  pub no_loop : HasNoMuxLoop (netlist_of A)
  no_loop loop l =
      let some : 0 < length loop = l.some in
      let round = along loop l (length loop - 1) (omega arith) in
      let back = falls (net_name (netlist_of A) (slice_index loop (length loop - 1))) (net_name (netlist_of A) (slice_index loop 0)) l.closed in
      omega arith

  -- ---- cells are known

  none_repeated : repeated_instance (netlist_of A) ≡ None
  unfolding repeated_instance
  none_repeated =
      first_from-none (λ i (c : Cell). is_before (cell_named (netlist_of A) c.name) i) 0 (netlist_of A).cells
      (λ k j c at here. not_before k j c at here (cell_named (netlist_of A) c.name) refl)
    where
      not_before : (k j : ℕ) (c : Cell) → slice_get (netlist_of A).cells k ≡ Some c → j ≡ 0 + k → (o : Option ℕ) → cell_named (netlist_of A) c.name ≡ o → is_before o j ≡ false
      not_before k j c at here None e = refl
      not_before k j c at here (Some u) e =
          let (n, (x, (begin, (there, named)))) = position_from-found (λ (d : Cell). bytes_eq d.name c.name) 0 (netlist_of A).cells u e in
          let same : n ≡ k = (named_apart A (netlist_of A) is refl).cells n k x c there at (same_text x.name c.name named) in
          le-ltb u j (omega arith)

  known_by : (d : Cell) (s : Shape) → shape_of d ≡ s → is_known A d.name s.form ≡ true → is_known A d.name (form_said d) ≡ true
  known_by d s e h = ap (is_known A d.name) (form_from d s e) ∙ h

  -- a name behind c_ or p_
  select_known : (r : ℕ) → r < length A.resources → 0 < length (resource A r).drivers → option_map_or (gives_select (select_width (resource A r))) (find (λ (q : Resource). bytes_eq q.name (resource A r).name) A.resources) false ≡ true
  select_known r l some =
      ap (λ o. option_map_or (gives_select (select_width (resource A r))) o false) (found_resource r l)
      ∙ and_from (not (eqb (length (resource A r).drivers) 0)) (eqb (select_width (resource A r)) (select_width (resource A r)))
      (ap not (ne_eqb (length (resource A r).drivers) 0 (λ e. omega arith))) (eq-eqb (select_width (resource A r)) (select_width (resource A r)) refl)

  all_known : HoldsOfEach A (λ d. is_known A d.name (form_said d) ≡ true)
  all_known = record {
    zeros = λ r l n e. known_by (zero_cell (resource A r)) _ (shape_of_zero (resource A r)) refl;
    contexts = λ r l n d some. known_by (context_cell (resource A r)) _ (shape_of_context (resource A r) (fed A is r l some)) (select_known r l some);
    muxes = λ r l n d some. known_by (mux_cell A (resource A r)) _ (shape_of_mux A (resource A r) (fed A is r l some)) refl;
    preselects = λ r l e some. known_by (preselect_cell (resource A r)) _ (shape_of_preselect (resource A r) (fed A is r l some)) (select_known r l some);
    registers = λ r l e some. known_by (register_cell A (resource A r)) _ (shape_of_register A (resource A r) (fed A is r l some)) refl;
    units = λ x l.
        let u = unit A x in
        known_by (unit_cell A u) _ (shape_of_unit A is x l)
        (ap (λ o. option_map_or (is_unit_of (length u.ports) u.latency (bits_of u.ops)) o false) (found_unit x l)
        ∙ and_from (eqb (length u.ports) (length u.ports)) (eqb u.latency u.latency && eqb (bits_of u.ops) (bits_of u.ops)) (eq-eqb (length u.ports) (length u.ports) refl)
        (and_from (eqb u.latency u.latency) (eqb (bits_of u.ops) (bits_of u.ops)) (eq-eqb u.latency u.latency refl) (eq-eqb (bits_of u.ops) (bits_of u.ops) refl)));
  }

  none_unknown : unknown_instance A (netlist_of A) ≡ None
  unfolding unknown_instance
  none_unknown =
      first_from-none (λ i (c : Cell). not (is_known A c.name (form_said c))) 0 (netlist_of A).cells
      (λ k j c at here.
      not_from_true (is_known A c.name (form_said c)) (each_cell A (λ d. is_known A d.name (form_said d) ≡ true) all_known c (Contains-get (netlist_of A).cells k c at)))

  has_one : (u : Unit) → Contains A.units u → has_cell (netlist_of A) u ≡ true
  has_one u (x, l, e) =
      let same : unit A x ≡ u = get_or_default A.units x no_unit u l ∙ e in
      let (k, lk, ek) = unit_there A is x l in
      ap (has_cell (netlist_of A)) (sym same)
      ∙ list_any_at (is_instance (unit_instance (unit A x).name)) (shapes (netlist_of A)) k (unit_shape A (unit A x)) lk
      (ap (is_instance (unit_instance (unit A x).name)) ek ∙ text_same (unit_instance (unit A x).name) (unit_instance (unit A x).name) refl)

  none_missing : missing_unit A (netlist_of A) ≡ None
  unfolding missing_unit
  none_missing =
      ap (option_map (λ (u : Unit). u.name)) (none_found (λ u. not (has_cell (netlist_of A) u)) A.units (λ u m. not_from_true (has_cell (netlist_of A) u) (has_one u m)))

  pub early : fault_before_loops (netlist_of A) ≡ None
  unfolding fault_before_loops
  early = ap (λ o. option_or (option_map fault.DriverCount o) (option_map fault.PinNet (misjoined (netlist_of A)))) none_miscounted ∙ ap (option_map fault.PinNet) none_misjoined

  late : fault_after_loops A (netlist_of A) ≡ None
  unfolding fault_after_loops
  late =
      ap (λ o. option_or (option_map fault.RepeatedInstance o) (option_or (option_map fault.UnknownInstance (unknown_instance A (netlist_of A))) (option_map fault.MissingUnit (missing_unit A (netlist_of A))))) none_repeated
      ∙ ap (λ o. option_or (option_map fault.UnknownInstance o) (option_map fault.MissingUnit (missing_unit A (netlist_of A)))) none_unknown
      ∙ ap (option_map fault.MissingUnit) none_missing

  pub accepted : IsAccepted A (netlist_of A)
  accepted = record { early = early; no_loop = no_loop; late = late }
