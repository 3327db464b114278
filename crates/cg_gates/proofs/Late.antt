-- In a netlist without the faults that come after loops cells are named after what the architecture has.
use Rattle.std.proofs.Common.{◌≡◌, ◌≤◌, ⊎_elim, ℕ, ◌<◌, ◌⊎◌, inl, inr, true, false, ◌&&◌, not, eqb, List, [], length, Option, Some, None, refl, ap, sym, ◌∙◌, arith}
use Rattle.std.specs.Prelude.{Contains, codes, bytes_eq, find, slice_get}
use Rattle.std.specs.List.{position_or_len}
use Rattle.std.specs.Option.{option_map, option_map_or, option_or}
use Rattle.std.proofs.lemmas.Bool.{true≢false, cases_order, and_parts, not-false, not-true, eqb-true}
use Rattle.std.proofs.lemmas.List.{length-map, get_or-map}
use Rattle.std.proofs.lemmas.List.Elements.{Contains-get_or}
use Rattle.std.proofs.lemmas.List.Folds.{find_at}
use Rattle.std.proofs.lemmas.Option.{slice_get-get_or, slice_get_within, get_or_from_slice_get}
use Rattle.cg_model.specs.declared.array.Kind.TheVariants.{Wire}
use Rattle.cg_model.specs.declared.array.Resource.{Resource}
use Rattle.cg_model.specs.declared.array.Unit.{Unit}
use Rattle.cg_model.specs.Array.{Arch, resource, unit}
use Rattle.cg_model.specs.First.{is_before}
use Rattle.cg_model.proofs.Options.{or_none, map_none}
use Rattle.cg_model.proofs.Positions.{first_from_none, position_from-reached, not_before}
use Rattle.cg_model.proofs.Elements.{any_true}
use Rattle.cg_model.proofs.Lookups.{Contains-get}
use Rattle.cg_netlist.specs.declared.forms.Form.TheVariants.{Context as ContextForm, Preselect as PreselectForm, FunctionalUnit as UnitForm}
use Rattle.cg_netlist.specs.declared.parts.Cell.{Cell}
use Rattle.cg_netlist.specs.Forms.{begins}
use Rattle.cg_netlist.specs.Netlist.{NetGraph, select_width, bits_of}
use Rattle.cg_gates.specs.Shape.{Shape, shapes, shape_of, form_said, is_unit}
use Rattle.cg_gates.specs.Gates.{stem, resource_named, unit_named, unit_instance, is_instance, pins_named}
use Rattle.cg_gates.specs.Accepts.{gives_select, is_unit_of, is_known, cell_named, has_cell, repeated_instance, unknown_instance, missing_unit, fault_after_loops}
use Rattle.cg_gates.specs.declared.fault.GateFault.TheVariants as fault
use Rattle.cg_gates.proofs.Finds.{same_text, text_same, Contains-map_from, find_none, find_only}
use Rattle.cg_gates.proofs.Early.{cell_at, shape_at}
use Rattle.cg_gates.proofs.Cells.{form_from, name_from}

-- a cell that gives selects, of that width, is named after resource r
pub record GivesSelect (A : Arch) (w r : ℕ) : Type 0 where
  pub within : r < length A.resources
  pub some : eqb (length (resource A r).drivers) 0 ≡ false
  pub wide : select_width (resource A r) ≡ w

-- a unit's cell is named after unit x
pub record IsUnitOf (A : Arch) (p l h x : ℕ) : Type 0 where
  pub within : x < length A.units
  pub ports : length (unit A x).ports ≡ p
  pub latency : (unit A x).latency ≡ l
  pub operations : bits_of (unit A x).ops ≡ h

select_named : (A : Arch) (w : ℕ) (name : List ℕ) (o : Option Resource) → find (λ (r : Resource). bytes_eq r.name name) A.resources ≡ o → option_map_or (gives_select w) o false ≡ true → GivesSelect A w (resource_named A name)
unfolding resource_named
select_named A w name None e known = absurd (true≢false (sym known))
select_named A w name (Some r) e known =
    let at : slice_get A.resources (position_or_len (λ (r : Resource). bytes_eq r.name name) A.resources) ≡ Some r = sym (find_at (λ (r : Resource). bytes_eq r.name name) A.resources) ∙ e in
    let both = and_parts (not (eqb (length r.drivers) 0)) (eqb (select_width r) w) known in
    let same : resource A (position_or_len (λ (r : Resource). bytes_eq r.name name) A.resources) ≡ r =
    get_or_from_slice_get A.resources (position_or_len (λ (r : Resource). bytes_eq r.name name) A.resources) r (record { name = []; kind = Wire; drivers = [] }) at in
    record {
      within = slice_get_within A.resources (position_or_len (λ (r : Resource). bytes_eq r.name name) A.resources) r at;
      some = ap (λ (r : Resource). eqb (length r.drivers) 0) same ∙ not-true (eqb (length r.drivers) 0) both.0;
      wide = ap (λ (r : Resource). select_width r) same ∙ eqb-true (select_width r) w both.1;
    }

unit_by : (A : Arch) (p l h : ℕ) (name : List ℕ) (o : Option Unit) → find (λ (u : Unit). bytes_eq u.name name) A.units ≡ o → option_map_or (is_unit_of p l h) o false ≡ true → IsUnitOf A p l h (unit_named A name)
unfolding unit_named
unit_by A p l h name None e known = absurd (true≢false (sym known))
unit_by A p l h name (Some u) e known =
    let at : slice_get A.units (position_or_len (λ (u : Unit). bytes_eq u.name name) A.units) ≡ Some u = sym (find_at (λ (u : Unit). bytes_eq u.name name) A.units) ∙ e in
    let one = and_parts (eqb (length u.ports) p) (eqb u.latency l && eqb (bits_of u.ops) h) known in
    let two = and_parts (eqb u.latency l) (eqb (bits_of u.ops) h) one.1 in
    let same : unit A (position_or_len (λ (u : Unit). bytes_eq u.name name) A.units) ≡ u =
    get_or_from_slice_get A.units (position_or_len (λ (u : Unit). bytes_eq u.name name) A.units) u (record { name = []; ops = []; latency = 1; ports = []; out = 0 }) at in
    record {
      within = slice_get_within A.units (position_or_len (λ (u : Unit). bytes_eq u.name name) A.units) u at;
      ports = ap (λ (u : Unit). length u.ports) same ∙ eqb-true (length u.ports) p one.0;
      latency = ap (λ (u : Unit). u.latency) same ∙ eqb-true u.latency l two.0;
      operations = ap (λ (u : Unit). bits_of u.ops) same ∙ eqb-true (bits_of u.ops) h two.1;
    }

module _ (A : Arch) (N : NetGraph) (late : fault_after_loops A N ≡ None) where
  none_late : (repeated_instance N ≡ None) × (unknown_instance A N ≡ None) × (missing_unit A N ≡ None)
  unfolding fault_after_loops
  none_late =
      let one = or_none (option_map fault.RepeatedInstance (repeated_instance N)) (option_or (option_map fault.UnknownInstance (unknown_instance A N)) (option_map fault.MissingUnit (missing_unit A N))) late in
      let two = or_none (option_map fault.UnknownInstance (unknown_instance A N)) (option_map fault.MissingUnit (missing_unit A N)) one.1 in
      (map_none fault.RepeatedInstance (repeated_instance N) one.0, map_none fault.UnknownInstance (unknown_instance A N) two.0, map_none fault.MissingUnit (missing_unit A N) two.1)

  -- each cell is known
  cell_known : (d : Cell) → Contains N.cells d → is_known A d.name (form_said d) ≡ true
  unfolding unknown_instance
  cell_known d (k, l, e) =
      not-false (is_known A d.name (form_said d))
      (first_from_none (λ i (c : Cell). not (is_known A c.name (form_said c))) 0 N.cells k k d none_late.1 (slice_get-get_or N.cells k d l ∙ ap Some e) (omega arith))

  pub shape_known : (c : Shape) → Contains (shapes N) c → is_known A c.name c.form ≡ true
  shape_known c m =
      let (d, a, e) = Contains-map_from shape_of N.cells c m in
      ap (λ n. is_known A n c.form) (sym (name_from d c (sym e))) ∙ ap (is_known A d.name) (sym (form_from d c (sym e))) ∙ cell_known d a

  -- a context or a preselect
  pub select_known : (c : Shape) (w : ℕ) → Contains (shapes N) c → (c.form ≡ ContextForm w) ⊎ (c.form ≡ PreselectForm w) → GivesSelect A w (resource_named A (stem c.name))
  select_known c w m (inl e) =
      let known : is_known A c.name (ContextForm w) ≡ true = ap (is_known A c.name) (sym e) ∙ shape_known c m in
      select_named A w (stem c.name) (find (λ (r : Resource). bytes_eq r.name (stem c.name)) A.resources) refl (and_parts (begins (codes "c_") c.name) _ known).1
  select_known c w m (inr e) =
      let known : is_known A c.name (PreselectForm w) ≡ true = ap (is_known A c.name) (sym e) ∙ shape_known c m in
      select_named A w (stem c.name) (find (λ (r : Resource). bytes_eq r.name (stem c.name)) A.resources) refl (and_parts (begins (codes "p_") c.name) _ known).1

  -- a unit's cell
  pub unit_known : (c : Shape) (p l h : ℕ) → Contains (shapes N) c → c.form ≡ UnitForm p l h → IsUnitOf A p l h (unit_named A (stem c.name))
  unit_known c p l h m e =
      let known : is_known A c.name (UnitForm p l h) ≡ true = ap (is_known A c.name) (sym e) ∙ shape_known c m in
      unit_by A p l h (stem c.name) (find (λ (u : Unit). bytes_eq u.name (stem c.name)) A.units) refl (and_parts (begins (codes "u_") c.name) _ known).1

  -- no two cells have one name
  apart : (i j : ℕ) → i < j → j < length N.cells → (cell_at N i).name ≡ (cell_at N j).name → ⊥
  unfolding repeated_instance
  apart i j lt l e =
      let at : slice_get N.cells i ≡ Some (cell_at N i) = slice_get-get_or N.cells i _ (omega arith) in
      let (u, (first, low)) = position_from-reached (λ (d : Cell). bytes_eq d.name (cell_at N j).name) 0 N.cells i i (cell_at N i) at (text_same (cell_at N i).name (cell_at N j).name e) (omega arith) in
      let none = first_from_none (λ i (c : Cell). is_before (cell_named N c.name) i) 0 N.cells j j (cell_at N j) none_late.0 (slice_get-get_or N.cells j _ l) (omega arith) in
      let high : j ≤ u = not_before (cell_named N (cell_at N j).name) u j first none in
      omega arith

  pub named_once : (i j : ℕ) → i < length N.cells → j < length N.cells → (cell_at N i).name ≡ (cell_at N j).name → i ≡ j
  named_once i j l m e = ⊎_elim (λ same. same) (λ other. ⊎_elim (λ lt. absurd (apart i j lt m e)) (λ lt. absurd (apart j i lt l (sym e))) other) (cases_order i j)

  pub same_named : (b c : Shape) → Contains (shapes N) b → Contains (shapes N) c → b.name ≡ c.name → b ≡ c
  same_named b c (i, li, ei) (j, lj, ej) e =
      let long : length (shapes N) ≡ length N.cells = length-map N.cells shape_of in
      let at : shape_at N i ≡ b = sym (get_or-map shape_of N.cells i _ b (omega arith)) ∙ ei in
      let and : shape_at N j ≡ c = sym (get_or-map shape_of N.cells j _ c (omega arith)) ∙ ej in
      let same : i ≡ j = named_once i j (omega arith) (omega arith) (name_from (cell_at N i) b at ∙ e ∙ sym (name_from (cell_at N j) c and)) in
      sym at ∙ ap (shape_at N) same ∙ and

  -- each unit has a cell, whose pins are found by its name
  pub unit_has : (x : ℕ) → x < length A.units → (c : Shape) × Contains (shapes N) c × (is_unit c.form ≡ true) × (c.name ≡ unit_instance (unit A x).name) × (pins_named (unit_instance (unit A x).name) (shapes N) ≡ c.ins)
  unfolding missing_unit
  unit_has x l =
      let name : List ℕ = unit_instance (unit A x).name in
      let none = map_none (λ (u : Unit). u.name) (find (λ u. not (has_cell N u)) A.units) none_late.2 in
      let has = not-false (has_cell N (unit A x)) (find_none (λ u. not (has_cell N u)) A.units (unit A x) none (Contains-get_or A.units x _ l)) in
      let (i, (c, (at, passes))) = any_true (is_instance name) (shapes N) has in
      let both = and_parts (is_unit c.form) (bytes_eq c.name name) passes in
      let there : Contains (shapes N) c = Contains-get (shapes N) i c at in (
        c,
        there,
        both.0,
        same_text c.name name both.1,
        ap (λ o. option_map_or (λ (c : Shape). c.ins) o [])
            (find_only (is_instance name) (shapes N) c there passes
            (λ d m f. same_named d c m there (same_text d.name name (and_parts (is_unit d.form) (bytes_eq d.name name) f).1 ∙ sym (same_text c.name name both.1)))),
      )
