-- What cells of a netlist without late faults are named after.
use Rattle.std.proofs.Common.{◌≡◌, ℕ, ◌<◌, true, false, List, length, Option, Some, None, refl, ap, sym, ◌∙◌, arith}
use Rattle.std.specs.Prelude.{Contains, bytes_eq, find, not}
use Rattle.std.specs.List.{position_or_len}
use Rattle.std.specs.Option.{option_map, option_map_or}
use Rattle.std.proofs.lemmas.Bool.{and_parts, not-false, true≢false}
use Rattle.std.proofs.lemmas.List.Folds.{find_at}
use Rattle.std.proofs.lemmas.Option.{slice_get_within, slice_get-get_or}
use Rattle.cg_model.specs.declared.array.Resource.{Resource}
use Rattle.cg_model.specs.declared.array.Unit.{Unit}
use Rattle.cg_model.specs.Array.{Arch}
use Rattle.cg_model.proofs.Options.{or_none, map_none}
use Rattle.cg_model.proofs.Positions.{first_from_none}
use Rattle.cg_netlist.specs.declared.forms.Form.{Form}
use Rattle.cg_netlist.specs.declared.forms.Form.TheVariants.{Context as ContextForm, Preselect as PreselectForm, Mux as MuxForm, Register as RegisterForm, Zero as ZeroForm, FunctionalUnit as UnitForm}
use Rattle.cg_netlist.specs.declared.parts.Cell.{Cell}
use Rattle.cg_netlist.specs.Forms.{begins}
use Rattle.cg_netlist.specs.Netlist.{NetGraph}
use Rattle.cg_gates.specs.Shape.{form_said}
use Rattle.cg_gates.specs.Gates.{stem, resource_named}
use Rattle.cg_gates.specs.Accepts.{is_known, names_resource, gives_select, unknown_instance, repeated_instance, missing_unit, has_cell, fault_after_loops}
use Rattle.cg_gates.specs.declared.fault.GateFault.TheVariants as fault
use Rattle.cg_gates_run.specs.declared.selects.Given.{Given}
use Rattle.cg_gates_run.specs.declared.selects.Given.TheVariants.{Now, Next}
use Rattle.cg_gates_run.specs.Kept.{front_of, is_given}
use Rattle.cg_gates.proofs.Finds.{find_none}

module _ (A : Arch) (N : NetGraph) (late : fault_after_loops A N ≡ None) where
  -- none of the late faults
  later : (unknown_instance A N ≡ None) × (missing_unit A N ≡ None)
  unfolding fault_after_loops
  later =
      let one = or_none (option_map fault.RepeatedInstance (repeated_instance N)) _ late in
      let two = or_none (option_map fault.UnknownInstance (unknown_instance A N)) (option_map fault.MissingUnit (missing_unit A N)) one.1 in
      (map_none fault.UnknownInstance (unknown_instance A N) two.0, map_none fault.MissingUnit (missing_unit A N) two.1)

  pub cell_known : (d : Cell) → Contains N.cells d → is_known A d.name (form_said d) ≡ true
  unfolding unknown_instance
  cell_known d (k, l, e) =
      not-false (is_known A d.name (form_said d))
      (first_from_none (λ i (c : Cell). not (is_known A c.name (form_said c))) 0 N.cells k k d later.0 (slice_get-get_or N.cells k d l ∙ ap Some e) (omega arith))

  pub unit_has_cell : (u : Unit) → Contains A.units u → has_cell N u ≡ true
  unfolding missing_unit
  unit_has_cell u m =
      not-false (has_cell N u) (find_none (λ u. not (has_cell N u)) A.units u (map_none (λ (u : Unit). u.name) (find (λ u. not (has_cell N u)) A.units) later.1) m)

-- a resource of that name is there
named_there : (A : Arch) (w : ℕ) (name : List ℕ) → option_map_or (gives_select w) (find (λ (r : Resource). bytes_eq r.name name) A.resources) false ≡ true → resource_named A name < length A.resources
unfolding resource_named
named_there A w name e = by (find (λ (r : Resource). bytes_eq r.name name) A.resources) refl
  where
    by : (o : Option Resource) → find (λ (r : Resource). bytes_eq r.name name) A.resources ≡ o → position_or_len (λ (r : Resource). bytes_eq r.name name) A.resources < length A.resources
    by None is = absurd (true≢false (sym e ∙ ap (λ o. option_map_or (gives_select w) o false) is))
    by (Some r) is = slice_get_within A.resources (position_or_len (λ (r : Resource). bytes_eq r.name name) A.resources) r (sym (find_at (λ (r : Resource). bytes_eq r.name name) A.resources) ∙ is)

-- a cell that gives selects is named, behind its letter, after a resource
pub record IsNamed (A : Arch) (front name : List ℕ) : Type 0 where
  pub begun : begins front name ≡ true
  pub known : resource_named A (stem name) < length A.resources

named_by : (A : Arch) (front : List ℕ) (w : ℕ) (name : List ℕ) → names_resource A front w name ≡ true → IsNamed A front name
named_by A front w name e =
    let both = and_parts (begins front name) (option_map_or (gives_select w) (find (λ (r : Resource). bytes_eq r.name (stem name)) A.resources) false) e in
    record { begun = both.0; known = named_there A w (stem name) both.1 }

pub given_named : (A : Arch) (g : Given) (name : List ℕ) (f : Form) → is_given g f ≡ true → is_known A name f ≡ true → IsNamed A (front_of g) name
given_named A Now name (ContextForm w) is e = named_by A (front_of Now) w name e
given_named A Now name (PreselectForm w) is e = absurd (true≢false (sym is))
given_named A Now name (MuxForm k) is e = absurd (true≢false (sym is))
given_named A Now name (RegisterForm k) is e = absurd (true≢false (sym is))
given_named A Now name ZeroForm is e = absurd (true≢false (sym is))
given_named A Now name (UnitForm p l h) is e = absurd (true≢false (sym is))
given_named A Next name (PreselectForm w) is e = named_by A (front_of Next) w name e
given_named A Next name (ContextForm w) is e = absurd (true≢false (sym is))
given_named A Next name (MuxForm k) is e = absurd (true≢false (sym is))
given_named A Next name (RegisterForm k) is e = absurd (true≢false (sym is))
given_named A Next name ZeroForm is e = absurd (true≢false (sym is))
given_named A Next name (UnitForm p l h) is e = absurd (true≢false (sym is))
