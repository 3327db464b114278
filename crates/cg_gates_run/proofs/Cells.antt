-- What the cells of an accepted netlist are.
use Rattle.std.proofs.Common.{◌≡◌, ℕ, ◌<◌, true, ◌++◌, List, [], length, take, drop, Some, refl, sym, ap, ◌∙◌}
use Rattle.std.specs.Prelude.{Contains, codes, bytes_eq, find}
use Rattle.std.specs.List.{position_or_len}
use Rattle.std.proofs.lemmas.Bool.{true≢false, and_parts}
use Rattle.std.proofs.lemmas.List.{take-append-drop}
use Rattle.std.proofs.lemmas.List.Folds.{find_at}
use Rattle.std.proofs.lemmas.Option.{slice_get-get_or}
use Rattle.cg_model.specs.declared.array.Unit.{Unit}
use Rattle.cg_model.specs.Array.{Arch, IsArch, unit}
use Rattle.cg_netlist.specs.declared.forms.Form.{Form}
use Rattle.cg_netlist.specs.declared.forms.Form.TheVariants.{Context as ContextForm, Preselect as PreselectForm, Mux as MuxForm, Register as RegisterForm, Zero as ZeroForm, FunctionalUnit as UnitForm}
use Rattle.cg_netlist.specs.Netlist.{NetGraph}
use Rattle.cg_gates.specs.Shape.{Shape, shapes, is_context, is_preselect, is_mux, is_register, is_unit}
use Rattle.cg_gates.specs.Gates.{stem, unit_named, unit_instance}
use Rattle.cg_gates.specs.Accepts.{is_known, IsAccepted}
use Rattle.cg_gates.proofs.Finds.{find_from, same_text}
use Rattle.cg_gates.proofs.Own.{unit_found}
use Rattle.cg_gates.proofs.Late.{shape_known, unit_known}

-- ---- forms

pub context_form : (f : Form) → is_context f ≡ true → (w : ℕ) × (f ≡ ContextForm w)
context_form (ContextForm w) e = (w, refl)
context_form (PreselectForm w) e = absurd (true≢false (sym e))
context_form (MuxForm k) e = absurd (true≢false (sym e))
context_form (RegisterForm k) e = absurd (true≢false (sym e))
context_form ZeroForm e = absurd (true≢false (sym e))
context_form (UnitForm p l h) e = absurd (true≢false (sym e))

pub preselect_form : (f : Form) → is_preselect f ≡ true → (w : ℕ) × (f ≡ PreselectForm w)
preselect_form (ContextForm w) e = absurd (true≢false (sym e))
preselect_form (PreselectForm w) e = (w, refl)
preselect_form (MuxForm k) e = absurd (true≢false (sym e))
preselect_form (RegisterForm k) e = absurd (true≢false (sym e))
preselect_form ZeroForm e = absurd (true≢false (sym e))
preselect_form (UnitForm p l h) e = absurd (true≢false (sym e))

pub mux_form : (f : Form) → is_mux f ≡ true → (k : ℕ) × (f ≡ MuxForm k)
mux_form (ContextForm w) e = absurd (true≢false (sym e))
mux_form (PreselectForm w) e = absurd (true≢false (sym e))
mux_form (MuxForm k) e = (k, refl)
mux_form (RegisterForm k) e = absurd (true≢false (sym e))
mux_form ZeroForm e = absurd (true≢false (sym e))
mux_form (UnitForm p l h) e = absurd (true≢false (sym e))

pub register_form : (f : Form) → is_register f ≡ true → (k : ℕ) × (f ≡ RegisterForm k)
register_form (ContextForm w) e = absurd (true≢false (sym e))
register_form (PreselectForm w) e = absurd (true≢false (sym e))
register_form (MuxForm k) e = absurd (true≢false (sym e))
register_form (RegisterForm k) e = (k, refl)
register_form ZeroForm e = absurd (true≢false (sym e))
register_form (UnitForm p l h) e = absurd (true≢false (sym e))

pub unit_form : (f : Form) → is_unit f ≡ true → (p : ℕ) × (l : ℕ) × (h : ℕ) × (f ≡ UnitForm p l h)
unit_form (ContextForm w) e = absurd (true≢false (sym e))
unit_form (PreselectForm w) e = absurd (true≢false (sym e))
unit_form (MuxForm k) e = absurd (true≢false (sym e))
unit_form (RegisterForm k) e = absurd (true≢false (sym e))
unit_form ZeroForm e = absurd (true≢false (sym e))
unit_form (UnitForm p l h) e = (p, l, h, refl)

-- ---- names

-- a name that begins with `u_` is that of its stem's unit
unit_begins : (name : List ℕ) → bytes_eq (take 2 name) (codes "u_") ≡ true → name ≡ unit_instance (stem name)
unit_begins name e = sym (take-append-drop 2 name) ∙ ap (λ z. z ++ drop 2 name) (same_text (take 2 name) (codes "u_") e)

-- a unit is named so
named_at : (A : Arch) (name : List ℕ) → unit_named A name < length A.units → (unit A (unit_named A name)).name ≡ name
unfolding unit_named
named_at A name l =
    let x = position_or_len (λ (u : Unit). bytes_eq u.name name) A.units in
    let found : find (λ (u : Unit). bytes_eq u.name name) A.units ≡ Some (unit A x) =
    find_at (λ (u : Unit). bytes_eq u.name name) A.units ∙ slice_get-get_or A.units x (record { name = []; ops = []; latency = 1; ports = []; out = 0 }) l in
    same_text (unit A x).name name (find_from (λ (u : Unit). bytes_eq u.name name) A.units (unit A x) found).1

-- a unit's cell is that of unit x
pub record IsCellOf (A : Arch) (y : Shape) (l x : ℕ) : Type 0 where
  pub within : x < length A.units
  pub number : unit_named A (stem y.name) ≡ x
  pub named : y.name ≡ unit_instance (unit A x).name
  pub latency : (unit A x).latency ≡ l

module _ (A : Arch) (N : NetGraph) (valid : IsArch A) (ok : IsAccepted A N) where
  -- each unit's cell is that of some unit
  pub cell_unit : (y : Shape) (p l h : ℕ) → Contains (shapes N) y → y.form ≡ UnitForm p l h → (x : ℕ) × IsCellOf A y l x
  cell_unit y p l h there e =
      let is = unit_known A N ok.late y p l h there e in
      let known : is_known A y.name (UnitForm p l h) ≡ true = ap (is_known A y.name) (sym e) ∙ shape_known A N ok.late y there in
      let named : y.name ≡ unit_instance (stem y.name) = unit_begins y.name (and_parts (bytes_eq (take 2 y.name) (codes "u_")) _ known).0 in (
        unit_named A (stem y.name),
        record {
          within = is.within;
          number = refl;
          named = named ∙ ap unit_instance (sym (named_at A (stem y.name) is.within));
          latency = is.latency;
        },
      )

  -- the cell that is named after unit x is that of unit x
  pub unit_cell : (y : Shape) (p l h x : ℕ) → Contains (shapes N) y → y.form ≡ UnitForm p l h → x < length A.units → y.name ≡ unit_instance (unit A x).name → IsCellOf A y l x
  unit_cell y p l h x there e within named =
      let is = unit_known A N ok.late y p l h there e in
      let number : unit_named A (stem y.name) ≡ x = ap (λ n. unit_named A (stem n)) named ∙ unit_found A valid x within in
      record { within = within; number = number; named = named; latency = ap (λ z. (unit A z).latency) (sym number) ∙ is.latency }
