-- A cell is of a form where its module's name says a form, and its pins have that form's ports.
use Rattle.std.proofs.Common.{ℕ, ◌<◌, List, map, length, get_or, subst, arith, ◌≡◌, Bool, true, false, Option, Some, None, ap, sym, ◌∙◌}
use Rattle.std.specs.Prelude.{◌↔◌, IsTrue}
use Rattle.cg_netlist.specs.declared.forms.Form.{Form}
use Rattle.cg_netlist.specs.Forms.{form_ports, form_of}
use Rattle.cg_netlist.specs.declared.parts.Cell.{Cell}
use Rattle.cg_verilog.specs.declared.module.Cell.{Cell as CellLent}
use Rattle.cg_verilog.specs.Read as modules
use Rattle.cg_netlist.proofs.Called.{form_named, form_only}
use Rattle.cg_netlist_reader.specs.Reading.{ports, IsOf, IsFormed, IsUnknownCell}
use Rattle.cg_netlist_reader.specs.Ported.{cell_taken}
use Rattle.std.proofs.lemmas.Bool.{both_ways}
use Rattle.std.proofs.lemmas.List.{get_or-map, length-map}

-- its form is the one that its module's name says
says : (c : Cell) (f : Form) → IsOf c f → form_of c.«module» ≡ Some f
says c f h = ap form_of h.called ∙ form_named f h.valid

abbrev in_option : Form → Option Form → Form
in_option g None = g
in_option g (Some f) = f

pub formed_found : (c : Cell) (f : Form) (r : Bool) → form_of c.«module» ≡ Some f → (IsTrue r ↔ (ports c ≡ form_ports f)) → (IsTrue r ↔ IsFormed c)
formed_found c f r said fits = (
  λ e. let own = form_only c.«module» f said in (f, record { valid = own.1; called = own.0; ports = fits.0 e }),
  λ h.
      let same : h.0 ≡ f = ap (in_option f) (sym (says c h.0 h.1) ∙ said) in
      fits.1 (h.1.ports ∙ ap form_ports same),
)

pub formed_missed : (c : Cell) → form_of c.«module» ≡ None → (IsTrue false ↔ IsFormed c)
formed_missed c none = (
  λ e. let bad : false ≡ true = e in absurd (cc),
  λ h. let both : Some h.0 ≡ None = sym (says c h.0 h.1) ∙ none in absurd (cc),
)

-- ---- cells of a text

abbrev taken : List CellLent → List Cell
taken cells = map cell_taken (map modules.cell_of cells)

taken_at : (cells : List CellLent) (i : ℕ) (x : CellLent) (d : Cell) → x ≡ get_or cells i x → i < length cells → get_or (taken cells) i d ≡ cell_taken (modules.cell_of x)
taken_at cells i x d is l =
    let all : length (map modules.cell_of cells) ≡ length cells = length-map cells modules.cell_of in
    get_or-map cell_taken (map modules.cell_of cells) i (modules.cell_of x) d (omega (arith, all, l))
    ∙ ap cell_taken (get_or-map modules.cell_of cells i x (modules.cell_of x) l ∙ ap modules.cell_of (sym is))

pub formed_here : (cells : List CellLent) (i : ℕ) (x : CellLent) (b : Bool) → x ≡ get_or cells i x → i < length cells → (IsTrue b ↔ IsFormed (cell_taken (modules.cell_of x))) → b ≡ true → (d : Cell) → IsFormed (get_or (taken cells) i d)
formed_here cells i x b is l h e = λ d. subst IsFormed (sym (taken_at cells i x d is l)) (h.0 e)

pub unknown_here : (cells : List CellLent) (i : ℕ) (x : CellLent) (b : Bool) → x ≡ get_or cells i x → i < length cells → ((k : ℕ) (d : Cell) → k < i → IsFormed (get_or (taken cells) k d))
    → (IsTrue b ↔ IsFormed (cell_taken (modules.cell_of x))) → b ≡ false → IsUnknownCell (taken cells) i
unknown_here cells i x b is l before h e =
    let all : length (map modules.cell_of cells) ≡ length cells = length-map cells modules.cell_of in
    let more : length (taken cells) ≡ length (map modules.cell_of cells) = length-map (map modules.cell_of cells) cell_taken in
    record {
      within = omega (arith, all, more, l);
      before = λ j d less. before j d less;
      there = λ d k. both_ways b e (h.1 (subst IsFormed (taken_at cells i x d is l) k));
    }
