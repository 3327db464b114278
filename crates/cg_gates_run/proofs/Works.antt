-- What the units of a netlist begin on the words of a cycle.
use Rattle.std.proofs.Common.{◌≡◌, ℕ, ◌-◌, ◌/◌, ◌%◌, ◌<◌, ◌≤◌, List, [], length, Option, Some, None, refl, sym, ap, ◌∙◌, subst, arith, ⊎_elim}
use Rattle.std.specs.Prelude.{bytes_eq, find, slice_index, slice_get}
use Rattle.std.specs.Option.{option_map_or}
use Rattle.std.proofs.Math.Path.{fun_ext}
use Rattle.std.proofs.lemmas.Bool.{cases_lt, and_parts}
use Rattle.std.proofs.lemmas.List.{get_or_past, get_or_default}
use Rattle.std.proofs.lemmas.Nat.{mod_below}
use Rattle.std.proofs.lemmas.Option.{slice_get_past}
use Rattle.cg_model.specs.declared.config.UnitFields.{UnitFields}
use Rattle.cg_model.specs.Array.{Arch, unit}
use Rattle.cg_model.specs.Config.{Config, fields}
use Rattle.cg_model.specs.Work.{Image}
use Rattle.cg_model.specs.Machine.{begun}
use Rattle.cg_datapath.specs.Terminals.{terminals, on_ports, works_on}
use Rattle.cg_datapath.specs.Course.{Course, works}
use Rattle.cg_datapath.proofs.Facts.{off_past}
use Rattle.cg_netlist.specs.declared.forms.Form.TheVariants.{FunctionalUnit as UnitForm}
use Rattle.cg_netlist.specs.Forms.{IsForm}
use Rattle.cg_netlist.specs.Netlist.{NetGraph}
use Rattle.cg_gates.specs.Shape.{Shape, shapes, is_unit}
use Rattle.cg_gates.specs.Gates.{unit_instance, is_instance, pins_named, GateCycle, word_on, nets_in, gate_works}
use Rattle.cg_gates.specs.Tables.{IsPinNumber}
use Rattle.cg_gates.proofs.Finds.{find_from}
use Rattle.cg_gates.proofs.Early.{IsMeant, in_count, meant}
use Rattle.cg_gates_run.specs.Settle.{IsFitted, IsSettled}
use Rattle.cg_gates_run.specs.State.{HaveThree}
use Rattle.cg_gates_run.proofs.Cells.{unit_form}
use Rattle.cg_gates_run.proofs.Settled.{units_long}

module _ (A : Arch) (N : NetGraph) (C : Config) (k : Course) (fit : IsFitted A N C k) where
  -- a unit's cell has at most three pins besides clk, rst and q
  few_pins : (name : List ℕ) (o : Option Shape) → find (is_instance name) (shapes N) ≡ o → length (option_map_or (λ (c : Shape). c.ins) o []) ≤ 3
  few_pins name None e = omega arith
  few_pins name (Some c) e =
      let (there, is) = find_from (is_instance name) (shapes N) c e in
      let (p, l, h, form) = unit_form c.form (and_parts (is_unit c.form) (bytes_eq c.name name) is).0 in
      let m : IsMeant N c = meant N fit.accepted.early fit.graph c there in
      let valid : IsForm (UnitForm p l h) = subst IsForm form m.valid in
      let many : length c.ins ≡ p = m.many ∙ ap in_count form in
      let few : p ≤ 3 = valid.0 in
      omega arith

  module _ (three : HaveThree k.terminals) (past : List GateCycle) (words : List ℕ) (is : IsSettled N words (nets_in A N C k.done past)) where
    abbrev now : List ℕ → ℕ
    now = nets_in A N C k.done past

    pin_word : (o : Option (List ℕ)) (i : ℕ) → IsPinNumber N o i → slice_index words i ≡ word_on now o
    pin_word None i e = ap (slice_index words) e ∙ is.by_net.none
    pin_word (Some net) i n = is.are i n.within ∙ ap now n.named

    -- the words on a unit's ports are those on the pins of its cell
    on_pins : (x p : ℕ) → x < length A.units → on_ports (terminals k.terminals x).ports words p ≡ word_on now (slice_get (pins_named (unit_instance (unit A x).name) (shapes N)) p)
    on_pins x p l =
        let ports = (terminals k.terminals x).ports in
        let pins = pins_named (unit_instance (unit A x).name) (shapes N) in
        let many = units_long A N C k fit in
        let long : length ports ≡ 3 = three x (omega arith) in
        ⊎_elim
        (λ low. ap (slice_index words) (get_or_default ports p (length words - 1) 0 (omega arith)) ∙ pin_word (slice_get pins p) (slice_index ports p) ((fit.terminals.each x l).ports p low))
        (λ high.
        let all = is.by_net.long in
        let last : length words - 1 ≡ length N.nets = omega arith in
        let few = few_pins (unit_instance (unit A x).name) (find (is_instance (unit_instance (unit A x).name)) (shapes N)) refl in
        ap (slice_index words) (get_or_past ports p (length words - 1) (omega arith) ∙ last)
        ∙ is.by_net.none ∙ sym (ap (word_on now) (slice_get_past pins p (omega arith))))
        (cases_lt p 3)

    works_right : (image : Image) (x : ℕ) → works k words x ≡ gate_works A N C k.n image k.done past x
    works_right image x =
        let slot : k.done % C.ii < C.ii = mod_below k.done C.ii fit.canonical.interval in
        ap (λ (Z : Config). works_on Z k.terminals k.n (k.done % Z.ii) (k.done / Z.ii) words x) fit.config
        ∙ ⊎_elim
        (λ l. ap (begun (fields C x (k.done % C.ii)) k.n (k.done / C.ii)) (fun_ext (λ p. on_pins x p l)))
        (λ l.
        let off = off_past A C fit.canonical x (k.done % C.ii) slot l in
        ap (λ (F : UnitFields). begun F k.n (k.done / C.ii) (on_ports (terminals k.terminals x).ports words)) off
        ∙ sym (ap (λ (F : UnitFields). begun F k.n (k.done / C.ii) (λ p. word_on now (slice_get (pins_named (unit_instance (unit A x).name) (shapes N)) p))) off))
        (cases_lt x (length A.units))

    pub works_same : (image : Image) → works k words ≡ (λ x. gate_works A N C k.n image k.done past x)
    works_same image = fun_ext (works_right image)
