use Rattle.std.proofs.Common.{◌≡◌, List, IfOk, map, ap, ◌∙◌, subst, Bool}
use Rattle.std.specs.Prelude.{find, is_some, not}
use Rattle.std.specs.Option.{option_map}
use mathlib.Core.Path.{fun_ext}
use Rattle.cg_model.specs.declared.array.Unit.{Unit}
use Rattle.cg_netlist.specs.declared.parts.Cell.{Cell}
use Rattle.cg_gates.specs.Shape.{shape_of, shapes}
use Rattle.cg_gates.specs.Gates.{is_instance, unit_instance}
use Rattle.cg_gates.specs.Accepts.{missing_unit, has_cell}
use Rattle.cg_gates.specs.Numbers.{AreFirst, has_no_number}
use Rattle.cg_gates.proofs.Places.{any_is}
use Rattle.cg_gates.proofs.missing.missing_unit.Goals as goal

pub returns : goal.returns
unfolding missing_unit
returns c =
    let N = c.args.netlist.now in
    let numbers = c.in_ok-cells.cells in
    let R : List Cell → Type 0 = λ cells. AreFirst numbers is_instance (map shape_of cells) in
    let own : AreFirst numbers is_instance (shapes N) = subst R c.cells.ensures.cells c.in_ok-cells.ensures in
    let same : (u : Unit) → has_no_number numbers u ≡ not (has_cell N u) =
    λ u. ap (λ o. not (is_some o)) (own.found (unit_instance u.name)) ∙ ap not (any_is (is_instance (unit_instance u.name)) 0 (shapes N)) in
    let P : (Unit → Bool) → Type 0 = λ t. IfOk c.first_missing.result (λ found. found ≡ option_map (λ (u : Unit). u.name) (find t c.args.arch.now.units)) in
    let Q : List Unit → Type 0 = λ units. IfOk c.first_missing.result (λ found. found ≡ option_map (λ (u : Unit). u.name) (find (has_no_number numbers) units)) in
    subst P (fun_ext same) (subst Q c.units.ensures.units c.first_missing.ensures)
