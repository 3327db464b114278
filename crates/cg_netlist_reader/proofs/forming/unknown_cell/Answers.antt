use Rattle.std.proofs.Common.{◌≡◌, ℕ, true, false, get_or, map, rules, below_more}
use Rattle.std.proofs.lemmas.Bool.{not-true, not-false}
use Rattle.cg_verilog.specs.Module as texts
use Rattle.cg_verilog.specs.Read as modules
use Rattle.cg_netlist.specs.declared.parts.Cell.{Cell}
use Rattle.cg_netlist_reader.specs.Reading.{IsFormed}
use Rattle.cg_netlist_reader.specs.Ported.{cell_taken}
use Rattle.cg_netlist_reader.proofs.Found.{of_mapped}
use Rattle.cg_netlist_reader.proofs.Shapes.{formed_here, unknown_here}
use Rattle.cg_netlist_reader.proofs.forming.unknown_cell.Goals as goal

pub is_formed-requires : goal.is_formed-requires
is_formed-requires c = of_mapped texts.IsCell modules.cell_of c.args.cells.now c.loop-number.number c.index-cells-number.result c.requires c.index-cells-number.is c.loop-number-test.true

pub returns-then-not-is_formed : goal.returns-then-not-is_formed
returns-then-not-is_formed c =
    let none : c.is_formed.result ≡ false = search (rules, not-true) in
    unknown_here c.args.cells.now c.loop-number.number c.index-cells-number.result c.is_formed.result c.index-cells-number.is c.loop-number-test.true c.loop-number.invariant c.is_formed.ensures none

pub loop-number-preserved : goal.loop-number-preserved
loop-number-preserved c =
    let P : ℕ → Type 0 = λ k. (d : Cell) → IsFormed (get_or (map cell_taken (map modules.cell_of c.args.cells.now)) k d) in
    let found : c.is_formed.result ≡ true = search (rules, not-false) in
    let here : P c.loop-number.number = formed_here c.args.cells.now c.loop-number.number c.index-cells-number.result c.is_formed.result c.index-cells-number.is c.loop-number-test.true c.is_formed.ensures found in
    λ k d below. below_more P c.loop-number.number (λ j less e. c.loop-number.invariant j e less) here k below d
