use Rattle.std.proofs.Common.{◌∙◌, sym}
use Rattle.std.proofs.lemmas.Slice.Eq.{bytes_eq-Decides}
use Rattle.cg_netlist.proofs.Called.{some_zero}
use Rattle.cg_netlist.proofs.said.form_by.Goals as goal

pub returns-then-eq : goal.returns-then-eq
returns-then-eq c = some_zero c.args.name.now ((bytes_eq-Decides c.args.name.now c.as_slice.result.now).0 (sym c.eq.ensures ∙ c.if-eq.true) ∙ c.as_slice.ensures)
