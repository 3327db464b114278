use Rattle.std.proofs.Common.{◌≡◌, List, Option, None, IfOk, ap, sym, ◌∙◌, subst}
use Rattle.std.specs.Option.{option_map, option_or}
use Rattle.cg_model.specs.First.{first_from}
use Rattle.cg_netlist.specs.declared.parts.Cell.{Cell}
use Rattle.cg_gates.specs.Accepts.{fault_after_loops, repeated_instance}
use Rattle.cg_gates.specs.declared.fault.GateFault.{GateFault}
use Rattle.cg_gates.specs.declared.fault.GateFault.TheVariants as fault
use Rattle.cg_gates.specs.Numbers.{is_repeated, unknown_or_missing}
use Rattle.cg_gates.proofs.after.fault_after_loops.Goals as goal

pub returns : goal.returns
unfolding fault_after_loops repeated_instance
returns c =
    let A = c.args.arch.now in
    let N = c.args.netlist.now in
    let none : repeated_instance N ≡ None = ap (λ (cells : List Cell). first_from (is_repeated cells) 0 cells) (sym c.cells.ensures.cells) ∙ sym c.in_ok-cell.ensures ∙ c.in_default.is in
    let same : unknown_or_missing A N ≡ fault_after_loops A N = sym (ap (λ o. option_or (option_map fault.RepeatedInstance o) (unknown_or_missing A N)) none) in
    let P : Option GateFault → Type 0 = λ v. IfOk c.unknown_or_missing.result (λ found. found ≡ v) in
    subst P same c.unknown_or_missing.ensures
