use Rattle.std.proofs.Common.{◌≡◌, ℕ, List, IfOk, eqb, map, subst}
use Rattle.std.specs.Prelude.{find, not}
use Rattle.std.specs.Option.{option_map}
use mathlib.Core.Path.{fun_ext}
use Rattle.cg_netlist.specs.declared.parts.Net.{Net}
use Rattle.cg_netlist.specs.declared.parts.Cell.{Cell}
use Rattle.cg_gates.specs.Shape.{shape_of, shapes}
use Rattle.cg_gates.specs.Numbers.{AreCounts, is_uncounted}
use Rattle.cg_gates.specs.Accepts.{miscounted}
use Rattle.cg_gates.proofs.counts.miscounted.Goals as goal

pub returns : goal.returns
unfolding miscounted
returns c =
    let P : (List ℕ → ℕ) → Type 0 = λ f. IfOk c.first_miscounted.result (λ found. found ≡ option_map (λ (n : Net). n.name) (find (λ (n : Net). not (eqb (f n.name) 1)) c.args.netlist.now.nets)) in
    let Q : List Net → Type 0 = λ nets. IfOk c.first_miscounted.result (λ found. found ≡ option_map (λ (n : Net). n.name) (find (is_uncounted c.in_ok-counts.counts) nets)) in
    let R : List Cell → Type 0 = λ cells. AreCounts c.in_ok-counts.counts (map shape_of cells) in
    let own : AreCounts c.in_ok-counts.counts (shapes c.args.netlist.now) = subst R c.cells.ensures.cells c.in_ok-counts.ensures in
    subst P (fun_ext own.found) (subst Q c.nets.ensures.nets c.first_miscounted.ensures)
