use Rattle.std.proofs.Common.{◌≡◌, ◌+◌, ◌*◌, ◌++◌, ◌∙◌, ap}
use Rattle.std.specs.Prelude.{codes, slice_index}
use Rattle.cg_testbench.specs.Pieces.{port_letter}
use Rattle.cg_testbench.specs.Lines.{word_line}
use Rattle.cg_testbench.specs.Setup.{first_line}
use Rattle.cg_testbench.proofs.Steps.{renamed, unbegun, grown}
use Rattle.cg_testbench.proofs.setup.push_first_lines.Goals as goal

pub loop-k-init : goal.loop-k-init
loop-k-init c = unbegun _ _

pub loop-k-preserved : goal.loop-k-preserved
loop-k-preserved c =
    let a = c.args.argument in
    let k = c.loop-k.k in
    let init = c.args.fields.now.init in
    let table : c.as_str.result.now ≡ codes "first_" ++ port_letter a.number = c.as_str.ensures.value ∙ c.in_ok-table.ensures.ok ∙ ap (λ z. codes "first_" ++ z) c.port_letter-letter.ensures in
    grown (first_line a.cell.now a.slot a.number c.args.fields.now) _ _ _ _ c.loop-k.invariant
    (renamed _ _ _ (first_line a.cell.now a.slot a.number c.args.fields.now k) c.in_ok-push_word_line.ensures (ap (λ z. word_line a.cell.now z (4 * a.slot + k) (slice_index init k)) table))
