use Rattle.std.proofs.Common.{◌≡◌, ◌∙◌, ap}
use Rattle.std.specs.Prelude.{slice_index}
use Rattle.cg_testbench.specs.Sizes.{stream}
use Rattle.cg_testbench.specs.Lines.{input_line}
use Rattle.cg_testbench.specs.Setup.{word_of_input}
use Rattle.cg_testbench.proofs.Steps.{renamed, unbegun, grown}
use Rattle.cg_testbench.proofs.setup.push_input.Goals as goal

pub loop-at-init : goal.loop-at-init
loop-at-init c = unbegun _ _

pub loop-at-preserved : goal.loop-at-preserved
loop-at-preserved c =
    let streams = c.args.image.now.streams in
    let port = c.args.port in
    let at = c.loop-at.at in
    let word : c.word_at.result ≡ slice_index (stream streams port) at = c.word_at.ensures ∙ ap (λ ws. slice_index ws at) c.stream-words.ensures in
    grown (word_of_input streams port) _ _ _ _ c.loop-at.invariant
    (renamed _ _ _ (word_of_input streams port at) c.in_ok-push_input_line.ensures (ap (input_line port at) word))
