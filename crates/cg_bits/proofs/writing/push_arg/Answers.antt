use Rattle.std.proofs.Common.{◌≡◌, ◌++◌, refl, ap, ◌∙◌}
use Rattle.std.specs.Prelude.{slice_index}
use Rattle.cg_bits.specs.Numbers.{digit, bits_of}
use Rattle.cg_bits.proofs.Parts.{started, grown}
use Rattle.cg_bits.proofs.writing.push_arg.Goals as goal

pub loop-word-init : goal.loop-word-init
loop-word-init c =
    let w = c.args.writer.now in
    let a = c.args.arg.now in
    let d : c.from.result ≡ digit a.fixed = c.from.ensures in
    c.in_ok-push-2.ensures ∙ ap (λ z. z ++ bits_of 3 a.count) (c.in_ok-push.ensures ∙ ap (λ z. w ++ bits_of 1 z) d)
    ∙ started ((w ++ bits_of 1 (digit a.fixed)) ++ bits_of 3 a.count) (λ k. bits_of 32 (slice_index a.init k))

pub loop-word-preserved : goal.loop-word-preserved
loop-word-preserved c =
    let w = c.args.writer.now in
    let a = c.args.arg.now in
    c.in_ok-push-3.ensures ∙ grown c.loop-word.writer ((w ++ bits_of 1 (digit a.fixed)) ++ bits_of 3 a.count) (λ k. bits_of 32 (slice_index a.init k)) c.loop-word.word-index _ c.loop-word.invariant refl
