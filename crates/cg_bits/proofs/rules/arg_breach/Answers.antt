use Rattle.std.proofs.Common.{◌≡◌, ◌+◌, ◌*◌, true, false, ◌∙◌, sym}
use Rattle.cg_bits.specs.Parts.{joined}
use Rattle.cg_bits.specs.Faults.{unless}
use Rattle.cg_config.specs.Rules.{mode_ok, count_ok, word_ok}
use Rattle.cg_bits.specs.Checks.{word_fault}
use Rattle.cg_bits.proofs.None.{unless_none}
use Rattle.cg_bits.proofs.First.{first_joined, first_unless, first_right, joined_none_zero, joined_none_more}
use Rattle.cg_bits.proofs.rules.arg_breach.Goals as goal

pub loop-k-init : goal.loop-k-init
loop-k-init c = joined_none_zero (word_fault c.args.arg.now c.args.used c.args.at)

pub returns-then-not-word_right : goal.returns-then-not-word_right
returns-then-not-word_right c =
    let a = c.args.arg.now in
    let used = c.args.used in
    let at = c.args.at in
    let before = c.args.fixed_before in
    let mode : mode_ok a used before ≡ true = sym c.mode_right.ensures ∙ c.if-not-mode_right.false in
    let count : count_ok a used ≡ true = sym c.count_right.ensures ∙ c.if-not-count_right.false in
    let word : word_ok a used c.loop-k.k ≡ false = sym c.word_right.ensures ∙ c.if-not-word_right.true in
    sym (first_right (unless (mode_ok a used before) at) _ (unless_none (mode_ok a used before) at mode)
    ∙ first_right (unless (count_ok a used) (at + 1)) (joined (word_fault a used at) 4) (unless_none (count_ok a used) (at + 1) count)
    ∙ first_joined (word_fault a used at) 4 c.loop-k.k _ c.loop-k.invariant c.loop-k-test.true (first_unless (word_ok a used c.loop-k.k) (at + 4 + c.loop-k.k * 32) word))

pub loop-k-preserved : goal.loop-k-preserved
loop-k-preserved c =
    let a = c.args.arg.now in
    let used = c.args.used in
    let word : word_ok a used c.loop-k.k ≡ true = sym c.word_right.ensures ∙ c.if-not-word_right.false in
    joined_none_more (word_fault a used c.args.at) c.loop-k.k c.loop-k.invariant (unless_none (word_ok a used c.loop-k.k) _ word)
