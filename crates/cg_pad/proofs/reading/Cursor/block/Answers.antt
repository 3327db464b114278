use Rattle.std.proofs.Common.{◌≡◌, ◌∙◌, ap, sym, suc, ◌-◌, ◌+◌, arith}
use Rattle.std.proofs.lemmas.Grind.{common_steps}
use Rattle.cg_pad.specs.Bytes.{or_truncated, take_words}
use Rattle.cg_pad.proofs.Steps.{after, word_more, word_none}
use Rattle.cg_pad.proofs.reading.Cursor.block.Goals as goal

pub returns-in_default-clause-answer : goal.returns-in_default-clause-answer
returns-in_default-clause-answer c = λ other.
    let e : c.args.count - c.loop-word._word ≡ suc (c.args.count - (c.loop-word._word + 1)) = omega arith in
    sym (ap (or_truncated c.args.self.now.size) (sym c.loop-word.invariant.taken ∙ word_none _ _ _ _ e c.in_default.ensures.taken))

pub loop-word-preserved : goal.loop-word-preserved
loop-word-preserved c =
    let k = c.args.count - (c.loop-word._word + 1) in
    let e : c.args.count - c.loop-word._word ≡ suc k = omega arith in
    record {
      taken = ap (λ xs. after xs (take_words k c.number.new.self.rest.now)) c.in_ok-push.ensures.items ∙ word_more c.loop-word.words.items (c.args.count - c.loop-word._word) k c.in-Some.word c.loop-word.self.rest.now c.number.new.self.rest.now e c.in-Some.ensures.taken ∙ c.loop-word.invariant.taken;
      long = grind (arith, common_steps);
      size = c.number.ensures.size ∙ c.loop-word.invariant.size;
    }
