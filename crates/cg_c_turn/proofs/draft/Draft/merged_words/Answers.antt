use Rattle.std.proofs.Common.{◌≡◌, [], ◌∷◌, ◌++◌, ◌∙◌, ap, arith, refl, sym}
use Rattle.cg_c_turn.specs.Draft.{Draft, draft_of}
use Rattle.cg_c_turn.specs.Words.{with_values}
use Rattle.cg_c_turn.proofs.Prefixes.{extends_on}
use Rattle.cg_c_turn.proofs.Merging.{one_more_word, all_merged, merges_of, found_in}
use Rattle.cg_c_turn.proofs.draft.Draft.merged_words.Goals as goal

pub loop-number-preserved : goal.loop-number-preserved
loop-number-preserved c =
    let before = draft_of c.loop-number.self in
    let after = draft_of c.merged.new.self in
    let initial : after.initial ≡ before.initial = ap (λ (d : Draft). d.initial) c.merged.ensures.same in
    record {
      same = c.merged.ensures.same ∙ ap (λ (d : Draft). with_values d after) c.loop-number.invariant.same;
      values = extends_on c.loop-number.invariant.values c.in_ok-v.ensures.kept;
      chosen = refl;
      other = refl;
      condition = refl;
      long = omega (arith, c.in_ok-push.ensures.len, c.loop-number.invariant.long);
      each = λ n h.
          found_in after c.args.condition c.args.chosen.now c.args.other.now (c.loop-number.words.items ++ c.in_ok-v.v ∷ []) _ n (sym c.in_ok-push.ensures.items)
          (one_more_word before after c.args.condition c.args.chosen.now c.args.other.now c.loop-number.words.items c.in_ok-v.v c.loop-number.number c.loop-number.invariant.long c.in_ok-v.ensures.kept initial c.loop-number.invariant.each
          (merges_of after c.args.condition c.loop-number.number _ _ _ _ c.in_ok-v.v c.word_of-a.ensures c.word_of-b.ensures c.in_ok-v.ensures.merges) n h);
    }

pub returns-clause-each : goal.returns-clause-each
returns-clause-each c = all_merged (draft_of c.loop-number.self) c.args.condition _ c.args.chosen.now c.args.other.now c.loop-number.words.items c.loop-number.invariant.long (omega (arith, c.longer-count.ensures.first, c.loop-number-test.false, c.loop-number.auto.number-end)) (omega (arith, c.longer-count.ensures.second, c.loop-number-test.false, c.loop-number.auto.number-end)) c.loop-number.invariant.each
