use Rattle.std.proofs.Common.{ap, refl}
use Rattle.cg_c_turn.specs.Draft.{Draft, draft_of}
use Rattle.cg_c_turn.specs.Words.{with_words}
use Rattle.cg_c_turn.proofs.Prefixes.{extends_same}
use Rattle.cg_c_turn.proofs.Merging.{merges_later}
use Rattle.cg_c_turn.proofs.draft.Draft.merge.Goals as goal

pub returns : goal.returns
returns c =
    let same = c.merged_words.ensures.same in
    record {
      same =
          record {
            arrays = ap (λ (d : Draft). d.arrays) same;
            counters = ap (λ (d : Draft). d.counters) same;
            values = c.in_ok-self.ensures.values;
            effects = ap (λ (d : Draft). d.effects) same;
            initial = ap (λ (d : Draft). d.initial) same;
            latest = ap (λ (d : Draft). d.latest) same;
          };
      guard = ap (λ (d : Draft). d.guard) same;
      each = λ n. merges_later (draft_of c.merged_words.new.self) (with_words (draft_of c.merged_words.new.self) c.in_ok-self.field-0.items) c.args.condition n _ _ _ (extends_same (draft_of c.merged_words.new.self).values) refl (c.in_ok-self.ensures.each n);
    }
