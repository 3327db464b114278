use Rattle.std.proofs.Common.{sym, ap, ◌∙◌}
use Rattle.std.proofs.lemmas.Result.{IfOk-weaker}
use Rattle.cg_c_values.specs.Listed.{listed}
use Rattle.cg_c_turn.specs.Draft.{Draft, assigned_in, draft_of}
use Rattle.cg_c_turn.proofs.AssignWord.{word_changed}
use Rattle.cg_c_turn.proofs.Growing.{extends_then}
use Rattle.cg_c_turn.proofs.draft.Draft.changed_word.Goals as goal

pub returns-clause-kept : goal.returns-clause-kept
returns-clause-kept c = IfOk-weaker c.joined.result _ _ (λ v j. extends_then _ _ _ c.in_ok-old.ensures.kept j.kept) c.joined.ensures

pub returns-clause-word : goal.returns-clause-word
returns-clause-word c =
    IfOk-weaker c.joined.result _ _ (λ v j. word_changed (draft_of c.word_or_carried.new.self) (listed c.joined.new.values) c.args.change.op c.in-Some.op c.args.change.target c.args.change.value c.reading_of-reading.result c.args.number c.in_ok-old.old c.args.new v c.assigned-assigned.result c.in-Some.is c.reading_of-reading.ensures (c.assigned-assigned.ensures ∙ sym (ap (λ (z : Draft). assigned_in z c.args.number) c.word_or_carried.ensures.same)) j c.in_ok-old.ensures.word) c.joined.ensures
