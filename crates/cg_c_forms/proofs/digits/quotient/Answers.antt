use Rattle.std.proofs.Common.{refl}
use Rattle.std.proofs.lemmas.Result.{IfOk-weaker}
use Rattle.cg_c_quotients.specs.Quotients.{word_at}
use Rattle.cg_c_forms.proofs.Adding.{inserts_adds}
use Rattle.cg_c_forms.proofs.Computed.{added, means_in, quotient_means, turn_means}
use Rattle.cg_c_forms.proofs.digits.quotient.Goals as goal

pub returns-in-Turn-clause-means : goal.returns-in-Turn-clause-means
unfolding word_at
returns-in-Turn-clause-means c =
    added _ _ c.add.result (λ v l e. means_in c.in-Turn.ensures.quotient (turn_means _ v l e)) c.add.ensures.within c.add.ensures.added

pub returns-in-Shift-clause-means : goal.returns-in-Shift-clause-means
unfolding word_at
returns-in-Shift-clause-means c =
    IfOk-weaker c.shifted.result _ _ (λ v m. means_in c.in-Shift.ensures.quotient m) c.shifted.ensures.means

pub returns-in-Product-clause-means : goal.returns-in-Product-clause-means
unfolding word_at
returns-in-Product-clause-means c =
    IfOk-weaker c.scaled.result _ _ (λ v m. means_in c.in-Product.ensures.quotient m) c.scaled.ensures.means

pub returns-in-Recurrence-clause-means : goal.returns-in-Recurrence-clause-means
returns-in-Recurrence-clause-means c =
    added _ _ c.insert.result (λ v l e. means_in (λ t b. refl) (quotient_means _ v _ l e))
    c.insert.ensures.within c.insert.ensures.added

pub returns-in-Recurrence-clause-kept : goal.returns-in-Recurrence-clause-kept
unfolding word_at
returns-in-Recurrence-clause-kept c = inserts_adds (c.in-Recurrence.ensures.quotient, λ l. l) c.insert.ensures.kept
