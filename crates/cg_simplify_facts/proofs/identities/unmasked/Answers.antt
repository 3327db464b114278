use Rattle.std.proofs.Common.{refl, inl, inr, ◌∙◌}
use Rattle.std.proofs.lemmas.Nat.{and_comm}
use Rattle.cg_simplify_facts.proofs.identities.unmasked.Goals as goal

pub returns-then-masks_all : goal.returns-then-masks_all
returns-then-masks_all c = λ x y z f. inl (refl, c.masks_all.ensures c.if-masks_all.true x y f.first f.second.below)

pub returns-then-masks_all-2 : goal.returns-then-masks_all-2
returns-then-masks_all-2 c = λ x y z f. inr (refl, and_comm x y ∙ c.masks_all-else-masks_all.ensures c.if-masks_all-2.true y x f.second f.first.below)
