use Rattle.std.proofs.Common.{◌≡◌, ℕ, inr}
use Rattle.std.specs.Prelude.{◌⊎◌}
use Rattle.cg_simplify_facts.specs.Facts.{AreFacts}
use Rattle.cg_simplify_facts.specs.Cases.{IsBeside}
use Rattle.cg_simplify_facts.proofs.Values.{some_weaker}
use Rattle.cg_simplify_facts.proofs.identities.of_or.Goals as goal

pub returns-in-None : goal.returns-in-None
returns-in-None c = some_weaker (λ p. (x y z : ℕ) → AreFacts c.args.facts x y z → (p ≡ 0) × (x ≡ y)) (λ p. (x y z : ℕ) → AreFacts c.args.facts x y z → IsBeside 0 p x y ⊎ ((p ≡ 0) × (x ≡ y))) c.one_of_equals.result
    (λ p h x y z f. inr (h x y z f)) c.one_of_equals.ensures
