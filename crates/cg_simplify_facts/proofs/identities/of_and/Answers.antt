use Rattle.std.proofs.Common.{◌≡◌, ℕ, ◌∙◌, ap, inr, sym}
use Rattle.std.specs.Prelude.{bit_and}
use Rattle.std.specs.Int.Bits.{and_self}
use Rattle.cg_simplify_facts.specs.Facts.{AreFacts}
use Rattle.cg_simplify_facts.specs.Cases.{IsUnmasked}
use Rattle.cg_simplify_facts.proofs.Values.{some_weaker}
use Rattle.cg_simplify_facts.proofs.identities.of_and.Goals as goal

pub returns-in-None : goal.returns-in-None
returns-in-None c = some_weaker (λ p. (x y z : ℕ) → AreFacts c.args.facts x y z → (p ≡ 0) × (x ≡ y)) (λ p. (x y z : ℕ) → AreFacts c.args.facts x y z → IsUnmasked p x y) c.one_of_equals.result
    (λ p h x y z f. let e = h x y z f in inr (e.0, ap (bit_and x) (sym e.1) ∙ and_self x)) c.one_of_equals.ensures
