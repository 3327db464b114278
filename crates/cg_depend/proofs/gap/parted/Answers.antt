use Rattle.std.proofs.Common.{◌≡◌, ℕ, ◌*◌, ◌/◌, ◌%◌, ◌^◌, refl, ap, ◌∙◌, arith, inr}
use Rattle.std.specs.Int.{trailing_zeros, w32}
use Rattle.cg_depend.proofs.Congruence.{lowest}
use Rattle.cg_depend.proofs.gap.parted.Goals as goal

pub inverse-inverse-requires-clause-odd : goal.inverse-inverse-requires-clause-odd
inverse-inverse-requires-clause-odd c =
    ap (λ z. z % 2) c.from.ensures ∙ (lowest c.args.stride (trailing_zeros w32 c.args.stride) refl (omega arith) (omega arith)).1

pub invariant_of-result-2 : goal.invariant_of-result-2
invariant_of-result-2 c =
    let k : ℕ = trailing_zeros w32 c.args.stride in
    let low = lowest c.args.stride k refl (omega arith) (omega arith) in
    inr (c.args.stride / 2 ^ k, low.2, low.0, ap (λ z. (z * c.inverse-inverse.result) % 2 ^ 32) (let e : c.args.stride / 2 ^ k ≡ c.from.result = omega arith in e) ∙ c.inverse-inverse.ensures.inverse)
