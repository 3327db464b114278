use Rattle.std.proofs.Common.{◌≡◌, ℕ, ◌-◌, ◌*◌, ◌/◌, ◌%◌, ◌^◌, ◌<◌, ◌≤◌, sym, subst, ap, ap₂, ◌∙◌, refl, arith}
use Rattle.std.proofs.lemmas.Nat.{one_shl}
use Rattle.cg_depend.specs.Congruence.{Solves, HasNone, IsParted}
use Rattle.cg_depend.proofs.Congruence.{onward, zeros_few, unsolved, solved}
use Rattle.cg_depend.proofs.gap.gap.Goals as goal

pub returns-then-delta-part-ne0 : goal.returns-then-delta-part-ne0
returns-then-delta-part-ne0 c =
    let s = c.stride.inside in
    let few = zeros_few s.stride s.zeros s.inverse c.stride.invariant in
    λ x l b e. unsolved s.stride s.zeros s.inverse c.from-delta.result ((1 * 2 ^ s.zeros) % 2 ^ 64) c.stride.invariant (one_shl s.zeros 64 (omega arith)) c.if-delta-part-ne0.true x
    (ap (λ z. (z * x) % 2 ^ 32) c.stride.view_is ∙ e ∙ sym c.from-delta.ensures)

-- 1 << k
abbrev power : ℕ → ℕ
power k = (1 * 2 ^ k) % 2 ^ 64

answer : (stride now k inverse delta least wide_delta wide_inverse wide_least x : ℕ) → IsParted stride k inverse → stride ≡ now → wide_delta ≡ delta → wide_inverse ≡ inverse → wide_least ≡ least →
    delta < 2 ^ 32 → wide_delta % power k ≡ 0 → x ≡ onward wide_least (power (32 - k)) ((wide_delta / power k * wide_inverse) % power (32 - k)) → (least ≤ x) × Solves now delta x × HasNone now delta least x
answer stride now k inverse delta least wide_delta wide_inverse wide_least x p es ed ei el word exact c =
    let few = zeros_few stride k inverse p in
    solved now k inverse delta (power k) (power (32 - k)) ((wide_delta / power k * wide_inverse) % power (32 - k)) x least (subst (λ z. IsParted z k inverse) es p) (one_shl k 64 (omega arith)) (one_shl (32 - k) 64 (omega arith))
    (ap (λ z. z % power k) (sym ed) ∙ exact) word (ap₂ (λ a b. (a / power k * b) % power (32 - k)) ed ei)
    (c ∙ ap (λ z. onward z (power (32 - k)) ((wide_delta / power k * wide_inverse) % power (32 - k))) el)

pub returns-then-x-lt1000000 : goal.returns-then-x-lt1000000
returns-then-x-lt1000000 c =
    let s = c.stride.inside in
    let r = answer s.stride c.args.stride.now s.zeros s.inverse c.args.delta c.args.least c.from-delta.result c.from.result c.from-least.result _ c.stride.invariant c.stride.view_is c.from-delta.ensures c.from.ensures c.from-least.ensures (omega arith) c.if-delta-part-ne0.false refl in
    (r.0, c.if-x-lt1000000.true, r.1, r.2)

pub returns-else-x-lt1000000 : goal.returns-else-x-lt1000000
returns-else-x-lt1000000 c =
    let s = c.stride.inside in
    let r = answer s.stride c.args.stride.now s.zeros s.inverse c.args.delta c.args.least c.from-delta.result c.from.result c.from-least.result _ c.stride.invariant c.stride.view_is c.from-delta.ensures c.from.ensures c.from-least.ensures (omega arith) c.if-delta-part-ne0.false refl in
    λ x l b e. r.2 x l (let h = c.if-x-lt1000000.false in omega arith) e
