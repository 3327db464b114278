-- Operations that the same units offer.
use Rattle.std.proofs.Common.{◌≡◌, ℕ, ◌<◌, length, sym, ◌∙◌, arith}
use Rattle.std.specs.Prelude.{Option}
use Rattle.cg_word.specs.declared.op.Op.{Op}
use Rattle.cg_word.specs.Sets.{among}
use Rattle.cg_word.proofs.Marks.{among_from, among_it}
use Rattle.cg_model.specs.Array.{Arch, unit}
use Rattle.cg_bound_routes.specs.declared.question.Question.{Question}
use Rattle.cg_bound_routes.specs.Question.{AreAlike, IsAskedWay, IsAnswer}
use Rattle.cg_bound_routes.proofs.Least.{found_same}

-- each of the first `count` units offers both of two operations, or neither
abbrev pub AreAlikeTo : Arch → Op → Op → ℕ → Type 0
AreAlikeTo A a b count = (x : ℕ) → x < count → among (unit A x).ops a ≡ among (unit A x).ops b

-- all units do
pub alike_whole : (A : Arch) (a b : Op) (count : ℕ) → count ≡ length A.units → AreAlikeTo A a b count → AreAlike A a b
alike_whole A a b count e h = λ x. (
  λ (l, c). (l, among_from (unit A x).ops b (sym (h x (omega arith)) ∙ among_it (unit A x).ops a c)),
  λ (l, c). (l, among_from (unit A x).ops a (h x (omega arith) ∙ among_it (unit A x).ops b c)),
)

-- the answer about operations that are alike
pub alike_answer : (A : Arch) (q : Question) (from to : Op) → AreAlike A from q.from → AreAlike A to q.to → (hops : Option ℕ) →
    IsAnswer A (record { from = from; to = to; arg = q.arg; ends = q.ends }) hops → IsAnswer A q hops
alike_answer A q from to f t hops h =
    found_same A (IsAskedWay A (record { from = from; to = to; arg = q.arg; ends = q.ends })) (IsAskedWay A q)
    (λ n (x, y, a, b, ends, w). (x, y, (f x).0 a, (t y).0 b, ends, w))
    (λ n (x, y, a, b, ends, w). (x, y, (f x).1 a, (t y).1 b, ends, w))
    hops h
