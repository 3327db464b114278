-- Steps one after another, and a step for each number below a bound.
use Rattle.std.proofs.Common.{◌≡◌, ℕ, zero, suc, ◌+◌, ◌*◌, ◌/◌, ◌%◌, ◌<◌, ◌==◌, Bool, true, false, Option, Some, None, refl, sym, ap, ap₂, ◌∙◌, arith, eq-eqb, ne_eqb, add-zero, add-suc, zero-mul, suc-mul, suc-ne-zero}
use Rattle.std.proofs.lemmas.Nat.{div-mul-add, mod-mul-add}
use mathlib.Core.Path.{fun_ext}
use Rattle.cg_c_meaning.specs.Meaning.{State, Run, onward, ◌>>◌, give, repeated}
use Rattle.cg_c_meaning.specs.Turns.{when}

abbrev pub Step : Type 0
Step = Run (Unit {0})

-- ---- one after another

onward_twice : (g h : Step) (r : Option (Unit {0} × State)) → onward (λ _. h) (onward (λ _. g) r) ≡ onward (λ _. g >> h) r
onward_twice g h None = refl
onward_twice g h (Some r) = refl

pub one_by_one : (f g h : Step) → (f >> g) >> h ≡ f >> (g >> h)
one_by_one f g h = fun_ext (λ s. onward_twice g h (f s))

onward_nothing : (r : Option (Unit {0} × State)) → onward (λ _. give tt) r ≡ r
onward_nothing None = refl
onward_nothing (Some r) = refl

pub then_nothing : (f : Step) → f >> give tt ≡ f
then_nothing f = fun_ext (λ s. onward_nothing (f s))

-- ---- a step for each number below a bound

pub repeated_same : (n : ℕ) (f g : ℕ → Step) → ((k : ℕ) → k < n → f k ≡ g k) → repeated n f ≡ repeated n g
unfolding repeated
repeated_same zero f g same = refl
repeated_same (suc n) f g same = ap₂ (λ (a b : Step). a >> b) (repeated_same n f g (λ k h. same k (omega arith))) (same n (omega arith))

repeated_more : (m n : ℕ) (f : ℕ → Step) → repeated (m + n) f ≡ repeated m f >> repeated n (λ k. f (m + k))
unfolding repeated
repeated_more m zero f = ap (λ (k : ℕ). repeated k f) (add-zero m) ∙ sym (then_nothing (repeated m f))
repeated_more m (suc n) f = ap (λ (k : ℕ). repeated k f) (add-suc m n) ∙ ap (λ (a : Step). a >> f (m + n)) (repeated_more m n f) ∙ one_by_one (repeated m f) (repeated n (λ k. f (m + k))) (f (m + n))

repeated_product : (m b : ℕ) (f : ℕ → Step) → repeated (m * b) f ≡ repeated m (λ j. repeated b (λ k. f (j * b + k)))
unfolding repeated
repeated_product zero b f = ap (λ (k : ℕ). repeated k f) (zero-mul b)
repeated_product (suc m) b f =
    ap (λ (k : ℕ). repeated k f) (suc-mul m b) ∙ repeated_more (m * b) b f
    ∙ ap (λ (a : Step). a >> repeated b (λ k. f (m * b + k))) (repeated_product m b f)

-- the numbers below m * b by their quotients and remainders
pub repeated_digits : (m b : ℕ) (f : ℕ → ℕ → Step) → repeated (m * b) (λ t. f (t / b) (t % b)) ≡ repeated m (λ j. repeated b (f j))
repeated_digits m b f =
    repeated_product m b (λ t. f (t / b) (t % b))
    ∙ repeated_same m (λ j. repeated b (λ k. f ((j * b + k) / b) ((j * b + k) % b))) (λ j. repeated b (f j)) (λ j _. repeated_same b (λ k. f ((j * b + k) / b) ((j * b + k) % b)) (f j) (λ k h. ap₂ f (div-mul-add j b k h) (mod-mul-add j b k h)))

-- ---- a step before the first and one after the last

when_is : (b c : Bool) (f : Step) → b ≡ c → when b f ≡ when c f
when_is b c f e = ap (λ (d : Bool). when d f) e

first_apart : (m : ℕ) (before : Step) (f : ℕ → Step) → repeated (suc m) (λ t. when (t == 0) before >> f t) ≡ before >> repeated (suc m) f
unfolding repeated
first_apart zero before f = refl
first_apart (suc m) before f =
    ap₂ (λ (a b : Step). a >> (b >> f (suc m))) (first_apart m before f) (when_is (suc m == 0) false before (ne_eqb (suc m) 0 (suc-ne-zero m)))
    ∙ one_by_one before (repeated (suc m) f) (f (suc m))

last_apart : (m : ℕ) (after : Step) (f : ℕ → Step) → repeated (suc m) (λ t. f t >> when (t + 1 == suc m) after) ≡ repeated (suc m) f >> after
unfolding repeated
last_apart m after f =
    ap₂ (λ (a b : Step). a >> (f m >> b))
    (repeated_same m (λ t. f t >> when (t + 1 == suc m) after) f (λ k h. ap (λ (b : Step). f k >> b) (when_is (k + 1 == suc m) false after (ne_eqb (k + 1) (suc m) (λ e. omega arith))) ∙ then_nothing (f k)))
    (when_is (m + 1 == suc m) true after (eq-eqb (m + 1) (suc m) (omega arith)))
    ∙ sym (one_by_one (repeated m f) (f m) after)

pub edges_apart : (n : ℕ) → 0 < n → (before after : Step) (f : ℕ → Step) → repeated n (λ t. when (t == 0) before >> (f t >> when (t + 1 == n) after)) ≡ before >> (repeated n f >> after)
edges_apart zero some before after f = absurd (omega arith)
edges_apart (suc m) some before after f =
    first_apart m before (λ t. f t >> when (t + 1 == suc m) after)
    ∙ ap (λ (a : Step). before >> a) (last_apart m after f)
