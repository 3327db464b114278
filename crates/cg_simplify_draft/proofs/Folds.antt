-- A run of actions, and a run of fewer actions that does the same: the marked ones are in the same order, and the others
-- change nothing.
use Rattle.std.proofs.Common.{◌≡◌, ℕ, zero, suc, ◌+◌, ◌<◌, ◌≤◌, Bool, true, false, refl, sym, ap, ◌∙◌, arith, ⊎_elim}
use Rattle.std.specs.Prelude.{◌⊎◌}
use Rattle.std.proofs.lemmas.Bool.{cases_eq, cases_Bool, true≢false}

-- the first p actions, in order
abbrev pub run : {S : Type 0} → (ℕ → S → S) → ℕ → S → S
run a zero s = s
run a (suc p) s = a p (run a p s)

pub run_same : {S : Type 0} (a b : ℕ → S → S) (p : ℕ) → ((v : ℕ) → v < p → (s : S) → a v s ≡ b v s) → (s : S) → run a p s ≡ run b p s
run_same a b zero h s = refl
run_same a b (suc p) h s = ap (a p) (run_same a b p (λ v l. h v (omega arith)) s) ∙ h p (omega arith) (run b p s)

-- steps that go on by actions
pub runs_on : {S : Type 0} (g : ℕ → S) (act : ℕ → S → S) → ((k : ℕ) → g (suc k) ≡ act k (g k)) → (at q : ℕ) → run (λ u. act (at + u)) q (g at) ≡ g (at + q)
runs_on g act step at zero = ap g (let e : at ≡ at + 0 = omega arith in e)
runs_on g act step at (suc q) =
    ap (act (at + q)) (runs_on g act step at q) ∙ sym (step (at + q)) ∙ ap g (let e : suc (at + q) ≡ at + suc q = omega arith in e)

-- the m actions b are some of the k actions a: action v is number f v
pub record Thins {S : Type 0} (a b : ℕ → S → S) (f : ℕ → ℕ) (mark : ℕ → Bool) (m k : ℕ) : Type 0 where
  pub same : (v : ℕ) → v < m → (s : S) → b v s ≡ a (f v) s
  pub plain : (v : ℕ) → v < m → mark v ≡ false → (s : S) → a (f v) s ≡ s
  pub rest : (u : ℕ) → u < k → ((v : ℕ) × (v < m) × (f v ≡ u) × (mark v ≡ true)) ⊎ ((s : S) → a u s ≡ s)
  pub ordered : (v w : ℕ) → v < w → w < m → mark v ≡ true → mark w ≡ true → f v < f w

-- the marked actions below p are those with a number below q
pub record Cut (f : ℕ → ℕ) (mark : ℕ → Bool) (m p q : ℕ) : Type 0 where
  pub low : (v : ℕ) → v < p → mark v ≡ true → f v < q
  pub high : (v : ℕ) → v < m → mark v ≡ true → f v < q → v < p

module _ {S : Type 0} (a b : ℕ → S → S) (f : ℕ → ℕ) (mark : ℕ → Bool) (m k : ℕ) (t : Thins a b f mark m k) (s : S) where
  idle : (u : ℕ) → u < k → ((v : ℕ) → v < m → mark v ≡ true → f v ≡ u → ⊥) → (x : S) → a u x ≡ x
  idle u l none x = ⊎_elim {C = a u x ≡ x} (λ h. absurd (none h.0 h.1 h.3 h.2)) (λ h. h x) (t.rest u l)

  none_left : (q : ℕ) → q ≤ k → Cut f mark m 0 q → s ≡ run a q s
  none_left zero l c = refl
  none_left (suc q) l c =
      none_left q (omega arith) (record { low = λ v h e. absurd (omega arith); high = λ v h e g. c.high v h e (omega arith) })
      ∙ sym (idle q (omega arith) (λ v h e g. let z : v < 0 = c.high v h e (omega arith) in omega arith) (run a q s))

  -- one action more, which is unmarked
  one_plain : (p q : ℕ) → p < m → mark p ≡ false → Cut f mark m (suc p) q → Cut f mark m p q
  one_plain p q l e c =
      record {
        low = λ v h i. c.low v (omega arith) i;
        high = λ v h i g.
            ⊎_elim (λ z. absurd (true≢false (sym i ∙ ap mark z ∙ e))) (λ z. let y : v < suc p = c.high v h i g in omega arith) (cases_eq v p);
      }

  -- or the marked one with the last number
  one_hit : (p q : ℕ) → p < m → mark p ≡ true → f p ≡ q → Cut f mark m (suc p) (suc q) → Cut f mark m p q
  one_hit p q l e z c =
      record {
        low = λ v h i. let y : f v < f p = t.ordered v p h l i e in omega arith;
        high = λ v h i g.
            ⊎_elim (λ x. absurd (let y : f v ≡ f p = ap f x in omega arith)) (λ x. let y : v < suc p = c.high v h i (omega arith) in omega arith) (cases_eq v p);
      }

  -- or a marked one with a lower number
  below_last : (p q v : ℕ) → p < m → mark p ≡ true → f p < q → v < suc p → mark v ≡ true → f v < q
  below_last p q v l e g h i =
      ⊎_elim (λ x. let y : f v ≡ f p = ap f x in omega arith) (λ x. let y : f v < f p = t.ordered v p (omega arith) l i e in omega arith) (cases_eq v p)

  one_miss : (p q : ℕ) → p < m → mark p ≡ true → f p < q → Cut f mark m (suc p) (suc q) → Cut f mark m (suc p) q
  one_miss p q l e g c = record { low = λ v h i. below_last p q v l e g h i; high = λ v h i y. c.high v h i (omega arith) }

  one_marked : (p : ℕ) → p < m → mark p ≡ true → ((q : ℕ) → q ≤ k → Cut f mark m p q → run b p s ≡ run a q s) → (q : ℕ) → q ≤ k → Cut f mark m (suc p) q → b p (run b p s) ≡ run a q s
  one_marked p l e less zero r c = absurd (let y : f p < 0 = c.low p (omega arith) e in omega arith)
  one_marked p l e less (suc q) r c =
      ⊎_elim
      (λ z. t.same p l (run b p s) ∙ ap (λ u. a u (run b p s)) z ∙ ap (a q) (less q (omega arith) (one_hit p q l e z c)))
      (λ z.
      let g : f p < q = let y : f p < suc q = c.low p (omega arith) e in omega arith in
      one_marked p l e less q (omega arith) (one_miss p q l e g c)
      ∙ sym (idle q (omega arith) (λ v h i x. let y : f v < q = below_last p q v l e g (c.high v h i (omega arith)) i in omega arith) (run a q s)))
      (cases_eq (f p) q)

  -- the first p actions b do what the first q actions a do
  pub folded : (p : ℕ) → p ≤ m → (q : ℕ) → q ≤ k → Cut f mark m p q → run b p s ≡ run a q s
  folded zero l q r c = none_left q r c
  folded (suc p) l q r c =
      ⊎_elim
      (λ e. one_marked p (omega arith) e (folded p (omega arith)) q r c)
      (λ e. t.same p (omega arith) (run b p s) ∙ t.plain p (omega arith) e (run b p s) ∙ folded p (omega arith) q r (one_plain p q (omega arith) e c))
      (cases_Bool (mark p))
