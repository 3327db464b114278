-- The steps of the sequential run: what each does, in terms of the values of nodes in turns.
use Rattle.std.proofs.Common.{◌≡◌, ℕ, zero, suc, ◌+◌, ◌-◌, ◌*◌, ◌/◌, ◌%◌, ◌<◌, ◌≤◌, length, refl, sym, ap, ◌∙◌, subst, arith, ⊎_elim, mul-le-mul_right}
use Rattle.std.specs.Prelude.{slice_index}
use Rattle.std.proofs.lemmas.List.{length_push, get_or_push, get_or_append_left}
use Rattle.std.proofs.lemmas.Bool.{cases_lt, le-ltb, lt-ltb}
use Rattle.std.proofs.lemmas.Nat.{div-mul-add, mod-mul-add, div-add-mod', mul-add-lt}
use Rattle.cg_model.specs.Work.{Image, value}
use Rattle.cg_model.specs.declared.kernel.Operand.{Operand}
use Rattle.cg_model.specs.declared.kernel.Operand.TheVariants.{Const as Constant, Edge}
use Rattle.cg_model.specs.Kernel.{Kernel, HasOperand, IsWired, node, size}
use Rattle.cg_model.specs.Turns.{operand, work_of, before, work, val}
use Rattle.cg_model.proofs.Elements.{map_same}

-- steps and turns
pub step_node : (i m v : ℕ) → v < m → (i * m + v) % m ≡ v
step_node i m v l = mod-mul-add i m v l

pub step_turn : (i m v : ℕ) → v < m → (i * m + v) / m ≡ i
step_turn i m v l = div-mul-add i m v l

pub step_within : (i m v n : ℕ) → v < m → i < n → i * m + v < n * m
step_within i m v n l h = omega (arith, mul-add-lt i m v n h l)

pub positive_from : (k n m : ℕ) → k < n * m → 0 < m
positive_from k n zero h = absurd (omega arith)
positive_from k n (suc m) h = omega arith

pub step_of : (k m : ℕ) → k ≡ k / m * m + k % m
step_of k m = sym (div-add-mod' k m)

pub turn_below : (k n m : ℕ) → k < n * m → k / m < n
turn_below k n m h =
    ⊎_elim (λ l. l)
    (λ l. absurd (let p : n * m ≤ k / m * m = mul-le-mul_right m l in omega (arith, p, div-add-mod' k m)))
    (cases_lt (k / m) n)

earlier_step : (j d m u v : ℕ) → u < m → (d ≡ 0 → u < v) → j * m + u < (j + d) * m + v
earlier_step j zero m u v l h = let h' : u < v = h refl in omega arith
earlier_step j (suc d) m u v l h = omega arith

-- an operand of node v that the turns before know
abbrev pub IsSound : ℕ → ℕ → Operand → Type 0
IsSound m v (Constant w) = Unit {0}
IsSound m v (Edge u d init) = (u < m) × (d ≡ 0 → u < v)

pub sound : (K : Kernel) (good : IsWired K) (v p : ℕ) (o : Operand) → v < size K → HasOperand K v p o → IsSound (size K) v o
sound K good v p (Constant w) l h = tt
sound K good v p (Edge u d init) l h = (good.sources v p u d init l h, λ z. good.forward v p u init l (subst (λ y. HasOperand K v p (Edge u y init)) z h))

module _ (K : Kernel) (image : Image) where
  value_at : ℕ → ℕ
  value_at k = value image (before K image k).memory (work K image k)

  values_length : (k : ℕ) → length (before K image k).values ≡ k
  unfolding before
  values_length zero = refl
  values_length (suc k) = length_push (before K image k).values _ ∙ omega (arith, values_length k)

  values_kept : (k j : ℕ) → j < k → slice_index (before K image k).values j ≡ value image (before K image j).memory (work K image j)
  unfolding before
  values_kept zero j h = absurd (omega arith)
  values_kept (suc k) j h =
      ⊎_elim (λ l. get_or_append_left (before K image k).values _ 0 j (omega (arith, values_length k)) ∙ values_kept k j l)
      (λ l. let e : j ≡ k = omega arith in rw e (get_or_push (before K image k).values _ 0 k (values_length k)))
      (cases_lt j k)

  operand_is : (i v : ℕ) (o : Operand) → IsSound (size K) v o →
      operand (λ u j. slice_index (before K image (i * size K + v)).values (j * size K + u)) i o ≡ operand (val K image) i o
  operand_is i v (Constant w) s = refl
  operand_is i v (Edge u d init) s =
      ⊎_elim (λ a. rw (lt-ltb i d a) refl)
      (λ a.
      let e : i ≡ i - d + d = omega arith in
      let before' : (i - d) * size K + u < (i - d + d) * size K + v = earlier_step (i - d) d (size K) u v s.0 s.1 in
      rw (le-ltb i d a) (values_kept (i * size K + v) ((i - d) * size K + u) (rw (← e) at before')))
      (cases_lt i d)

  -- a step's operands are the values of its sources, in their turns
  pub work_here : (i v : ℕ) → v < size K → ((p : ℕ) (o : Operand) → HasOperand K v p o → IsSound (size K) v o) → work K image (i * size K + v) ≡ work_of (node K v) i (val K image)
  work_here i v l good =
      rw (step_node i (size K) v l, step_turn i (size K) v l)
      (ap (λ args. record { op = (node K v).op; port = (node K v).port; turn = i; args = args })
      (map_same _ (operand (val K image) i) (node K v).operands (λ p o h. operand_is i v o (good p o h))))

  pub work_is : (good : IsWired K) (i v : ℕ) → v < size K → work K image (i * size K + v) ≡ work_of (node K v) i (val K image)
  work_is good i v l = work_here i v l (λ p o h. sound K good v p o l h)
