-- The registers on a path, and that a list of claims with no two alike has at most as many as the registers have slots.
use Rattle.std.proofs.Common.{◌≡◌, ℕ, zero, suc, ◌+◌, ◌<◌, List, [], ◌∷◌, ◌++◌, length, get_or, Some, cond, true, false, refl, sym, ap, ◌∙◌, subst, arith, inl, inr, ⊎_elim}
use Rattle.std.specs.Prelude.{◌⊎◌}
use Rattle.std.proofs.lemmas.Bool.{cond-true, cond-false, cases_Bool}
use Rattle.cg_model.specs.declared.array.Kind.{Kind}
use Rattle.cg_model.specs.declared.array.Kind.TheVariants.{Wire, Register, Port, Out}
use Rattle.cg_model.specs.Array.{Arch, resource, delay, delay_by}
use Rattle.cg_model.specs.Mapping.{Position, positions_after, Goes}
use Rattle.cg_bound_registers.specs.Pressure.{is_register, one_if}

-- what holds of each element
abbrev pub Each : {X : Type 0} → (X → Type 0) → List X → Type 0
Each P [] = Unit {0}
Each P (x ∷ xs) = P x × Each P xs

pub each_more : {X : Type 0} (P Q : X → Type 0) (xs : List X) → ((x : X) → P x → Q x) → Each P xs → Each Q xs
each_more P Q [] h e = tt
each_more P Q (x ∷ xs) h (a, b) = (h x a, each_more P Q xs h b)

pub each_append : {X : Type 0} (P : X → Type 0) (xs ys : List X) → Each P xs → Each P ys → Each P (xs ++ ys)
each_append P [] ys a b = b
each_append P (x ∷ xs) ys (a, r) b = (a, each_append P xs ys r b)

pub each_at : {X : Type 0} (P : X → Type 0) (xs : List X) (d : X) (k : ℕ) → Each P xs → k < length xs → P (get_or xs k d)
each_at P [] d k e l = absurd (omega arith)
each_at P (x ∷ xs) d zero (a, b) l = a
each_at P (x ∷ xs) d (suc k) (a, b) l = each_at P xs d k b (omega arith)

-- not of one source and one time
abbrev pub Differ : Position → Position → Type 0
Differ c d = c.source ≡ d.source → c.time ≡ d.time → ⊥

-- no two of one source and one time
abbrev pub Apart : List Position → Type 0
Apart [] = Unit {0}
Apart (c ∷ cs) = Each (Differ c) cs × Apart cs

pub apart_append : (xs ys : List Position) → Apart xs → Apart ys → Each (λ x. Each (Differ x) ys) xs → Apart (xs ++ ys)
apart_append [] ys a b c = b
apart_append (x ∷ xs) ys (d, a) b (e, c) = (each_append (Differ x) xs ys d e, apart_append xs ys a b c)

pub apart_at : (xs : List Position) (d : Position) (i j : ℕ) → Apart xs → i < length xs → j < length xs →
    (get_or xs i d).source ≡ (get_or xs j d).source → (get_or xs i d).time ≡ (get_or xs j d).time → i ≡ j
apart_at [] d i j a l m e f = absurd (omega arith)
apart_at (x ∷ xs) d zero zero a l m e f = refl
apart_at (x ∷ xs) d zero (suc j) (a, b) l m e f = absurd (each_at (Differ x) xs d j a (omega arith) e f)
apart_at (x ∷ xs) d (suc i) zero (a, b) l m e f = absurd (each_at (Differ x) xs d i a (omega arith) (sym e) (sym f))
apart_at (x ∷ xs) d (suc i) (suc j) (a, b) l m e f = ap suc (apart_at xs d i j b (omega arith) (omega arith) e f)

-- ---- the registers on a path

delay_of : (k : Kind) → delay_by k ≡ one_if (is_register k)
delay_of Register = refl
delay_of Wire = refl
delay_of Port = refl
delay_of Out = refl

-- the positions on registers
abbrev pub stops : Arch → ℕ → ℕ → ℕ → List ℕ → List Position
stops A u q t [] = []
stops A u q t (r ∷ path) =
    cond (is_register (resource A r).kind)
    (record { source = u; resource = r; time = t + delay A r; from = Some q } ∷ stops A u r (t + delay A r) path)
    (stops A u r (t + delay A r) path)

-- a member, from the front
abbrev pub Among : Position → List Position → Type 0
Among c [] = ⊥
Among c (x ∷ xs) = (x ≡ c) ⊎ Among c xs

abbrev pub Stop : Arch → ℕ → ℕ → ℕ → List ℕ → Position → Type 0
Stop A u q t path c = (t < c.time) × (c.source ≡ u) × (is_register (resource A c.resource).kind ≡ true) × Among c (positions_after A u q t path)

module _ (A : Arch) (u : ℕ) where
  later : (q t r : ℕ) (path : List ℕ) → Each (Stop A u r (t + delay A r) path) (stops A u r (t + delay A r) path) → Each (Stop A u q t (r ∷ path)) (stops A u r (t + delay A r) path)
  later q t r path e = each_more (Stop A u r (t + delay A r) path) (Stop A u q t (r ∷ path)) (stops A u r (t + delay A r) path) (λ c (a, b, d, m). (omega arith, b, d, inr m)) e

  pub each_stop : (path : List ℕ) (q t : ℕ) → Each (Stop A u q t path) (stops A u q t path)
  each_stop [] q t = tt
  each_stop (r ∷ path) q t =
      ⊎_elim
      (λ (b : is_register (resource A r).kind ≡ true).
      let e : delay A r ≡ 1 = delay_of (resource A r).kind ∙ cond-true (is_register (resource A r).kind) 1 0 b in
      let l : t < t + delay A r = omega arith in
      subst (Each (Stop A u q t (r ∷ path))) (sym (cond-true (is_register (resource A r).kind) _ _ b))
      ((l, refl, b, inl refl), later q t r path (each_stop path r (t + delay A r))))
      (λ (b : is_register (resource A r).kind ≡ false).
      subst (Each (Stop A u q t (r ∷ path))) (sym (cond-false (is_register (resource A r).kind) _ _ b)) (later q t r path (each_stop path r (t + delay A r))))
      (cases_Bool (is_register (resource A r).kind))

  pub stops_apart : (path : List ℕ) (q t : ℕ) → Apart (stops A u q t path)
  stops_apart [] q t = tt
  stops_apart (r ∷ path) q t =
      ⊎_elim
      (λ (b : is_register (resource A r).kind ≡ true).
      subst Apart (sym (cond-true (is_register (resource A r).kind) _ _ b)) (
        each_more (Stop A u r (t + delay A r) path) (Differ (record { source = u; resource = r; time = t + delay A r; from = Some q })) (stops A u r (t + delay A r) path)
            (λ c (a, s, d, m) e f. omega arith) (each_stop path r (t + delay A r)),
        stops_apart path r (t + delay A r),
      ))
      (λ (b : is_register (resource A r).kind ≡ false).
      subst Apart (sym (cond-false (is_register (resource A r).kind) _ _ b)) (stops_apart path r (t + delay A r)))
      (cases_Bool (is_register (resource A r).kind))

  -- they take as long as the path
  pub length-stops : (path : List ℕ) (q t r s : ℕ) → Goes A q t path r s → t + length (stops A u q t path) ≡ s
  length-stops [] q t r s (a, b) = omega arith
  length-stops (x ∷ path) q t r s (a, g) =
      let h = length-stops path x (t + delay A x) r s g in
      let e = delay_of (resource A x).kind in
      ⊎_elim
      (λ (b : is_register (resource A x).kind ≡ true).
      let f : delay A x ≡ 1 = e ∙ cond-true (is_register (resource A x).kind) 1 0 b in
      subst (λ (z : List Position). t + length z ≡ s) (sym (cond-true (is_register (resource A x).kind) _ _ b)) (omega arith))
      (λ (b : is_register (resource A x).kind ≡ false).
      let f : delay A x ≡ 0 = e ∙ cond-false (is_register (resource A x).kind) 1 0 b in
      subst (λ (z : List Position). t + length z ≡ s) (sym (cond-false (is_register (resource A x).kind) _ _ b)) (omega arith))
      (cases_Bool (is_register (resource A x).kind))
