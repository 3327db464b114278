-- What a run rests on of a canonical configuration.
use Rattle.std.proofs.Common.{◌≡◌, ℕ, zero, suc, ◌<◌, ◌≤◌, Bool, true, ◌&&◌, [], length, refl, sym, subst, ◌∙◌, arith, ⊎_elim}
use Rattle.std.specs.Prelude.{slice_index_or}
use Rattle.std.proofs.lemmas.Bool.{cases_lt, eq-eqb, leb-true, and_parts, cond_both, not-true, true≢false, or_right, or_left}
use Rattle.std.proofs.lemmas.List.{get_or_past}
use Rattle.cg_model.specs.declared.config.UnitFields.{UnitFields}
use Rattle.cg_model.specs.Array.{Arch}
use Rattle.cg_model.specs.Config.{Config, fields, off}
use Rattle.cg_model.specs.Canonical.{IsCanonical, is_on, gives_output, stage_of, last_stage, any_below, clash}
use Rattle.cg_model.proofs.Canonical.{greatest_below}

all_three : (a b c : Bool) → a ≡ true → b ≡ true → c ≡ true → (a && (b && c)) ≡ true
all_three a b c ea eb ec = rw (ea, eb, ec) refl

-- one of the first n tests holds if that one does
any_here : (f : ℕ → Bool) (n i : ℕ) → i < n → f i ≡ true → any_below f n ≡ true
unfolding any_below
any_here f zero i l e = absurd (omega arith)
any_here f (suc n) i l e =
    ⊎_elim (λ b. or_left (any_below f n) (f n) (any_here f n i b e)) (λ b. let z : i ≡ n = omega arith in or_right (any_below f n) (f n) (subst (λ k. f k ≡ true) z e)) (cases_lt i n)

module _ (A : Arch) (C : Config) (good : IsCanonical A C) where
  -- a unit that there isn't is off
  pub off_past : (x slot : ℕ) → slot < C.ii → length A.units ≤ x → fields C x slot ≡ off
  off_past x slot ls l = let e = (good.rows slot ls).1 in get_or_past (slice_index_or C.units slot []) x off (omega arith)

  pub stage_few : (x slot : ℕ) → x < length A.units → slot < C.ii → (fields C x slot).stage ≤ 65534
  stage_few x slot lx ls = leb-true (fields C x slot).stage 65534 (and_parts _ _ ((good.fielded x slot lx ls).stage)).0

  stage_of_few : (x slot : ℕ) → x < length A.units → slot < C.ii → stage_of (fields C x slot) ≤ 65534
  stage_of_few x slot lx ls =
      cond_both (is_on (fields C x slot).op) (fields C x slot).stage 0 (λ z. z ≤ 65534) (λ t. stage_few x slot lx ls) (λ f. omega arith)

  pub stages_few : (0 < C.stages) × (C.stages ≤ 65535)
  stages_few =
      let last : last_stage A C ≤ 65534 = greatest_below (λ slot. _) C.ii 65534 (λ slot ls. greatest_below (λ x. stage_of (fields C x slot)) (length A.units) 65534 (λ x lx. stage_of_few x slot lx ls)) in
      let e = good.stages in
      (omega arith, omega arith)

  -- no field before that of unit y at that slot gives output to its port
  clash_is : (f g : UnitFields) → gives_output f.op ≡ true → gives_output g.op ≡ true → f.port ≡ g.port → clash f g ≡ true
  clash_is f g ef eg ep = all_three _ _ _ ef eg (eq-eqb f.port g.port ep)

  none_earlier : (x slot y other : ℕ) → x < length A.units → y < length A.units → other < C.ii → slot < other →
      gives_output (fields C x slot).op ≡ true → gives_output (fields C y other).op ≡ true → (fields C x slot).port ≡ (fields C y other).port → ⊥
  none_earlier x slot y other lx ly lo before ox oy ep =
      let row = any_here (λ z. clash (fields C z slot) (fields C y other)) (length A.units) x lx (clash_is (fields C x slot) (fields C y other) ox oy ep) in
      let all = any_here (λ s. any_below (λ z. clash (fields C z s) (fields C y other)) (length A.units)) other slot before row in
      true≢false (sym (or_left _ _ all) ∙ not-true _ (good.free y other ly lo))

  none_below : (x y slot : ℕ) → y < length A.units → slot < C.ii → x < y →
      gives_output (fields C x slot).op ≡ true → gives_output (fields C y slot).op ≡ true → (fields C x slot).port ≡ (fields C y slot).port → ⊥
  none_below x y slot ly ls before ox oy ep =
      let row = any_here (λ z. clash (fields C z slot) (fields C y slot)) y x before (clash_is (fields C x slot) (fields C y slot) ox oy ep) in
      true≢false (sym (or_right _ _ row) ∙ not-true _ (good.free y slot ly ls))

  same_unit : (x y slot other : ℕ) → x < length A.units → y < length A.units → slot < C.ii → slot ≡ other →
      gives_output (fields C x slot).op ≡ true → gives_output (fields C y other).op ≡ true → (fields C x slot).port ≡ (fields C y other).port → x ≡ y
  same_unit x y slot other lx ly ls e ox oy ep =
      let oy' = subst (λ s. gives_output (fields C y s).op ≡ true) (sym e) oy in
      let ep' = subst (λ s. (fields C x slot).port ≡ (fields C y s).port) (sym e) ep in
      ⊎_elim (λ l. absurd (none_below x y slot ly ls l ox oy' ep'))
      (λ l. ⊎_elim (λ k. absurd (none_below y x slot lx ls k oy' ox (sym ep'))) (λ k. omega arith) (cases_lt y x))
      (cases_lt x y)

  -- at most one field gives output to a port
  pub one_output : (x slot y other : ℕ) → x < length A.units → slot < C.ii → y < length A.units → other < C.ii →
      gives_output (fields C x slot).op ≡ true → gives_output (fields C y other).op ≡ true → (fields C x slot).port ≡ (fields C y other).port → (x ≡ y) × (slot ≡ other)
  one_output x slot y other lx ls ly lo ox oy ep =
      ⊎_elim (λ l. absurd (none_earlier x slot y other lx ly lo l ox oy ep))
      (λ l. ⊎_elim (λ k. absurd (none_earlier y other x slot ly lx ls k oy ox (sym ep)))
      (λ k. let e : slot ≡ other = omega arith in (same_unit x y slot other lx ly ls e ox oy ep, e))
      (cases_lt other slot))
      (cases_lt slot other)
