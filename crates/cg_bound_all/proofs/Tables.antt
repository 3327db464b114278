-- For each kernel and valid architecture there are the numbers of registers on ways for all intervals: by definitions alone.
use Rattle.std.proofs.Common.{◌≡◌, ℕ, zero, suc, ◌+◌, ◌*◌, ◌/◌, ◌%◌, ◌^◌, ◌<◌, ◌≤◌, List, [], ◌∷◌, ◌++◌, length, get_or, Option, Some, None, refl, sym, ap, ◌∙◌, subst, arith, inl, inr, ⊎_elim}
use Rattle.std.specs.Prelude.{◌⊎◌, slice_get, slice_index, unwrap_or}
use Rattle.std.specs.Global.{Vec}
use Rattle.std.proofs.lemmas.Bool.{cases_eq, cases_lt}
use Rattle.std.proofs.lemmas.List.{get_or_past}
use Rattle.std.proofs.lemmas.Option.{slice_get_within}
use denote.RawPtr.{null_ptr}
use Rattle.cg_word.proofs.Arity.{arity_few}
use Rattle.cg_model.specs.declared.kernel.Operand.{Operand}
use Rattle.cg_model.specs.declared.kernel.Operand.TheVariants.{Const as Constant, Edge}
use Rattle.cg_model.specs.Kernel.{Kernel, IsKernel, size, node}
use Rattle.cg_model.specs.Array.{Arch, IsArch}
use Rattle.cg_model.proofs.Mappings.{operand_within}
use Rattle.cg_bound_routes.specs.declared.missing.Missing.{Missing}
use Rattle.cg_bound_routes.specs.Ways.{AreLeastHops, AreWays, IsSmall, AreSmall, hops_of}
use Rattle.cg_bound_routes.proofs.Always.{some_table}
use Rattle.cg_bound_routes.proofs.Rows.{constant_no_edge}
use Rattle.cg_bound_routes.proofs.Tables.{AreThreeTo, number_of, three_more}
use Rattle.cg_bound_registers.specs.Sums.{table}
use Rattle.cg_bound_all.specs.declared.numbers.Numbers.{Numbers}
use Rattle.cg_bound_all.specs.declared.numbers.HopTables.{HopTables}
use Rattle.cg_bound_all.specs.Why.{AreHops, HasNoWay, IsMissing, AreNumbers, AreAllNumbers}
use Rattle.cg_bound_all.proofs.Reasons.{few, same_numbers}

-- a list as a value of the program: where it would stand in memory is no matter of what is said of it
abbrev pub held : {X : Type 0} (xs : List X) → length xs < 2 ^ 58 → Vec X
held xs l = record { ptr = null_ptr; len = length xs; cap = length xs; alloc = record { memory = record { seal = tt } }; items = xs; ok = (refl, omega arith); small = omega arith }

-- ---- three numbers a node

three_to : (rows : List (List (Option ℕ))) (count : ℕ) → (list : List ℕ) × AreThreeTo rows count list
three_to rows zero = ([], record { each = refl; right = λ v p l k. absurd (omega arith) })
three_to rows (suc count) =
    let (list, h) = three_to rows count in
    let row = get_or rows count [] in
    let e : count + 1 ≡ suc count = omega arith in
    let more = list ++ number_of row 0 ∷ number_of row 1 ∷ number_of row 2 ∷ [] in
    (more, subst (λ z. AreThreeTo rows z more) e (three_more rows count list row (number_of row 0) (number_of row 1) (number_of row 2) h refl refl refl refl))

unwrap_small : (most : ℕ) (o : Option ℕ) → IsSmall most o → unwrap_or o 0 ≤ most
unwrap_small most None h = omega arith
unwrap_small most (Some n) h = h n refl

three_small : (rows : List (List (Option ℕ))) (count : ℕ) (list : List ℕ) → AreThreeTo rows count list → (most : ℕ) → AreSmall most rows → (i : ℕ) → slice_index list i ≤ most
three_small rows count list h most small i =
    ⊎_elim {C = slice_index list i ≤ most}
    (λ (l : i < 3 * count).
    let place : 3 * (i / 3) + i % 3 ≡ i = omega arith in
    let low : unwrap_or (hops_of rows (i / 3) (i % 3)) 0 ≤ most = unwrap_small most (hops_of rows (i / 3) (i % 3)) (small (i / 3) (i % 3)) in
    let e : slice_index list i ≡ unwrap_or (hops_of rows (i / 3) (i % 3)) 0 = ap (λ z. slice_index list z) (sym place) ∙ h.right (i / 3) (i % 3) (omega arith) (omega arith) in
    omega arith)
    (λ (l : 3 * count ≤ i). let e : slice_index list i ≡ 0 = get_or_past list i 0 (let n = h.each in omega arith) in omega arith)
    (cases_lt i (3 * count))

-- ---- edges without a way

-- a property that is decided is had by a number below one, or by none
module _ (P : ℕ → Type 0) where
  none_above : (n : ℕ) → ((k : ℕ) → k < n → P k → ⊥) → (P n → ⊥) → (k : ℕ) → k < suc n → P k → ⊥
  none_above n none not k l h = ⊎_elim {C = ⊥} (λ (e : k ≡ n). not (subst P e h)) (λ ne. none k (omega arith) h) (cases_eq k n)

  some_below : ((n : ℕ) → P n ⊎ (P n → ⊥)) → (n : ℕ) → ((k : ℕ) × P k) ⊎ ((k : ℕ) → k < n → P k → ⊥)
  some_below decide zero = inr (λ k l h. absurd (omega arith))
  some_below decide (suc n) =
      ⊎_elim {C = ((k : ℕ) × P k) ⊎ ((k : ℕ) → k < suc n → P k → ⊥)} (λ found. inl found)
      (λ none. ⊎_elim {C = ((k : ℕ) × P k) ⊎ ((k : ℕ) → k < suc n → P k → ⊥)} (λ h. inl (n, h)) (λ not. inr (none_above n none not)) (decide n))
      (some_below decide n)

module _ (A : Arch) (K : Kernel) (ii : ℕ) (rows : List (List (Option ℕ))) (ways : AreWays A K ii rows) where
  abbrev Lacks : ℕ → ℕ → Type 0
  Lacks v p = HasNoWay A K ii v p

  by_far : (v p u d : ℕ) (init : List ℕ) → slice_get (node K v).operands p ≡ Some (Edge u d init) → (o : Option ℕ) → hops_of rows v p ≡ o → Lacks v p ⊎ (Lacks v p → ⊥)
  by_far v p u d init e None is = inl (u, d, init, e, subst (AreLeastHops A K ii v p) is (ways v p))
  by_far v p u d init e (Some n) is = let hops : AreLeastHops A K ii v p (Some n) = subst (AreLeastHops A K ii v p) is (ways v p) in inr (λ (w, c, values, has, none). none n hops.0)

  at_operand : (v p : ℕ) (o : Option Operand) → slice_get (node K v).operands p ≡ o → Lacks v p ⊎ (Lacks v p → ⊥)
  at_operand v p None e = inr (λ (u, d, init, has, none). absurd (cc))
  at_operand v p (Some (Constant w)) e = inr (λ (u, d, init, has, none). constant_no_edge K v p w e u d init has)
  at_operand v p (Some (Edge u d init)) e = by_far v p u d init e (hops_of rows v p) refl

  at_node : (v : ℕ) → ((p : ℕ) × Lacks v p) ⊎ (((p : ℕ) × Lacks v p) → ⊥)
  at_node v =
      ⊎_elim {C = ((p : ℕ) × Lacks v p) ⊎ (((p : ℕ) × Lacks v p) → ⊥)} (λ found. inl found)
      (λ none. inr (λ (p, (u, d, init, has, hops)). none p (slice_get_within (node K v).operands p (Edge u d init) has) (u, d, init, has, hops)))
      (some_below (Lacks v) (λ p. at_operand v p (slice_get (node K v).operands p) refl) (length (node K v).operands))

  some_missing : (missing : Option Missing) × IsMissing A K ii missing
  some_missing =
      ⊎_elim {C = (missing : Option Missing) × IsMissing A K ii missing}
      (λ (v, (p, h)). (Some (record { node = v; arg = p }), h))
      (λ none. (None, λ v p (u, d, init, has, hops). none v (operand_within K v p (Edge u d init) has) (p, (u, d, init, has, hops))))
      (some_below (λ v. (p : ℕ) × Lacks v p) at_node (size K))

-- ---- the numbers

module _ (A : Arch) (K : Kernel) (arch : IsArch A) (valid : IsKernel K) where
  tables_to : (ii : ℕ) (rows : List (List (Option ℕ))) (list : List ℕ) → AreWays A K ii rows → AreThreeTo rows (size K) list → AreHops A K ii (table list)
  tables_to ii rows list ways three v p u d init has =
      let l = operand_within K v p (Edge u d init) has in
      let small : p < 3 = let a = valid.arities v l in let b = arity_few (node K v).op in let m = slice_get_within (node K v).operands p (Edge u d init) has in omega arith in
      (hops_of rows v p, ways v p, three.right v p l small)

  pub some_numbers : (ii : ℕ) → (n : Numbers) × AreNumbers A K ii n
  some_numbers ii =
      let (rows, ways, low) = some_table A arch K ii in
      let (list, three) = three_to rows (size K) in
      let (missing, is) = some_missing A K ii rows ways in (
        record { hops = held list (let n = three.each in let m = valid.few in omega arith); missing = missing },
        record { tables = tables_to ii rows list ways three; missing = is; small = three_small rows (size K) list three 4096 (few A K rows arch low) },
      )

  pub some_hops : (f : HopTables) × AreAllNumbers A K f
  some_hops =
      let (first, is) = some_numbers 1 in
      let (rest, are) = some_numbers 2 in
      (record { first = first; rest = rest }, record { first = is; rest = λ ii l. same_numbers A K ii rest l are })
