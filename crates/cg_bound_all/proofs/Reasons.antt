-- What the parts of the search find, and that a legal mapping leaves no reason.
use Rattle.std.proofs.Common.{◌≡◌, ℕ, ◌<◌, ◌≤◌, List, length, eqb, false, Option, Some, None, refl, sym, ap, ◌∙◌, subst, arith, inl, inr, ⊎_elim}
use Rattle.std.specs.Prelude.{IfSome, IfNone, unwrap_or}
use Rattle.std.proofs.lemmas.Bool.{cases_eq, cases_lt, ne_eqb}
use Rattle.cg_word.specs.declared.op.Op.{Op}
use Rattle.cg_word.proofs.Arity.{arity_few}
use Rattle.std.proofs.lemmas.Option.{slice_get_within}
use Rattle.cg_model.specs.declared.kernel.Operand.TheVariants.{Edge}
use Rattle.cg_model.specs.Kernel.{Kernel, IsKernel, node}
use Rattle.cg_model.specs.Array.{Arch, IsArch}
use Rattle.cg_model.specs.Mapping.{Mapping, IsLegal}
use Rattle.cg_model.proofs.Mappings.{operand_within}
use Rattle.cg_recur.specs.declared.edge.EdgeId.{EdgeId}
use Rattle.std.proofs.Common.{Vec, Global}
use Rattle.cg_class.specs.declared.class.Assignment.{Assignment}
use Rattle.cg_class.specs.declared.class.Assignment.TheVariants.{Overfull, Units}
use Rattle.cg_class.specs.Class.{IsAnswer}
use Rattle.cg_bound_flow.specs.declared.find.Outcome.{Outcome}
use Rattle.cg_bound_flow.specs.declared.find.Outcome.TheVariants.{Open}
use Rattle.cg_bound_flow.specs.Finish.{IsSound}
use Rattle.cg_bound.proofs.Legal.{not_forbidden}
use Rattle.cg_bound_routes.specs.declared.missing.Missing.{Missing}
use Rattle.cg_bound_routes.specs.Ways.{HasWay, AreLeastHops, AreWays, AreSmall, hops_of}
use Rattle.cg_bound_routes.specs.Table.{AreThreeANode, IsFirstMissing, HasAllNumbers}
use Rattle.cg_bound_routes.proofs.Least.{least_same}
use Rattle.cg_bound_routes.proofs.Legal.{keeps_hops}
use Rattle.cg_bound_registers.specs.declared.times.Times.{Times}
use Rattle.cg_bound_registers.specs.Pressure.{IsKept}
use Rattle.cg_bound_registers.specs.Sums.{table}
use Rattle.cg_bound_registers.specs.Times.{begins, lasts, longest, AreLoose}
use Rattle.cg_bound_registers.proofs.Legal.{no_pressure}
use Rattle.cg_bound_registers.proofs.Excluded.{not_loose}
use Rattle.cg_bound_recurrence.specs.WayCycles.{IsWayCycle, IsWayAnswer}
use Rattle.cg_bound_recurrence.proofs.Legal.{no_way_cycle}
use Rattle.cg_bound_all.specs.declared.reason.Kind.{Kind}
use Rattle.cg_bound_all.specs.declared.reason.Kind.TheVariants as kinds
use Rattle.cg_bound_all.specs.declared.reason.Reason.{Reason}
use Rattle.cg_bound_all.specs.declared.reason.Reason.TheVariants.{Recurrence, Class, NoWay, Ways, Registers}
use Rattle.cg_bound_all.specs.declared.numbers.Numbers.{Numbers}
use Rattle.cg_bound_all.specs.declared.numbers.HopTables.{HopTables}
use Rattle.cg_bound_all.specs.Why.{AreHops, HasNoWay, IsMissing, AreNumbers, AreAllNumbers, numbers_at, IsExcluded, Shows, kind_of}
use Rattle.cg_bound_all.specs.Scan.{IsFound}

-- ---- the registers on ways

module _ (A : Arch) (K : Kernel) where
  pub tables : (ii : ℕ) (rows : List (List (Option ℕ))) (hops : List ℕ) → IsKernel K → AreWays A K ii rows → AreThreeANode rows hops → AreHops A K ii (table hops)
  tables ii rows hops good ways three v p u d init has =
      let l = operand_within K v p (Edge u d init) has in
      let few : p < 3 = let a = good.arities v l in let b = arity_few (node K v).op in let m = slice_get_within (node K v).operands p (Edge u d init) has in omega arith in
      (hops_of rows v p, ways v p, three.right v p few)

  pub none_missing : (ii : ℕ) (rows : List (List (Option ℕ))) → AreWays A K ii rows → HasAllNumbers K rows → IsMissing A K ii None
  none_missing ii rows ways all v p (u, d, init, has, none) =
      let (n, is) = all v p u d init has in
      none n (subst (AreLeastHops A K ii v p) is (ways v p)).0

  pub one_missing : (ii : ℕ) (rows : List (List (Option ℕ))) (m : Missing) → AreWays A K ii rows → IsFirstMissing K rows m → IsMissing A K ii (Some m)
  one_missing ii rows m ways first =
      let (u, d, init, has, is) = first.missing in
      (u, d, init, has, subst (AreLeastHops A K ii m.node m.arg) is (ways m.node m.arg))

  pub missing_of : (ii : ℕ) (rows : List (List (Option ℕ))) (o : Option Missing) → AreWays A K ii rows → IfSome o (IsFirstMissing K rows) → IfNone o (HasAllNumbers K rows) → IsMissing A K ii o
  missing_of ii rows None ways some none = none_missing ii rows ways none
  missing_of ii rows (Some m) ways some none = one_missing ii rows m ways some

  pub few : (rows : List (List (Option ℕ))) → IsArch A → AreSmall (length A.resources) rows → AreSmall 4096 rows
  few rows valid small v p n is = let a = small v p n is in let b = valid.small.resources in omega arith

  -- the numbers for interval 2 are those for each greater one
  same_ways : (ii v p n : ℕ) → 2 ≤ ii → HasWay A K 2 v p n → HasWay A K ii v p n
  same_ways ii v p n l (u, d, init, has, x, y, may, way) =
      (u, d, init, has, x, y, record { source = may.source; target = may.target; one = may.one; apart = λ e. absurd (omega arith) }, way)

  same_ways_back : (ii v p n : ℕ) → 2 ≤ ii → HasWay A K ii v p n → HasWay A K 2 v p n
  same_ways_back ii v p n l (u, d, init, has, x, y, may, way) =
      (u, d, init, has, x, y, record { source = may.source; target = may.target; one = may.one; apart = λ e. absurd (omega arith) }, way)

  same_hops : (ii v p : ℕ) (o : Option ℕ) → 2 ≤ ii → AreLeastHops A K 2 v p o → AreLeastHops A K ii v p o
  same_hops ii v p o l h = least_same (HasWay A K 2 v p) (HasWay A K ii v p) (λ n. same_ways ii v p n l) (λ n. same_ways_back ii v p n l) o h

  same_none : (ii : ℕ) (o : Option Missing) → 2 ≤ ii → IsMissing A K 2 o → IsMissing A K ii o
  same_none ii (Some m) l (u, d, init, has, none) = (u, d, init, has, same_hops ii m.node m.arg None l none)
  same_none ii None l none = λ v p (u, d, init, has, hops). none v p (u, d, init, has, λ n w. hops n (same_ways ii v p n l w))

  pub same_numbers : (ii : ℕ) (n : Numbers) → 2 ≤ ii → AreNumbers A K 2 n → AreNumbers A K ii n
  same_numbers ii n l h =
      record {
        tables = λ v p u d init has. let (o, is, e) = h.tables v p u d init has in (o, same_hops ii v p o l is, e);
        missing = same_none ii n.missing l h.missing;
        small = h.small;
      }

  pub numbers_for : (f : HopTables) (ii : ℕ) → 1 ≤ ii → AreAllNumbers A K f → AreNumbers A K ii (numbers_at f ii)
  numbers_for f ii l all =
      ⊎_elim
      (λ (e : ii ≡ 1). subst (λ j. AreNumbers A K j (numbers_at f j)) (sym e) all.first)
      (λ (ne : ii ≡ 1 → ⊥). let b : eqb ii 1 ≡ false = ne_eqb ii 1 ne in subst (λ n. AreNumbers A K ii n) (sym (chosen b)) (all.rest ii (two ii l ne)))
      (cases_eq ii 1)
    where
      chosen : eqb ii 1 ≡ false → numbers_at f ii ≡ f.rest
      chosen b = rw b refl

      two : (i : ℕ) → 1 ≤ i → (i ≡ 1 → ⊥) → 2 ≤ i
      two i l ne = ⊎_elim (λ (m : i < 2). absurd (ne (omega arith))) (λ (m : 2 ≤ i). m) (cases_lt i 2)

-- ---- reasons

module _ (A : Arch) (K : Kernel) (hops : ℕ → ℕ → ℕ) (ii : ℕ) where
  -- what a reason shows is that one of its kind excludes the interval
  pub shown : (r : Reason) → Shows A K hops ii r → IsExcluded A K hops ii (kind_of r)
  shown (Recurrence ids) h = (ids.items, h)
  shown (Class set) h = (set, h)
  shown (NoWay m) h = inl (m.node, m.arg, h)
  shown (Ways ids) h = inr (ids.items, h)
  shown (Registers P) (h, s) = (P, h)

  pub no_registers : (t : Times) → IsKernel K → AreLoose A K hops ii t → IsExcluded A K hops ii kinds.Registers → ⊥
  no_registers t good loose (P, h) = not_loose A K hops ii (begins t) (lasts t) (longest t) good loose P h

module _ (A : Arch) (K : Kernel) (hops : ℕ → ℕ → ℕ) (ii : ℕ) (a : Assignment) where
  pub class_found : (s : List Op) → a ≡ Overfull s → IsAnswer A K ii a → IsFound A K hops ii kinds.Class (Some (Class s))
  class_found s e h = ((subst (IsAnswer A K ii) e h).0, refl)

  pub no_class : (places : Vec ℕ Global) → a ≡ Units places → IsAnswer A K ii a → IsFound A K hops ii kinds.Class None
  no_class places e h (s, over) = (subst (IsAnswer A K ii) e h).1 s over

pub no_ways : (A : Arch) (K : Kernel) (ii : ℕ) (n : Numbers) (hops : List ℕ) (found : Option (Vec EdgeId Global)) → AreNumbers A K ii n → n.missing ≡ None → hops ≡ n.hops.items → found ≡ None → IsWayAnswer A K (table hops) ii found →
    IsFound A K (table n.hops.items) ii kinds.Ways None
no_ways A K ii n hops found are none e is h (inl (v, p, missing)) = (subst (IsMissing A K ii) none are.missing) v p missing
no_ways A K ii n hops found are none e is h (inr (ids, c)) = (subst (IsWayAnswer A K (table hops) ii) is h) ids (subst (λ z. IsWayCycle A K (table z) ii ids) (sym e) c)

pub open_found : (A : Arch) (K : Kernel) (n : Numbers) (hops : List ℕ) (ii : ℕ) (outcome : Outcome) (t : Times) → IsKernel K → hops ≡ n.hops.items → outcome ≡ Open t → IsSound A K (table hops) ii outcome →
    IsFound A K (table n.hops.items) ii kinds.Registers None
open_found A K n hops ii outcome t good e is h =
    subst (λ z. IsFound A K (table z) ii kinds.Registers None) e (no_registers A K (table hops) ii t good (subst (IsSound A K (table hops) ii) is h))

-- ---- legal mappings

module _ (A : Arch) (K : Kernel) (M : Mapping) (hops : ℕ → ℕ → ℕ) (good : IsKernel K) (legal : IsLegal A K M) (are : AreHops A K M.ii hops) where
  kept : IsKept A K M hops
  kept v p u d init has =
      let (o, is, e) = are v p u d init has in
      let (n, some, h) = keeps_hops A K M good legal v p u d init o has is in
      let f : hops v p ≡ n = e ∙ ap (λ z. unwrap_or z 0) some in
      omega arith

  has_ways : (v p : ℕ) → HasNoWay A K M.ii v p → ⊥
  has_ways v p (u, d, init, has, none) =
      let (n, some, h) = keeps_hops A K M good legal v p u d init None has none in
      absurd (cc)

  pub none_excludes : (kind : Kind) → IsExcluded A K hops M.ii kind → ⊥
  none_excludes kinds.Recurrence (ids, h) = not_forbidden A K M good legal (inl (ids, h))
  none_excludes kinds.Class (set, h) = not_forbidden A K M good legal (inr (set, h))
  none_excludes kinds.Ways (inl (v, p, h)) = has_ways v p h
  none_excludes kinds.Ways (inr (ids, h)) = no_way_cycle A K M hops ids good legal kept h
  none_excludes kinds.Registers (P, h) = no_pressure A K M hops P good legal kept h
