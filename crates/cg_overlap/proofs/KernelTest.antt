-- A test that shows a kernel valid.
use Rattle.std.proofs.Common.{◌≡◌, ℕ, ◌<◌, Bool, true, false, List, [], ◌∷◌, length, Option, Some, None, Contains, refl, sym, ap, subst, ⊎_elim, eqb-true, eq-eqb}
use Rattle.std.specs.Prelude.{◌&&◌, eqb, nat_lt, nat_le, not, bytes_eq, slice_get, slice_index}
use Rattle.std.proofs.lemmas.Bool.{and_parts, and_from, cases_lt, ltb-true, leb-true, not_from_false}
use Rattle.std.proofs.lemmas.List.{get_or_past}
use Rattle.std.proofs.lemmas.Option.{slice_get_within}
use Rattle.std.proofs.lemmas.Slice.Eq.{bytes_eq-Decides}
use Rattle.cg_word.specs.Word.{arity, words, has_value, has_port, is_output}
use Rattle.cg_model.specs.declared.kernel.Operand.{Operand}
use Rattle.cg_model.specs.declared.kernel.Operand.TheVariants.{Const as Constant, Edge}
use Rattle.cg_model.specs.Kernel.{Kernel, HasOperand, IsKernel, IsWired, IsOrder, IsNamed, node, size}
use Rattle.cg_model.specs.Names.{is_name}
use Rattle.cg_model.proofs.Identifiers.{is_name-IsName}
use Rattle.cg_overlap.proofs.Tests.{all_true, part, every, every_it, every_at, all_below, all_below_it, given, given_it}
use Rattle.cg_model.proofs.Lookups.{Contains-get}

abbrev each_node : Kernel → (ℕ → Bool) → Bool
each_node K f = all_below f (size K)

-- ---- operands

-- what an operand of node v has to keep, as a list of tests
abbrev operand_tests : Kernel → ℕ → Operand → List Bool
operand_tests K v (Constant w) = nat_lt w words ∷ []
operand_tests K v (Edge u d init) =
    nat_lt u (size K) ∷ given (eqb d 0) (nat_lt u v) ∷ has_value (node K u).op ∷ nat_le d 4 ∷ eqb (length init) d ∷ every (λ w. nat_lt w words) init ∷ []

abbrev is_constant : Option Operand → Bool
is_constant None = false
is_constant (Some (Constant w)) = true
is_constant (Some (Edge u d init)) = false

abbrev kernel_tests : Kernel → List Bool
kernel_tests K =
    nat_le (size K) 1024
    ∷ each_node K (λ v. is_name 32 (node K v).name)
    ∷ each_node K (λ v. each_node K (λ w. given (bytes_eq (node K v).name (node K w).name) (eqb v w)))
    ∷ each_node K (λ v. every (λ o. all_true (operand_tests K v o)) (node K v).operands)
    ∷ each_node K (λ v. all_below (λ p. all_below (λ q. given (is_constant (slice_get (node K v).operands p) && is_constant (slice_get (node K v).operands q)) (eqb p q)) (length (node K v).operands)) (length (node K v).operands))
    ∷ each_node K (λ v. eqb (length (node K v).operands) (arity (node K v).op))
    ∷ each_node K (λ v. nat_le (node K v).port 15)
    ∷ each_node K (λ v. given (not (has_port (node K v).op)) (eqb (node K v).port 0))
    ∷ each_node K (λ v. each_node K (λ w. given (is_output (node K v).op && (is_output (node K w).op && eqb (node K v).port (node K w).port)) (eqb v w)))
    ∷ nat_le (length K.order) 4096
    ∷ every (λ e. nat_lt e.from (size K) && nat_lt e.to (size K)) K.order
    ∷ every (λ e. given (eqb e.distance 0) (nat_lt e.from e.to)) K.order
    ∷ every (λ e. nat_le e.distance 255) K.order
    ∷ []

abbrev pub is_kernel : Kernel → Bool
is_kernel K = all_true (kernel_tests K)

below_past : (f : ℕ → Bool) (k : ℕ) (xs : List ℕ) → f 0 ≡ true → every f xs ≡ true → f (slice_index xs k) ≡ true
below_past f k xs z h =
    ⊎_elim (λ l. every_at f xs k h l) (λ l. subst (λ w. f w ≡ true) (sym (get_or_past xs k 0 l)) z) (cases_lt k (length xs))

module _ (K : Kernel) (h : is_kernel K ≡ true) where
  of_operand : (v p : ℕ) (o : Operand) → v < size K → HasOperand K v p o → all_true (operand_tests K v o) ≡ true
  of_operand v p o l e = every_it (λ o. all_true (operand_tests K v o)) _ o (all_below_it _ _ v (part _ 3 h) l) (Contains-get _ p o e)

  wired : IsWired K
  wired =
      record {
        sources = λ v p u d init l e. ltb-true _ _ (part _ 0 (of_operand v p (Edge u d init) l e));
        forward = λ v p u init l e. ltb-true _ _ (part _ 1 (of_operand v p (Edge u 0 init) l e));
        constants = λ v p c l e. ltb-true _ _ (part _ 0 (of_operand v p (Constant c) l e));
      }

  order : IsOrder K
  order =
      record {
        few = leb-true _ _ (part _ 9 h);
        known = λ e u v d m. let (a, b) = and_parts _ _ (every_it _ _ (record { from = u; to = v; distance = d }) (part _ 10 h) (Contains-get _ e _ m)) in (ltb-true _ _ a, ltb-true _ _ b);
        forward = λ e u v m. ltb-true _ _ (every_it _ _ (record { from = u; to = v; distance = 0 }) (part _ 11 h) (Contains-get _ e _ m));
        near = λ e u v d m. leb-true _ _ (every_it _ _ (record { from = u; to = v; distance = d }) (part _ 12 h) (Contains-get _ e _ m));
      }

  named : IsNamed K
  named =
      record {
        names = λ v l. is_name-IsName _ _ (all_below_it _ _ v (part _ 1 h) l);
        apart = λ v w lv lw e. eqb-true _ _ (given_it _ _ (all_below_it _ _ w (all_below_it _ _ v (part _ 2 h) lv) lw) ((bytes_eq-Decides _ _).1 e));
      }

  one_constant : (v p q a b : ℕ) → v < size K → HasOperand K v p (Constant a) → HasOperand K v q (Constant b) → p ≡ q
  one_constant v p q a b l e f =
      let there = all_below_it _ _ q (all_below_it _ _ p (all_below_it _ _ v (part _ 4 h) l) (slice_get_within _ p _ e)) (slice_get_within _ q _ f) in
      eqb-true _ _ (given_it _ _ there (and_from _ _ (ap is_constant e) (ap is_constant f)))

  pub kernel_by : IsKernel K
  kernel_by =
      record {
        few = leb-true _ _ (part _ 0 h);
        named = named;
        wired = wired;
        order = order;
        arities = λ v l. eqb-true _ _ (all_below_it _ _ v (part _ 5 h) l);
        valued = λ v p u d init l e. part _ 2 (of_operand v p (Edge u d init) l e);
        near = λ v p u d init l e. leb-true _ _ (part _ 3 (of_operand v p (Edge u d init) l e));
        inits = λ v p u d init l e. eqb-true _ _ (part _ 4 (of_operand v p (Edge u d init) l e));
        init_words = λ v p u d k init l e. ltb-true _ _ (below_past (λ w. nat_lt w words) k init refl (part _ 5 (of_operand v p (Edge u d init) l e)));
        one_constant = one_constant;
        ports = λ v l. leb-true _ _ (all_below_it _ _ v (part _ 6 h) l);
        no_ports = λ v l e. eqb-true _ _ (given_it _ _ (all_below_it _ _ v (part _ 7 h) l) (not_from_false _ e));
        one_output = λ v w lv lw e f g. eqb-true _ _ (given_it _ _ (all_below_it _ _ w (all_below_it _ _ v (part _ 8 h) lv) lw) (and_from _ _ e (and_from _ _ f (eq-eqb _ _ g))));
      }
