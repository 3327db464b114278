-- The fields of a valid node keep the rules.
use Rattle.std.proofs.Common.{◌≡◌, ℕ, zero, suc, ◌-◌, ◌^◌, ◌<◌, ◌≤◌, ◌⊎◌, true, false, not, ◌&&◌, ◌||◌, eqb, ltb, leb, List, [], ◌∷◌, length, map, get_or, replicate, Some, refl, sym, ap, subst, ◌∙◌, arith, length-append, ⊎_elim, inl, inr}
use Rattle.std.specs.Prelude.{slice_get, slice_index}
use Rattle.std.proofs.lemmas.Bool.{cases_lt, cases_Bool, lt-ltb, le-leb, or_left, or_right, and_from, eq-eqb}
use Rattle.std.proofs.lemmas.List.{length-replicate, length-map, get_or-replicate, get_or_past}
use Rattle.std.proofs.lemmas.Option.{slice_get_within}
use Rattle.cg_word.specs.declared.op.Op.{Op}
use Rattle.cg_word.specs.declared.op.Op.TheVariants.{Const, Iter, Input, Select, Load, Output, StoreIf}
use Rattle.cg_model.specs.declared.kernel.Operand.{Operand}
use Rattle.cg_model.specs.declared.kernel.Operand.TheVariants.{Const as Constant, Edge}
use Rattle.cg_model.specs.declared.kernel.Node.{Node}
use Rattle.cg_model.specs.declared.config.ArgFields.{ArgFields}
use Rattle.cg_model.specs.declared.config.UnitFields.{UnitFields}
use Rattle.cg_word.specs.Word.{arity, has_port}
use Rattle.cg_word.specs.Sets.{among}
use Rattle.cg_model.specs.Config.{arg, no_arg}
use Rattle.cg_model.specs.Configured.{constant, padded, arg_fields, node_fields}
use Rattle.cg_model.specs.Canonical.{AreFields, fixed_below, immediate_right, mode_right, count_right, word_right}
use Rattle.cg_model.specs.Kernel.{Kernel, IsKernel, HasOperand, node, size}
use Rattle.cg_overlap.proofs.Starts.{get_or-padded, get_or-map_at}
use Rattle.cg_model.proofs.Canonical.{zero_mode, zero_count, zero_word}
use Rattle.cg_word.proofs.Arity.{arity_few}

-- what an operand of a valid kernel keeps
abbrev pub IsOperand : Operand → Type 0
IsOperand (Constant w) = w < 2 ^ 32
IsOperand (Edge u d init) = (d ≤ 4) × (length init ≡ d) × ((k : ℕ) → get_or init k 0 < 2 ^ 32)

-- and a node
pub record IsNode (v : Node) : Type 0 where
  pub operands : length v.operands ≡ arity v.op
  pub small_port : v.port < 2 ^ 4
  pub port : (has_port v.op || eqb v.port 0) ≡ true
  pub each : (p : ℕ) (o : Operand) → slice_get v.operands p ≡ Some o → IsOperand o
  pub one_constant : (p q a b : ℕ) → slice_get v.operands p ≡ Some (Constant a) → slice_get v.operands q ≡ Some (Constant b) → p ≡ q

get_case : (os : List Operand) (p : ℕ) → ((o : Operand) × (slice_get os p ≡ Some o) × (p < length os)) ⊎ (length os ≤ p)
get_case [] p = inr (omega arith)
get_case (o ∷ os) zero = inl (o, refl, omega arith)
get_case (o ∷ os) (suc p) = ⊎_elim (λ h. inl (h.0, h.1, omega arith)) (λ h. inr (omega arith)) (get_case os p)

constant_below : (os : List Operand) → ((p : ℕ) (o : Operand) → slice_get os p ≡ Some o → IsOperand o) → constant os < 2 ^ 32
constant_below [] h = omega arith
constant_below (Constant w ∷ os) h = h 0 (Constant w) refl
constant_below (Edge u d init ∷ os) h = constant_below os (λ p o e. h (suc p) o e)

constant_at : (os : List Operand) → (constant os ≡ 0) ⊎ ((p : ℕ) × (w : ℕ) × (slice_get os p ≡ Some (Constant w)))
constant_at [] = inl refl
constant_at (Constant w ∷ os) = inr (0, w, refl)
constant_at (Edge u d init ∷ os) = ⊎_elim (λ e. inl e) (λ h. inr (suc h.0, h.1, h.2)) (constant_at os)

length-padded : {X : Type 0} (k : ℕ) (x : X) (xs : List X) → length xs ≤ k → length (padded k x xs) ≡ k
length-padded k x xs le = omega (arith, length-append xs (replicate (k - length xs) x), length-replicate (k - length xs) x)

none_fixed : (f : UnitFields) (p : ℕ) → ((q : ℕ) → q < p → (arg f q).fixed ≡ false) → fixed_below f p ≡ false
unfolding fixed_below
none_fixed f zero h = refl
none_fixed f (suc p) h = ap (λ b. b || (arg f p).fixed) (none_fixed f p (λ q lt. h q (omega arith))) ∙ h p (omega arith)

module _ (v : Node) (stage : ℕ) (is : IsNode v) where
  abbrev f : UnitFields
  f = node_fields v stage

  arg_is : (p : ℕ) (o : Operand) → slice_get v.operands p ≡ Some o → arg f p ≡ arg_fields o
  arg_is p o e = get_or-padded 3 (map arg_fields v.operands) p no_arg ∙ get_or-map_at arg_fields v.operands p o no_arg e

  arg_past : (p : ℕ) → length v.operands ≤ p → arg f p ≡ no_arg
  arg_past p le = get_or-padded 3 (map arg_fields v.operands) p no_arg ∙ get_or_past (map arg_fields v.operands) p no_arg (omega (arith, length-map v.operands arg_fields))

  -- by the operand, if there is one
  by_operand : (P : ArgFields → Type 0) (p : ℕ) → ((o : Operand) → slice_get v.operands p ≡ Some o → p < length v.operands → P (arg_fields o)) → P no_arg → P (arg f p)
  by_operand P p h z =
      ⊎_elim (λ c. subst P (sym (arg_is p c.0 c.1)) (h c.0 c.1 c.2)) (λ le. subst P (sym (arg_past p le)) z) (get_case v.operands p)

  init_four : (o : Operand) → IsOperand o → length (arg_fields o).init ≡ 4
  init_four (Constant w) k = refl
  init_four (Edge u d init) k = let a = k.0 in let b = k.1 in length-padded 4 0 init (omega arith)

  init_below : (o : Operand) (k : ℕ) → k < 4 → IsOperand o → slice_index (arg_fields o).init k < 2 ^ 32
  init_below (Constant w) k lt is-o = subst (λ z. z < 2 ^ 32) (sym (get_or-replicate 4 k 0 0 lt)) (omega arith)
  init_below (Edge u d init) k lt is-o = subst (λ z. z < 2 ^ 32) (sym (get_or-padded 4 init k 0)) (is-o.2 k)

  free_of : (p q : ℕ) (a : ℕ) → slice_get v.operands p ≡ Some (Constant a) → q < p → (o : Operand) → slice_get v.operands q ≡ Some o → (arg_fields o).fixed ≡ false
  free_of p q a e lt (Constant b) g = absurd (let same = is.one_constant p q a b e g in omega arith)
  free_of p q a e lt (Edge u d init) g = refl

  mode_of : (p : ℕ) (o : Operand) → slice_get v.operands p ≡ Some o → p < length v.operands → (not (arg_fields o).fixed || (ltb p (arity v.op) && not (fixed_below f p))) ≡ true
  mode_of p (Constant a) e lt =
      let counted = is.operands in
      and_from (ltb p (arity v.op)) (not (fixed_below f p)) (lt-ltb p (arity v.op) (omega arith))
      (ap not (none_fixed f p (λ q l. by_operand (λ z. z.fixed ≡ false) q (λ o g m. free_of p q a e l o g) refl)))
  mode_of p (Edge u d init) e lt = refl

  count_of : (p : ℕ) (o : Operand) → IsOperand o → p < length v.operands → (leb (arg_fields o).count 4 && (eqb (arg_fields o).count 0 || (ltb p (arity v.op) && not (arg_fields o).fixed))) ≡ true
  count_of p (Constant a) k lt = refl
  count_of p (Edge u d init) k lt =
      let counted = is.operands in
      and_from (leb d 4) _ (le-leb d 4 k.0) (or_right (eqb d 0) _ (and_from (ltb p (arity v.op)) true (lt-ltb p (arity v.op) (omega arith)) refl))

  word_of : (p k : ℕ) (o : Operand) → IsOperand o → p < length v.operands → k < 4 →
      (eqb (slice_index (arg_fields o).init k) 0 || ((ltb p (arity v.op) && not (arg_fields o).fixed) && ltb k (arg_fields o).count)) ≡ true
  word_of p k (Constant a) is-o lt l = or_left _ _ (eq-eqb (slice_index (replicate 4 0) k) 0 (get_or-replicate 4 k 0 0 l))
  word_of p k (Edge u d init) is-o lt l =
      let counted = is.operands in
      let long = is-o.1 in
      ⊎_elim (λ small. or_right (eqb (slice_index (padded 4 0 init) k) 0) _ (and_from _ (ltb k d) (and_from (ltb p (arity v.op)) true (lt-ltb p (arity v.op) (omega arith)) refl) (lt-ltb k d small)))
      (λ past. or_left _ _ (eq-eqb (slice_index (padded 4 0 init) k) 0 (get_or-padded 4 init k 0 ∙ get_or_past init k 0 (omega arith)))) (cases_lt k d)

  immediate_of : immediate_right f ≡ true
  immediate_of =
      let counted = is.operands in
      let few = arity_few v.op in
      ⊎_elim (λ e. or_right ((arg f 0).fixed || ((arg f 1).fixed || (arg f 2).fixed)) (eqb (constant v.operands) 0) (eq-eqb (constant v.operands) 0 e))
      (λ h. or_left _ (eqb (constant v.operands) 0) (one_of h.0 (small h.0 h.1 h.2) (ap (λ z. z.fixed) (arg_is h.0 (Constant h.1) h.2)))) (constant_at v.operands)
    where
      small : (p w : ℕ) → slice_get v.operands p ≡ Some (Constant w) → p < 3
      small p w e = let within = slice_get_within v.operands p (Constant w) e in let counted = is.operands in let few = arity_few v.op in omega arith

      one_of : (p : ℕ) → p < 3 → (arg f p).fixed ≡ true → ((arg f 0).fixed || ((arg f 1).fixed || (arg f 2).fixed)) ≡ true
      one_of zero lt e = or_left _ _ e
      one_of (suc zero) lt e = or_right (arg f 0).fixed _ (or_left _ _ e)
      one_of (suc (suc zero)) lt e = or_right (arg f 0).fixed _ (or_right (arg f 1).fixed _ e)
      one_of (suc (suc (suc p))) lt e = absurd (omega arith)

  pub node_keeps : (ops : List Op) → stage ≤ 65534 → among ops v.op ≡ true → AreFields ops f
  node_keeps ops late offer =
      let counted = is.operands in
      let few = arity_few v.op in
      record {
        args = length-padded 3 no_arg (map arg_fields v.operands) (omega (arith, length-map v.operands arg_fields));
        inits = λ p lt. by_operand (λ z. length z.init ≡ 4) p (λ o e l. init_four o (is.each p o e)) refl;
        ports = is.small_port;
        immediates = constant_below v.operands is.each;
        init_words = λ p k lt l. by_operand (λ z. slice_index z.init k < 2 ^ 32) p (λ o e m. init_below o k l (is.each p o e)) (subst (λ z. z < 2 ^ 32) (sym (get_or-replicate 4 k 0 0 l)) (omega arith));
        offer = offer;
        stage = and_from (leb stage 65534) true (le-leb stage 65534 late) refl;
        port = is.port;
        immediate = immediate_of;
        mode = λ p lt. ⊎_elim (λ c. subst (λ z. (not z.fixed || (ltb p (arity v.op) && not (fixed_below f p))) ≡ true) (sym (arg_is p c.0 c.1)) (mode_of p c.0 c.1 c.2)) (λ le. zero_mode f p (arg_past p le)) (get_case v.operands p);
        count = λ p lt. ⊎_elim (λ c. subst (λ z. (leb z.count 4 && (eqb z.count 0 || (ltb p (arity v.op) && not z.fixed))) ≡ true) (sym (arg_is p c.0 c.1)) (count_of p c.0 (is.each p c.0 c.1) c.2))
            (λ le. zero_count f p (arg_past p le)) (get_case v.operands p);
        word = λ p k lt l. ⊎_elim (λ c. subst (λ z. (eqb (slice_index z.init k) 0 || ((ltb p (arity v.op) && not z.fixed) && ltb k z.count)) ≡ true) (sym (arg_is p c.0 c.1)) (word_of p k c.0 (is.each p c.0 c.1) c.2 l))
            (λ le. zero_word f p k l (arg_past p le)) (get_case v.operands p);
      }

-- the nodes of a valid kernel
operand_keeps : (K : Kernel) (good : IsKernel K) (v p : ℕ) (o : Operand) → v < size K → HasOperand K v p o → IsOperand o
operand_keeps K good v p (Constant w) l e = good.wired.constants v p w l e
operand_keeps K good v p (Edge u d init) l e = (good.near v p u d init l e, good.inits v p u d init l e, λ k. good.init_words v p u d k init l e)

pub node_is : (K : Kernel) → IsKernel K → (v : ℕ) → v < size K → IsNode (node K v)
node_is K good v l =
    record {
      operands = good.arities v l;
      small_port = let h = good.ports v l in omega arith;
      port = ⊎_elim (λ t. or_left _ _ t) (λ f. or_right _ _ (eq-eqb _ _ (good.no_ports v l f))) (cases_Bool (has_port (node K v).op));
      each = λ p o e. operand_keeps K good v p o l e;
      one_constant = λ p q a b. good.one_constant v p q a b l;
    }
