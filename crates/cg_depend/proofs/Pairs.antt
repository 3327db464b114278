-- A node with a pair has its value in every turn.
use Rattle.std.proofs.Common.{◌≡◌, ℕ, zero, suc, ◌+◌, ◌-◌, ◌*◌, ◌%◌, ◌^◌, ◌<◌, List, length, Option, Some, None, Bool, true, cond, eqb, refl, sym, ap, ap₂, ◌∙◌, subst, arith, ⊎_elim, inl, inr}
use Rattle.std.specs.Prelude.{IfSome, ◌⊎◌, ◌&&◌, slice_get, slice_index, slice_index_or, map}
use Rattle.std.proofs.lemmas.Nat.{mod_below, mul-mod_first}
use Rattle.std.proofs.lemmas.Bool.{cases_lt, cases_eq, cases_Bool, and_parts, eqb-true, lt-ltb, le-ltb, cond-true, cond-false}
use Rattle.std.proofs.lemmas.List.{length_push, get_or_push, get_or_append_left, get_or_past}
use Rattle.std.proofs.lemmas.Option.{get_or_from_slice_get}
use Rattle.cg_word.specs.declared.op.Op.{Op}
use Rattle.cg_word.specs.declared.op.Op.TheVariants.{Const, Iter, Add, Sub, Mul, Shl}
use Rattle.cg_word.specs.Word.{words, apply_of}
use Rattle.cg_model.specs.Work.{Image, value, value_by}
use Rattle.cg_model.specs.declared.kernel.Operand.{Operand}
use Rattle.cg_model.specs.declared.kernel.Operand.TheVariants.{Const as Constant, Edge}
use Rattle.cg_model.specs.Kernel.{Kernel, HasOperand, IsWired, node, size}
use Rattle.cg_model.specs.Turns.{operand, before, val}
use Rattle.cg_model.proofs.Lookups.{get_map}
use Rattle.cg_model.proofs.Mappings.{operand_within}
use Rattle.cg_model.proofs.Options.{some_cond}
use Rattle.cg_overlap.proofs.Sequence.{work_is}
use Rattle.std.specs.Option.{option_or}
use Rattle.cg_depend.specs.Affine.{AffinePair, pair_of, at_turn, ago, suits, delayed, operand_pair, pair_of_some, arg_pair, line, scaled, product, shift, itself, constant, climb, fall, pair_by, pairs, affine_of}
use Rattle.cg_depend.proofs.Numbers.{line_word, later, sooner, sum_line, difference_line, climb_line, fall_line}

-- options
pub record Both (x y : Option AffinePair) (P : AffinePair → AffinePair → Type 0) : Type 0 where
  pub first : AffinePair
  pub second : AffinePair
  pub is_first : x ≡ Some first
  pub is_second : y ≡ Some second
  pub holds : P first second

line_parts : (op : Op) (x y : Option AffinePair) (r : AffinePair) → line op x y ≡ Some r → Both x y (λ p q. r ≡ pair_of (apply_of op p.base q.base 0) (apply_of op p.stride q.stride 0))
line_parts op (Some p) (Some q) r e = record { first = p; second = q; is_first = refl; is_second = refl; holds = cc }
line_parts op (Some p) None r e = absurd (cc)
line_parts op None y r e = absurd (cc)

or_parts : (x y : Option AffinePair) (r : AffinePair) → option_or x y ≡ Some r → (x ≡ Some r) ⊎ (y ≡ Some r)
or_parts (Some p) y r e = inl e
or_parts None y r e = inr e

-- a test that guards an option
test_parts : {X : Type 0} (b : Bool) (x : X) (y : Option X) (r : X) → cond b (Some x) y ≡ Some r → ((b ≡ true) × (x ≡ r)) ⊎ (y ≡ Some r)
test_parts b x y r e = ⊎_elim (λ t. inl (t, let f = sym (cond-true b (Some x) y t) ∙ e in cc)) (λ t. inr (sym (cond-false b (Some x) y t) ∙ e)) (cases_Bool b)

product_parts : (x y : Option AffinePair) (r : AffinePair) → product x y ≡ Some r → Both x y (λ p q. ((q.stride ≡ 0) × (r ≡ scaled Mul p q.base)) ⊎ ((p.stride ≡ 0) × (r ≡ scaled Mul q p.base)))
product_parts (Some p) (Some q) r e =
    record {
      first = p;
      second = q;
      is_first = refl;
      is_second = refl;
      holds =
          ⊎_elim (λ h. inl (eqb-true q.stride 0 h.0, sym h.1))
          (λ h. let k = some_cond (eqb p.stride 0) (scaled Mul q p.base) r h in inr (eqb-true p.stride 0 k.0, sym k.1))
          (test_parts (eqb q.stride 0) (scaled Mul p q.base) _ r e);
    }
product_parts (Some p) None r e = absurd (cc)
product_parts None y r e = absurd (cc)

shift_parts : (x y : Option AffinePair) (r : AffinePair) → shift x y ≡ Some r → Both x y (λ p q. (q.stride ≡ 0) × (r ≡ scaled Shl p q.base))
shift_parts (Some p) (Some q) r e =
    record {
      first = p;
      second = q;
      is_first = refl;
      is_second = refl;
      holds = let h = some_cond (eqb q.stride 0) (scaled Shl p q.base) r e in (eqb-true q.stride 0 h.0, sym h.1);
    }
shift_parts (Some p) None r e = absurd (cc)
shift_parts None y r e = absurd (cc)

itself_is : (v : ℕ) (o : Option Operand) (w : ℕ) → itself v o ≡ Some w → (init : List ℕ) × (o ≡ Some (Edge v 1 init)) × (slice_index init 0 ≡ w)
itself_is v (Some (Edge u d init)) w e =
    let h = some_cond (eqb u v && eqb d 1) (slice_index init 0) w e in
    let both = and_parts (eqb u v) (eqb d 1) h.0 in
    (init, let a : u ≡ v = eqb-true u v both.0 in let b : d ≡ 1 = eqb-true d 1 both.1 in rw (a, b) refl, h.1)
itself_is v (Some (Constant c)) w e = absurd (cc)
itself_is v None w e = absurd (cc)

constant_is : (o : Option Operand) (c : ℕ) → constant o ≡ Some c → o ≡ Some (Constant c)
constant_is (Some (Constant c)) d e = let f : c ≡ d = cc in rw f refl
constant_is (Some (Edge u d init)) c e = absurd (cc)
constant_is None c e = absurd (cc)

pub record BothWords (x y : Option ℕ) (P : ℕ → ℕ → Type 0) : Type 0 where
  pub first : ℕ
  pub second : ℕ
  pub is_first : x ≡ Some first
  pub is_second : y ≡ Some second
  pub holds : P first second

climb_parts : (x y : Option ℕ) (r : AffinePair) → climb x y ≡ Some r → BothWords x y (λ w c. r ≡ pair_of (apply_of Add w c 0) c)
climb_parts (Some w) (Some c) r e = record { first = w; second = c; is_first = refl; is_second = refl; holds = cc }
climb_parts (Some w) None r e = absurd (cc)
climb_parts None y r e = absurd (cc)

fall_parts : (x y : Option ℕ) (r : AffinePair) → fall x y ≡ Some r → BothWords x y (λ w c. r ≡ pair_of (apply_of Sub w c 0) (apply_of Sub 0 c 0))
fall_parts (Some w) (Some c) r e = record { first = w; second = c; is_first = refl; is_second = refl; holds = cc }
fall_parts (Some w) None r e = absurd (cc)
fall_parts None y r e = absurd (cc)

-- a pair of words, and a word that goes by it
pub record Runs (f : ℕ → ℕ) (p : AffinePair) : Type 0 where
  pub small_base : p.base < words
  pub small_stride : p.stride < words
  pub at : (i : ℕ) → f i ≡ at_turn p i

suits_at : (p : AffinePair) (d : ℕ) (init : List ℕ) (n k : ℕ) → suits p d init n ≡ true → k < n → slice_index init k ≡ ago p (d - k)
suits_at p d init zero k e l = absurd (omega arith)
suits_at p d init (suc n) k e l =
    let both = and_parts (eqb (slice_index init n) (ago p (d - n))) (suits p d init n) e in
    ⊎_elim (λ b. suits_at p d init n k both.1 b) (λ b. let z : k ≡ n = omega arith in rw z (eqb-true _ _ both.0)) (cases_lt k n)

-- an operand of a node further on
delayed_runs : (f : ℕ → ℕ) (d : ℕ) (init : List ℕ) (p : AffinePair) → Runs f p → suits p d init d ≡ true → Runs (λ i. operand (λ u. f) i (Edge 0 d init)) (pair_of (ago p d) p.stride)
delayed_runs f d init p r e =
    record {
      small_base = mod_below _ words (omega arith);
      small_stride = r.small_stride;
      at = λ i.
          ⊎_elim
          (λ l. rw (lt-ltb i d l) (suits_at p d init d i e l ∙ sooner_at i (d - i) l (omega arith)))
          (λ l. rw (le-ltb i d l) (r.at (i - d) ∙ later_at i (i - d) (omega arith)))
          (cases_lt i d);
    }
  where
    rest : words ≡ p.stride + (words - p.stride)
    rest = let h = r.small_stride in omega arith

    sooner_at : (i x : ℕ) → i < d → d ≡ i + x → ago p x ≡ at_turn (pair_of (ago p d) p.stride) i
    sooner_at i x l z = rw z (sooner words p.base p.stride (words - p.stride) i x rest)

    later_at : (i j : ℕ) → i ≡ j + d → at_turn p j ≡ at_turn (pair_of (ago p d) p.stride) i
    later_at i j z = rw z (sym (later words p.base p.stride (words - p.stride) d j rest))

index_map : {X : Type 0} (f : X → ℕ) (xs : List X) (k : ℕ) (x : X) → slice_get xs k ≡ Some x → slice_index (map f xs) k ≡ f x
index_map f xs k x e = get_or_from_slice_get (map f xs) k (f x) 0 (get_map f xs k x e)

module _ (K : Kernel) (image : Image) (good : IsWired K) where
  -- node u has the pair's word in each turn
  abbrev Follows : AffinePair → ℕ → Type 0
  Follows p u = Runs (val K image u) p

  abbrev Right : List (Option AffinePair) → Type 0
  Right earlier = (u : ℕ) (p : AffinePair) → u < size K → slice_index_or earlier u None ≡ Some p → Follows p u

  -- argument k of node v
  abbrev argument : ℕ → ℕ → ℕ → ℕ
  argument v k i = slice_index (map (operand (val K image) i) (node K v).operands) k

  constant_runs : (c : ℕ) → c < words → Runs (λ i. c) (pair_of c 0)
  constant_runs c h = record { small_base = h; small_stride = omega arith; at = λ i. let e : (c + 0 * i) % words ≡ c = omega arith in sym e }

  delayed_is : (u d : ℕ) (init : List ℕ) (o : Option AffinePair) (p : AffinePair) → ((q : AffinePair) → o ≡ Some q → Follows q u) → delayed d init o ≡ Some p → Runs (λ i. operand (val K image) i (Edge u d init)) p
  delayed_is u d init None p right e = absurd (cc)
  delayed_is u d init (Some q) p right e =
      let h = some_cond (suits q d init d) (pair_of (ago q d) q.stride) p e in
      subst (Runs (λ i. operand (val K image) i (Edge u d init))) h.1 (delayed_runs (val K image u) d init q (right q refl) h.0)

  operand_runs : (earlier : List (Option AffinePair)) (v k : ℕ) (o : Operand) (p : AffinePair) → Right earlier → HasOperand K v k o → operand_pair earlier o ≡ Some p → Runs (λ i. operand (val K image) i o) p
  operand_runs earlier v k (Constant c) p right h e =
      let z : pair_of c 0 ≡ p = cc in
      subst (Runs (λ i. c)) z (constant_runs c (good.constants v k c (operand_within K v k (Constant c) h) h))
  operand_runs earlier v k (Edge u d init) p right h e = delayed_is u d init (slice_index_or earlier u None) p (λ q f. right u q (good.sources v k u d init (operand_within K v k (Edge u d init) h) h) f) e

  some_runs : (earlier : List (Option AffinePair)) (v k : ℕ) (o : Option Operand) (p : AffinePair) → Right earlier → slice_get (node K v).operands k ≡ o → pair_of_some earlier o ≡ Some p → Runs (argument v k) p
  some_runs earlier v k None p right h e = absurd (cc)
  some_runs earlier v k (Some o) p right h e =
      let r = operand_runs earlier v k o p right h e in
      record { small_base = r.small_base; small_stride = r.small_stride; at = λ i. index_map (operand (val K image) i) (node K v).operands k o h ∙ r.at i }

  -- an argument with a pair
  pub arg_runs : (earlier : List (Option AffinePair)) (v k : ℕ) (p : AffinePair) → Right earlier → arg_pair earlier (node K v).operands k ≡ Some p → Runs (argument v k) p
  arg_runs earlier v k p right e = some_runs earlier v k (slice_get (node K v).operands k) p right refl e

  -- the value of a node that needs its operands alone
  node_value : (v : ℕ) (op : Op) → v < size K → (node K v).op ≡ op → (i : ℕ) → val K image v i ≡ value_by image (before K image (i * size K + v)).memory (node K v).port i (map (operand (val K image) i) (node K v).operands) op
  node_value v op l e i =
      ap (value image (before K image (i * size K + v)).memory) (work_is K image good i v l)
      ∙ ap (value_by image (before K image (i * size K + v)).memory (node K v).port i (map (operand (val K image) i) (node K v).operands)) e

  sums_run : (v : ℕ) (x y : ℕ → ℕ) (p q : AffinePair) → Runs x p → Runs y q → ((i : ℕ) → val K image v i ≡ (x i + y i) % words) → Follows (pair_of ((p.base + q.base) % words) ((p.stride + q.stride) % words)) v
  sums_run v x y p q a b e =
      record {
        small_base = mod_below _ words (omega arith);
        small_stride = mod_below _ words (omega arith);
        at = λ i. e i ∙ ap₂ (λ s t. (s + t) % words) (a.at i) (b.at i) ∙ sum_line words p.base p.stride q.base q.stride i;
      }

  differences_run : (v : ℕ) (x y : ℕ → ℕ) (p q : AffinePair) → Runs x p → Runs y q → ((i : ℕ) → val K image v i ≡ (x i + words - y i) % words) →
      Follows (pair_of ((p.base + words - q.base) % words) ((p.stride + words - q.stride) % words)) v
  differences_run v x y p q a b e =
      record {
        small_base = mod_below _ words (omega arith);
        small_stride = mod_below _ words (omega arith);
        at = λ i.
            e i ∙ ap₂ (λ s t. (s + words - t) % words) (a.at i) (b.at i)
            ∙ difference_line words p.base p.stride q.base q.stride i (omega arith) (let h = b.small_base in omega arith) (let h = b.small_stride in omega arith) _ _ refl refl;
      }

  -- a pair times a word c
  scales_run : (v : ℕ) (x : ℕ → ℕ) (p : AffinePair) (c : ℕ) → Runs x p → ((i : ℕ) → val K image v i ≡ (x i * c) % words) → Follows (pair_of ((p.base * c) % words) ((p.stride * c) % words)) v
  scales_run v x p c a e =
      record {
        small_base = mod_below _ words (omega arith);
        small_stride = mod_below _ words (omega arith);
        at = λ i.
            e i ∙ ap (λ z. (z * c) % words) (a.at i) ∙ mul-mod_first (p.base + p.stride * i) c words
            ∙ ap (λ z. z % words) (let f : (p.base + p.stride * i) * c ≡ p.base * c + p.stride * c * i = omega arith in f)
            ∙ sym (line_word words (p.base * c) (p.stride * c) i);
      }

  -- a word with stride 0 stays
  still : (x : ℕ → ℕ) (p : AffinePair) → Runs x p → p.stride ≡ 0 → (i : ℕ) → x i ≡ p.base
  still x p r e i = r.at i ∙ ap (λ s. (p.base + s * i) % words) e ∙ (let h = r.small_base in let f : (p.base + 0 * i) % words ≡ p.base = omega arith in f)

  -- an operand that is node v itself in the turn before
  itself_runs : (v k w : ℕ) (init : List ℕ) → HasOperand K v k (Edge v 1 init) → slice_index init 0 ≡ w → (argument v k 0 ≡ w) × ((i : ℕ) → argument v k (suc i) ≡ val K image v i)
  itself_runs v k w init h e = (
    index_map (operand (val K image) 0) (node K v).operands k (Edge v 1 init) h ∙ e,
    λ i.
        index_map (operand (val K image) (suc i)) (node K v).operands k (Edge v 1 init) h
        ∙ rw (le-ltb (suc i) 1 (omega arith)) (ap (val K image v) (let z : suc i - 1 ≡ i = omega arith in z)),
  )

  constant_argument : (v k c : ℕ) → HasOperand K v k (Constant c) → (c < words) × ((i : ℕ) → argument v k i ≡ c)
  constant_argument v k c h = (good.constants v k c (operand_within K v k (Constant c) h) h, λ i. index_map (operand (val K image) i) (node K v).operands k (Constant c) h)

  climbs_run : (v k j : ℕ) (p : AffinePair) → climb (itself v (slice_get (node K v).operands k)) (constant (slice_get (node K v).operands j)) ≡ Some p →
      ((i : ℕ) → val K image v i ≡ (argument v k i + argument v j i) % words) → Follows p v
  unfolding apply_of
  climbs_run v k j p e is =
      let parts = climb_parts _ _ p e in
      let (init, h, w) = itself_is v (slice_get (node K v).operands k) parts.first parts.is_first in
      let (start, next) = itself_runs v k parts.first init h w in
      let (small, steady) = constant_argument v j parts.second (constant_is _ parts.second parts.is_second) in
      subst (λ q. Follows q v) (sym parts.holds)
      record {
        small_base = mod_below _ words (omega arith);
        small_stride = small;
        at = climb_line words parts.first parts.second (val K image v) (argument v k) start next (λ i. is i ∙ ap (λ z. (argument v k i + z) % words) (steady i));
      }

  falls_run : (v k j : ℕ) (p : AffinePair) → fall (itself v (slice_get (node K v).operands k)) (constant (slice_get (node K v).operands j)) ≡ Some p →
      ((i : ℕ) → val K image v i ≡ (argument v k i + words - argument v j i) % words) → Follows p v
  unfolding apply_of
  falls_run v k j p e is =
      let parts = fall_parts _ _ p e in
      let (init, h, w) = itself_is v (slice_get (node K v).operands k) parts.first parts.is_first in
      let (start, next) = itself_runs v k parts.first init h w in
      let (small, steady) = constant_argument v j parts.second (constant_is _ parts.second parts.is_second) in
      subst (λ q. Follows q v) (sym parts.holds)
      record {
        small_base = mod_below _ words (omega arith);
        small_stride = mod_below _ words (omega arith);
        at = fall_line words parts.first parts.second (val K image v) (argument v k) (omega arith) start next (λ i. is i ∙ ap (λ z. (argument v k i + words - z) % words) (steady i));
      }

  pair_follows : (v : ℕ) (earlier : List (Option AffinePair)) (op : Op) (p : AffinePair) → v < size K → Right earlier → (node K v).op ≡ op → pair_by v earlier (node K v).operands op ≡ Some p → Follows p v
  unfolding value_by apply_of
  pair_follows v earlier Iter p l right is e =
      let z : pair_of 0 1 ≡ p = cc in
      subst (λ q. Follows q v) z record { small_base = omega arith; small_stride = omega arith; at = λ i. node_value v Iter l is i ∙ ap (λ y. y % words) (let f : i ≡ 0 + 1 * i = omega arith in f) }
  pair_follows v earlier Const p l right is e =
      let r = arg_runs earlier v 0 p right e in
      record { small_base = r.small_base; small_stride = r.small_stride; at = λ i. node_value v Const l is i ∙ r.at i }
  pair_follows v earlier Add p l right is e =
      ⊎_elim
      (λ h.
      let parts = line_parts Add _ _ p h in
      subst (λ q. Follows q v) (sym parts.holds)
      (sums_run v (argument v 0) (argument v 1) parts.first parts.second (arg_runs earlier v 0 parts.first right parts.is_first) (arg_runs earlier v 1 parts.second right parts.is_second) (node_value v Add l is)))
      (λ h.
      ⊎_elim (λ k. climbs_run v 0 1 p k (node_value v Add l is))
      (λ k. climbs_run v 1 0 p k (λ i. node_value v Add l is i ∙ ap (λ z. z % words) (let f : argument v 0 i + argument v 1 i ≡ argument v 1 i + argument v 0 i = omega arith in f)))
      (or_parts _ _ p h))
      (or_parts _ _ p e)
  pair_follows v earlier Sub p l right is e =
      ⊎_elim
      (λ h.
      let parts = line_parts Sub _ _ p h in
      subst (λ q. Follows q v) (sym parts.holds)
      (differences_run v (argument v 0) (argument v 1) parts.first parts.second (arg_runs earlier v 0 parts.first right parts.is_first) (arg_runs earlier v 1 parts.second right parts.is_second) (node_value v Sub l is)))
      (λ h. falls_run v 0 1 p h (node_value v Sub l is))
      (or_parts _ _ p e)
  pair_follows v earlier Mul p l right is e =
      let parts = product_parts _ _ p e in
      let a = arg_runs earlier v 0 parts.first right parts.is_first in
      let b = arg_runs earlier v 1 parts.second right parts.is_second in
      ⊎_elim
      (λ h.
      subst (λ q. Follows q v) (sym h.1)
      (scales_run v (argument v 0) parts.first parts.second.base a (λ i. node_value v Mul l is i ∙ ap (λ z. (argument v 0 i * z) % words) (still (argument v 1) parts.second b h.0 i))))
      (λ h.
      subst (λ q. Follows q v) (sym h.1)
      (scales_run v (argument v 1) parts.second parts.first.base b
      (λ i. node_value v Mul l is i ∙ ap (λ z. (z * argument v 1 i) % words) (still (argument v 0) parts.first a h.0 i) ∙ ap (λ z. z % words) (let f : parts.first.base * argument v 1 i ≡ argument v 1 i * parts.first.base = omega arith in f))))
      parts.holds
  pair_follows v earlier Shl p l right is e =
      let parts = shift_parts _ _ p e in
      let a = arg_runs earlier v 0 parts.first right parts.is_first in
      let b = arg_runs earlier v 1 parts.second right parts.is_second in
      subst (λ q. Follows q v) (sym parts.holds.1)
      (scales_run v (argument v 0) parts.first (2 ^ (parts.second.base % 32)) a (λ i. node_value v Shl l is i ∙ ap (λ z. (argument v 0 i * 2 ^ (z % 32)) % words) (still (argument v 1) parts.second b parts.holds.0 i)))
  pair_follows v earlier _ p l right is e = absurd (cc)

  length-pairs : (n : ℕ) → length (pairs K n) ≡ n
  unfolding pairs
  length-pairs zero = refl
  length-pairs (suc n) = length_push (pairs K n) _ ∙ omega (arith, length-pairs n)

  pub pairs_right : (n : ℕ) → Right (pairs K n)
  unfolding pairs
  pairs_right zero u p b e = absurd (cc)
  pairs_right (suc n) u p b e =
      ⊎_elim
      (λ l. pairs_right n u p b (sym (get_or_append_left (pairs K n) _ None u (omega (arith, length-pairs n))) ∙ e))
      (λ l.
      ⊎_elim
      (λ z.
      let last = sym (get_or_push (pairs K n) (pair_by n (pairs K n) (node K n).operands (node K n).op) None n (length-pairs n)) ∙ ap (λ k. slice_index_or (pairs K (suc n)) k None) (sym z) ∙ e in
      subst (Follows p) (sym z) (pair_follows n (pairs K n) (node K n).op p (omega arith) (pairs_right n) refl last))
      (λ ne. let past = get_or_past (pairs K (suc n)) u None (omega (arith, length-pairs (suc n), ne)) in let bad = sym past ∙ e in absurd (cc))
      (cases_eq u n))
      (cases_lt u n)

  pub affine_follows : (v : ℕ) (p : AffinePair) → v < size K → affine_of K v ≡ Some p → Follows p v
  affine_follows v p l e = pairs_right (size K) v p l e

pub affine_value : (K : Kernel) (image : Image) (v i : ℕ) (p : AffinePair) → IsWired K → affine_of K v ≡ Some p → val K image v i ≡ at_turn p i
affine_value K image v i p good e =
    ⊎_elim (λ l. (affine_follows K image good v p l e).at i)
    (λ l. let z = sym (get_or_past (pairs K (size K)) v None (omega (arith, length-pairs K image good (size K)))) ∙ e in absurd (cc))
    (cases_lt v (size K))

-- what `AffineTable::get` answers for node v is v's value in every turn
pub some_value : (K : Kernel) (image : Image) (v i : ℕ) (r : Option AffinePair) → IsWired K → r ≡ affine_of K v → IfSome r (λ p. val K image v i ≡ at_turn p i)
some_value K image v i None good e = tt
some_value K image v i (Some p) good e = affine_value K image v i p good (sym e)
