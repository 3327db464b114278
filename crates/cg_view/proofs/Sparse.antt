-- What is not read of the fields of a unit is zero.
use Rattle.std.proofs.Common.{◌≡◌, ℕ, ◌+◌, ◌*◌, ◌<◌, ◌≤◌, ◌&&◌, ◌||◌, not, Bool, true, false, cond, eqb, ltb, leb, List, replicate, Option, Some, None, refl, sym, ap, ◌∙◌, arith}
use Rattle.std.specs.Prelude.{slice_index}
use Rattle.std.proofs.lemmas.Bool.{lt-ltb, le-ltb, leb-true, eqb-true, and_parts, and_right}
use Rattle.std.proofs.lemmas.List.FromFn.{fill_by_all, get_or-map-range_with_len}
use Rattle.cg_word.specs.declared.op.Op.{Op}
use Rattle.cg_word.specs.Word.{all_ops, has_port}
use Rattle.cg_model.specs.declared.config.ArgFields.{ArgFields}
use Rattle.cg_model.specs.declared.config.UnitFields.{UnitFields}
use Rattle.cg_model.specs.Config.{arg, no_arg, off}
use Rattle.cg_model.specs.Canonical.{AreFields, arity_of, takes, names_port, is_on}
use Rattle.cg_bits.specs.Numbers.{number_at}
use Rattle.cg_bits.specs.Format.{cgb2, op_of, args_at, arg_len}
use Rattle.cg_bits.specs.Reading.{unit_in, arg_in}
use Rattle.cg_bits.proofs.Fields.{arg_same}
use Rattle.cg_bits.proofs.Units.{idle, unit_same}

-- one of two tests that fails leaves the other
other : (b c : Bool) → (b || c) ≡ true → c ≡ false → b ≡ true
other true c e h = refl
other false c e h = absurd cc

-- the port of an operation that names none
pub port_zero : (f : UnitFields) (op : Op) → AreFields all_ops f → f.op ≡ Some op → f.port ≡ cond (has_port op) f.port 0
port_zero f op are e = by_case (has_port op) (ap names_port (sym e))
  where
    by_case : (b : Bool) → b ≡ names_port f.op → f.port ≡ cond b f.port 0
    by_case true h = refl
    by_case false h = eqb-true f.port 0 (right_of (names_port f.op) (eqb f.port 0) are.port (sym h))
      where
        right_of : (b c : Bool) → (b || c) ≡ true → b ≡ false → c ≡ true
        right_of true c g k = absurd cc
        right_of false c g k = g

-- the immediate that no argument takes
pub immediate_zero : (f : UnitFields) (fixed : Bool) → AreFields all_ops f → fixed ≡ ((arg f 0).fixed || ((arg f 1).fixed || (arg f 2).fixed)) → f.immediate ≡ cond fixed f.immediate 0
immediate_zero f true are e = refl
immediate_zero f false are e =
    let any = (arg f 0).fixed || ((arg f 1).fixed || (arg f 2).fixed) in
    eqb-true f.immediate 0 (right_of (is_on f.op && any) (eqb f.immediate 0) are.immediate (and_right (is_on f.op) any (sym e)))
  where
    right_of : (b c : Bool) → (b || c) ≡ true → b ≡ false → c ≡ true
    right_of true c g k = absurd cc
    right_of false c g k = g

-- a fixed argument
takes_not : (f : UnitFields) (p : ℕ) → (arg f p).fixed ≡ true → takes f p ≡ false
takes_not f p e = and_right (ltb p (arity_of f.op)) (not (arg f p).fixed) (ap not e)

pub fixed_is : (f : UnitFields) (p : ℕ) → p < 3 → AreFields all_ops f → (arg f p).fixed ≡ true → arg f p ≡ record { fixed = true; count = 0; init = replicate 4 0 }
fixed_is f p lt are e =
    let none = takes_not f p e in
    let count = eqb-true (arg f p).count 0 (other (eqb (arg f p).count 0) (takes f p) (and_parts (leb (arg f p).count 4) (eqb (arg f p).count 0 || takes f p) (are.count p lt)).1 none) in
    let word : (k : ℕ) → k < 4 → slice_index (arg f p).init k ≡ 0 =
    λ k l. eqb-true _ 0 (other (eqb (slice_index (arg f p).init k) 0) (takes f p && ltb k (arg f p).count) (are.word p k lt l) (first_false (takes f p) (ltb k (arg f p).count) none)) in
    arg_same (arg f p) (record { fixed = true; count = 0; init = replicate 4 0 }) e count (fill_by_all (λ k. 0) (arg f p).init 4 0 (are.inits p lt) word)
  where
    first_false : (b c : Bool) → b ≡ false → (b && c) ≡ false
    first_false true c g = absurd cc
    first_false false c g = refl

-- words from the count on
pub word_zero : (f : UnitFields) (p k : ℕ) → p < 3 → k < 4 → AreFields all_ops f → (arg f p).count ≤ k → slice_index (arg f p).init k ≡ 0
word_zero f p k lt l are le =
    eqb-true _ 0 (other (eqb (slice_index (arg f p).init k) 0) (takes f p && ltb k (arg f p).count) (are.word p k lt l) (and_right (takes f p) (ltb k (arg f p).count) (le-ltb k (arg f p).count le)))

pub count_few : (f : UnitFields) (p : ℕ) → p < 3 → AreFields all_ops f → (arg f p).count ≤ 4
count_few f p lt are = leb-true _ _ (and_parts _ _ (are.count p lt)).0

-- ---- an off unit

pub off_is : (f : UnitFields) → AreFields all_ops f → f.op ≡ None → f ≡ off
off_is f are e =
    let stage = eqb-true f.stage 0 (right_of (is_on f.op) (eqb f.stage 0) (and_parts (leb f.stage 65534) (is_on f.op || eqb f.stage 0) are.stage).1 (ap is_on e)) in
    let port = eqb-true f.port 0 (right_of (names_port f.op) (eqb f.port 0) are.port (ap names_port e)) in
    let none : arity_of f.op ≡ 0 = ap arity_of e in
    let each : (p : ℕ) → p < 3 → arg f p ≡ no_arg = λ p lt. idle all_ops f p are lt (omega arith) in
    let any = (arg f 0).fixed || ((arg f 1).fixed || (arg f 2).fixed) in
    let immediate = eqb-true f.immediate 0 (right_of (is_on f.op && any) (eqb f.immediate 0) are.immediate (ap (λ (o : Option Op). is_on o && any) e)) in
    unit_same f off e stage port immediate (fill_by_all (λ p. no_arg) f.args 3 no_arg are.args each)
  where
    right_of : (b c : Bool) → (b || c) ≡ true → b ≡ false → c ≡ true
    right_of true c g k = absurd cc
    right_of false c g k = g

-- ---- what is read of a unit at a place

module _ (n : ℕ) (bits : List Bool) (at : ℕ) where
  abbrev f : UnitFields
  f = unit_in cgb2 n bits at

  pub op_there : f.op ≡ op_of cgb2 (number_at bits at 6)
  unfolding unit_in
  op_there = refl

  pub stage_there : f.stage ≡ number_at bits (at + 6) 16
  unfolding unit_in
  stage_there = refl

  pub port_there : f.port ≡ number_at bits (at + 6 + 16) 4
  unfolding unit_in
  port_there = refl

  pub immediate_there : f.immediate ≡ number_at bits (at + 6 + 20) 32
  unfolding unit_in
  immediate_there = refl

  pub arg_there : (p : ℕ) → p < n → n ≤ 3 → arg f p ≡ arg_in bits (at + 58 + p * 132)
  unfolding unit_in
  arg_there p lt few =
      get_or-map-range_with_len (λ q. cond (ltb q n) (arg_in bits (at + args_at cgb2 + q * arg_len)) no_arg) 0 3 p p no_arg (omega arith) (omega arith)
      ∙ ap (λ b. cond b (arg_in bits (at + args_at cgb2 + p * arg_len)) no_arg) (lt-ltb p n lt)

  pub fixed_there : (p : ℕ) → p < n → n ≤ 3 → (arg f p).fixed ≡ eqb (number_at bits (at + 58 + p * 132) 1) 1
  unfolding arg_in
  fixed_there p lt few = ap (λ (a : ArgFields). a.fixed) (arg_there p lt few)

  pub count_there : (p : ℕ) → p < n → n ≤ 3 → (arg f p).count ≡ number_at bits (at + 58 + p * 132 + 1) 3
  unfolding arg_in
  count_there p lt few = ap (λ (a : ArgFields). a.count) (arg_there p lt few)

  pub word_there : (p k : ℕ) → p < n → n ≤ 3 → k < 4 → slice_index (arg f p).init k ≡ number_at bits (at + 58 + p * 132 + 4 + k * 32) 32
  unfolding arg_in
  word_there p k lt few l =
      ap (λ (a : ArgFields). slice_index a.init k) (arg_there p lt few) ∙ get_or-map-range_with_len (λ j. number_at bits (at + 58 + p * 132 + 4 + j * 32) 32) 0 4 k k 0 l (omega arith)
