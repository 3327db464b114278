-- What nodes give in a turn.
use Rattle.std.proofs.Common.{◌≡◌, ℕ, zero, suc, ◌+◌, ◌-◌, ◌*◌, ◌%◌, ◌<◌, ◌≤◌, List, [], ◌∷◌, true, refl, sym, ap, ◌∙◌, arith}
use Rattle.std.specs.Prelude.{map, slice_index, slice_index_or}
use Rattle.std.proofs.Math.Nat.{add-mod_right}
use Rattle.std.proofs.lemmas.Bool.{lt-ltb, le-ltb}
use Rattle.cg_word.specs.declared.op.Op.{Op}
use Rattle.cg_word.specs.declared.op.Op.TheVariants as ops
use Rattle.cg_word.specs.Word.{apply_of, words}
use Rattle.cg_model.specs.declared.kernel.Operand.{Operand}
use Rattle.cg_model.specs.declared.kernel.Operand.TheVariants.{Const as Constant, Edge}
use Rattle.cg_model.specs.Kernel.{IsWired, size}
use Rattle.cg_model.specs.Turns.{before, operand, val}
use Rattle.cg_model.specs.Work.{Image, value, value_by}
use Rattle.cg_overlap.proofs.Sequence.{work_is}
use Rattle.cg_c_values.specs.Values.{is_plain}
use Rattle.cg_c_quotients.specs.Quotients.{quotient_at, remainder_after, remainder_at, wraps}
use Rattle.cg_c_nodes.specs.Placed.{Is, IsConstant, Placing, Recurs, now, quotient_before, remainder_before}

-- an operation on words gives what it is of its operands
plain_value : (image : Image) (memory : List ℕ) (port turn : ℕ) (args : List ℕ) (op : Op) → is_plain op ≡ true →
    value_by image memory port turn args op ≡ apply_of op (slice_index args 0) (slice_index args 1) (slice_index args 2)
unfolding value_by
plain_value image memory port turn args ops.Iter h = absurd (cc)
plain_value image memory port turn args ops.Input h = absurd (cc)
plain_value image memory port turn args ops.Load h = absurd (cc)
plain_value image memory port turn args ops.LoadIf h = absurd (cc)
plain_value image memory port turn args _ h = refl

constant_value : (image : Image) (memory : List ℕ) (port turn word : ℕ) → value_by image memory port turn (word ∷ []) ops.Const ≡ word
unfolding value_by apply_of
constant_value image memory port turn word = refl

turn_value : (image : Image) (memory : List ℕ) (port turn : ℕ) (args : List ℕ) → value_by image memory port turn args ops.Iter ≡ turn % words
unfolding value_by
turn_value image memory port turn args = refl

input_value : (image : Image) (memory : List ℕ) (port turn : ℕ) (args : List ℕ) →
    value_by image memory port turn args ops.Input ≡ slice_index (slice_index_or image.streams port []) turn
unfolding value_by
input_value image memory port turn args = refl

select_value : (image : Image) (memory : List ℕ) (port turn a b c : ℕ) →
    value_by image memory port turn (a ∷ b ∷ c ∷ []) ops.Select ≡ apply_of ops.Select a b c
unfolding value_by
select_value image memory port turn a b c = refl

-- an edge, in the first turns and later
pub edge_first : (V : ℕ → ℕ → ℕ) (t m turns : ℕ) (init : List ℕ) → t < turns → operand V t (Edge m turns init) ≡ slice_index init t
edge_first V t m turns init l = rw (lt-ltb t turns l) refl

pub edge_later : (V : ℕ → ℕ → ℕ) (s t m turns : ℕ) (init : List ℕ) → s ≡ t + turns → operand V s (Edge m turns init) ≡ V m t
edge_later V s t m turns init e =
    let l : turns ≤ s = omega arith in
    let f : s - turns ≡ t = omega arith in
    rw (le-ltb s turns l) (ap (V m) f)

module _ (P : Placing) (image : Image) (wired : IsWired P.kernel) where
  -- the value of a node in a turn, and the word of an operand
  abbrev pub val_at : (m t : ℕ) → ℕ
  val_at m t = val P.kernel image m t

  abbrev pub word : (t : ℕ) → Operand → ℕ
  word t o = operand (val P.kernel image) t o

  abbrev memory_at : (m t : ℕ) → List ℕ
  memory_at m t = (before P.kernel image (t * size P.kernel + m)).memory

  pub word_now : (m t : ℕ) → word t (now m) ≡ val_at m t
  word_now m t = edge_later (val P.kernel image) t t m 0 [] (omega arith)

  pub gives : (m : ℕ) (op : Op) (port : ℕ) (operands : List Operand) (t : ℕ) → Is P m op port operands →
      val_at m t ≡ value_by image (memory_at m t) port t (map (word t) operands) op
  gives m op port operands t is =
      ap (value image (memory_at m t)) (work_is P.kernel image wired t m is.within)
      ∙ rw (is.op_is, is.port_is, is.operands_are) refl

  pub copy_gives : (m t : ℕ) (o : Operand) → Is P m ops.Const 0 (o ∷ []) → val_at m t ≡ word t o
  copy_gives m t o is = gives m ops.Const 0 (o ∷ []) t is ∙ constant_value image (memory_at m t) 0 t (word t o)

  pub constant_gives : (m t w : ℕ) → IsConstant P m w → val_at m t ≡ w
  constant_gives m t w is = copy_gives m t (Constant w) is

  pub turn_gives : (m t : ℕ) → Is P m ops.Iter 0 [] → val_at m t ≡ t % words
  turn_gives m t is = gives m ops.Iter 0 [] t is ∙ turn_value image (memory_at m t) 0 t []

  pub input_gives : (m port t : ℕ) → Is P m ops.Input port [] → val_at m t ≡ slice_index (slice_index_or image.streams port []) t
  input_gives m port t is = gives m ops.Input port [] t is ∙ input_value image (memory_at m t) port t []

  pub two_gives : (m : ℕ) (op : Op) (t : ℕ) (a b : Operand) → is_plain op ≡ true → Is P m op 0 (a ∷ b ∷ []) →
      val_at m t ≡ apply_of op (word t a) (word t b) 0
  two_gives m op t a b plain is =
      gives m op 0 (a ∷ b ∷ []) t is ∙ plain_value image (memory_at m t) 0 t (word t a ∷ word t b ∷ []) op plain

  pub select_gives : (m t : ℕ) (a b c : Operand) → Is P m ops.Select 0 (a ∷ b ∷ c ∷ []) →
      val_at m t ≡ apply_of ops.Select (word t a) (word t b) (word t c)
  select_gives m t a b c is =
      gives m ops.Select 0 (a ∷ b ∷ c ∷ []) t is ∙ select_value image (memory_at m t) 0 t (word t a) (word t b) (word t c)

  -- the lowest digit of radix 3
  pub digit_gives : (m t : ℕ) → Is P m ops.Const 0 (Edge m 3 (0 ∷ 1 ∷ 2 ∷ []) ∷ []) → val_at m t ≡ t % 3
  digit_gives m zero is = copy_gives m 0 (Edge m 3 (0 ∷ 1 ∷ 2 ∷ [])) is
  digit_gives m (suc zero) is = copy_gives m 1 (Edge m 3 (0 ∷ 1 ∷ 2 ∷ [])) is
  digit_gives m (suc (suc zero)) is = copy_gives m 2 (Edge m 3 (0 ∷ 1 ∷ 2 ∷ [])) is
  digit_gives m (suc (suc (suc t))) is =
      let e : suc (suc (suc t)) ≡ t + 3 = omega arith in
      copy_gives m (suc (suc (suc t))) (Edge m 3 (0 ∷ 1 ∷ 2 ∷ [])) is
      ∙ edge_later (val P.kernel image) (suc (suc (suc t))) t m 3 (0 ∷ 1 ∷ 2 ∷ []) e
      ∙ digit_gives m t is ∙ sym (ap (λ z. z % 3) e ∙ add-mod_right t 3)

  -- the recurrence for a quotient
  wraps_gives : (m p t b : ℕ) → Recurs P m p → word t (remainder_before m) ≡ b → val_at m t ≡ wraps b
  wraps_gives m p t b r e = two_gives m ops.Lts t (Constant (words - 3)) (remainder_before m) refl r.wraps ∙ ap wraps e

  remainder_gives : (m p t b : ℕ) → Recurs P m p → word t (remainder_before m) ≡ b → val_at (m + 3) t ≡ remainder_after p b
  remainder_gives m p t b r e =
      let w : word t (now m) ≡ wraps b = word_now m t ∙ wraps_gives m p t b r e in
      let again : word t (now (m + 1)) ≡ apply_of ops.Add b (apply_of ops.Sub 2 p 0) 0 =
      word_now (m + 1) t ∙ two_gives (m + 1) ops.Add t (remainder_before m) (Constant (apply_of ops.Sub 2 p 0)) refl r.again
      ∙ ap (λ z. apply_of ops.Add z (apply_of ops.Sub 2 p 0) 0) e in
      let further : word t (now (m + 2)) ≡ apply_of ops.Add b 2 0 =
      word_now (m + 2) t ∙ two_gives (m + 2) ops.Add t (remainder_before m) (Constant 2) refl r.further
      ∙ ap (λ z. apply_of ops.Add z 2 0) e in
      select_gives (m + 3) t (now m) (now (m + 1)) (now (m + 2)) r.remainder
      ∙ ap (λ z. apply_of ops.Select z (word t (now (m + 1))) (word t (now (m + 2)))) w
      ∙ ap (λ z. apply_of ops.Select (wraps b) z (word t (now (m + 2)))) again
      ∙ ap (λ z. apply_of ops.Select (wraps b) (apply_of ops.Add b (apply_of ops.Sub 2 p 0) 0) z) further

  remainder_is : (m p t : ℕ) → Recurs P m p → word t (remainder_before m) ≡ remainder_at p t
  unfolding remainder_at
  remainder_is m p zero r = refl
  remainder_is m p (suc zero) r = refl
  remainder_is m p (suc (suc t)) r =
      edge_later (val P.kernel image) (suc (suc t)) t (m + 3) 2 ((words - 2) ∷ (words - 1) ∷ []) (omega arith)
      ∙ remainder_gives m p t (remainder_at p t) r (remainder_is m p t r)

  quotient_next : (m p t : ℕ) → Recurs P m p → word t (quotient_before m) ≡ quotient_at p t → val_at (m + 4) t ≡ quotient_at p (suc (suc t))
  unfolding quotient_at
  quotient_next m p t r e =
      two_gives (m + 4) ops.Add t (quotient_before m) (now m) refl r.quotient
      ∙ ap (λ z. apply_of ops.Add z (word t (now m)) 0) e
      ∙ ap (λ z. apply_of ops.Add (quotient_at p t) z 0) (word_now m t ∙ wraps_gives m p t (remainder_at p t) r (remainder_is m p t r))

  quotient_is : (m p t : ℕ) → Recurs P m p → word t (quotient_before m) ≡ quotient_at p t
  unfolding quotient_at
  quotient_is m p zero r = refl
  quotient_is m p (suc zero) r = refl
  quotient_is m p (suc (suc t)) r =
      edge_later (val P.kernel image) (suc (suc t)) t (m + 4) 2 ((words - 1) ∷ (words - 1) ∷ []) (omega arith)
      ∙ quotient_next m p t r (quotient_is m p t r)

  pub quotient_gives : (m p t : ℕ) → Recurs P m p → val_at (m + 4) t ≡ quotient_at p (t + 2)
  quotient_gives m p t r =
      quotient_next m p t r (quotient_is m p t r) ∙ ap (quotient_at p) (let e : suc (suc t) ≡ t + 2 = omega arith in e)
