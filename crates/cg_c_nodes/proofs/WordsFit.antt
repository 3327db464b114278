-- The words of a turn's values fit them.
use Rattle.std.proofs.Common.{◌≡◌, ℕ, zero, suc, ◌/◌, ◌%◌, ◌<◌, ◌≤◌, List, [], length, refl, sym, ap, ◌∙◌, subst, arith, ⊎_elim}
use Rattle.std.specs.Prelude.{Option, Some, None, slice_index, slice_index_or}
use Rattle.std.proofs.Math.Nat.{div-le_self, mod-eq_of_lt, mod-le}
use Rattle.std.proofs.lemmas.Bool.{cases_lt}
use Rattle.std.proofs.lemmas.List.{get_or_past}
use Rattle.cg_word.specs.declared.op.Op.{Op}
use Rattle.cg_word.specs.declared.op.Op.TheVariants as ops
use Rattle.cg_word.specs.Word.{apply_of, words}
use Rattle.cg_model.specs.declared.kernel.Operand.{Operand}
use Rattle.cg_model.specs.Kernel.{IsKernel}
use Rattle.cg_model.specs.Turns.{operand, val}
use Rattle.cg_model.specs.Work.{Image, IsImage}
use Rattle.cg_simplify_facts.proofs.Values.{value_small}
use Rattle.cg_simplify_facts.proofs.Words.{val_word}
use Rattle.cg_c_values.specs.declared.value.Value.{Value}
use Rattle.cg_c_values.specs.declared.value.Value.TheVariants.{Const, Turn, Quotient, Digit, Carried, Input, Loaded, Two, Select}
use Rattle.cg_c_values.specs.Values.{Fits, IsBelow, IsWordOf, MayStand, Moment, Words, value_at}
use Rattle.cg_c_forms.specs.Forms.{IsForm, behind, renamed}
use Rattle.cg_c_turn.specs.Draft.{Draft, assigned_in}
use Rattle.cg_c_turn.specs.Stands.{IsFormed, begun, word_or}
use Rattle.cg_c_nodes.specs.Placed.{Computes, IsOperand, IsPlaced, Placing}
use Rattle.cg_c_nodes.specs.Running.{AreWords, Memories}
use Rattle.cg_c_nodes.proofs.WordsMade.{carried_at, made_word, moment_at, word_by, words_at}
use Rattle.cg_c_nodes.proofs.WordsNodes.{digit_gives, input_gives, quotient_gives, select_gives, turn_gives, two_gives}
use Rattle.cg_c_nodes.proofs.WordsCarried.{begun_is, node_word, operand_has}

-- what a value is of words is a word of it
word_by_fits : (x : Moment) (memory : List ℕ) (E : Words) (value : Value) → IsWordOf x E value (word_by x memory E value)
unfolding IsWordOf
word_by_fits x memory E (Const word) = refl
word_by_fits x memory E Turn = refl
word_by_fits x memory E (Quotient divisor) = refl
word_by_fits x memory E (Digit divisor radix) = refl
word_by_fits x memory E (Carried number) = refl
word_by_fits x memory E (Input port) = refl
word_by_fits x memory E (Loaded array version guard address) = tt
word_by_fits x memory E (Two op first second) = refl
word_by_fits x memory E (Select condition chosen other) = refl

stream_word : (image : Image) → IsImage image → (port turn : ℕ) → slice_index (slice_index_or image.streams port []) turn < words
stream_word image good port turn =
    ⊎_elim
    (λ l. good.streams port turn l)
    (λ l. subst (λ z. z < words) (sym (get_or_past (slice_index_or image.streams port []) turn 0 l)) (let z : 0 < words = omega arith in z))
    (cases_lt turn (length (slice_index_or image.streams port [])))

small : (op : Op) (a b c : ℕ) → a < words → b < words → c < words → apply_of op a b c < words
small op a b c h k l = let v = value_small op a b c h k l in omega arith

module _ (d : Draft) (count : ℕ) (P : Placing) (image : Image) (memories : Memories) (formed : IsFormed d) (placed : IsPlaced d count P) (kernel : IsKernel P.kernel) (good : IsImage image) (are : AreWords memories) where
  abbrev carried : (t number : ℕ) → ℕ
  carried t number = carried_at d P image memories t number

  abbrev E : (t v : ℕ) → ℕ
  E t v = words_at d P image memories t v

  abbrev x : ℕ → Moment
  x t = moment_at d P image memories t

  -- ---- nodes

  has : (t a : ℕ) (o : Operand) → IsOperand P a o → operand (val P.kernel image) t o ≡ E t a
  has t a o is = operand_has d count P image memories placed kernel.wired t a o is

  computed : (t m v : ℕ) (value : Value) → t < count → Computes P m value → MayStand v value → IsForm count value →
      IsWordOf (x t) (words_at d P image memories t) value (val P.kernel image m t)
  unfolding IsWordOf
  computed t m v (Const word) l n s f = absurd n
  computed t m v Turn l n s f =
      let few = placed.few in
      let b : t < words = omega arith in
      turn_gives P image kernel.wired m t n ∙ mod-eq_of_lt b
  computed t m v (Quotient divisor) l n s f =
      ap (λ z. val P.kernel image z t) (sym n.1) ∙ quotient_gives P image kernel.wired n.0 divisor t n.2 ∙ f t l
  computed t m v (Digit divisor radix) l n s f =
      let e : t / 1 ≡ t = omega arith in
      rw (f.0, f.1) (digit_gives P image kernel.wired m t n ∙ ap (λ z. z % 3) (sym e))
  computed t m v (Carried number) l n s f = absurd n
  computed t m v (Input port) l n s f = input_gives P image kernel.wired m port t n
  computed t m v (Loaded array version guard address) l n s f = tt
  computed t m v (Two op first second) l n s f =
      two_gives P image kernel.wired m op t n.first n.second s.0 n.is
      ∙ ap (λ z. apply_of op z (operand (val P.kernel image) t n.second) 0) (has t first n.first n.first_is)
      ∙ ap (λ z. apply_of op (E t first) z 0) (has t second n.second n.second_is)
  computed t m v (Select condition chosen other) l n s f =
      select_gives P image kernel.wired m t n.first n.second n.third n.is
      ∙ ap (λ z. apply_of ops.Select z (operand (val P.kernel image) t n.second) (operand (val P.kernel image) t n.third)) (has t condition n.first n.first_is)
      ∙ ap (λ z. apply_of ops.Select (E t condition) z (operand (val P.kernel image) t n.third)) (has t chosen n.second n.second_is)
      ∙ ap (λ z. apply_of ops.Select (E t condition) (E t chosen) z) (has t other n.third n.third_is)

  -- ---- each value's word is one of it

  is_word_of : (t v : ℕ) → t < count → v < length P.new → IsWordOf (x t) (words_at d P image memories t) (value_at P.new v) (E t v)
  is_word_of t v l k = by (P.at v) refl
    where
      by : (q : Option ℕ) → P.at v ≡ q → IsWordOf (x t) (words_at d P image memories t) (value_at P.new v) (E t v)
      by None e =
          subst (IsWordOf (x t) (words_at d P image memories t) (value_at P.new v)) (sym (made_word P image (memories t) (x t) placed.stand v e))
          (word_by_fits (x t) (memories t v) (words_at d P image memories t) (value_at P.new v))
      by (Some m) e =
          subst (IsWordOf (x t) (words_at d P image memories t) (value_at P.new v)) (sym (node_word d count P image memories placed kernel.wired t v m e))
          (computed t m v (value_at P.new v) l (placed.values_at v m e).1 (placed.stand v k) (placed.renames.forms v k))

  -- ---- and below 2^32

  abbrev AreSmall : (t n : ℕ) → Type 0
  AreSmall t n = (v : ℕ) → v < n → E t v < words

  -- where those before it are, and those that the turn begins with
  word_small : (t v : ℕ) (value : Value) → t < count → ((number : ℕ) → carried t number < words) → AreSmall t v → MayStand v value →
      word_by (x t) (memories t v) (words_at d P image memories t) value < words
  word_small t v (Const word) l b h s = s
  word_small t v Turn l b h s = let few = placed.few in omega arith
  word_small t v (Quotient divisor) l b h s = let few = placed.few in let q = div-le_self t divisor in omega arith
  word_small t v (Digit divisor radix) l b h s =
      let few = placed.few in
      let q = div-le_self t divisor in
      let r = mod-le (t / divisor) radix in
      omega arith
  word_small t v (Carried number) l b h s = b number
  word_small t v (Input port) l b h s = stream_word image good port t
  word_small t v (Loaded array version guard address) l b h s = are t v (E t address)
  word_small t v (Two op first second) l b h s = small op (E t first) (E t second) 0 (h first s.1) (h second s.2) (omega arith)
  word_small t v (Select condition chosen other) l b h s =
      small ops.Select (E t condition) (E t chosen) (E t other) (h condition s.0) (h chosen s.1) (h other s.2)

  one_small : (t v : ℕ) → t < count → ((number : ℕ) → carried t number < words) → v < length P.new → AreSmall t v → E t v < words
  one_small t v l b k h = by (P.at v) refl
    where
      by : (q : Option ℕ) → P.at v ≡ q → E t v < words
      by None e =
          subst (λ z. z < words) (sym (made_word P image (memories t) (x t) placed.stand v e))
          (word_small t v (value_at P.new v) l b h (placed.stand v k))
      by (Some m) e =
          subst (λ z. z < words) (sym (node_word d count P image memories placed kernel.wired t v m e))
          (val_word P.kernel kernel image good m t)

  are_small : (t : ℕ) → t < count → ((number : ℕ) → carried t number < words) → (n : ℕ) → n ≤ length P.new → AreSmall t n
  are_small t l b zero k v m = absurd (omega arith)
  are_small t l b (suc n) k v m =
      one_small t v l b (omega arith) (λ u g. are_small t l b n (omega arith) u (omega arith))

  -- the words of words
  next_small : (t number : ℕ) → t < count → ((other : ℕ) → carried t other < words) → (q : Option ℕ) → IsBelow (length d.values) q →
      word_or (behind (words_at d P image memories t) P.map) (begun (x t) d number) q < words
  next_small t number l b None h =
      subst (λ z. z < words) (sym (begun_is d count P image memories placed kernel.wired t number)) (b number)
  next_small t number l b (Some v) h =
      are_small t l b (length P.new) (omega arith) (renamed P.map v) (placed.renames.within v h)

  carried_small : (t : ℕ) → t < count → (number : ℕ) → carried t number < words
  unfolding carried_at
  carried_small zero l number = placed.initial number
  carried_small (suc t) l number =
      next_small t number (omega arith) (carried_small t (omega arith)) (assigned_in d number) (formed.words number)

  pub fit : (t : ℕ) → t < count → Fits P.new (x t) (words_at d P image memories t)
  fit t l =
      record {
        word = are_small t l (carried_small t l) (length P.new) (omega arith);
        is = λ v k. is_word_of t v l k;
      }
