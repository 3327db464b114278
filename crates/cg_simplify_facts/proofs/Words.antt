-- In a run from an image every value is a word.
use Rattle.std.proofs.Common.{ℕ, zero, suc, ◌+◌, ◌-◌, ◌*◌, ◌/◌, ◌%◌, ◌<◌, ◌≤◌, Bool, true, false, cond, nat_lt, List, [], ◌∷◌, ◌++◌, length, map, refl, sym, subst, arith, ⊎_elim}
use Rattle.std.specs.Prelude.{slice_index, slice_index_or, slice_set}
use Rattle.std.proofs.Math.Nat.{mod-lt}
use Rattle.std.proofs.lemmas.Bool.{cases_lt}
use Rattle.std.proofs.lemmas.List.{get_or_past}
use Rattle.cg_word.specs.declared.op.Op.{Op}
use Rattle.cg_word.specs.declared.op.Op.TheVariants.{Const, Iter, Input, Add, Sub, Mul, And, Or, Xor, Shl, Shr, Sar, Eq, Ne, Lts, Ltu, Mins, Maxs, Select, Load, Store, Output, LoadIf, StoreIf, OutputIf}
use Rattle.cg_word.specs.Word.{apply_of, words}
use Rattle.cg_simplify_facts.proofs.Values.{value_small}
use Rattle.cg_model.specs.declared.kernel.Operand.{Operand}
use Rattle.cg_model.specs.declared.kernel.Operand.TheVariants.{Const as Constant, Edge}
use Rattle.cg_model.specs.Kernel.{Kernel, IsKernel, no_node, node, size}
use Rattle.cg_model.specs.Work.{Image, IsImage, Work, address, last_operand, stored, stores, value, value_by}
use Rattle.cg_model.specs.Turns.{Progress, before, operand, val, work_at, work_of}
use Rattle.cg_simplify_facts.specs.Suits.{AreOfWords, IsOfWords}

-- all items of a list are words
abbrev pub HasWords : List ℕ → Type 0
HasWords ws = (k : ℕ) → slice_index ws k < words

-- the values so far and the memory
record AreWords (p : Progress) : Type 0 where
  pub values : HasWords p.values
  pub memory : HasWords p.memory

no_words : HasWords []
no_words k = omega arith

pushed : (ws : List ℕ) (x : ℕ) → HasWords ws → x < words → HasWords (ws ++ x ∷ [])
pushed [] x h l zero = l
pushed [] x h l (suc k) = omega arith
pushed (w ∷ ws) x h l zero = h 0
pushed (w ∷ ws) x h l (suc k) = pushed ws x (λ j. h (suc j)) l k

set_word : (ws : List ℕ) (a x : ℕ) → HasWords ws → x < words → HasWords (slice_set ws a x)
set_word [] a x h l k = h k
set_word (w ∷ ws) zero x h l zero = l
set_word (w ∷ ws) zero x h l (suc k) = h (suc k)
set_word (w ∷ ws) (suc a) x h l zero = h 0
set_word (w ∷ ws) (suc a) x h l (suc k) = set_word ws a x (λ j. h (suc j)) l k

-- the word of an operand
pub operand_word : (V : ℕ → ℕ → ℕ) (i : ℕ) (o : Operand) → ((u j : ℕ) → V u j < words) → IsOfWords o → operand V i o < words
operand_word V i (Constant c) small is = is
operand_word V i (Edge u d init) small is = by (nat_lt i d)
  where
    by : (b : Bool) → cond b (slice_index init i) (V u (i - d)) < words
    by true = is.1 i
    by false = small u (i - d)

pub args_words : (V : ℕ → ℕ → ℕ) (i : ℕ) (os : List Operand) → ((u j : ℕ) → V u j < words) → AreOfWords os → HasWords (map (operand V i) os)
args_words V i [] small is k = no_words k
args_words V i (o ∷ os) small is zero = operand_word V i o small (is 0 o refl)
args_words V i (o ∷ os) small is (suc k) = args_words V i os small (λ p. is (suc p)) k

-- the operands of a valid kernel's node are of words
pub of_words : (K : Kernel) → IsKernel K → (v : ℕ) → v < size K → AreOfWords (node K v).operands
of_words K good v l p (Constant c) has = good.wired.constants v p c l has
of_words K good v l p (Edge u d init) has = (good.inits v p u d init l has, λ k. good.init_words v p u d k init l has)

stream_word : (image : Image) (port turn : ℕ) → IsImage image → slice_index (slice_index_or image.streams port []) turn < words
stream_word image port turn good =
    ⊎_elim
    (λ l. good.streams port turn l)
    (λ l. subst (λ z. z < words) (sym (get_or_past (slice_index_or image.streams port []) turn 0 l)) (omega arith))
    (cases_lt turn (length (slice_index_or image.streams port [])))

memory_word : (image : Image) → IsImage image → HasWords image.memory
memory_word image good a =
    ⊎_elim
    (λ l. good.memory a l)
    (λ l. subst (λ z. z < words) (sym (get_or_past image.memory a 0 l)) (omega arith))
    (cases_lt a (length image.memory))

small_word : (op : Op) (args : List ℕ) → HasWords args → apply_of op (slice_index args 0) (slice_index args 1) (slice_index args 2) < words
small_word op args h = let x = value_small op (slice_index args 0) (slice_index args 1) (slice_index args 2) (h 0) (h 1) (h 2) in omega arith

-- the value of an operation
value_word : (image : Image) (memory : List ℕ) (port turn : ℕ) (args : List ℕ) (op : Op) → IsImage image → HasWords memory → HasWords args → value_by image memory port turn args op < words
unfolding value_by
value_word image memory port turn args Iter good m h = mod-lt turn {m = words} (omega arith)
value_word image memory port turn args Input good m h = stream_word image port turn good
value_word image memory port turn args Load good m h = m (slice_index args 0)
value_word image memory port turn args LoadIf good m h = by (nat_lt 0 (slice_index args 0))
  where
    by : (b : Bool) → cond b (slice_index memory (slice_index args 1)) 0 < words
    by true = m (slice_index args 1)
    by false = omega arith
value_word image memory port turn args Const good m h = small_word Const args h
value_word image memory port turn args Add good m h = small_word Add args h
value_word image memory port turn args Sub good m h = small_word Sub args h
value_word image memory port turn args Mul good m h = small_word Mul args h
value_word image memory port turn args And good m h = small_word And args h
value_word image memory port turn args Or good m h = small_word Or args h
value_word image memory port turn args Xor good m h = small_word Xor args h
value_word image memory port turn args Shl good m h = small_word Shl args h
value_word image memory port turn args Shr good m h = small_word Shr args h
value_word image memory port turn args Sar good m h = small_word Sar args h
value_word image memory port turn args Eq good m h = small_word Eq args h
value_word image memory port turn args Ne good m h = small_word Ne args h
value_word image memory port turn args Lts good m h = small_word Lts args h
value_word image memory port turn args Ltu good m h = small_word Ltu args h
value_word image memory port turn args Mins good m h = small_word Mins args h
value_word image memory port turn args Maxs good m h = small_word Maxs args h
value_word image memory port turn args Select good m h = small_word Select args h
value_word image memory port turn args Store good m h = small_word Store args h
value_word image memory port turn args Output good m h = small_word Output args h
value_word image memory port turn args StoreIf good m h = small_word StoreIf args h
value_word image memory port turn args OutputIf good m h = small_word OutputIf args h

stored_words : (memory : List ℕ) (w : Work) → HasWords memory → HasWords w.args → HasWords (stored memory w)
unfolding stored
stored_words memory w m h = by (stores w)
  where
    by : (b : Bool) → HasWords (cond b (slice_set memory (address w.op w.args) (last_operand w.op w.args)) memory)
    by true = set_word memory (address w.op w.args) (last_operand w.op w.args) m (h _)
    by false = m

module _ (K : Kernel) (good : IsKernel K) (image : Image) (words_are : IsImage image) where
  -- the operands of step k
  step_args : (k : ℕ) (values : List ℕ) → HasWords values → HasWords (work_at K k values).args
  step_args k values h =
      ⊎_elim
      (λ (l : k % size K < size K). args_words (λ u j. slice_index values (j * size K + u)) (k / size K) (node K (k % size K)).operands (λ u j. h (j * size K + u)) (of_words K good (k % size K) l))
      (λ (l : size K ≤ k % size K). subst (λ n. HasWords (work_of n (k / size K) (λ u j. slice_index values (j * size K + u))).args) (sym (get_or_past K.nodes (k % size K) no_node l)) no_words)
      (cases_lt (k % size K) (size K))

  all_words : (k : ℕ) → AreWords (before K image k)
  unfolding before
  all_words zero = record { values = no_words; memory = memory_word image words_are }
  all_words (suc k) =
      let p = before K image k in
      let w = work_at K k p.values in
      let h = all_words k in
      let args = step_args k p.values h.values in
      record {
        values = pushed p.values (value image p.memory w) h.values (value_word image p.memory w.port w.turn w.args w.op words_are h.memory args);
        memory = stored_words p.memory w h.memory args;
      }

  -- the value of a node in a turn is a word
  pub val_word : (v i : ℕ) → val K image v i < words
  val_word v i =
      let k = i * size K + v in
      let p = before K image k in
      let w = work_at K k p.values in
      let h = all_words k in
      value_word image p.memory w.port w.turn w.args w.op words_are h.memory (step_args k p.values h.values)

  -- so is each word of the memory
  pub memory_words : (k : ℕ) → HasWords (before K image k).memory
  memory_words k = (all_words k).memory
