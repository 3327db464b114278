-- The words of operands in the turns of a kernel.
use Rattle.std.proofs.Common.{◌≡◌, ◌≢◌, ℕ, zero, suc, ◌-◌, ◌<◌, ◌≤◌, List, [], ◌∷◌, refl, sym, ap, ◌∙◌, subst, arith, ⊎_elim}
use Rattle.std.specs.Prelude.{◌==◌, Option, Some, None}
use Rattle.std.proofs.lemmas.Bool.{cases_lt, cond-false, ne_eqb}
use Rattle.cg_model.specs.declared.kernel.Operand.{Operand}
use Rattle.cg_model.specs.declared.kernel.Operand.TheVariants.{Const as Constant, Edge}
use Rattle.cg_model.specs.Kernel.{IsWired}
use Rattle.cg_model.specs.Turns.{val}
use Rattle.cg_model.specs.Work.{Image}
use Rattle.cg_c_values.specs.declared.value.Value.{Value}
use Rattle.cg_c_values.specs.declared.value.Value.TheVariants.{Const, Carried}
use Rattle.cg_c_values.specs.Values.{value_at}
use Rattle.cg_c_forms.specs.Forms.{behind, renamed}
use Rattle.cg_c_turn.specs.Draft.{Draft, assigned_in, initial_in}
use Rattle.cg_c_turn.specs.Stands.{begun, word_or}
use Rattle.cg_c_nodes.specs.Placed.{Computes, Copies, Follows, IsAt, IsCarry, IsConstant, IsFinal, IsOperand, IsOperandOf, IsPlaced, Placing, final_value, now}
use Rattle.cg_c_nodes.specs.Running.{Memories}
use Rattle.cg_c_nodes.proofs.WordsMade.{carried_at, made_node, made_word, moment_at, word_by, words_at}
use Rattle.cg_c_nodes.proofs.WordsNodes.{constant_gives, copy_gives, edge_first, edge_later, val_at, word, word_now}

module _ (d : Draft) (count : ℕ) (P : Placing) (image : Image) (memories : Memories) (placed : IsPlaced d count P) (wired : IsWired P.kernel) where
  abbrev carried : (t number : ℕ) → ℕ
  carried t number = carried_at d P image memories t number

  abbrev E : (t v : ℕ) → ℕ
  E t v = words_at d P image memories t v

  abbrev word_of : (t : ℕ) → Operand → ℕ
  word_of t o = word P image wired t o

  -- ---- values

  pub node_word : (t v m : ℕ) → P.at v ≡ Some m → E t v ≡ val P.kernel image m t
  node_word t v m e = made_node P image (memories t) (moment_at d P image memories t) placed.stand v m e

  -- a value that no node computes
  pub other_word : (t v : ℕ) (value : Value) → value_at P.new v ≡ value → ((m : ℕ) → ¬ Computes P m value) →
      E t v ≡ word_by (moment_at d P image memories t) (memories t v) (words_at d P image memories t) value
  other_word t v value e none = by (P.at v) refl
    where
      by : (q : Option ℕ) → P.at v ≡ q → E t v ≡ word_by (moment_at d P image memories t) (memories t v) (words_at d P image memories t) value
      by None f = made_word P image (memories t) (moment_at d P image memories t) placed.stand v f ∙ ap (word_by (moment_at d P image memories t) (memories t v) (words_at d P image memories t)) e
      by (Some m) f = absurd (none m (subst (Computes P m) e (placed.values_at v m f).1))

  const_word : (t v word : ℕ) → value_at P.new v ≡ Const word → E t v ≡ word
  const_word t v word e = other_word t v (Const word) e (λ m h. h)

  carried_word : (t v number : ℕ) → value_at P.new v ≡ Carried number → E t v ≡ carried t number
  carried_word t v number e = other_word t v (Carried number) e (λ m h. h)

  -- ---- operands of values

  -- in turn t the operands of words have their words
  abbrev AreCarried : (t : ℕ) → Type 0
  AreCarried t = (number : ℕ) (o : Operand) → P.carry number ≡ Some o → word_of t o ≡ carried t number

  operand_at : (t a : ℕ) (o : Operand) (q : Option ℕ) → P.at a ≡ q → IsAt P q o → word_of t o ≡ E t a
  operand_at t a o None e h = absurd h
  operand_at t a o (Some m) e h = ap (word_of t) h ∙ word_now P image wired m t ∙ sym (node_word t a m e)

  operand_by : (t a : ℕ) (o : Operand) (value : Value) → AreCarried t → value_at P.new a ≡ value → IsOperandOf P a value o → word_of t o ≡ E t a
  operand_by t a o (Const word) h e is =
      ⊎_elim
      (λ (f : o ≡ Constant word). ap (word_of t) f)
      (λ (s : (m : ℕ) × IsConstant P m word × (o ≡ now m)). ap (word_of t) s.2 ∙ word_now P image wired s.0 t ∙ constant_gives P image wired s.0 t word s.1)
      is
      ∙ sym (const_word t a word e)
  operand_by t a o (Carried number) h e is = h number o is ∙ sym (carried_word t a number e)
  operand_by t a o _ h e is = operand_at t a o (P.at a) refl is

  -- ---- operands of words

  pub begun_is : (t number : ℕ) → begun (moment_at d P image memories t) d number ≡ carried t number
  unfolding carried_at
  begun_is zero number = refl
  begun_is (suc t) number = cond-false (suc t == 0) (initial_in d number) (carried (suc t) number) (ne_eqb (suc t) 0 (let n : suc t ≢ 0 = omega arith in n))

  pub next_is : (t number : ℕ) → carried (suc t) number ≡ word_or (behind (words_at d P image memories t) P.map) (begun (moment_at d P image memories t) d number) (assigned_in d number)
  unfolding carried_at
  next_is t number = refl

  next_kept : (t number : ℕ) → assigned_in d number ≡ None → carried (suc t) number ≡ carried t number
  next_kept t number e =
      next_is t number ∙ ap (word_or (behind (words_at d P image memories t) P.map) (begun (moment_at d P image memories t) d number)) e ∙ begun_is t number

  next_assigned : (t number v : ℕ) → assigned_in d number ≡ Some v → carried (suc t) number ≡ E t (renamed P.map v)
  next_assigned t number v e =
      next_is t number ∙ ap (word_or (behind (words_at d P image memories t) P.map) (begun (moment_at d P image memories t) d number)) e

  -- what the final value says of the next turn's word
  unfoldable Means : (t number : ℕ) → Value → Type 0
  Means t number (Const word) = carried (suc t) number ≡ word
  Means t number (Carried other) = carried (suc t) number ≡ carried t other
  Means t number _ = (v : ℕ) → assigned_in d number ≡ Some v → carried (suc t) number ≡ E t (renamed P.map v)

  means_kept : (t number : ℕ) → assigned_in d number ≡ None → Means t number (Carried number)
  unfolding Means
  means_kept t number e = next_kept t number e

  means_by : (t number v : ℕ) → assigned_in d number ≡ Some v → (value : Value) → value_at P.new (renamed P.map v) ≡ value → Means t number value
  unfolding Means
  means_by t number v e (Const word) f = next_assigned t number v e ∙ const_word t (renamed P.map v) word f
  means_by t number v e (Carried other) f = next_assigned t number v e ∙ carried_word t (renamed P.map v) other f
  means_by t number v e _ f = λ u g. next_assigned t number u g

  means : (t number : ℕ) → Means t number (final_value d P number)
  means t number = by (assigned_in d number) refl
    where
      by : (q : Option ℕ) → assigned_in d number ≡ q → Means t number (final_value d P number)
      by None e = rw e (means_kept t number e)
      by (Some v) e = rw e (means_by t number v e (value_at P.new (renamed P.map v)) refl)

  -- an edge over one turn, from a node
  one_later : (t m turns word : ℕ) (rest : List ℕ) → turns ≡ 0 → word_of (suc t) (Edge m (suc turns) (word ∷ rest)) ≡ val_at P image wired m t
  one_later t m turns word rest e = edge_later (val P.kernel image) (suc t) t m (suc turns) (word ∷ rest) (omega arith)

  -- one that goes on with another
  longer : (t m turns word : ℕ) (rest : List ℕ) → word_of (suc t) (Edge m (suc turns) (word ∷ rest)) ≡ word_of t (Edge m turns rest)
  longer t m turns word rest = ⊎_elim below above (cases_lt t turns)
    where
      below : t < turns → word_of (suc t) (Edge m (suc turns) (word ∷ rest)) ≡ word_of t (Edge m turns rest)
      below l =
          edge_first (val P.kernel image) (suc t) m (suc turns) (word ∷ rest) (omega arith)
          ∙ sym (edge_first (val P.kernel image) t m turns rest l)

      above : turns ≤ t → word_of (suc t) (Edge m (suc turns) (word ∷ rest)) ≡ word_of t (Edge m turns rest)
      above l =
          edge_later (val P.kernel image) (suc t) (t - turns) m (suc turns) (word ∷ rest) (omega arith)
          ∙ sym (edge_later (val P.kernel image) t (t - turns) m turns rest (omega arith))

  follows : (t number m turns word : ℕ) (rest : List ℕ) (q : Option Operand) → AreCarried t → P.carry number ≡ q → Follows P q m turns rest →
      word_of t (Edge m turns rest) ≡ carried t number
  follows t number m turns word rest None h e f = absurd f
  follows t number m turns word rest (Some (Constant x)) h e f = absurd f
  follows t number m turns word rest (Some (Edge u d init)) h e f = rw (f.0, f.1, f.2) (h number (Edge u d init) e)

  final_step : (t number m turns word : ℕ) (rest : List ℕ) (value : Value) → AreCarried t → Means t number value → IsFinal d P number m turns rest value →
      word_of (suc t) (Edge m (suc turns) (word ∷ rest)) ≡ carried (suc t) number
  unfolding Means
  final_step t number m turns word rest (Const x) h e f = one_later t m turns word rest f.0 ∙ constant_gives P image wired m t x f.2 ∙ sym e
  final_step t number m turns word rest (Carried other) h e f =
      ⊎_elim
      (λ (s : (turns ≡ 0) × (rest ≡ []) × Copies P m other).
      one_later t m turns word rest s.0 ∙ copy_gives P image wired m t s.2.source s.2.is ∙ h other s.2.source s.2.source_is)
      (λ (s : Follows P (P.carry other) m turns rest). longer t m turns word rest ∙ follows t other m turns word rest (P.carry other) h refl s)
      f
      ∙ sym e
  final_step t number m turns word rest _ h e f =
      one_later t m turns word rest f.0 ∙ sym (node_word t (renamed P.map f.2.0) m f.2.2) ∙ sym (e f.2.0 f.2.1)

  begins : (number : ℕ) (o : Operand) → IsCarry d P number o → word_of 0 o ≡ carried 0 number
  unfolding carried_at
  begins number (Constant x) h = absurd h
  begins number (Edge m zero init) h = absurd h
  begins number (Edge m (suc turns) []) h = absurd h
  begins number (Edge m (suc turns) (word ∷ rest)) h = edge_first (val P.kernel image) 0 m (suc turns) (word ∷ rest) (omega arith) ∙ h.0

  goes_on : (t number : ℕ) (o : Operand) → AreCarried t → IsCarry d P number o → word_of (suc t) o ≡ carried (suc t) number
  goes_on t number (Constant x) a h = absurd h
  goes_on t number (Edge m zero init) a h = absurd h
  goes_on t number (Edge m (suc turns) []) a h = absurd h
  goes_on t number (Edge m (suc turns) (word ∷ rest)) a h = final_step t number m turns word rest (final_value d P number) a (means t number) h.1

  are_carried : (t : ℕ) → AreCarried t
  are_carried zero number o e = begins number o (placed.carried number o e)
  are_carried (suc t) number o e = goes_on t number o (are_carried t) (placed.carried number o e)

  -- an operand has its value's word
  pub operand_has : (t a : ℕ) (o : Operand) → IsOperand P a o → word_of t o ≡ E t a
  operand_has t a o is = operand_by t a o (value_at P.new a) (are_carried t) refl is
