-- The words of a turn's values: those of nodes, and what the other values are of the words before them.
use Rattle.std.proofs.Common.{◌≡◌, ℕ, zero, suc, ◌/◌, ◌%◌, ◌<◌, ◌≤◌, length, List, [], refl, sym, ap, ◌∙◌, subst, arith, ⊎_elim}
use Rattle.std.specs.Prelude.{Option, Some, None, slice_index, slice_index_or}
use Rattle.std.proofs.lemmas.Bool.{cases_lt}
use Rattle.std.proofs.lemmas.List.{get_or_past}
use Rattle.cg_word.specs.declared.op.Op.TheVariants as ops
use Rattle.cg_word.specs.Word.{apply_of, words}
use Rattle.cg_model.specs.Turns.{val}
use Rattle.cg_model.specs.Work.{Image}
use Rattle.cg_c_values.specs.declared.value.Value.{Value}
use Rattle.cg_c_values.specs.declared.value.Value.TheVariants.{Const, Turn, Quotient, Digit, Carried, Input, Loaded, Two, Select}
use Rattle.cg_c_values.specs.Values.{Moment, Words, MayStand, value_at}
use Rattle.cg_c_values.specs.Standing.{AllStand}
use Rattle.cg_c_forms.specs.Forms.{behind}
use Rattle.cg_c_turn.specs.Draft.{Draft, initial_in}
use Rattle.cg_c_turn.specs.Stands.{word_in}
use Rattle.cg_c_nodes.specs.Placed.{Placing}
use Rattle.cg_c_nodes.specs.Running.{Memories}

-- what a value is of the words E; `memory` is the one that it is loaded from
abbrev pub word_by : Moment → (memory : List ℕ) → Words → Value → ℕ
word_by x memory E (Const word) = word
word_by x memory E Turn = x.turn
word_by x memory E (Quotient divisor) = x.turn / divisor
word_by x memory E (Digit divisor radix) = x.turn / divisor % radix
word_by x memory E (Carried number) = x.carried number
word_by x memory E (Input port) = slice_index (slice_index_or x.streams port []) x.turn
word_by x memory E (Loaded array version guard address) = slice_index memory (E address)
word_by x memory E (Two op first second) = apply_of op (E first) (E second) 0
word_by x memory E (Select condition chosen other) = apply_of ops.Select (E condition) (E chosen) (E other)

-- the same of the words that it is computed from
word_by_same : (x : Moment) (memory : List ℕ) (E F : Words) (v : ℕ) (value : Value) → MayStand v value →
    ((a : ℕ) → a < v → E a ≡ F a) → word_by x memory E value ≡ word_by x memory F value
word_by_same x memory E F v (Const word) s h = refl
word_by_same x memory E F v Turn s h = refl
word_by_same x memory E F v (Quotient divisor) s h = refl
word_by_same x memory E F v (Digit divisor radix) s h = refl
word_by_same x memory E F v (Carried number) s h = refl
word_by_same x memory E F v (Input port) s h = refl
word_by_same x memory E F v (Loaded array version guard address) s h = ap (slice_index memory) (h address s.1)
word_by_same x memory E F v (Two op first second) s h =
    let e = h first s.1 in
    let f = h second s.2 in
    rw (e, f) refl
word_by_same x memory E F v (Select condition chosen other) s h =
    let e = h condition s.0 in
    let f = h chosen s.1 in
    let g = h other s.2 in
    rw (e, f, g) refl

-- each value may stand, one past the last too
pub stands : (values : List Value) → AllStand values → (v : ℕ) → MayStand v (value_at values v)
stands values stand v =
    ⊎_elim (λ l. stand v l)
    (λ l. subst (MayStand v) (sym (get_or_past values v (Const 0) l)) (let z : 0 < words = omega arith in z))
    (cases_lt v (length values))

module _ (P : Placing) (image : Image) (memories : ℕ → List ℕ) (x : Moment) where
  -- the word of a node, if there is one
  abbrev pub picked : Option ℕ → ℕ → ℕ
  picked None word = word
  picked (Some m) word = val P.kernel image m x.turn

  -- the words of the first n values
  unfoldable pub steps : (n : ℕ) → Words
  steps zero v = 0
  steps (suc n) v = picked (P.at v) (word_by x (memories v) (steps n) (value_at P.new v))

  unfoldable pub made : Words
  made v = steps (suc v) v

  kept : AllStand P.new → (k n v : ℕ) → n ≤ k → v < n → steps n v ≡ made v
  unfolding steps made
  kept stand zero n v l m = absurd (omega arith)
  kept stand (suc k) zero v l m = absurd (omega arith)
  kept stand (suc k) (suc n) v l m =
      ap (picked (P.at v))
      (word_by_same x (memories v) (steps n) (steps v) v (value_at P.new v) (stands P.new stand v)
      (λ a b. kept stand k n a (omega arith) (omega arith) ∙ sym (kept stand k v a (omega arith) b)))

  -- each is what it is of all words
  pub made_is : AllStand P.new → (v : ℕ) → made v ≡ picked (P.at v) (word_by x (memories v) made (value_at P.new v))
  unfolding steps made
  made_is stand v =
      ap (picked (P.at v))
      (word_by_same x (memories v) (steps v) made v (value_at P.new v) (stands P.new stand v)
      (λ a b. kept stand v v a (omega arith) b))

  pub made_node : AllStand P.new → (v m : ℕ) → P.at v ≡ Some m → made v ≡ val P.kernel image m x.turn
  made_node stand v m e = made_is stand v ∙ ap (λ o. picked o (word_by x (memories v) made (value_at P.new v))) e

  pub made_word : AllStand P.new → (v : ℕ) → P.at v ≡ None → made v ≡ word_by x (memories v) made (value_at P.new v)
  made_word stand v e = made_is stand v ∙ ap (λ o. picked o (word_by x (memories v) made (value_at P.new v))) e

module _ (d : Draft) (P : Placing) (image : Image) (memories : Memories) where
  abbrev pub moment_with : (turn : ℕ) → (ℕ → ℕ) → Moment
  moment_with t carried = record { turn = t; carried = carried; streams = image.streams }

  -- the words of words when turn t begins
  unfoldable pub carried_at : (t number : ℕ) → ℕ
  carried_at zero number = initial_in d number
  carried_at (suc t) number = word_in (moment_with t (carried_at t)) (behind (made P image (memories t) (moment_with t (carried_at t))) P.map) d number

  abbrev pub moment_at : (t : ℕ) → Moment
  moment_at t = moment_with t (carried_at t)

  abbrev pub words_at : (t : ℕ) → Words
  words_at t = made P image (memories t) (moment_at t)
