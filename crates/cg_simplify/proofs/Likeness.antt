-- Nodes of one text, up to what nodes are like, have the same values.
use Rattle.std.proofs.Common.{◌≡◌, ℕ, zero, suc, ◌+◌, ◌-◌, ◌*◌, ◌%◌, ◌<◌, ◌≤◌, Bool, true, false, eqb, ltb, List, [], ◌∷◌, ◌++◌, length, map, Some, None, refl, sym, ap, ap₂, ◌∙◌, subst, arith, ⊎_elim}
use Rattle.std.specs.Prelude.{slice_get, slice_index}
use Rattle.std.proofs.lemmas.Bool.{cases_lt, cases_eq, cases_Bool, cond-true, cond-false, eq-eqb, ne_eqb, le-ltb, lt-ltb}
use Rattle.std.proofs.lemmas.List.{get_or_append_left, get_or_push, length_push}
use Rattle.std.proofs.lemmas.Nat.{and_comm, or_comm, xor_comm}
use Rattle.std.proofs.Math.Nat.{add_comm, mul_comm}
use Rattle.cg_word.specs.declared.op.Op.{Op}
use Rattle.cg_word.specs.declared.op.Op.TheVariants.{Add, And, Eq, Load, LoadIf, Maxs, Mins, Mul, Ne, Or, Store, StoreIf, Xor}
use Rattle.cg_word.specs.Word.{apply_of, arity, has_value, is_access, is_store, one_if, rank, words}
use Rattle.cg_model.specs.declared.kernel.Operand.{Operand}
use Rattle.cg_model.specs.declared.kernel.Operand.TheVariants.{Const as Constant, Edge}
use Rattle.cg_model.specs.Kernel.{Kernel, HasOperand, IsKernel, node, size}
use Rattle.cg_model.specs.Work.{Image, IsImage, Reaches, Work, value, value_by}
use Rattle.cg_model.specs.Turns.{before, operand, val, work, work_of}
use Rattle.cg_overlap.proofs.Memory.{value_same}
use Rattle.cg_overlap.proofs.Sequence.{work_is}
use Rattle.cg_simplify_facts.proofs.Words.{HasWords, args_words, of_words, val_word}
use Rattle.cg_simplify.specs.Joining.{HasText, MayJoin, MayTake}
use Rattle.cg_simplify.specs.Live.{is_marked}
use Rattle.cg_simplify.specs.Merging.{AreCrossed, AreLike, AreSame, AreTargets, IsLike, IsSame, SameText, commutes, counts_as, target}
use Rattle.cg_simplify.proofs.Exchanged.{same_maps}
use Rattle.cg_simplify.proofs.Joined.{same_there}
use Rattle.cg_simplify_draft.proofs.Drafts.{some_operand}

-- ---- the value of one operation

value_anywhere : (image : Image) (memory other : List ℕ) (port turn : ℕ) (args : List ℕ) (op : Op) → is_access op ≡ false →
    value_by image memory port turn args op ≡ value_by image other port turn args op
unfolding value_by
value_anywhere image memory other port turn args Load h = absurd (cc)
value_anywhere image memory other port turn args LoadIf h = absurd (cc)
value_anywhere image memory other port turn args _ h = refl

eqb_comm : (a b : ℕ) → eqb a b ≡ eqb b a
eqb_comm a b =
    ⊎_elim
    (λ e. eq-eqb a b e ∙ sym (eq-eqb b a (sym e)))
    (λ ne. ne_eqb a b ne ∙ sym (ne_eqb b a (λ e. ne (sym e))))
    (cases_eq a b)

crossed : (f : ℕ → ℕ → ℕ) → ((a b : ℕ) → f a b ≡ f b a) → (x y z w : ℕ) → x ≡ w → y ≡ z → f x y ≡ f z w
crossed f comm x y z w a b = rw (a, b) (comm w z)

-- so for words
crossed_words : (f : ℕ → ℕ → ℕ) → ((a b : ℕ) → a < words → b < words → f a b ≡ f b a) → (x y z w : ℕ) → x < words → y < words → x ≡ w → y ≡ z → f x y ≡ f z w
crossed_words f comm x y z w l m a b = comm x y l m ∙ ap₂ (λ (p q : ℕ). f p q) b a

-- words of one rank are one word
one_rank : (a b : ℕ) → a < words → b < words → rank a ≡ rank b → a ≡ b
one_rank a b l m e = omega (arith, l, m, e)

-- the word of the less rank, and that of the greater
lesser : (a b : ℕ) → a < words → b < words → apply_of Mins a b 0 ≡ apply_of Mins b a 0
unfolding apply_of
lesser a b l m =
    ⊎_elim
    (λ (h : rank a < rank b). cond-false (ltb (rank b) (rank a)) b a (le-ltb (rank b) (rank a) (omega arith)) ∙ sym (cond-true (ltb (rank a) (rank b)) a b (lt-ltb (rank a) (rank b) h)))
    (λ (h : rank b ≤ rank a). ⊎_elim
    (λ (k : rank b < rank a). cond-true (ltb (rank b) (rank a)) b a (lt-ltb (rank b) (rank a) k) ∙ sym (cond-false (ltb (rank a) (rank b)) a b (le-ltb (rank a) (rank b) h)))
    (λ (k : rank a ≤ rank b). subst (λ (z : ℕ). apply_of Mins a z 0 ≡ apply_of Mins z a 0) (one_rank a b l m (omega arith)) refl)
    (cases_lt (rank b) (rank a)))
    (cases_lt (rank a) (rank b))

greater : (a b : ℕ) → a < words → b < words → apply_of Maxs a b 0 ≡ apply_of Maxs b a 0
unfolding apply_of
greater a b l m =
    ⊎_elim
    (λ (h : rank a < rank b). cond-true (ltb (rank a) (rank b)) b a (lt-ltb (rank a) (rank b) h) ∙ sym (cond-false (ltb (rank b) (rank a)) a b (le-ltb (rank b) (rank a) (omega arith))))
    (λ (h : rank b ≤ rank a). ⊎_elim
    (λ (k : rank b < rank a). cond-false (ltb (rank a) (rank b)) b a (le-ltb (rank a) (rank b) h) ∙ sym (cond-true (ltb (rank b) (rank a)) a b (lt-ltb (rank b) (rank a) k)))
    (λ (k : rank a ≤ rank b). subst (λ (z : ℕ). apply_of Maxs a z 0 ≡ apply_of Maxs z a 0) (one_rank a b l m (omega arith)) refl)
    (cases_lt (rank b) (rank a)))
    (cases_lt (rank a) (rank b))

commuted : (image : Image) (memory other : List ℕ) (port turn : ℕ) (xs ys : List ℕ) (op : Op) → HasWords xs → commutes op ≡ true →
    slice_index xs 0 ≡ slice_index ys 1 → slice_index xs 1 ≡ slice_index ys 0 →
    value_by image memory port turn xs op ≡ value_by image other port turn ys op
unfolding value_by apply_of
commuted image memory other port turn xs ys Add small h a b = crossed (λ x y. (x + y) % words) (λ x y. ap (λ z. z % words) (add_comm x y)) (slice_index xs 0) (slice_index xs 1) (slice_index ys 0) (slice_index ys 1) a b
commuted image memory other port turn xs ys Mul small h a b = crossed (λ x y. (x * y) % words) (λ x y. ap (λ z. z % words) (mul_comm x y)) (slice_index xs 0) (slice_index xs 1) (slice_index ys 0) (slice_index ys 1) a b
commuted image memory other port turn xs ys And small h a b = crossed (λ x y. apply_of And x y 0) (λ x y. and_comm x y) (slice_index xs 0) (slice_index xs 1) (slice_index ys 0) (slice_index ys 1) a b
commuted image memory other port turn xs ys Or small h a b = crossed (λ x y. apply_of Or x y 0) (λ x y. or_comm x y) (slice_index xs 0) (slice_index xs 1) (slice_index ys 0) (slice_index ys 1) a b
commuted image memory other port turn xs ys Xor small h a b = crossed (λ x y. apply_of Xor x y 0) (λ x y. xor_comm x y) (slice_index xs 0) (slice_index xs 1) (slice_index ys 0) (slice_index ys 1) a b
commuted image memory other port turn xs ys Eq small h a b = crossed (λ x y. apply_of Eq x y 0) (λ x y. ap one_if (eqb_comm x y)) (slice_index xs 0) (slice_index xs 1) (slice_index ys 0) (slice_index ys 1) a b
commuted image memory other port turn xs ys Ne small h a b = crossed (λ x y. apply_of Ne x y 0) (λ x y. rw (eqb_comm x y) refl) (slice_index xs 0) (slice_index xs 1) (slice_index ys 0) (slice_index ys 1) a b
commuted image memory other port turn xs ys Mins small h a b =
    crossed_words (λ x y. apply_of Mins x y 0) lesser (slice_index xs 0) (slice_index xs 1) (slice_index ys 0) (slice_index ys 1) (small 0) (small 1) a b
commuted image memory other port turn xs ys Maxs small h a b =
    crossed_words (λ x y. apply_of Maxs x y 0) greater (slice_index xs 0) (slice_index xs 1) (slice_index ys 0) (slice_index ys 1) (small 0) (small 1) a b
commuted image memory other port turn xs ys _ small h a b = absurd (cc)

two_operands : (op : Op) → commutes op ≡ true → arity op ≡ 2
two_operands Add h = refl
two_operands Mul h = refl
two_operands And h = refl
two_operands Or h = refl
two_operands Xor h = refl
two_operands Eq h = refl
two_operands Ne h = refl
two_operands Mins h = refl
two_operands Maxs h = refl
two_operands _ h = absurd (cc)

no_swap : (op : Op) → is_access op ≡ true → commutes op ≡ true → ⊥
no_swap Load h c = cc
no_swap Store h c = cc
no_swap LoadIf h c = cc
no_swap StoreIf h c = cc
no_swap _ h c = cc

item_of_map : (f : Operand → ℕ) (xs : List Operand) (p : ℕ) (o : Operand) → slice_get xs p ≡ Some o → slice_index (map f xs) p ≡ f o
item_of_map f [] p o at = let bad : None ≡ Some o = at in absurd (cc)
item_of_map f (x ∷ xs) zero o at = let same : x ≡ o = cc in ap f same
item_of_map f (x ∷ xs) (suc p) o at = item_of_map f xs p o at

-- ---- sources up to what nodes are like

counts_self : (like : List ℕ) (n u : ℕ) → u ≡ n → counts_as like n u ≡ None
counts_self like n u e = cond-true (eqb u n) None _ (eq-eqb u n e)

module _ (K : Kernel) (good : IsKernel K) (like : List ℕ) (all : AreLike K like) (image : Image) (words_are : IsImage image) where
  -- a node with the values of another one that an edge's source counts as
  record Counted (n u : ℕ) : Type 0 where
    other : ℕ
    is : counts_as like n u ≡ Some other
    same : (j : ℕ) → val K image u j ≡ val K image other j

  counts_other : (n u : ℕ) → n ≤ length like → (u ≡ n → ⊥) → Counted n u
  counts_other n u known ne =
      ⊎_elim
      (λ (a : u < n). record {
        other = slice_index like u;
        is = cond-false (eqb u n) None _ (ne_eqb u n ne) ∙ cond-true (ltb u n) (Some (slice_index like u)) (Some u) (lt-ltb u n a);
        same = λ j. (all u (omega arith)).same image j words_are;
      })
      (λ (a : n ≤ u). record {
        other = u;
        is = cond-false (eqb u n) None _ (ne_eqb u n ne) ∙ cond-false (ltb u n) (Some (slice_index like u)) (Some u) (le-ltb u n a);
        same = λ j. refl;
      })
      (cases_lt u n)

  same_counted : (m n u w : ℕ) → m ≤ length like → n ≤ length like → (u ≡ m → ⊥) → (w ≡ n → ⊥) → counts_as like m u ≡ counts_as like n w →
      (j : ℕ) → val K image w j ≡ val K image u j
  same_counted m n u w lm ln a b e j =
      let x = counts_other m u lm a in
      let y = counts_other n w ln b in
      let z : Some x.other ≡ Some y.other = sym x.is ∙ e ∙ y.is in
      let s : x.other ≡ y.other = cc in
      y.same j ∙ sym (ap (λ (v : ℕ). val K image v j) s) ∙ sym (x.same j)

  not_both : (m n u w : ℕ) → n ≤ length like → u ≡ m → (w ≡ n → ⊥) → counts_as like m u ≡ counts_as like n w → ⊥
  not_both m n u w ln a b e =
      let y = counts_other n w ln b in
      let z : None ≡ Some y.other = sym (counts_self like m u a) ∙ e ∙ y.is in
      cc

  module _ (m n : ℕ) (lm : m < size K) (ln : n < size K) (km : m ≤ length like) (kn : n ≤ length like) (i : ℕ) (below : (j : ℕ) → j < i → val K image n j ≡ val K image m j) where
    abbrev word : Operand → ℕ
    word = operand (val K image) i

    own : (p d j : ℕ) (init : List ℕ) → HasOperand K m p (Edge m d init) → d ≤ i → val K image n (i - d) ≡ val K image m (i - d)
    own p d j init has l =
        ⊎_elim
        (λ (z : d ≡ 0). absurd (let bad : m < m = good.wired.forward m p m init lm (subst (λ (y : ℕ). HasOperand K m p (Edge m y init)) z has) in omega arith))
        (λ z. below (i - d) (omega arith))
        (cases_eq d 0)

    same_source : (p u w d : ℕ) (init : List ℕ) → HasOperand K m p (Edge u d init) → counts_as like m u ≡ counts_as like n w → d ≤ i →
        val K image w (i - d) ≡ val K image u (i - d)
    same_source p u w d init has e l =
        ⊎_elim
        (λ (a : u ≡ m). ⊎_elim
        (λ (b : w ≡ n).
        ap (λ (v : ℕ). val K image v (i - d)) b
        ∙ own p d i init (subst (λ (v : ℕ). HasOperand K m p (Edge v d init)) a has) l
        ∙ sym (ap (λ (v : ℕ). val K image v (i - d)) a))
        (λ b. absurd (not_both m n u w kn a b e))
        (cases_eq w n))
        (λ a. ⊎_elim
        (λ (b : w ≡ n). absurd (not_both n m w u km b a (sym e)))
        (λ b. same_counted m n u w km kn a b e (i - d))
        (cases_eq w n))
        (cases_eq u m)

    same_word : (p : ℕ) (a b : Operand) → HasOperand K m p a → IsSame like m a n b → word b ≡ word a
    same_word p (Constant c) (Constant d) has s = sym s
    same_word p (Constant c) (Edge w e more) has s = absurd s
    same_word p (Edge u d init) (Constant c) has s = absurd s
    same_word p (Edge u d init) (Edge w e more) has s =
        ap (λ (y : ℕ). word (Edge w y more)) (sym s.1)
        ∙ ap (λ (y : List ℕ). word (Edge w d y)) (sym s.2)
        ∙ ⊎_elim
        (λ (l : i < d). rw (lt-ltb i d l) refl)
        (λ (l : d ≤ i). rw (le-ltb i d l) (same_source p u w d init has s.0 l))
        (cases_lt i d)

    abbrev memory : ℕ → List ℕ
    memory v = (before K image (i * size K + v)).memory

    -- the value of a node in this turn
    abbrev value_of : ℕ → Type 0
    value_of v = val K image v i ≡ value_by image (memory v) (node K v).port i (map word (node K v).operands) (node K v).op

    value_is : (v : ℕ) → v < size K → value_of v
    value_is v l = ap (value image (memory v)) (work_is K image good.wired i v l)

    by_same : is_access (node K n).op ≡ false → (node K m).op ≡ (node K n).op → (node K m).port ≡ (node K n).port → AreSame like m (node K m).operands n (node K n).operands →
        value_by image (memory n) (node K n).port i (map word (node K n).operands) (node K n).op ≡ value_by image (memory m) (node K m).port i (map word (node K m).operands) (node K m).op
    by_same plain op port s =
        rw (op, port, same_maps word (node K m).operands (node K n).operands (sym s.long) (λ p a b g h. sym (same_word p a b g (s.each p a b g h))))
        (value_anywhere image (memory n) (memory m) (node K n).port i (map word (node K m).operands) (node K n).op plain)

    by_crossed : (node K m).op ≡ (node K n).op → (node K m).port ≡ (node K n).port → commutes (node K m).op ≡ true → AreCrossed like m (node K m).operands n (node K n).operands →
        value_by image (memory n) (node K n).port i (map word (node K n).operands) (node K n).op ≡ value_by image (memory m) (node K m).port i (map word (node K m).operands) (node K m).op
    by_crossed op port comm s =
        let two : length (node K m).operands ≡ 2 = good.arities m lm ∙ two_operands (node K m).op comm in
        let pair : length (node K n).operands ≡ 2 = good.arities n ln ∙ ap arity (sym op) ∙ two_operands (node K m).op comm in
        let a = some_operand K m 0 (omega (arith, two)) in
        let b = some_operand K m 1 (omega (arith, two)) in
        let x = some_operand K n 0 (omega (arith, pair)) in
        let y = some_operand K n 1 (omega (arith, pair)) in
        let left : slice_index (map word (node K n).operands) 0 ≡ slice_index (map word (node K m).operands) 1 =
        item_of_map word (node K n).operands 0 x.0 x.1 ∙ same_word 1 b.0 x.0 b.1 (s.second b.0 x.0 b.1 x.1) ∙ sym (item_of_map word (node K m).operands 1 b.0 b.1) in
        let right : slice_index (map word (node K n).operands) 1 ≡ slice_index (map word (node K m).operands) 0 =
        item_of_map word (node K n).operands 1 y.0 y.1 ∙ same_word 0 a.0 y.0 a.1 (s.first a.0 y.0 a.1 y.1) ∙ sym (item_of_map word (node K m).operands 0 a.0 a.1) in
        ap (λ (o : Op). value_by image (memory n) (node K n).port i (map word (node K n).operands) o) (sym op)
        ∙ ap (λ (t : ℕ). value_by image (memory n) t i (map word (node K n).operands) (node K m).op) (sym port)
        ∙ commuted image (memory n) (memory m) (node K m).port i (map word (node K n).operands) (map word (node K m).operands) (node K m).op (args_words (val K image) i (node K n).operands (λ u j. val_word K good image words_are u j) (of_words K good n ln)) comm left right

    -- both see the same words where the first reaches
    abbrev SeesSame : Type 0
    SeesSame = (a : ℕ) → Reaches (work K image (i * size K + m)) a → slice_index (memory n) a ≡ slice_index (memory m) a

    by_load : SeesSame → (node K m).op ≡ (node K n).op → (node K m).port ≡ (node K n).port → AreSame like m (node K m).operands n (node K n).operands →
        value_by image (memory n) (node K n).port i (map word (node K n).operands) (node K n).op ≡ value_by image (memory m) (node K m).port i (map word (node K m).operands) (node K m).op
    by_load sees op port s =
        rw (← op, ← port, same_maps word (node K m).operands (node K n).operands (sym s.long) (λ p a b g h. sym (same_word p a b g (s.each p a b g h))))
        (value_same image (memory n) (memory m) (work_of (node K m) i (val K image)) (λ a r. sees a (subst (λ (w : Work). Reaches w a) (sym (work_is K image good.wired i m lm)) r)))

    this_load : SeesSame → is_access (node K n).op ≡ true → SameText like m (node K m) n (node K n) → val K image n i ≡ val K image m i
    this_load sees is t =
        value_is n ln
        ∙ ⊎_elim (λ s. by_load sees t.op t.port s) (λ s. absurd (no_swap (node K m).op (ap is_access t.op ∙ is) s.0)) t.operands
        ∙ sym (value_is m lm)

    this_turn : is_access (node K n).op ≡ false → SameText like m (node K m) n (node K n) → val K image n i ≡ val K image m i
    this_turn plain t =
        value_is n ln
        ∙ ⊎_elim (λ s. by_same plain t.op t.port s) (λ s. by_crossed t.op t.port s.0 s.1) t.operands
        ∙ sym (value_is m lm)

-- from turn to turn
module _ (K : Kernel) (image : Image) (m n : ℕ) (step : (i : ℕ) → ((j : ℕ) → j < i → val K image n j ≡ val K image m j) → val K image n i ≡ val K image m i) where
  earlier_turns : (i j : ℕ) → j < i → val K image n j ≡ val K image m j
  earlier_turns zero j l = absurd (omega arith)
  earlier_turns (suc i) j l =
      ⊎_elim
      (λ (a : j < i). earlier_turns i j a)
      (λ (a : i ≤ j).
      let e : j ≡ i = omega arith in
      subst (λ (k : ℕ). val K image n k ≡ val K image m k) (sym e) (step i (λ k b. earlier_turns i k b)))
      (cases_lt j i)

  each_turn : (i : ℕ) → val K image n i ≡ val K image m i
  each_turn i = earlier_turns (suc i) i (omega arith)

-- a node is like an earlier one of the same text
text_like : (K : Kernel) → IsKernel K → (like : List ℕ) → AreLike K like → (m n : ℕ) → m < n → n < size K → length like ≡ n → is_access (node K n).op ≡ false →
    SameText like m (node K m) n (node K n) → IsLike K n m
text_like K good like all m n b ln long plain text =
    record {
      before = omega arith;
      valued = λ h. ap has_value text.op ∙ h;
      same = λ image i words. each_turn K image m n (λ j below. this_turn K good like all image words m n (omega arith) ln (omega arith) (omega arith) j below plain text) i;
    }

-- so is a load, where the stores between leave the word
load_like : (K : Kernel) → IsKernel K → (like : List ℕ) → AreLike K like → (m n : ℕ) → m < n → n < size K → length like ≡ n → is_access (node K n).op ≡ true → is_store (node K n).op ≡ false →
    MayJoin K m n → SameText like m (node K m) n (node K n) → IsLike K n m
load_like K good like all m n b ln long is loads join text =
    record {
      before = omega arith;
      valued = λ h. ap has_value text.op ∙ h;
      same = λ image i words. each_turn K image m n
          (λ j below. this_load K good like all image words m n (omega arith) ln (omega arith) (omega arith) j below
          (λ a r. same_there K good image m n b ln (ap is_store text.op ∙ loads) join j a r) is text) i;
    }

no_store : (op : Op) → has_value op ≡ true → is_store op ≡ false
no_store Store h = absurd (cc)
no_store StoreIf h = absurd (cc)
no_store _ h = refl

pub taken_like : (K : Kernel) → IsKernel K → (like : List ℕ) → AreLike K like → (m n : ℕ) → n < size K → length like ≡ n → HasText K like n m → MayTake K m n → IsLike K n m
taken_like K good like all m n ln long text may =
    ⊎_elim
    (λ e. load_like K good like all m n text.before ln long e (no_store (node K n).op may.valued) (may.joins e) text.same)
    (λ e. text_like K good like all m n text.before ln long e text.same)
    (cases_Bool (is_access (node K n).op))

pub like_itself : (K : Kernel) (n : ℕ) → IsLike K n n
like_itself K n = record { before = omega arith; valued = λ h. h; same = λ image i words. refl }

-- a node is like what a node is like that it is like
pub like_trans : (K : Kernel) (n m k : ℕ) → IsLike K n m → IsLike K m k → IsLike K n k
like_trans K n m k a b =
    record {
      before = omega (arith, a.before, b.before);
      valued = λ h. b.valued (a.valued h);
      same = λ image i words. a.same image i words ∙ b.same image i words;
    }

-- where edges are moved to
pub target_like : (K : Kernel) (like : List ℕ) (index : List Bool) (v : ℕ) → AreLike K like → v < length like → IsLike K v (target like index v)
target_like K like index v all l =
    ⊎_elim
    (λ e. subst (IsLike K v) (sym (cond-true (is_marked index v) v (slice_index like v) e)) (like_itself K v))
    (λ e. subst (IsLike K v) (sym (cond-false (is_marked index v) v (slice_index like v) e)) (all v l))
    (cases_Bool (is_marked index v))

pub targets_like : (K : Kernel) (like into : List ℕ) (index : List Bool) → AreLike K like → AreTargets like index into → AreLike K into
targets_like K like into index all are v l =
    let b : v < length like = omega (arith, l, are.long) in
    let first = target_like K like index v all b in
    let second = target_like K like index (target like index v) all (omega (arith, first.before, b)) in
    subst (IsLike K v) (sym (are.each v b)) (like_trans K v (target like index v) (target like index (target like index v)) first second)

-- what a node counts as
pub counted_like : (K : Kernel) (like : List ℕ) (index : List Bool) (v : ℕ) → AreLike K like → v < length like → IsLike K v (slice_index like (target like index v))
counted_like K like index v all l =
    let first = target_like K like index v all l in
    like_trans K v (target like index v) (slice_index like (target like index v)) first (all (target like index v) (omega (arith, first.before, l)))

-- one more entry of a table
pub like_more : (K : Kernel) (table : List ℕ) (n m : ℕ) → AreLike K table → length table ≡ n → IsLike K n m → AreLike K (table ++ m ∷ [])
like_more K table n m all long is v l =
    ⊎_elim
    (λ (a : v < n). subst (IsLike K v) (sym (get_or_append_left table (m ∷ []) 0 v (omega (arith, a, long)))) (all v (omega (arith, a, long))))
    (λ (a : n ≤ v).
    let e : v ≡ n = omega (arith, l, long, a, length_push table m) in
    subst (IsLike K v) (sym (get_or_push table m 0 v (long ∙ sym e))) (subst (λ (z : ℕ). IsLike K z m) (sym e) is))
    (cases_lt v n)
