-- Nodes that have the words of one of their operands, and edges through them.
use Rattle.std.proofs.Common.{◌≡◌, ℕ, zero, suc, ◌+◌, ◌-◌, ◌<◌, ◌≤◌, true, List, [], ◌∷◌, ◌++◌, length, map, Option, Some, None, IfSome, nat_lt, refl, sym, ap, ◌∙◌, subst, arith, ⊎_elim, length-append}
use Rattle.std.specs.Prelude.{slice_get, slice_index}
use Rattle.std.proofs.lemmas.Bool.{cases_lt, le-ltb, lt-ltb}
use Rattle.std.proofs.lemmas.List.{get_or_append_left, get_or-append_right}
use Rattle.std.proofs.lemmas.Option.{slice_get_within}
use Rattle.cg_word.specs.declared.op.Op.{Op}
use Rattle.cg_word.specs.declared.op.Op.TheVariants.{Const, Add, Sub, Mul, And, Or, Xor, Shl, Shr, Sar, Eq, Ne, Lts, Ltu, Mins, Maxs, Select}
use Rattle.cg_word.specs.Word.{arity, words}
use Rattle.cg_simplify_facts.specs.declared.facts.Facts.{Facts}
use Rattle.cg_simplify_facts.specs.Facts.{IsOperand}
use Rattle.cg_model.specs.Limits.{most_distance}
use Rattle.cg_model.specs.declared.kernel.Node.{Node}
use Rattle.cg_model.specs.declared.kernel.Operand.{Operand}
use Rattle.cg_model.specs.declared.kernel.Operand.TheVariants.{Const as Constant, Edge}
use Rattle.cg_model.specs.Kernel.{Kernel, HasOperand, IsKernel, node, size}
use Rattle.cg_model.specs.Work.{Image, Work}
use Rattle.cg_model.specs.Turns.{operand, val, work_of}
use Rattle.cg_simplify_draft.specs.Restates.{DoesAs, Restates}
use Rattle.cg_simplify_draft.specs.Settings.{Fits, with_operand}
use Rattle.cg_simplify_draft.proofs.Drafts.{at_same}
use Rattle.cg_simplify_draft.proofs.Restating.{does_same}
use Rattle.cg_simplify_facts.specs.Suits.{AreFactsOf, AreOfWords, AreTops, computes, word_of}
use Rattle.cg_simplify_facts.proofs.Known.{word_at}
use Rattle.cg_simplify_facts.proofs.Words.{of_words}
use Rattle.cg_simplify.specs.Operands.{AreZeroAlike, BecomesWord, IsAlike, IsThrough, IsValueOf, IsZeroWith, LooksTo, MayReplace, StandsFor, TestsAs, is_tested}
use Rattle.cg_simplify.proofs.Drafted.{const_applied, suits, value_is}
use Rattle.cg_simplify.proofs.Exchanged.{constants, edges}
use Rattle.cg_simplify.proofs.Tested.{set_map, tests_alike}

-- what follows for an item, if there is one
pub if_some : {X : Type 0} (o : Option X) (P Q : X → Type 0) → ((x : X) → P x → Q x) → IfSome o P → IfSome o Q
if_some None P Q f h = tt
if_some (Some x) P Q f h = f x h

-- ---- the values of nodes

-- a `const`
pub of_const : (nodes : List Node) (tops : List ℕ) (n : Node) (x : Operand) → n.op ≡ Const → slice_get n.operands 0 ≡ Some x → IsValueOf nodes tops n x
of_const nodes tops n x e has =
    record {
      computing = ap computes e;
      place = 0;
      there = has;
      value = λ V i few is suits. const_applied V i n e ∙ word_at V i n.operands 0 x has;
    }

-- one of three words
of_three : (ws : List ℕ) (p : ℕ) → p < 3 → slice_index (slice_index ws 0 ∷ slice_index ws 1 ∷ slice_index ws 2 ∷ []) p ≡ slice_index ws p
of_three ws zero l = refl
of_three ws (suc zero) l = refl
of_three ws (suc (suc zero)) l = refl
of_three ws (suc (suc (suc p))) l = absurd (omega arith)

-- an identity
pub of_identity : (nodes : List Node) (tops : List ℕ) (n : Node) (f : Facts) (p : ℕ) (x : Operand) → computes n.op ≡ true → (AreOfWords n.operands → AreFactsOf nodes tops n.operands f)
    → IsOperand n.op f p → slice_get n.operands p ≡ Some x → IsValueOf nodes tops n x
of_identity nodes tops n f p x e facts is has =
    record {
      computing = e;
      place = p;
      there = has;
      value = λ V i few words suits.
          is (word_of V i n.operands 0) (word_of V i n.operands 1) (word_of V i n.operands 2) (facts words V i suits)
          ∙ of_three (map (operand V i) n.operands) p (let l = slice_get_within n.operands p x has in omega (arith, l, few))
          ∙ word_at V i n.operands p x has;
    }

few_operands : (op : Op) → computes op ≡ true → arity op ≤ 3
few_operands Const e = omega arith
few_operands Add e = omega arith
few_operands Sub e = omega arith
few_operands Mul e = omega arith
few_operands And e = omega arith
few_operands Or e = omega arith
few_operands Xor e = omega arith
few_operands Shl e = omega arith
few_operands Shr e = omega arith
few_operands Sar e = omega arith
few_operands Eq e = omega arith
few_operands Ne e = omega arith
few_operands Lts e = omega arith
few_operands Ltu e = omega arith
few_operands Mins e = omega arith
few_operands Maxs e = omega arith
few_operands Select e = omega arith
few_operands _ e = absurd (cc)

-- a node that is known to have the value of one of its operands
pub stands_by : (tops : List ℕ) (D : Kernel) (w : ℕ) (x : Operand) → IsKernel D → w < size D → IsValueOf D.nodes tops (node D w) x → StandsFor tops D w x
stands_by tops D w x valid l h =
    record {
      place = h.place;
      there = h.there;
      gives = λ K good are re image i words.
          let few = few_operands (node D w).op h.computing in
          let count = valid.arities w l in
          value_is tops K D good are re image words w i l h.computing
          ∙ h.value (val K image) i (omega (arith, few, count)) (of_words D valid w l) (suits tops K D good are re image words);
    }

-- ---- edges through such nodes

module _ (tops : List ℕ) (D : Kernel) (good : IsKernel D) (v p w d : ℕ) (init : List ℕ) (l : v < size D) (has : HasOperand D v p (Edge w d init)) where
  place : p < length (node D v).operands
  place = slice_get_within (node D v).operands p (Edge w d init) has

  inside : w < size D
  inside = good.wired.sources v p w d init l has

  long : length init ≡ d
  long = good.inits v p w d init l has

  -- an operand with the same words
  same_replaces : (o : Operand) → Fits D v p o → ((K : Kernel) → IsKernel K → AreTops K tops → Restates K D → IsAlike K (Edge w d init) o) → MayReplace tops D v p o
  same_replaces o fits alike =
      record {
        inside = l;
        place = place;
        fits = fits;
        does = λ K image i g are re words.
            does_same (work_of (node (with_operand D v p o) v) i (val K image)) (work_of (node D v) i (val K image))
            (ap (λ (n : Node). work_of n i (val K image)) (at_same D v p o l)
            ∙ ap (λ (ws : List ℕ). let x : Work = record { op = (node D v).op; port = (node D v).port; turn = i; args = ws } in x)
            (set_map (operand (val K image) i) (node D v).operands p (Edge w d init) o has (sym (alike K g are re image i words))));
      }

  word_replaces : (c : ℕ) → StandsFor tops D w (Constant c) → BecomesWord (node D v).operands init c → MayReplace tops D v p (Constant c)
  word_replaces c s b =
      same_replaces (Constant c) (record { word = good.wired.constants w s.place c inside s.there; alone = λ q a h. absurd (b.none q a h) })
      (λ K g are re. constants K w d c init long (s.gives K g are re) (λ j m. b.all j (omega (arith, m, long))))

  joined_word : (q u e : ℕ) (more : List ℕ) → HasOperand D w q (Edge u e more) → (k : ℕ) → slice_index (init ++ more) k < words
  joined_word q u e more there k =
      ⊎_elim
      (λ (a : k < length init). subst (λ (z : ℕ). z < words) (sym (get_or_append_left init more 0 k a)) (good.init_words v p w d k init l has))
      (λ (a : length init ≤ k).
      subst (λ (z : ℕ). z < words) (sym (get_or-append_right init more (length init) k 0 refl a))
      (good.init_words w q u e (k - length init) more inside there))
      (cases_lt k (length init))

  earlier : (q u e : ℕ) (more : List ℕ) → HasOperand D w q (Edge u e more) → d + e ≡ 0 → u < v
  earlier q u e more there z =
      let a : u < w = good.wired.forward w q u more inside (subst (λ (y : ℕ). HasOperand D w q (Edge u y more)) (omega arith) there) in
      let b : w < v = good.wired.forward v p w init l (subst (λ (y : ℕ). HasOperand D v p (Edge w y init)) (omega arith) has) in
      omega arith

  edge_fits : (q u e : ℕ) (more : List ℕ) → HasOperand D w q (Edge u e more) → d + e ≤ most_distance → Fits D v p (Edge u (d + e) (init ++ more))
  edge_fits q u e more there near =
      record {
        known = good.wired.sources w q u e more inside there;
        valued = good.valued w q u e more inside there;
        earlier = earlier q u e more there;
        near = near;
        long = length-append init more ∙ (let y = good.inits w q u e more inside there in omega (arith, y, long));
        init_words = joined_word q u e more there;
      }

  edge_replaces : (u e : ℕ) (more : List ℕ) → StandsFor tops D w (Edge u e more) → d + e ≤ most_distance → MayReplace tops D v p (Edge u (d + e) (init ++ more))
  edge_replaces u e more s near =
      same_replaces (Edge u (d + e) (init ++ more)) (edge_fits s.place u e more s.there near) (λ K g are re. edges K w d u e init more long (s.gives K g are re))

  stands_through : (x o : Operand) → StandsFor tops D w x → IsThrough (node D v).operands (Edge w d init) x o → MayReplace tops D v p o
  stands_through (Constant c) o s t = subst (MayReplace tops D v p) (sym t.0) (word_replaces c s t.1)
  stands_through (Edge u e more) o s t = subst (MayReplace tops D v p) (sym t.0) (edge_replaces u e more s t.1)

  -- ---- where only 0 matters

  zero_alike : (K : Kernel) (u e : ℕ) (more : List ℕ) → IsZeroWith K w (Edge u e more) → AreZeroAlike K (Edge w d init) (Edge u (d + e) (init ++ more))
  zero_alike K u e more with_zero image i words =
      ⊎_elim
      (λ (a : i < d).
      rw (lt-ltb i d a, lt-ltb i (d + e) (let z : i < d + e = omega arith in z)) (ap (nat_lt 0) (sym (get_or_append_left init more 0 i (omega (arith, long, a))))))
      (λ (a : d ≤ i).
      rw (le-ltb i d a) (with_zero image (i - d) words ∙ ap (nat_lt 0) (later image i u e more a)))
      (cases_lt i d)
    where
      later : (image : Image) (i u e : ℕ) (more : List ℕ) → d ≤ i → operand (val K image) (i - d) (Edge u e more) ≡ operand (val K image) i (Edge u (d + e) (init ++ more))
      later image i u e more a =
          ⊎_elim
          (λ (b : i - d < e). rw (lt-ltb (i - d) e b, lt-ltb i (d + e) (let z : i < d + e = omega arith in z)) (sym (get_or-append_right init more d i 0 long a)))
          (λ (b : e ≤ i - d). rw (le-ltb (i - d) e b, le-ltb i (d + e) (let z : d + e ≤ i = omega arith in z)) (ap (val K image u) (let z : i - d - e ≡ i - (d + e) = omega arith in z)))
          (cases_lt (i - d) e)

  test_replaces : (u e : ℕ) (more : List ℕ) → p ≡ 0 → is_tested (node D v).op ≡ true → TestsAs tops D w (Edge u e more) → d + e ≤ most_distance → MayReplace tops D v p (Edge u (d + e) (init ++ more))
  test_replaces u e more first tested t near =
      record {
        inside = l;
        place = place;
        fits = edge_fits t.place u e more t.there near;
        does = λ K image i g are re words.
            subst (λ (n : Node). DoesAs (work_of n i (val K image)) (work_of (node D v) i (val K image))) (sym (at_same D v p (Edge u (d + e) (init ++ more)) l))
            (tests_alike (operand (val K image) i) (node D v) p i (Edge w d init) (Edge u (d + e) (init ++ more)) first tested has (zero_alike K u e more (t.tests K g are re) image i words));
      }

  tests_through : (x o : Operand) → p ≡ 0 → is_tested (node D v).op ≡ true → TestsAs tops D w x → IsThrough (node D v).operands (Edge w d init) x o → MayReplace tops D v p o
  tests_through (Constant c) o first tested s t = absurd (s.is_edge c refl)
  tests_through (Edge u e more) o first tested s t = subst (MayReplace tops D v p) (sym t.0) (test_replaces u e more first tested s t.1)

  pub through : (x o : Operand) → LooksTo tops D v p w x → IsThrough (node D v).operands (Edge w d init) x o → MayReplace tops D v p o
  through x o s t = ⊎_elim (λ a. stands_through x o a t) (λ b. tests_through x o b.0 b.1 b.2 t) s
