-- The nodes of an expression have its values, and do nothing else.
use Rattle.std.proofs.Common.{List, ◌≡◌, ℕ, ◌+◌, ◌%◌, ◌<◌, ◌≤◌, [], ◌∷◌, length, cond, eqb, ltb, refl, sym, ap, ap₂, ◌∙◌, arith, ⊎_elim}
use Rattle.std.specs.Prelude.{slice_index, bit_and}
use Rattle.std.proofs.lemmas.Bool.{cases_lt, cond-true, cond-false, lt-ltb, le-ltb}
use Rattle.std.proofs.lemmas.List.{get_or_past}
use Rattle.cg_word.specs.declared.op.Op.TheVariants.{Add, And, Ne, Ltu, LoadIf}
use Rattle.cg_word.specs.Word.{words, apply_of, one_if}
use Rattle.cg_word.specs.declared.op.Op.{Op}
use Rattle.cg_model.specs.Work.{Image, value_by}
use Rattle.cg_model.specs.declared.kernel.Node.{Node}
use Rattle.cg_model.specs.Limits.{most_memory}
use Rattle.cg_model.specs.declared.kernel.Operand.{Operand}
use Rattle.cg_model.specs.declared.kernel.Operand.TheVariants.{Const as Constant}
use Rattle.cg_model.specs.Kernel.{Kernel, IsWired, node, size}
use Rattle.cg_model.specs.Turns.{Progress, operand, val}
use Rattle.cg_loop_syntax.specs.Loop.{Expr, Num, Turn, In, Scalar, Item, Two, Three, Extent}
use Rattle.cg_loop_laws.specs.Laws.{IsInside}
use Rattle.cg_loop_laws.specs.Meaning.{State, eval}
use Rattle.cg_loop_laws.specs.Translate.{Env, here, cost, result, code, item_code}
use Rattle.cg_loop_laws.proofs.Sound.{IsExpr}
use Rattle.cg_loop_laws.proofs.Stands.{Stands, stands_append, length-code}
use Rattle.cg_loop_laws.proofs.Wired.{AreLow}
use Rattle.cg_loop_laws.proofs.Effects.{IsQuiet, quiet_refl, quiet_trans, quiet_to, now, word, at_work, word_here, gives, plain_step, word_gives, word_step, quiet_step, missed_inside, missed_idle}

-- ap along three equations
pub ap3 : {X Y Z W : Type 0} (f : X → Y → Z → W) {x x' : X} {y y' : Y} {z z' : Z} → x ≡ x' → y ≡ y' → z ≡ z' → f x y z ≡ f x' y' z'
ap3 f {x' = x'} {y = y} {y' = y'} {z = z} a b c = ap (λ u. f u y z) a ∙ ap (λ u. f x' u z) b ∙ ap (f x' y') c

-- a node without a port, of any name
abbrev pub bare : List ℕ → Op → List Operand → Node
bare name op operands = record { name = name; op = op; port = 0; operands = operands }

module _ (K : Kernel) (image : Image) (good : IsWired K) (i : ℕ) where
  -- the test of an index, and its address
  pub test_gives : {name : List ℕ} (p len : ℕ) (ix : Operand) → p < size K → node K p ≡ bare name Ltu (ix ∷ Constant len ∷ []) → word K image good i (here p) ≡ one_if (ltb (word K image good i ix) len)
  unfolding apply_of
  test_gives p len ix l e = word_here K image good i p ∙ word_gives K image good i p _ l e refl

  pub address_gives : {name : List ℕ} (p at : ℕ) (ix : Operand) → p < size K → node K p ≡ bare name Add (ix ∷ Constant at ∷ []) → word K image good i (here p) ≡ (word K image good i ix + at) % words
  unfolding apply_of
  address_gives p at ix l e = word_here K image good i p ∙ word_gives K image good i p _ l e refl

  -- the test of a guard
  pub ne_gives : {name : List ℕ} (p : ℕ) (og : Operand) → p < size K → node K p ≡ bare name Ne (og ∷ Constant 0 ∷ []) → word K image good i (here p) ≡ cond (eqb (word K image good i og) 0) 0 1
  unfolding apply_of
  ne_gives p og l e = word_here K image good i p ∙ word_gives K image good i p _ l e refl

  pub and_gives : {name : List ℕ} (p : ℕ) (oa ob : Operand) → p < size K → node K p ≡ bare name And (oa ∷ ob ∷ []) → word K image good i (here p) ≡ bit_and (word K image good i oa) (word K image good i ob)
  unfolding apply_of
  and_gives p oa ob l e = word_here K image good i p ∙ word_gives K image good i p _ l e refl

-- below 2^20 no address wraps
pub address_is : (r : Extent) (x : ℕ) → r.at + r.len ≤ most_memory → x < r.len → (x + r.at) % words ≡ r.at + x
address_is r x h l = omega arith

module _ (K : Kernel) (image : Image) (good : IsWired K) (A : List ℕ → Extent) (low : AreLow A) (fits : (a : List ℕ) → (A a).at + (A a).len ≤ length image.memory) (i : ℕ) where
  -- a state of the loop, and the kernel's progress in this turn
  pub record Agrees (V : Env) (s : State) (p : Progress) : Type 0 where
    pub scalars : (x : List ℕ) → s.scalars x ≡ operand (val K image) i (V x)
    pub lengths : (a : List ℕ) → length (s.arrays a) ≡ (A a).len
    pub size : length p.memory ≡ length image.memory
    pub arrays : (a : List ℕ) (e : ℕ) → e < (A a).len → slice_index p.memory ((A a).at + e) ≡ slice_index (s.arrays a) e
    pub elsewhere : (x : ℕ) → ((a : List ℕ) → IsInside (A a) x → ⊥) → slice_index p.memory x ≡ slice_index image.memory x
    pub outputs : (port : ℕ) → p.streams port ≡ s.outs port
    pub outside : p.outside ≡ 0

  pub agrees_on : (V : Env) (s : State) (p q : Progress) → IsQuiet p q → Agrees V s p → Agrees V s q
  agrees_on V s p q h g =
      record {
        scalars = g.scalars;
        lengths = g.lengths;
        size = ap length h.memory ∙ g.size;
        arrays = λ a e l. ap (λ m. slice_index m ((A a).at + e)) h.memory ∙ g.arrays a e l;
        elsewhere = λ x k. ap (λ m. slice_index m x) h.memory ∙ g.elsewhere x k;
        outputs = λ port. h.streams port ∙ g.outputs port;
        outside = h.outside ∙ g.outside;
      }

  abbrev at_ : ℕ → Progress
  at_ = now K image good i

  abbrev word_ : Operand → ℕ
  word_ = word K image good i

  -- a load whose guard is the test and whose address is that of the index
  load_gives : {name : List ℕ} (q x : ℕ) (a : List ℕ) (s : State) (V : Env) (og oa : Operand) → q < size K → node K q ≡ bare name LoadIf (og ∷ oa ∷ []) → Agrees V s (at_ q) → word_ og ≡ one_if (ltb x (A a).len) → word_ oa ≡ (x + (A a).at) % words →
      (val K image q i ≡ slice_index (s.arrays a) x) × IsQuiet (at_ q) (at_ (q + 1))
  unfolding value_by
  load_gives {name = name} q x a s V og oa l e g eg ea =
      ⊎_elim
      (λ b.
      let g1 : word_ og ≡ 1 = eg ∙ cond-true (ltb x (A a).len) 1 0 (lt-ltb x (A a).len b) in
      let a1 : word_ oa ≡ (A a).at + x = ea ∙ address_is (A a) x (low a) b in (
        gives K image good i q _ l e ∙ cond-true (ltb 0 (word_ og)) _ 0 (ap (ltb 0) g1) ∙ ap (slice_index (at_ q).memory) a1 ∙ g.arrays a x b,
        quiet_step K image good i q _ l e refl refl (missed_inside _ (at_work K image good i (bare name LoadIf (og ∷ oa ∷ []))) (let f = fits a in let h = g.size in omega arith)),
      ))
      (λ b.
      let g0 : word_ og ≡ 0 = eg ∙ cond-false (ltb x (A a).len) 1 0 (le-ltb x (A a).len b) in (
        gives K image good i q _ l e ∙ cond-false (ltb 0 (word_ og)) _ 0 (ap (ltb 0) g0) ∙ sym (get_or_past (s.arrays a) x 0 (let h = g.lengths a in omega arith)),
        quiet_step K image good i q _ l e refl refl (missed_idle _ (at_work K image good i (bare name LoadIf (og ∷ oa ∷ []))) (ap (ltb 0) g0)),
      ))
      (cases_lt x (A a).len)

  item_gives : (p : ℕ) (a : List ℕ) (s : State) (V : Env) (ix : Operand) → Stands K p (item_code (A a) p ix) → Agrees V s (at_ p) → (word_ (here (p + 2)) ≡ slice_index (s.arrays a) (word_ ix)) × IsQuiet (at_ p) (at_ (p + 3))
  item_gives p a s V ix (l0, e0, (l1, e1, (l2, e2, end))) g =
      let q0 = word_step K image good i p _ l0 e0 refl in
      let q1 = word_step K image good i (p + 1) _ l1 e1 refl in
      let q = quiet_trans (at_ p) (at_ (p + 1)) (at_ (p + 1 + 1)) q0 q1 in
      let r = load_gives (p + 1 + 1) (word_ ix) a s V (here p) (here (p + 1)) l2 e2 (agrees_on V s (at_ p) (at_ (p + 1 + 1)) q g) (test_gives K image good i p (A a).len ix l0 e0) (address_gives K image good i (p + 1) (A a).at ix l1 e1) in (
        ap (λ z. word_ (here z)) (let f : p + 2 ≡ p + 1 + 1 = omega arith in f) ∙ word_here K image good i (p + 1 + 1) ∙ r.0,
        quiet_to K image good i (at_ p) (p + 1 + 1 + 1) (p + 3) (omega arith) (quiet_trans (at_ p) (at_ (p + 1 + 1)) (at_ (p + 1 + 1 + 1)) q r.1),
      )

  -- an expression's operand has its value, after its nodes
  pub record Gives (V : Env) (s : State) (at : ℕ) (e : Expr) : Type 0 where
    pub value : eval image i s e ≡ word_ (result V at e)
    pub quiet : IsQuiet (at_ at) (at_ (at + cost e))

  pub expression_gives : (V : Env) (s : State) (at : ℕ) (e : Expr) → IsExpr e → Stands K at (code A V at e) → Agrees V s (at_ at) → Gives V s at e
  unfolding value_by apply_of
  expression_gives V s at (Num w) h (l, e, end) g =
      record { value = sym (word_here K image good i at ∙ gives K image good i at _ l e); quiet = plain_step K image good i at _ l e refl refl }
  expression_gives V s at Turn h (l, e, end) g =
      record { value = sym (word_here K image good i at ∙ gives K image good i at _ l e); quiet = plain_step K image good i at _ l e refl refl }
  expression_gives V s at (In p) h (l, e, end) g =
      record { value = sym (word_here K image good i at ∙ gives K image good i at _ l e); quiet = plain_step K image good i at _ l e refl refl }
  expression_gives V s at (Scalar x) h st g = record { value = g.scalars x; quiet = quiet_to K image good i (at_ at) at (at + 0) (omega arith) (quiet_refl (at_ at)) }
  expression_gives V s at (Item a e) h st g =
      let (front, back) = stands_append K at (code A V at e) _ (cost e) (length-code A V at e) st in
      let ge = expression_gives V s at e h front g in
      let r = item_gives (at + cost e) a s V (result V at e) back (agrees_on V s (at_ at) (at_ (at + cost e)) ge.quiet g) in
      record {
        value = ap (slice_index (s.arrays a)) ge.value ∙ sym r.0;
        quiet = quiet_to K image good i (at_ at) (at + cost e + 3) (at + (cost e + 3)) (omega arith) (quiet_trans (at_ at) (at_ (at + cost e)) (at_ (at + cost e + 3)) ge.quiet r.1);
      }
  expression_gives V s at (Two op a b) h st g =
      let (front, rest) = stands_append K at (code A V at a) _ (cost a) (length-code A V at a) st in
      let (middle, last) = stands_append K (at + cost a) (code A V (at + cost a) b) _ (cost b) (length-code A V (at + cost a) b) rest in
      let ga = expression_gives V s at a h.1 front g in
      let gb = expression_gives V s (at + cost a) b h.2 middle (agrees_on V s (at_ at) (at_ (at + cost a)) ga.quiet g) in
      let q = at + cost a + cost b in
      record {
        value = ap₂ (λ x y. apply_of op x y 0) ga.value gb.value ∙ sym (word_here K image good i q ∙ word_gives K image good i q _ last.0 last.1 h.0);
        quiet =
            quiet_to K image good i (at_ at) (q + 1) (at + (cost a + cost b + 1)) (omega arith)
            (quiet_trans (at_ at) (at_ (at + cost a)) (at_ (q + 1)) ga.quiet (quiet_trans (at_ (at + cost a)) (at_ q) (at_ (q + 1)) gb.quiet (word_step K image good i q _ last.0 last.1 h.0)));
      }
  expression_gives V s at (Three op a b c) h st g =
      let (front, rest) = stands_append K at (code A V at a) _ (cost a) (length-code A V at a) st in
      let (middle, rest') = stands_append K (at + cost a) (code A V (at + cost a) b) _ (cost b) (length-code A V (at + cost a) b) rest in
      let (third, last) = stands_append K (at + cost a + cost b) (code A V (at + cost a + cost b) c) _ (cost c) (length-code A V (at + cost a + cost b) c) rest' in
      let ga = expression_gives V s at a h.1 front g in
      let agb = agrees_on V s (at_ at) (at_ (at + cost a)) ga.quiet g in
      let gb = expression_gives V s (at + cost a) b h.2 middle agb in
      let gc = expression_gives V s (at + cost a + cost b) c h.3 third (agrees_on V s (at_ (at + cost a)) (at_ (at + cost a + cost b)) gb.quiet agb) in
      let q = at + cost a + cost b + cost c in
      record {
        value = ap3 (λ x y z. apply_of op x y z) ga.value gb.value gc.value ∙ sym (word_here K image good i q ∙ word_gives K image good i q _ last.0 last.1 h.0);
        quiet =
            quiet_to K image good i (at_ at) (q + 1) (at + (cost a + cost b + cost c + 1)) (omega arith)
            (quiet_trans (at_ at) (at_ (at + cost a)) (at_ (q + 1)) ga.quiet
            (quiet_trans (at_ (at + cost a)) (at_ (at + cost a + cost b)) (at_ (q + 1)) gb.quiet (quiet_trans (at_ (at + cost a + cost b)) (at_ q) (at_ (q + 1)) gc.quiet (word_step K image good i q _ last.0 last.1 h.0))));
      }
