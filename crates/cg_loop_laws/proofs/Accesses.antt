-- Each accessing node is in the list of accesses, and reaches words of its array alone.
use Rattle.std.proofs.Common.{◌≡◌, ℕ, zero, suc, ◌+◌, ◌%◌, ◌<◌, ◌≤◌, List, [], ◌∷◌, ◌++◌, Some, None, Bool, true, false, ltb, refl, sym, ap, ◌∙◌, subst, arith, ⊎_elim}
use Rattle.std.specs.Prelude.{slice_get}
use Rattle.std.proofs.lemmas.Bool.{cases_lt, ltb-true, false≢true}
use Rattle.std.proofs.lemmas.Nat.{and_le_l}
use Rattle.cg_word.specs.Word.{words, is_access, is_store, one_if}
use Rattle.cg_model.specs.Work.{Image, Reaches}
use Rattle.cg_model.specs.declared.kernel.Operand.{Operand}
use Rattle.cg_model.specs.declared.kernel.Node.{Node}
use Rattle.cg_model.specs.Kernel.{Kernel, IsWired, node}
use Rattle.cg_model.specs.Turns.{work_of, val}
use Rattle.cg_loop_syntax.specs.Loop.{Expr, Num, Turn, In as Input_of, Scalar, Item, Two, Three, Stmt, Bind, Assign, Put, Emit, Extent}
use Rattle.cg_loop_laws.specs.Laws.{IsInside}
use Rattle.cg_loop_laws.specs.Translate.{Env, here, cost, result, code, item_code, own_cost, own_code, put_code, put_if_code, stmt_cost, stmt_env, stmt_code, body_cost, body_code, Access, reads, stmt_accesses, accesses}
use Rattle.cg_loop_laws.proofs.Sound.{IsExpr, IsStmt, AreStmts, is_word}
use Rattle.cg_loop_laws.proofs.Members.{In, in_left, in_right}
use Rattle.cg_loop_laws.proofs.Stands.{Stands, stands_append, length-code, length-stmt_code}
use Rattle.cg_loop_laws.proofs.Wired.{AreLow}
use Rattle.cg_loop_laws.proofs.Effects.{word, word_quiet}
use Rattle.cg_loop_laws.proofs.Expressions.{test_gives, address_gives, and_gives, address_is}

-- accesses of rising nodes, from lo to below hi
abbrev pub IsRising : ℕ → List Access → ℕ → Type 0
IsRising lo [] hi = lo ≤ hi
IsRising lo (u ∷ us) hi = (lo ≤ u.node) × IsRising (u.node + 1) us hi

pub rising_ends : (lo hi : ℕ) (us : List Access) → IsRising lo us hi → lo ≤ hi
rising_ends lo hi [] h = h
rising_ends lo hi (u ∷ us) h = let r = rising_ends (u.node + 1) hi us h.1 in let l = h.0 in omega arith

pub rising_more : (k lo hi top : ℕ) (us : List Access) → k ≤ lo → hi ≤ top → IsRising lo us hi → IsRising k us top
rising_more k lo hi top [] a b h = omega arith
rising_more k lo hi top (u ∷ us) a b h = (let l = h.0 in omega arith, rising_more (u.node + 1) (u.node + 1) hi top us (omega arith) b h.1)

rising_append : (lo mid hi : ℕ) (xs ys : List Access) → IsRising lo xs mid → IsRising mid ys hi → IsRising lo (xs ++ ys) hi
rising_append lo mid hi [] ys h k = rising_more lo mid hi hi ys h (omega arith) k
rising_append lo mid hi (x ∷ xs) ys h k = (h.0, rising_append (x.node + 1) mid hi xs ys h.1 k)

rising_one : (lo hi : ℕ) (u : Access) → lo ≤ u.node → u.node < hi → IsRising lo (u ∷ []) hi
rising_one lo hi u a b = (a, let c : u.node + 1 ≤ hi = omega arith in c)

reads_rising : (at : ℕ) (e : Expr) → IsRising at (reads at e) (at + cost e)
reads_rising at (Num w) = omega arith
reads_rising at Turn = omega arith
reads_rising at (Input_of p) = omega arith
reads_rising at (Scalar x) = omega arith
reads_rising at (Item a e) = rising_append at (at + cost e) (at + (cost e + 3)) (reads at e) _ (reads_rising at e) (omega arith, omega arith)
reads_rising at (Two op a b) =
    rising_append at (at + cost a) (at + (cost a + cost b + 1)) (reads at a) _ (reads_rising at a)
    (rising_more (at + cost a) (at + cost a) (at + cost a + cost b) _ (reads (at + cost a) b) (omega arith) (omega arith) (reads_rising (at + cost a) b))
reads_rising at (Three op a b c) =
    rising_append at (at + cost a) (at + (cost a + cost b + cost c + 1)) (reads at a) _ (reads_rising at a)
    (rising_append (at + cost a) (at + cost a + cost b) _ (reads (at + cost a) b) _ (reads_rising (at + cost a) b)
    (rising_more (at + cost a + cost b) (at + cost a + cost b) (at + cost a + cost b + cost c) _ (reads (at + cost a + cost b) c) (omega arith) (omega arith) (reads_rising (at + cost a + cost b) c)))

own_rising : (at : ℕ) (e : Expr) → IsRising at (reads at e) (at + own_cost e)
own_rising at (Scalar x) = omega arith
own_rising at (Num w) = omega arith
own_rising at Turn = omega arith
own_rising at (Input_of p) = omega arith
own_rising at (Item a e) = reads_rising at (Item a e)
own_rising at (Two op a b) = reads_rising at (Two op a b)
own_rising at (Three op a b c) = reads_rising at (Three op a b c)

stmt_rising : (at : ℕ) (s : Stmt) → IsRising at (stmt_accesses at s) (at + stmt_cost s)
stmt_rising at (Bind x e) = own_rising at e
stmt_rising at (Assign x e) = own_rising at e
stmt_rising at (Put a ix v None) =
    rising_append at (at + cost ix) _ (reads at ix) _ (reads_rising at ix)
    (rising_append (at + cost ix) (at + cost ix + cost v) _ (reads (at + cost ix) v) _ (reads_rising (at + cost ix) v) (omega arith, omega arith))
stmt_rising at (Put a ix v (Some g)) =
    rising_append at (at + cost ix) _ (reads at ix) _ (reads_rising at ix)
    (rising_append (at + cost ix) (at + cost ix + cost v) _ (reads (at + cost ix) v) _ (reads_rising (at + cost ix) v)
    (rising_append (at + cost ix + cost v) (at + cost ix + cost v + cost g) _ (reads (at + cost ix + cost v) g) _ (reads_rising (at + cost ix + cost v) g) (omega arith, omega arith)))
stmt_rising at (Emit p v None) = rising_more at at (at + cost v) (at + (cost v + 1)) (reads at v) (omega arith) (omega arith) (reads_rising at v)
stmt_rising at (Emit p v (Some g)) =
    rising_append at (at + cost v) _ (reads at v) _ (reads_rising at v)
    (rising_more (at + cost v) (at + cost v) (at + cost v + cost g) (at + (cost v + cost g + 1)) (reads (at + cost v) g) (omega arith) (omega arith) (reads_rising (at + cost v) g))

pub accesses_rising : (at : ℕ) (ss : List Stmt) → IsRising at (accesses at ss) (at + body_cost ss)
accesses_rising at [] = omega arith
accesses_rising at (s ∷ ss) =
    rising_append at (at + stmt_cost s) _ (stmt_accesses at s) _ (stmt_rising at s)
    (rising_more (at + stmt_cost s) (at + stmt_cost s) (at + stmt_cost s + body_cost ss) (at + (stmt_cost s + body_cost ss)) (accesses (at + stmt_cost s) ss) (omega arith) (omega arith) (accesses_rising (at + stmt_cost s) ss))

-- a member is within the bounds
pub rising_within : (lo hi : ℕ) (us : List Access) (k : ℕ) (u : Access) → IsRising lo us hi → slice_get us k ≡ Some u → lo ≤ u.node
rising_within lo hi [] k u h e = absurd (cc)
rising_within lo hi (z ∷ us) zero u h e = let w : z ≡ u = cc in let l = h.0 in let n = ap (λ y. y.node) w in omega arith
rising_within lo hi (z ∷ us) (suc k) u h e = let r = rising_within (z.node + 1) hi us k u h.1 e in let l = h.0 in omega arith

positive_test : (b : Bool) (t : ℕ) → t ≡ one_if b → 0 < t → b ≡ true
positive_test true t e h = refl
positive_test false t e h = absurd (omega arith)

module _ (K : Kernel) (image : Image) (good : IsWired K) (A : List ℕ → Extent) (low : AreLow A) where
  -- node w, where it accesses
  pub record IsTracked (us : List Access) (w : ℕ) : Type 0 where
    pub entry : is_access (node K w).op ≡ true → (a : List ℕ) × In us (record { node = w; array = a; writes = is_store (node K w).op }) × ((i x : ℕ) → Reaches (work_of (node K w) i (val K image)) x → IsInside (A a) x)

  tracked_left : (us vs : List Access) (w : ℕ) → IsTracked us w → IsTracked (us ++ vs) w
  tracked_left us vs w t = record { entry = λ h. let r = t.entry h in (r.0, in_left us vs _ r.1, r.2) }

  tracked_right : (us vs : List Access) (w : ℕ) → IsTracked vs w → IsTracked (us ++ vs) w
  tracked_right us vs w t = record { entry = λ h. let r = t.entry h in (r.0, in_right us vs _ r.1, r.2) }

  -- a node that is no access
  untracked : (us : List Access) (w : ℕ) (n : Node) → node K w ≡ n → is_access n.op ≡ false → IsTracked us w
  untracked us w n e h = record { entry = λ t. absurd (false≢true (sym h ∙ ap (λ z. is_access z.op) (sym e) ∙ t)) }

  untracked_word : (us : List Access) (w : ℕ) (n : Node) → node K w ≡ n → is_word n.op ≡ true → IsTracked us w
  untracked_word us w n e h = untracked us w n e (word_quiet n.op h).0

  reach_inside : (i : ℕ) (a : List ℕ) (x : ℕ) (ix og oa : Operand) → (0 < word K image good i og → word K image good i ix < (A a).len) → word K image good i oa ≡ (word K image good i ix + (A a).at) % words →
      ltb 0 (word K image good i og) ≡ true → word K image good i oa ≡ x → IsInside (A a) x
  reach_inside i a x ix og oa test ea acting there =
      let b = test (ltb-true 0 (word K image good i og) acting) in
      let e = address_is (A a) (word K image good i ix) (low a) b in
      (omega arith, omega arith)

  -- a guarded access behind the test of its index
  tracked_one : (w q : ℕ) (a : List ℕ) (n : Node) (ix og oa : Operand) → w ≡ q → node K q ≡ n → ((i : ℕ) → 0 < word K image good i og → word K image good i ix < (A a).len) →
      ((i : ℕ) → word K image good i oa ≡ (word K image good i ix + (A a).at) % words) → ((i x : ℕ) → Reaches (work_of n i (val K image)) x → (ltb 0 (word K image good i og) ≡ true) × (word K image good i oa ≡ x)) →
      (p : ℕ) (writes : Bool) → q ≡ p → is_store n.op ≡ writes → IsTracked (record { node = p; array = a; writes = writes } ∷ []) w
  tracked_one w q a n ix og oa z e test ea reach p writes y s =
      record {
        entry = λ h. (
          a,
          (0, let f = ap (λ v. node K v) z ∙ e in let g : is_store (node K w).op ≡ writes = ap (λ v. is_store v.op) f ∙ s in let d : w ≡ p = z ∙ y in rw (g, d) refl),
          λ i x r. let r' = reach i x (subst (λ v. Reaches (work_of v i (val K image)) x) (ap (λ v. node K v) z ∙ e) r) in reach_inside i a x ix og oa (test i) (ea i) r'.0 r'.1,
        );
      }

  item_tracked : (p : ℕ) (a : List ℕ) (w : ℕ) (ix : Operand) → Stands K p (item_code (A a) p ix) → p ≤ w → w < p + 3 → IsTracked (record { node = p + 2; array = a; writes = false } ∷ []) w
  item_tracked p a w ix (l0, e0, (l1, e1, (l2, e2, end))) lo hi =
      ⊎_elim (λ b. let z : p ≡ w = omega arith in untracked _ w _ (ap (λ v. node K v) (sym z) ∙ e0) refl)
      (λ b.
      ⊎_elim (λ c. let z : p + 1 ≡ w = omega arith in untracked _ w _ (ap (λ v. node K v) (sym z) ∙ e1) refl)
      (λ c.
      tracked_one w (p + 1 + 1) a _ ix (here p) (here (p + 1)) (omega arith) e2
      (λ i h. ltb-true _ _ (positive_test _ _ (test_gives K image good i p (A a).len ix l0 e0) h))
      (λ i. address_gives K image good i (p + 1) (A a).at ix l1 e1)
      (λ i x r. (r.acting, r.there)) (p + 2) false (omega arith) refl)
      (cases_lt w (p + 1 + 1)))
      (cases_lt w (p + 1))

  put_tracked : (p : ℕ) (a : List ℕ) (w : ℕ) (ix ov : Operand) → Stands K p (put_code (A a) p ix ov) → p ≤ w → w < p + 3 → IsTracked (record { node = p + 2; array = a; writes = true } ∷ []) w
  put_tracked p a w ix ov (l0, e0, (l1, e1, (l2, e2, end))) lo hi =
      ⊎_elim (λ b. let z : p ≡ w = omega arith in untracked _ w _ (ap (λ v. node K v) (sym z) ∙ e0) refl)
      (λ b.
      ⊎_elim (λ c. let z : p + 1 ≡ w = omega arith in untracked _ w _ (ap (λ v. node K v) (sym z) ∙ e1) refl)
      (λ c.
      tracked_one w (p + 1 + 1) a _ ix (here p) (here (p + 1)) (omega arith) e2
      (λ i h. ltb-true _ _ (positive_test _ _ (test_gives K image good i p (A a).len ix l0 e0) h))
      (λ i. address_gives K image good i (p + 1) (A a).at ix l1 e1)
      (λ i x r. (r.acting, r.there)) (p + 2) true (omega arith) refl)
      (cases_lt w (p + 1 + 1)))
      (cases_lt w (p + 1))

  put_if_tracked : (p : ℕ) (a : List ℕ) (w : ℕ) (ix ov og : Operand) → Stands K p (put_if_code (A a) p ix ov og) → p ≤ w → w < p + 5 → IsTracked (record { node = p + 4; array = a; writes = true } ∷ []) w
  put_if_tracked p a w ix ov og (l0, e0, (l1, e1, (l2, e2, (l3, e3, (l4, e4, end))))) lo hi =
      ⊎_elim (λ b. let z : p ≡ w = omega arith in untracked _ w _ (ap (λ v. node K v) (sym z) ∙ e0) refl)
      (λ b.
      ⊎_elim (λ c. let z : p + 1 ≡ w = omega arith in untracked _ w _ (ap (λ v. node K v) (sym z) ∙ e1) refl)
      (λ c.
      ⊎_elim (λ d. let z : p + 1 + 1 ≡ w = omega arith in untracked _ w _ (ap (λ v. node K v) (sym z) ∙ e2) refl)
      (λ d.
      ⊎_elim (λ f. let z : p + 1 + 1 + 1 ≡ w = omega arith in untracked _ w _ (ap (λ v. node K v) (sym z) ∙ e3) refl)
      (λ f.
      tracked_one w (p + 1 + 1 + 1 + 1) a _ ix (here (p + 3)) (here (p + 1)) (omega arith) e4
      (λ i h.
      let both = ap (λ z. word K image good i (here z)) (let y : p + 3 ≡ p + 1 + 1 + 1 = omega arith in y) ∙ and_gives K image good i (p + 1 + 1 + 1) (here p) (here (p + 2)) l3 e3 in
      let less = and_le_l (word K image good i (here p)) (word K image good i (here (p + 2))) in
      ltb-true _ _ (positive_test _ _ (test_gives K image good i p (A a).len ix l0 e0) (omega arith)))
      (λ i. address_gives K image good i (p + 1) (A a).at ix l1 e1)
      (λ i x r. (r.acting, r.there)) (p + 4) true (omega arith) refl)
      (cases_lt w (p + 1 + 1 + 1 + 1)))
      (cases_lt w (p + 1 + 1 + 1)))
      (cases_lt w (p + 1 + 1)))
      (cases_lt w (p + 1))

  last_node : (us : List Access) (w q : ℕ) (n : Node) → w ≡ q → node K q ≡ n → is_word n.op ≡ true → IsTracked us w
  last_node us w q n z e h = untracked_word us w n (ap (λ v. node K v) z ∙ e) h

  code_tracked : (V : Env) (at w : ℕ) (e : Expr) → IsExpr e → Stands K at (code A V at e) → at ≤ w → w < at + cost e → IsTracked (reads at e) w
  code_tracked V at w (Num x) h (l, e, end) lo hi = let z : at ≡ w = omega arith in untracked _ w _ (ap (λ v. node K v) (sym z) ∙ e) refl
  code_tracked V at w Turn h (l, e, end) lo hi = let z : at ≡ w = omega arith in untracked _ w _ (ap (λ v. node K v) (sym z) ∙ e) refl
  code_tracked V at w (Input_of p) h (l, e, end) lo hi = let z : at ≡ w = omega arith in untracked _ w _ (ap (λ v. node K v) (sym z) ∙ e) refl
  code_tracked V at w (Scalar x) h st lo hi = absurd (omega arith)
  code_tracked V at w (Item a e) h st lo hi =
      let (front, back) = stands_append K at (code A V at e) _ (cost e) (length-code A V at e) st in
      ⊎_elim (λ b. tracked_left (reads at e) _ w (code_tracked V at w e h front lo b)) (λ b. tracked_right (reads at e) _ w (item_tracked (at + cost e) a w (result V at e) back b (omega arith))) (cases_lt w (at + cost e))
  code_tracked V at w (Two op a b) h st lo hi =
      let (front, rest) = stands_append K at (code A V at a) _ (cost a) (length-code A V at a) st in
      let (middle, last) = stands_append K (at + cost a) (code A V (at + cost a) b) _ (cost b) (length-code A V (at + cost a) b) rest in
      ⊎_elim (λ c. tracked_left (reads at a) _ w (code_tracked V at w a h.1 front lo c))
      (λ c.
      ⊎_elim (λ d. tracked_right (reads at a) _ w (code_tracked V (at + cost a) w b h.2 middle c d)) (λ d. last_node _ w (at + cost a + cost b) _ (omega arith) last.1 h.0) (cases_lt w (at + cost a + cost b)))
      (cases_lt w (at + cost a))
  code_tracked V at w (Three op a b c) h st lo hi =
      let (front, rest) = stands_append K at (code A V at a) _ (cost a) (length-code A V at a) st in
      let (middle, rest') = stands_append K (at + cost a) (code A V (at + cost a) b) _ (cost b) (length-code A V (at + cost a) b) rest in
      let (third, last) = stands_append K (at + cost a + cost b) (code A V (at + cost a + cost b) c) _ (cost c) (length-code A V (at + cost a + cost b) c) rest' in
      ⊎_elim (λ d. tracked_left (reads at a) _ w (code_tracked V at w a h.1 front lo d))
      (λ d.
      ⊎_elim (λ f. tracked_right (reads at a) _ w (tracked_left (reads (at + cost a) b) _ w (code_tracked V (at + cost a) w b h.2 middle d f)))
      (λ f.
      ⊎_elim (λ g. tracked_right (reads at a) _ w (tracked_right (reads (at + cost a) b) _ w (code_tracked V (at + cost a + cost b) w c h.3 third f g)))
      (λ g. last_node _ w (at + cost a + cost b + cost c) _ (omega arith) last.1 h.0)
      (cases_lt w (at + cost a + cost b + cost c)))
      (cases_lt w (at + cost a + cost b)))
      (cases_lt w (at + cost a))

  own_tracked : (V : Env) (at w : ℕ) (e : Expr) → IsExpr e → Stands K at (own_code A V at e) → at ≤ w → w < at + own_cost e → IsTracked (reads at e) w
  own_tracked V at w (Scalar x) h (l, e, end) lo hi = let z : at ≡ w = omega arith in untracked _ w _ (ap (λ v. node K v) (sym z) ∙ e) refl
  own_tracked V at w (Num x) h st lo hi = code_tracked V at w (Num x) h st lo hi
  own_tracked V at w Turn h st lo hi = code_tracked V at w Turn h st lo hi
  own_tracked V at w (Input_of p) h st lo hi = code_tracked V at w (Input_of p) h st lo hi
  own_tracked V at w (Item a e) h st lo hi = code_tracked V at w (Item a e) h st lo hi
  own_tracked V at w (Two op a b) h st lo hi = code_tracked V at w (Two op a b) h st lo hi
  own_tracked V at w (Three op a b c) h st lo hi = code_tracked V at w (Three op a b c) h st lo hi

  stmt_tracked : (V : Env) (at w : ℕ) (s : Stmt) → IsStmt s → Stands K at (stmt_code A V at s) → at ≤ w → w < at + stmt_cost s → IsTracked (stmt_accesses at s) w
  stmt_tracked V at w (Bind x e) h st lo hi = own_tracked V at w e h st lo hi
  stmt_tracked V at w (Assign x e) h st lo hi = own_tracked V at w e h st lo hi
  stmt_tracked V at w (Put a ix v None) h st lo hi =
      let (front, rest) = stands_append K at (code A V at ix) _ (cost ix) (length-code A V at ix) st in
      let (middle, last) = stands_append K (at + cost ix) (code A V (at + cost ix) v) _ (cost v) (length-code A V (at + cost ix) v) rest in
      ⊎_elim (λ d. tracked_left (reads at ix) _ w (code_tracked V at w ix h.0 front lo d))
      (λ d.
      ⊎_elim (λ f. tracked_right (reads at ix) _ w (tracked_left (reads (at + cost ix) v) _ w (code_tracked V (at + cost ix) w v h.1 middle d f)))
      (λ f. tracked_right (reads at ix) _ w (tracked_right (reads (at + cost ix) v) _ w (put_tracked (at + cost ix + cost v) a w _ _ last f (omega arith))))
      (cases_lt w (at + cost ix + cost v)))
      (cases_lt w (at + cost ix))
  stmt_tracked V at w (Put a ix v (Some g)) h st lo hi =
      let (front, rest) = stands_append K at (code A V at ix) _ (cost ix) (length-code A V at ix) st in
      let (middle, rest') = stands_append K (at + cost ix) (code A V (at + cost ix) v) _ (cost v) (length-code A V (at + cost ix) v) rest in
      let (third, last) = stands_append K (at + cost ix + cost v) (code A V (at + cost ix + cost v) g) _ (cost g) (length-code A V (at + cost ix + cost v) g) rest' in
      ⊎_elim (λ d. tracked_left (reads at ix) _ w (code_tracked V at w ix h.0 front lo d))
      (λ d.
      ⊎_elim (λ f. tracked_right (reads at ix) _ w (tracked_left (reads (at + cost ix) v) _ w (code_tracked V (at + cost ix) w v h.1 middle d f)))
      (λ f.
      ⊎_elim
      (λ k. tracked_right (reads at ix) _ w (tracked_right (reads (at + cost ix) v) _ w (tracked_left (reads (at + cost ix + cost v) g) _ w (code_tracked V (at + cost ix + cost v) w g h.2 third f k))))
      (λ k. tracked_right (reads at ix) _ w (tracked_right (reads (at + cost ix) v) _ w (tracked_right (reads (at + cost ix + cost v) g) _ w (put_if_tracked (at + cost ix + cost v + cost g) a w _ _ _ last k (omega arith)))))
      (cases_lt w (at + cost ix + cost v + cost g)))
      (cases_lt w (at + cost ix + cost v)))
      (cases_lt w (at + cost ix))
  stmt_tracked V at w (Emit p v None) h st lo hi =
      let (front, last) = stands_append K at (code A V at v) _ (cost v) (length-code A V at v) st in
      ⊎_elim (λ d. code_tracked V at w v h.1 front lo d) (λ d. let z : at + cost v ≡ w = omega arith in untracked _ w _ (ap (λ u. node K u) (sym z) ∙ last.1) refl) (cases_lt w (at + cost v))
  stmt_tracked V at w (Emit p v (Some g)) h st lo hi =
      let (front, rest) = stands_append K at (code A V at v) _ (cost v) (length-code A V at v) st in
      let (middle, last) = stands_append K (at + cost v) (code A V (at + cost v) g) _ (cost g) (length-code A V (at + cost v) g) rest in
      ⊎_elim (λ d. tracked_left (reads at v) _ w (code_tracked V at w v h.1 front lo d))
      (λ d.
      ⊎_elim (λ f. tracked_right (reads at v) _ w (code_tracked V (at + cost v) w g h.2 middle d f))
      (λ f. let z : at + cost v + cost g ≡ w = omega arith in untracked _ w _ (ap (λ u. node K u) (sym z) ∙ last.1) refl)
      (cases_lt w (at + cost v + cost g)))
      (cases_lt w (at + cost v))

  pub body_tracked : (V : Env) (at w : ℕ) (ss : List Stmt) → AreStmts ss → Stands K at (body_code A V at ss) → at ≤ w → w < at + body_cost ss → IsTracked (accesses at ss) w
  body_tracked V at w [] h st lo hi = absurd (omega arith)
  body_tracked V at w (s ∷ ss) h st lo hi =
      let (front, rest) = stands_append K at (stmt_code A V at s) _ (stmt_cost s) (length-stmt_code A V at s) st in
      ⊎_elim (λ b. tracked_left (stmt_accesses at s) _ w (stmt_tracked V at w s h.0 front lo b))
      (λ b. tracked_right (stmt_accesses at s) _ w (body_tracked (stmt_env V at s) (at + stmt_cost s) w ss h.1 rest b (omega arith)))
      (cases_lt w (at + stmt_cost s))
