-- What holds of each node of the kernel, whatever the generator draws.
use Rattle.std.proofs.Common.{◌≡◌, ℕ, zero, suc, ◌+◌, ◌-◌, ◌*◌, ◌/◌, ◌%◌, ◌^◌, ◌<◌, ◌≤◌, ◌⊎◌, inl, inr, Bool, true, false, List, [], ◌∷◌, ◌++◌, length, Some, None, refl, ap, sym, ◌∙◌, subst, arith, lit<, lit≤, length-append}
use Rattle.std.specs.Prelude.{slice_get, slice_index, unwrap_or, bit_xor}
use Rattle.std.specs.Int.{w32, rotate_right}
use Rattle.std.proofs.Math.Nat.{div-le_self, mod-lt, div-lt_iff_lt-mul, mul-lt-mul_of_pos_right}
use Rattle.std.proofs.lemmas.Nat.{or_lt}
use Rattle.rand_pcg.specs.Lcg.{Lcg}
use Rattle.cg_word.specs.declared.op.Op.{Op}
use Rattle.cg_word.specs.declared.op.Op.TheVariants.{Add}
use Rattle.cg_word.specs.Word.{words, op_of, arity, has_value, is_output, is_access, is_store}
use Rattle.cg_word.specs.Sets.{among}
use Rattle.cg_model.specs.declared.kernel.Node.{Node}
use Rattle.cg_model.specs.declared.kernel.Operand.{Operand}
use Rattle.cg_model.specs.declared.kernel.Operand.TheVariants.{Const as Constant, Edge}
use Rattle.cg_trial.specs.Words.{next, rest, below, words_of}
use Rattle.cg_trial.specs.Drawn.{node_name, drawn_op, drawn_operand, after_operand, drawn_operands, drawn_node, after_node, drawn_nodes, first_nodes, last_nodes, value_of, drawn_kernel}
use Rattle.cg_trial.specs.Trial.{unit_ops}

-- ---- words and numbers

rotate_lt : (n by : ℕ) → n < 2 ^ 32 → rotate_right w32 n by < 2 ^ 32
rotate_lt n by l =
    let small : n / 2 ^ (by % 32) ≤ n = div-le_self n (2 ^ (by % 32)) in
    or_lt 32 (n / 2 ^ (by % 32)) ((n * 2 ^ ((32 - by % 32) % 32)) % 2 ^ 32) (omega arith) (mod-lt (n * 2 ^ ((32 - by % 32) % 32)) (lit< tt))

pub next_lt : (g : Lcg) → next g < words
unfolding next
next_lt g = rotate_lt (bit_xor (g.state / 2 ^ 18) g.state / 2 ^ 27 % 2 ^ 32) (g.state / 2 ^ 59) (mod-lt (bit_xor (g.state / 2 ^ 18) g.state / 2 ^ 27) (lit< tt))

pub below_lt : (n : ℕ) (g : Lcg) → 0 < n → below n g < n
unfolding below
below_lt n g l =
    let m : next g * n < 2 ^ 32 * n = mul-lt-mul_of_pos_right (next_lt g) l in
    let h : next g * n < n * 2 ^ 32 = omega arith in
    (div-lt_iff_lt-mul {k = 2 ^ 32} {x = next g * n} {y = n} (lit< tt)).1 h

words_length : (n : ℕ) (g : Lcg) → length (words_of n g) ≡ n
words_length zero g = refl
words_length (suc n) g = ap suc (words_length n (rest g))

words_below : (n : ℕ) (g : Lcg) (k : ℕ) → slice_index (words_of n g) k < words
words_below zero g k = lit< tt
words_below (suc n) g zero = next_lt g
words_below (suc n) g (suc k) = words_below n (rest g) k

-- ---- operations

-- of an operation that is drawn: it has a value, and reaches neither streams nor the memory
record IsDrawable (op : Op) : Type 0 where
  valued : has_value op ≡ true
  silent : is_output op ≡ false
  plain : is_access op ≡ false
  unwritten : is_store op ≡ false
  served : among unit_ops op ≡ true

drawable : (c : ℕ) → c < 16 → IsDrawable (unwrap_or (op_of (4 + c)) Add)
unfolding op_of
drawable zero l = record { valued = refl; silent = refl; plain = refl; unwritten = refl; served = refl }
drawable (suc zero) l = record { valued = refl; silent = refl; plain = refl; unwritten = refl; served = refl }
drawable (suc (suc zero)) l = record { valued = refl; silent = refl; plain = refl; unwritten = refl; served = refl }
drawable (suc (suc (suc zero))) l = record { valued = refl; silent = refl; plain = refl; unwritten = refl; served = refl }
drawable (suc (suc (suc (suc zero)))) l = record { valued = refl; silent = refl; plain = refl; unwritten = refl; served = refl }
drawable (suc (suc (suc (suc (suc zero))))) l = record { valued = refl; silent = refl; plain = refl; unwritten = refl; served = refl }
drawable (suc (suc (suc (suc (suc (suc zero)))))) l = record { valued = refl; silent = refl; plain = refl; unwritten = refl; served = refl }
drawable (suc (suc (suc (suc (suc (suc (suc zero))))))) l = record { valued = refl; silent = refl; plain = refl; unwritten = refl; served = refl }
drawable (suc (suc (suc (suc (suc (suc (suc (suc zero)))))))) l = record { valued = refl; silent = refl; plain = refl; unwritten = refl; served = refl }
drawable (suc (suc (suc (suc (suc (suc (suc (suc (suc zero))))))))) l = record { valued = refl; silent = refl; plain = refl; unwritten = refl; served = refl }
drawable (suc (suc (suc (suc (suc (suc (suc (suc (suc (suc zero)))))))))) l = record { valued = refl; silent = refl; plain = refl; unwritten = refl; served = refl }
drawable (suc (suc (suc (suc (suc (suc (suc (suc (suc (suc (suc zero))))))))))) l = record { valued = refl; silent = refl; plain = refl; unwritten = refl; served = refl }
drawable (suc (suc (suc (suc (suc (suc (suc (suc (suc (suc (suc (suc zero)))))))))))) l = record { valued = refl; silent = refl; plain = refl; unwritten = refl; served = refl }
drawable (suc (suc (suc (suc (suc (suc (suc (suc (suc (suc (suc (suc (suc zero))))))))))))) l = record { valued = refl; silent = refl; plain = refl; unwritten = refl; served = refl }
drawable (suc (suc (suc (suc (suc (suc (suc (suc (suc (suc (suc (suc (suc (suc zero)))))))))))))) l = record { valued = refl; silent = refl; plain = refl; unwritten = refl; served = refl }
drawable (suc (suc (suc (suc (suc (suc (suc (suc (suc (suc (suc (suc (suc (suc (suc zero))))))))))))))) l = record { valued = refl; silent = refl; plain = refl; unwritten = refl; served = refl }
drawable (suc (suc (suc (suc (suc (suc (suc (suc (suc (suc (suc (suc (suc (suc (suc (suc c)))))))))))))))) l = absurd (omega arith)

drawn_op_is : (g : Lcg) → IsDrawable (drawn_op g)
drawn_op_is g = drawable (below 16 g) (below_lt 16 g (lit< tt))

-- ---- operands

-- of an operand of node v: a constant is a word, and an edge comes from an earlier node, none of the last two, over at
-- most two turns, with a word for each of them
abbrev pub IsOperandOf : ℕ → Operand → Type 0
IsOperandOf v (Constant c) = c < words
IsOperandOf v (Edge u d init) = (u < v) × (u < 30) × (d ≤ 2) × (length init ≡ d) × ((k : ℕ) → slice_index init k < words)

drawn_operand_is : (v : ℕ) (g : Lcg) → 0 < v → v ≤ 30 → IsOperandOf v (drawn_operand v g)
drawn_operand_is v g l u =
    let from : below v g < v = below_lt v g l in
    let far : below 3 (rest g) < 3 = below_lt 3 (rest g) (lit< tt) in
    (from, omega arith, omega arith, words_length (below 3 (rest g)) (rest (rest g)), words_below (below 3 (rest g)) (rest (rest g)))

some_is : {X : Type 0} (x y : X) → Some x ≡ Some y → x ≡ y
some_is x y e = cc

drawn_operands_are : (v n : ℕ) (g : Lcg) → 0 < v → v ≤ 30 → (p : ℕ) (o : Operand) → slice_get (drawn_operands v n g) p ≡ Some o → IsOperandOf v o
drawn_operands_are v zero g l u p o e = let bad : None ≡ Some o = e in absurd (cc)
drawn_operands_are v (suc n) g l u zero o e = subst (IsOperandOf v) (some_is (drawn_operand v g) o e) (drawn_operand_is v g l u)
drawn_operands_are v (suc n) g l u (suc p) o e = drawn_operands_are v n (after_operand g) l u p o e

drawn_operands_length : (v n : ℕ) (g : Lcg) → length (drawn_operands v n g) ≡ n
drawn_operands_length v zero g = refl
drawn_operands_length v (suc n) g = ap suc (drawn_operands_length v n (after_operand g))

-- none is a constant
no_constant : (v n : ℕ) (g : Lcg) (p a : ℕ) → slice_get (drawn_operands v n g) p ≡ Some (Constant a) → ⊥
no_constant v zero g p a e = let bad : None ≡ Some (Constant a) = e in cc
no_constant v (suc n) g zero a e = let bad : drawn_operand v g ≡ Constant a = some_is (drawn_operand v g) (Constant a) e in cc
no_constant v (suc n) g (suc p) a e = no_constant v n (after_operand g) p a e

-- ---- nodes

pub record IsNodeAt (v : ℕ) (n : Node) : Type 0 where
  pub named : n.name ≡ node_name v
  pub operands : (p : ℕ) (o : Operand) → slice_get n.operands p ≡ Some o → IsOperandOf v o
  pub many : length n.operands ≡ arity n.op
  pub one : (p q a b : ℕ) → slice_get n.operands p ≡ Some (Constant a) → slice_get n.operands q ≡ Some (Constant b) → p ≡ q
  pub valued : v < 30 → has_value n.op ≡ true
  pub port : n.port ≡ 0
  pub sends : is_output n.op ≡ true → v ≡ 31
  pub reaches : is_access n.op ≡ true → (v ≡ 29) ⊎ (v ≡ 30)
  pub writes : is_store n.op ≡ true → v ≡ 30
  pub served : among unit_ops n.op ≡ true

not_both : {P : Type 0} (b : Bool) → b ≡ false → b ≡ true → P
not_both b e h = let bad : true ≡ false = sym h ∙ e in absurd (cc)

drawn_node_is : (v : ℕ) (g : Lcg) → 0 < v → v ≤ 30 → IsNodeAt v (drawn_node v g)
unfolding drawn_node
drawn_node_is v g l u =
    let op = drawn_op_is g in
    record {
      named = refl;
      operands = drawn_operands_are v (arity (drawn_op g)) (rest g) l u;
      many = drawn_operands_length v (arity (drawn_op g)) (rest g);
      one = λ p q a b e f. absurd (no_constant v (arity (drawn_op g)) (rest g) p a e);
      valued = λ h. op.valued;
      port = refl;
      sends = not_both (is_output (drawn_op g)) op.silent;
      reaches = not_both (is_access (drawn_op g)) op.plain;
      writes = not_both (is_store (drawn_op g)) op.unwritten;
      served = op.served;
    }

-- so for each node of a list, the first of them number k
abbrev pub AreNodes : ℕ → List Node → Type 0
AreNodes k [] = Unit {0}
AreNodes k (n ∷ ns) = IsNodeAt k n × AreNodes (k + 1) ns

drawn_nodes_are : (k n : ℕ) (g : Lcg) → 0 < k → k + n ≤ 30 → AreNodes k (drawn_nodes k n g)
unfolding drawn_nodes
drawn_nodes_are k zero g l u = tt
drawn_nodes_are k (suc n) g l u = (drawn_node_is k g l (omega arith), drawn_nodes_are (k + 1) n (after_node g) (omega arith) (omega arith))

drawn_nodes_length : (k n : ℕ) (g : Lcg) → length (drawn_nodes k n g) ≡ n
unfolding drawn_nodes
drawn_nodes_length k zero g = refl
drawn_nodes_length k (suc n) g = ap suc (drawn_nodes_length (k + 1) n (after_node g))

are_append : (k m : ℕ) (xs ys : List Node) → m ≡ k + length xs → AreNodes k xs → AreNodes m ys → AreNodes k (xs ++ ys)
are_append k m [] ys e a b = let s : m ≡ k = omega arith in subst (λ z. AreNodes z ys) s b
are_append k m (x ∷ xs) ys e a b = (a.0, are_append (k + 1) m xs ys (omega arith) a.1 b)

pub node_in : (k i j : ℕ) (ns : List Node) (n : Node) → AreNodes k ns → slice_get ns i ≡ Some n → j ≡ k + i → IsNodeAt j n
node_in k i j [] n a at e = let bad : None ≡ Some n = at in absurd (cc)
node_in k zero j (x ∷ ns) n a at e = let s : k ≡ j = omega arith in subst (λ z. IsNodeAt z n) s (subst (IsNodeAt k) (some_is x n at) a.0)
node_in k (suc i) j (x ∷ ns) n a at e = node_in (k + 1) i j ns n a.1 at (omega arith)

-- ---- those that aren't drawn

no_operand : (v p : ℕ) (o : Operand) → slice_get {X = Operand} [] p ≡ Some o → IsOperandOf v o
no_operand v p o e = let bad : None ≡ Some o = e in absurd (cc)

one_operand : (v : ℕ) (x : Operand) → IsOperandOf v x → (p : ℕ) (o : Operand) → slice_get (x ∷ []) p ≡ Some o → IsOperandOf v o
one_operand v x h zero o e = subst (IsOperandOf v) (some_is x o e) h
one_operand v x h (suc p) o e = no_operand v p o e

two_operands : (v : ℕ) (x y : Operand) → IsOperandOf v x → IsOperandOf v y → (p : ℕ) (o : Operand) → slice_get (x ∷ y ∷ []) p ≡ Some o → IsOperandOf v o
two_operands v x y h k zero o e = subst (IsOperandOf v) (some_is x o e) h
two_operands v x y h k (suc p) o e = one_operand v y k p o e

value_is : (u v : ℕ) → u < v → u < 30 → IsOperandOf v (value_of u)
value_is u v l m = (l, m, lit≤ tt, refl, λ k. lit< tt)

-- at most one of them is a constant
abbrev HasOneConstant : List Operand → Type 0
HasOneConstant os = (p q a b : ℕ) → slice_get os p ≡ Some (Constant a) → slice_get os q ≡ Some (Constant b) → p ≡ q

none_one : HasOneConstant []
none_one p q a b e f = let bad : None ≡ Some (Constant a) = e in absurd (cc)

one_one : (x : Operand) → HasOneConstant (x ∷ [])
one_one x zero zero a b e f = refl
one_one x zero (suc q) a b e f = let bad : None ≡ Some (Constant b) = f in absurd (cc)
one_one x (suc p) q a b e f = let bad : None ≡ Some (Constant a) = e in absurd (cc)

edge_one : (u d : ℕ) (init : List ℕ) (y : Operand) → HasOneConstant (Edge u d init ∷ y ∷ [])
edge_one u d init y zero q a b e f = let bad : Edge u d init ≡ Constant a = some_is (Edge u d init) (Constant a) e in absurd (cc)
edge_one u d init y (suc p) zero a b e f = let bad : Edge u d init ≡ Constant b = some_is (Edge u d init) (Constant b) f in absurd (cc)
edge_one u d init y (suc p) (suc q) a b e f = ap suc (one_one y p q a b e f)

first_nodes_are : (g : Lcg) → AreNodes 0 (first_nodes g)
first_nodes_are g = (
  record {
    named = refl;
    operands = no_operand 0;
    many = refl;
    one = none_one;
    valued = λ h. refl;
    port = refl;
    sends = λ h. let bad : false ≡ true = h in absurd (cc);
    reaches = λ h. let bad : false ≡ true = h in absurd (cc);
    writes = λ h. let bad : false ≡ true = h in absurd (cc);
    served = refl;
  },
  (
    record {
      named = refl;
      operands = one_operand 1 (Constant (next g)) (next_lt g);
      many = refl;
      one = one_one (Constant (next g));
      valued = λ h. refl;
      port = refl;
      sends = λ h. let bad : false ≡ true = h in absurd (cc);
      reaches = λ h. let bad : false ≡ true = h in absurd (cc);
      writes = λ h. let bad : false ≡ true = h in absurd (cc);
      served = refl;
    },
    tt,
  ),
)

last_nodes_are : AreNodes 28 last_nodes
last_nodes_are = (
  record {
    named = refl;
    operands = two_operands 28 (value_of 27) (Constant 255) (value_is 27 28 (lit< tt) (lit< tt)) (lit< tt);
    many = refl;
    one = edge_one 27 0 [] (Constant 255);
    valued = λ h. refl;
    port = refl;
    sends = λ h. let bad : false ≡ true = h in absurd (cc);
    reaches = λ h. let bad : false ≡ true = h in absurd (cc);
    writes = λ h. let bad : false ≡ true = h in absurd (cc);
    served = refl;
  },
  (
    record {
      named = refl;
      operands = one_operand 29 (value_of 28) (value_is 28 29 (lit< tt) (lit< tt));
      many = refl;
      one = one_one (value_of 28);
      valued = λ h. refl;
      port = refl;
      sends = λ h. let bad : false ≡ true = h in absurd (cc);
      reaches = λ h. inl refl;
      writes = λ h. let bad : false ≡ true = h in absurd (cc);
      served = refl;
    },
    (
      record {
        named = refl;
        operands = two_operands 30 (value_of 28) (value_of 27) (value_is 28 30 (lit< tt) (lit< tt)) (value_is 27 30 (lit< tt) (lit< tt));
        many = refl;
        one = edge_one 28 0 [] (value_of 27);
        valued = λ h. absurd (omega arith);
        port = refl;
        sends = λ h. let bad : false ≡ true = h in absurd (cc);
        reaches = λ h. inr refl;
        writes = λ h. refl;
        served = refl;
      },
      (
        record {
          named = refl;
          operands = one_operand 31 (value_of 29) (value_is 29 31 (lit< tt) (lit< tt));
          many = refl;
          one = one_one (value_of 29);
          valued = λ h. absurd (omega arith);
          port = refl;
          sends = λ h. refl;
          reaches = λ h. let bad : false ≡ true = h in absurd (cc);
          writes = λ h. let bad : false ≡ true = h in absurd (cc);
          served = refl;
        },
        tt,
      ),
    ),
  ),
)

pub all_nodes_are : (g : Lcg) → AreNodes 0 (drawn_kernel g).nodes
unfolding drawn_kernel
all_nodes_are g =
    let long : length (drawn_nodes 2 26 (rest g)) ≡ 26 = drawn_nodes_length 2 26 (rest g) in
    are_append 0 2 (first_nodes g) (drawn_nodes 2 26 (rest g) ++ last_nodes) refl (first_nodes_are g)
    (are_append 2 28 (drawn_nodes 2 26 (rest g)) last_nodes (omega arith) (drawn_nodes_are 2 26 (rest g) (lit< tt) (lit≤ tt)) last_nodes_are)

pub all_nodes_length : (g : Lcg) → length (drawn_kernel g).nodes ≡ 32
unfolding drawn_kernel
all_nodes_length g =
    let long : length (drawn_nodes 2 26 (rest g)) ≡ 26 = drawn_nodes_length 2 26 (rest g) in
    let more : length (drawn_nodes 2 26 (rest g) ++ last_nodes) ≡ length (drawn_nodes 2 26 (rest g)) + 4 = length-append (drawn_nodes 2 26 (rest g)) last_nodes in
    ap (λ n. suc (suc n)) (more ∙ ap (λ n. n + 4) long)
