-- What is known of an operand.
use Rattle.std.proofs.Common.{◌≡◌, ℕ, zero, suc, ◌+◌, ◌-◌, ◌*◌, ◌<◌, ◌≤◌, true, List, [], ◌∷◌, ◌++◌, length, map, Option, Some, None, IfSome, refl, sym, ap, ◌∙◌, subst, arith, ⊎_elim}
use Rattle.std.specs.Prelude.{slice_get, slice_index, slice_index_or}
use Rattle.std.proofs.lemmas.Bool.{cases_lt, lt-ltb, le-ltb}
use Rattle.std.proofs.lemmas.List.{get_or_append_left, get_or_past, get_or_push}
use Rattle.std.proofs.Common.{length-append}
use Rattle.cg_word.specs.declared.op.Op.{Op}
use Rattle.cg_word.specs.declared.op.Op.TheVariants.{Const, Iter, Input, Add, Sub, Mul, And, Or, Xor, Shl, Shr, Sar, Eq, Ne, Lts, Ltu, Mins, Maxs, Select, Load, Store, Output, LoadIf, StoreIf, OutputIf}
use Rattle.cg_word.specs.Word.{apply_of}
use Rattle.cg_simplify_facts.specs.declared.facts.Facts.{Facts}
use Rattle.cg_simplify_facts.specs.Facts.{AreFacts, IsTop}
use Rattle.cg_model.specs.declared.kernel.Node.{Node}
use Rattle.cg_model.specs.declared.kernel.Operand.{Operand}
use Rattle.cg_model.specs.declared.kernel.Operand.TheVariants.{Const as Constant, Edge}
use Rattle.cg_model.specs.Kernel.{Kernel, IsKernel, IsWired, node, size}
use Rattle.cg_model.specs.Work.{Image, IsImage, value, value_by}
use Rattle.cg_model.specs.Turns.{before, operand, val}
use Rattle.cg_overlap.proofs.Sequence.{work_is}
use Rattle.cg_simplify_facts.specs.Suits.{AreFactsOf, AreOfWords, AreTops, IsConstOf, IsFactOf, IsOfWords, Suits, computes, word_of}
use Rattle.cg_simplify_facts.proofs.Words.{of_words, operand_word, val_word}

pub constant_fits : (nodes : List Node) (tops : List ℕ) (w : ℕ) → IsOfWords (Constant w) → IsFactOf nodes tops (Constant w) (record { word = Some w; top = w })
constant_fits nodes tops w is V i suits = record { small = is; word = refl; below = omega arith }

-- an edge from a constant's `const`
edge_known : (nodes : List Node) (tops : List ℕ) (V : ℕ → ℕ → ℕ) (i u d k : ℕ) (init : List ℕ) → Suits nodes tops V → length init ≡ d → IsConstOf nodes u k
    → ((j : ℕ) → j < length init → slice_index init j ≡ k) → operand V i (Edge u d init) ≡ k
edge_known nodes tops V i u d k init suits long is all =
    ⊎_elim
    (λ (l : i < d). rw (lt-ltb i d l) (all i (omega (arith, long, l))))
    (λ (l : d ≤ i). rw (le-ltb i d l) (suits.constant u k (i - d) is))
    (cases_lt i d)

edge_below : (nodes : List Node) (tops : List ℕ) (V : ℕ → ℕ → ℕ) (i u d t least : ℕ) (init : List ℕ) → Suits nodes tops V → length init ≡ d → least ≡ slice_index_or tops u 4294967295 → least ≤ t
    → ((j : ℕ) → j < length init → slice_index init j ≤ t) → operand V i (Edge u d init) ≤ t
edge_below nodes tops V i u d t least init suits long e l all =
    ⊎_elim
    (λ (m : i < d). rw (lt-ltb i d m) (all i (omega (arith, long, m))))
    (λ (m : d ≤ i). rw (le-ltb i d m) (let x = suits.below u (i - d) in omega arith))
    (cases_lt i d)

pub edge_fits : (nodes : List Node) (tops : List ℕ) (u d t least : ℕ) (init : List ℕ) (o : Option ℕ) → IsOfWords (Edge u d init) → least ≡ slice_index_or tops u 4294967295 → least ≤ t
    → ((j : ℕ) → j < length init → slice_index init j ≤ t) → IfSome o (λ k. IsConstOf nodes u k × ((j : ℕ) → j < length init → slice_index init j ≡ k))
    → IsFactOf nodes tops (Edge u d init) (record { word = o; top = t })
edge_fits nodes tops u d t least init o is e l all known V i suits =
    record {
      small = operand_word V i (Edge u d init) suits.small is;
      word = by o known;
      below = edge_below nodes tops V i u d t least init suits is.0 e l all;
    }
  where
    by : (p : Option ℕ) → IfSome p (λ k. IsConstOf nodes u k × ((j : ℕ) → j < length init → slice_index init j ≡ k)) → IfSome p (λ k. operand V i (Edge u d init) ≡ k)
    by None h = tt
    by (Some k) h = edge_known nodes tops V i u d k init suits is.0 h.0 h.1

-- the word of an operand that is there, and of one that isn't
pub word_at : (V : ℕ → ℕ → ℕ) (i : ℕ) (os : List Operand) (p : ℕ) (o : Operand) → slice_get os p ≡ Some o → word_of V i os p ≡ operand V i o
word_at V i [] p o e = let bad : None ≡ Some o = e in absurd (cc)
word_at V i (x ∷ xs) zero o e = let same : x ≡ o = cc in ap (operand V i) same
word_at V i (x ∷ xs) (suc p) o e = word_at V i xs p o e

pub word_past : (V : ℕ → ℕ → ℕ) (i : ℕ) (os : List Operand) (p : ℕ) → slice_get os p ≡ None → word_of V i os p ≡ 0
word_past V i [] p e = refl
word_past V i (x ∷ xs) zero e = let bad : Some x ≡ None = e in absurd (cc)
word_past V i (x ∷ xs) (suc p) e = word_past V i xs p e

pub mapped_at : (f : Operand → ℕ) (os : List Operand) (p : ℕ) (o : Operand) → slice_get os p ≡ Some o → slice_index (map f os) p ≡ f o
mapped_at f [] p o e = let bad : None ≡ Some o = e in absurd (cc)
mapped_at f (x ∷ xs) zero o e = let same : x ≡ o = cc in ap f same
mapped_at f (x ∷ xs) (suc p) o e = mapped_at f xs p o e

-- ---- tops

-- what an operation computes
pub computed : (image : Image) (memory : List ℕ) (port turn : ℕ) (args : List ℕ) (op : Op) → computes op ≡ true → value_by image memory port turn args op ≡ apply_of op (slice_index args 0) (slice_index args 1) (slice_index args 2)
unfolding value_by
computed image memory port turn args Const e = refl
computed image memory port turn args Add e = refl
computed image memory port turn args Sub e = refl
computed image memory port turn args Mul e = refl
computed image memory port turn args And e = refl
computed image memory port turn args Or e = refl
computed image memory port turn args Xor e = refl
computed image memory port turn args Shl e = refl
computed image memory port turn args Shr e = refl
computed image memory port turn args Sar e = refl
computed image memory port turn args Eq e = refl
computed image memory port turn args Ne e = refl
computed image memory port turn args Lts e = refl
computed image memory port turn args Ltu e = refl
computed image memory port turn args Mins e = refl
computed image memory port turn args Maxs e = refl
computed image memory port turn args Select e = refl
computed image memory port turn args Iter e = absurd (cc)
computed image memory port turn args Input e = absurd (cc)
computed image memory port turn args Load e = absurd (cc)
computed image memory port turn args Store e = absurd (cc)
computed image memory port turn args Output e = absurd (cc)
computed image memory port turn args LoadIf e = absurd (cc)
computed image memory port turn args StoreIf e = absurd (cc)
computed image memory port turn args OutputIf e = absurd (cc)

-- the value of a node is computed from the words of its operands
pub val_computed : (K : Kernel) (image : Image) (v i : ℕ) → IsWired K → v < size K → computes (node K v).op ≡ true
    → val K image v i ≡ apply_of (node K v).op (word_of (val K image) i (node K v).operands 0) (word_of (val K image) i (node K v).operands 1) (word_of (val K image) i (node K v).operands 2)
val_computed K image v i wired l is =
    let k = i * size K + v in
    ap (value image (before K image k).memory) (work_is K image wired i v l)
    ∙ computed image (before K image k).memory (node K v).port i (map (operand (val K image) i) (node K v).operands) (node K v).op is

-- a constant's `const` has the constant
const_val : (K : Kernel) (image : Image) (u k i : ℕ) → IsWired K → IsConstOf K.nodes u k → val K image u i ≡ k
unfolding apply_of
const_val K image u k i wired is =
    val_computed K image u i wired is.there (ap computes is.op)
    ∙ ap (λ (op : Op). apply_of op (word_of (val K image) i (node K u).operands 0) (word_of (val K image) i (node K u).operands 1) (word_of (val K image) i (node K u).operands 2)) is.op
    ∙ word_at (val K image) i (node K u).operands 0 (Constant k) is.constant

pub no_tops : (K : Kernel) → IsKernel K → AreTops K []
no_tops K good image is =
    record {
      small = val_word K good image is;
      below = λ u i. let h = val_word K good image is u i in omega arith;
      constant = λ u k i c. const_val K image u k i good.wired c;
    }

pub one_more : (K : Kernel) (tops : List ℕ) (n t : ℕ) → AreTops K tops → length tops ≡ n
    → ((image : Image) (i : ℕ) → IsImage image → Suits K.nodes tops (val K image) → val K image n i ≤ t) → AreTops K (tops ++ t ∷ [])
one_more K tops n t all long top image is =
    let s = all image is in
    record { small = s.small; below = below s; constant = s.constant }
  where
    below : Suits K.nodes tops (val K image) → (u i : ℕ) → val K image u i ≤ slice_index_or (tops ++ t ∷ []) u 4294967295
    below s u i =
        ⊎_elim
        (λ (l : u < n). subst (λ z. val K image u i ≤ z) (sym (get_or_append_left tops (t ∷ []) 4294967295 u (omega (arith, long, l)))) (s.below u i))
        (λ (l : n ≤ u). ⊎_elim
        (λ (m : u < suc n).
        let e : u ≡ n = omega arith in
        subst (λ z. val K image z i ≤ slice_index_or (tops ++ t ∷ []) z 4294967295) (sym e)
        (subst (λ z. val K image n i ≤ z) (sym (get_or_push tops t 4294967295 n long)) (top image i is s)))
        (λ (m : suc n ≤ u).
        let h = s.small u i in
        subst (λ z. val K image u i ≤ z) (sym (get_or_past (tops ++ t ∷ []) u 4294967295 (let x = length-append tops (t ∷ []) in omega (arith, long, x)))) (omega arith))
        (cases_lt u (suc n)))
        (cases_lt u n)

-- the top of a node whose value is computed
pub computed_top : (K : Kernel) (image : Image) (n i t : ℕ) (f : Facts) → IsKernel K → IsImage image → n < size K → computes (node K n).op ≡ true
    → AreFacts f (word_of (val K image) i (node K n).operands 0) (word_of (val K image) i (node K n).operands 1) (word_of (val K image) i (node K n).operands 2)
    → ((x y z : ℕ) → AreFacts f x y z → apply_of (node K n).op x y z ≤ t) → val K image n i ≤ t
computed_top K image n i t f good is l computes_it facts top =
    subst (λ x. x ≤ t) (sym (val_computed K image n i good.wired l computes_it)) (top _ _ _ facts)

-- the top of a node, by the facts of its operands
pub node_top : (K : Kernel) (image : Image) (n i t : ℕ) (f : Facts) (N : Node) (nodes : List Node) (os : List Operand) (tops : List ℕ) → IsKernel K → IsImage image → n < size K
    → node K n ≡ N → computes N.op ≡ true → nodes ≡ K.nodes → os ≡ N.operands → (AreOfWords os → AreFactsOf nodes tops os f) → IsTop N.op f t → Suits K.nodes tops (val K image) → val K image n i ≤ t
node_top K image n i t f N nodes os tops good valid l is computes_it same given facts top suits =
    let V = val K image in
    let e : os ≡ (node K n).operands = given ∙ ap (λ (m : Node). m.operands) (sym is) in
    let found = facts (subst AreOfWords (sym e) (of_words K good n l)) V i (subst (λ (ns : List Node). Suits ns tops V) (sym same) suits) in
    computed_top K image n i t f good valid l (ap (λ (m : Node). computes m.op) is ∙ computes_it)
    (subst (λ (xs : List Operand). AreFacts f (word_of V i xs 0) (word_of V i xs 1) (word_of V i xs 2)) e found)
    (subst (λ (m : Node). IsTop m.op f t) (sym is) top)
