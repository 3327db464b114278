-- Nodes that become the `const` of the word that they have.
use Rattle.std.proofs.Common.{◌≡◌, ℕ, zero, suc, ◌-◌, ◌<◌, ◌≤◌, true, false, List, [], ◌∷◌, length, map, Some, refl, sym, ap, ◌∙◌, subst, arith, ⊎_elim}
use Rattle.std.specs.Prelude.{slice_get, slice_index, slice_index_or, slice_set}
use Rattle.std.proofs.lemmas.Bool.{and_left, cases_lt, cond-false, le-ltb, lt-ltb, true≢false}
use Rattle.cg_word.specs.declared.op.Op.{Op}
use Rattle.cg_word.specs.declared.op.Op.TheVariants.{Const, Add, Sub, Mul, And, Or, Xor, Shl, Shr, Sar, Eq, Ne, Lts, Ltu, Mins, Maxs, Select}
use Rattle.cg_word.specs.Word.{apply_of, is_access, is_output, is_store, words}
use Rattle.cg_simplify_facts.specs.declared.facts.Facts.{Facts}
use Rattle.cg_simplify_facts.specs.Facts.{IsConstant}
use Rattle.cg_model.specs.declared.kernel.Node.{Node}
use Rattle.cg_model.specs.declared.kernel.Operand.TheVariants.{Edge}
use Rattle.cg_model.specs.Kernel.{Kernel, IsKernel, node, size}
use Rattle.cg_model.specs.Work.{Image, IsImage, Work, address, last_operand, value, value_by, stored, stores, sent, sends, missed, misses}
use Rattle.cg_model.specs.Turns.{operand, val, work_of}
use Rattle.cg_simplify_draft.specs.Restates.{DoesAs, Restates}
use Rattle.cg_simplify_draft.specs.Settings.{FitsText}
use Rattle.cg_simplify_draft.proofs.Written.{const_fits}
use Rattle.cg_simplify_facts.specs.Suits.{AreFactsOf, AreOfWords, AreTops, computes, word_of}
use Rattle.cg_simplify_facts.proofs.Known.{computed, word_at}
use Rattle.cg_simplify_facts.proofs.Words.{of_words}
use Rattle.cg_simplify.specs.Operands.{applied}
use Rattle.cg_simplify.specs.Restating.{HasWord, HasWordAt, IsConstantText, IsOwnWord, MayBecome}
use Rattle.cg_simplify.specs.declared.restating.Text.{Text}
use Rattle.cg_simplify.proofs.Drafted.{const_applied, suits, value_is}

-- ---- the words of nodes

-- a node with one value by what is known of its operands
pub word_computed : (nodes : List Node) (tops : List ℕ) (v : ℕ) (n : Node) (f : Facts) (k : ℕ) → computes n.op ≡ true → (AreOfWords n.operands → AreFactsOf nodes tops n.operands f)
    → IsConstant n.op f k → HasWord nodes tops v n k
word_computed nodes tops v n f k e facts is =
    record {
      computing = e;
      value = λ V words suits at i. at i ∙ is (word_of V i n.operands 0) (word_of V i n.operands 1) (word_of V i n.operands 2) (facts words V i suits);
    }

-- a node that never exceeds 0
pub word_least : (nodes : List Node) (tops : List ℕ) (v : ℕ) (n : Node) → computes n.op ≡ true → slice_index_or tops v 4294967295 ≡ 0 → HasWord nodes tops v n 0
word_least nodes tops v n e top =
    record {
      computing = e;
      value = λ V words suits at i. let low : V v i ≤ 0 = subst (λ (t : ℕ). V v i ≤ t) top (suits.below v i) in omega arith;
    }

-- a `const` of itself
module _ (V : ℕ → ℕ → ℕ) (v d k : ℕ) (n : Node) (init : List ℕ) (op : n.op ≡ Const) (there : slice_get n.operands 0 ≡ Some (Edge v d init)) (long : length init ≡ d) (some : 0 < length init)
    (all : (j : ℕ) → j < length init → slice_index init j ≡ k) (at : (i : ℕ) → V v i ≡ applied V i n) where
  turn_of : (i : ℕ) → V v i ≡ operand V i (Edge v d init)
  turn_of i = at i ∙ const_applied V i n op ∙ word_at V i n.operands 0 (Edge v d init) there

  words_below : (m i : ℕ) → i < m → V v i ≡ k
  words_below zero i l = absurd (omega arith)
  words_below (suc m) i l =
      turn_of i
      ∙ ⊎_elim
      (λ (a : i < d). rw (lt-ltb i d a) (all i (omega (arith, long, a))))
      (λ (a : d ≤ i). rw (le-ltb i d a) (words_below m (i - d) (omega (arith, long, some, a, l))))
      (cases_lt i d)

  own_words : (i : ℕ) → V v i ≡ k
  own_words i = words_below (suc i) i (omega arith)

pub word_own : (nodes : List Node) (tops : List ℕ) (v : ℕ) (n : Node) (k : ℕ) → IsOwnWord v n k → HasWord nodes tops v n k
word_own nodes tops v n k h =
    record {
      computing = ap computes h.op;
      value = λ V words suits at i. own_words V v h.distance k n h.init h.op h.operand (words 0 (Edge v h.distance h.init) h.operand).0 h.some h.all at i;
    }

-- ---- the words of nodes of a draft

pub word_here : (tops : List ℕ) (D : Kernel) (v k : ℕ) → IsKernel D → v < size D → HasWord D.nodes tops v (node D v) k → (K : Kernel) → HasWordAt K tops D v k
word_here tops D v k valid l h K =
    record {
      inside = l;
      computing = h.computing;
      gives = λ good are re image i words.
          h.value (val K image) (of_words D valid v l) (suits tops K D good are re image words) (λ j. value_is tops K D good are re image words v j l h.computing) i;
    }

-- ---- a node that computes one word may become its `const`

-- an operation that computes does nothing else
record IsIdle (op : Op) : Type 0 where
  access : is_access op ≡ false
  store : is_store op ≡ false
  output : is_output op ≡ false

idle : (op : Op) → computes op ≡ true → IsIdle op
idle Const e = record { access = refl; store = refl; output = refl }
idle Add e = record { access = refl; store = refl; output = refl }
idle Sub e = record { access = refl; store = refl; output = refl }
idle Mul e = record { access = refl; store = refl; output = refl }
idle And e = record { access = refl; store = refl; output = refl }
idle Or e = record { access = refl; store = refl; output = refl }
idle Xor e = record { access = refl; store = refl; output = refl }
idle Shl e = record { access = refl; store = refl; output = refl }
idle Shr e = record { access = refl; store = refl; output = refl }
idle Sar e = record { access = refl; store = refl; output = refl }
idle Eq e = record { access = refl; store = refl; output = refl }
idle Ne e = record { access = refl; store = refl; output = refl }
idle Lts e = record { access = refl; store = refl; output = refl }
idle Ltu e = record { access = refl; store = refl; output = refl }
idle Mins e = record { access = refl; store = refl; output = refl }
idle Maxs e = record { access = refl; store = refl; output = refl }
idle Select e = record { access = refl; store = refl; output = refl }
idle _ e = absurd (cc)

idle_stored : (w : Work) → is_store w.op ≡ false → (memory : List ℕ) → stored memory w ≡ memory
unfolding stored
idle_stored w e memory = cond-false (stores w) (slice_set memory (address w.op w.args) (last_operand w.op w.args)) memory (and_left _ _ e)

idle_sent : (port : ℕ) (w : Work) → is_output w.op ≡ false → sent port w ≡ []
unfolding sent
idle_sent port w e = cond-false (sends port w) (last_operand w.op w.args ∷ []) [] (and_left _ _ e)

idle_missed : (room : ℕ) (w : Work) → is_access w.op ≡ false → missed room w ≡ 0
unfolding missed
idle_missed room w e = cond-false (misses room w) 1 0 (and_left _ _ e)

-- what computes the same value does as a node that computes
idle_does : (w x : Work) → IsIdle w.op → IsIdle x.op → ((image : Image) (memory : List ℕ) → value image memory w ≡ value image memory x) → DoesAs w x
idle_does w x a b e =
    record {
      gives = e;
      writes = λ memory. idle_stored w a.store memory ∙ sym (idle_stored x b.store memory);
      appends = λ port. idle_sent port w a.output ∙ sym (idle_sent port x b.output);
      misses = λ room. let z = idle_missed room w a.access in omega (arith, z);
      reaches = λ at r. absurd (true≢false (sym r.is ∙ a.access));
    }

const_value : (image : Image) (memory : List ℕ) (op : Op) (port turn c : ℕ) (args : List ℕ) → op ≡ Const → args ≡ c ∷ [] → value_by image memory port turn args op ≡ c
unfolding value_by apply_of
const_value image memory op port turn c args e a = rw (e, a) refl

module _ (K : Kernel) (tops : List ℕ) (D : Kernel) (v k : ℕ) (t : Text) (has : HasWordAt K tops D v k) (small : k < words) (is : IsConstantText k t) where
  abbrev new : ℕ → Image → Work
  new i image = work_of (record (node D v) { op = t.op; port = t.port; operands = t.operands }) i (val K image)

  value_same : (i : ℕ) (given : Image) → IsKernel K → AreTops K tops → Restates K D → IsImage given → (image : Image) (memory : List ℕ)
      → value image memory (new i given) ≡ value image memory (work_of (node D v) i (val K given))
  value_same i given good are re words image memory =
      const_value image memory t.op t.port i k (map (operand (val K given) i) t.operands) is.op (ap (map (operand (val K given) i)) is.operands)
      ∙ sym (has.gives good are re given i words)
      ∙ value_is tops K D good are re given words v i has.inside has.computing
      ∙ sym (computed image memory (node D v).port i (map (operand (val K given) i) (node D v).operands) (node D v).op has.computing)

  pub becomes_word : MayBecome K tops D v t
  becomes_word =
      record {
        inside = has.inside;
        fits = subst (λ (op : Op). FitsText D v op t.port t.operands) (sym is.op) (subst (λ (port : ℕ). FitsText D v Const port t.operands) (sym is.port) (const_fits D v k t.operands small is.operands));
        accesses = λ e. absurd (true≢false (sym e ∙ ap is_access is.op));
        stores = λ e. absurd (true≢false (sym e ∙ ap is_store is.op));
        does = λ image i good are re words.
            idle_does (new i image) (work_of (node D v) i (val K image)) (subst IsIdle (sym is.op) (idle Const refl)) (idle (node D v).op has.computing)
            (value_same i image good are re words);
      }
