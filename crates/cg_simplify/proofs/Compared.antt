-- Nodes that compare an operand with 0.
use Rattle.std.proofs.Common.{◌≡◌, ℕ, zero, suc, ◌<◌, ◌⊎◌, true, eqb, List, Some, nat_lt, refl, sym, ap, ◌∙◌, subst, arith, ⊎_elim}
use Rattle.std.specs.Prelude.{IfSome}
use Rattle.std.proofs.lemmas.Bool.{cases_eq, eq-eqb, lt-ltb, ne_eqb}
use Rattle.cg_word.specs.declared.op.Op.{Op}
use Rattle.cg_word.specs.declared.op.Op.TheVariants.{Eq, Ne}
use Rattle.cg_word.specs.Word.{apply_of}
use Rattle.cg_simplify_facts.specs.declared.facts.Fact.{Fact}
use Rattle.cg_simplify_facts.specs.declared.facts.Facts.{Facts}
use Rattle.cg_simplify_facts.specs.Facts.{Fits}
use Rattle.cg_model.specs.declared.kernel.Node.{Node}
use Rattle.cg_model.specs.declared.kernel.Operand.{Operand}
use Rattle.cg_model.specs.Kernel.{Kernel, IsKernel, node, size}
use Rattle.cg_model.specs.Turns.{operand, val}
use Rattle.cg_simplify_facts.specs.Suits.{AreFactsOf, AreOfWords, computes, word_of}
use Rattle.cg_simplify_facts.proofs.Known.{word_at}
use Rattle.cg_simplify_facts.proofs.Words.{of_words}
use Rattle.cg_simplify.specs.Operands.{ComparesWithZero, IsEdgeAt, TestsAs}
use Rattle.cg_simplify.proofs.Drafted.{suits, value_is}

known_zero : (f : Fact) (x : ℕ) → f.word ≡ Some 0 → Fits f x → x ≡ 0
known_zero f x e fits = subst (λ o. IfSome o (λ (w : ℕ). x ≡ w)) e fits.word

exchanged : (a b : ℕ) → eqb a b ≡ eqb b a
exchanged a b =
    ⊎_elim
    (λ e. eq-eqb a b e ∙ sym (eq-eqb b a (sym e)))
    (λ ne. ne_eqb a b ne ∙ sym (ne_eqb b a (λ e. ne (sym e))))
    (cases_eq a b)

-- `eq` and `ne` take two operands, in either order
second_zero : (op : Op) (a b c : ℕ) → (op ≡ Eq) ⊎ (op ≡ Ne) → b ≡ 0 → apply_of op a b c ≡ apply_of op a 0 0
unfolding apply_of
second_zero op a b c is e = ⊎_elim (λ (h : op ≡ Eq). rw (h, e) refl) (λ (h : op ≡ Ne). rw (h, e) refl) is

first_zero : (op : Op) (a b c : ℕ) → (op ≡ Eq) ⊎ (op ≡ Ne) → a ≡ 0 → apply_of op a b c ≡ apply_of op b 0 0
unfolding apply_of
first_zero op a b c is e = ⊎_elim (λ (h : op ≡ Eq). rw (h, e, exchanged 0 b) refl) (λ (h : op ≡ Ne). rw (h, e, exchanged 0 b) refl) is

computing : (op : Op) → (op ≡ Eq) ⊎ (op ≡ Ne) → computes op ≡ true
computing op is = ⊎_elim (λ (h : op ≡ Eq). ap computes h) (λ (h : op ≡ Ne). ap computes h) is

module _ (nodes : List Node) (tops : List ℕ) (n : Node) (f : Facts) (x : Operand) (op : (n.op ≡ Eq) ⊎ (n.op ≡ Ne)) (facts : AreOfWords n.operands → AreFactsOf nodes tops n.operands f) where
  pub compares_first : f.second.word ≡ Some 0 → IsEdgeAt n 0 x → ComparesWithZero nodes tops n x
  compares_first e at =
      record {
        computing = computing n.op op;
        place = 0;
        there = at.there;
        is_edge = at.is_edge;
        value = λ V i words suits.
            second_zero n.op (word_of V i n.operands 0) (word_of V i n.operands 1) (word_of V i n.operands 2) op (known_zero f.second (word_of V i n.operands 1) e (facts words V i suits).second)
            ∙ ap (λ (a : ℕ). apply_of n.op a 0 0) (word_at V i n.operands 0 x at.there);
      }

  pub compares_second : f.first.word ≡ Some 0 → IsEdgeAt n 1 x → ComparesWithZero nodes tops n x
  compares_second e at =
      record {
        computing = computing n.op op;
        place = 1;
        there = at.there;
        is_edge = at.is_edge;
        value = λ V i words suits.
            first_zero n.op (word_of V i n.operands 0) (word_of V i n.operands 1) (word_of V i n.operands 2) op (known_zero f.first (word_of V i n.operands 0) e (facts words V i suits).first)
            ∙ ap (λ (a : ℕ). apply_of n.op a 0 0) (word_at V i n.operands 1 x at.there);
      }

-- a `ne` with 0 is 0 where what it compares is
ne_zero : (op : Op) (a : ℕ) → op ≡ Ne → nat_lt 0 (apply_of op a 0 0) ≡ nat_lt 0 a
unfolding apply_of
ne_zero op zero e = rw e refl
ne_zero op (suc a) e = rw (e, ne_eqb (suc a) 0 (λ z. absurd (omega (arith, z)))) (sym (lt-ltb 0 (suc a) (omega arith)))

pub tests_as : (tops : List ℕ) (D : Kernel) (w : ℕ) (x : Operand) → IsKernel D → w < size D → (node D w).op ≡ Ne → ComparesWithZero D.nodes tops (node D w) x → TestsAs tops D w x
tests_as tops D w x valid l op h =
    record {
      place = h.place;
      there = h.there;
      is_edge = h.is_edge;
      tests = λ K good are re image i words.
          ap (nat_lt 0) (value_is tops K D good are re image words w i l h.computing ∙ h.value (val K image) i (of_words D valid w l) (suits tops K D good are re image words))
          ∙ ne_zero (node D w).op (operand (val K image) i x) op;
    }
