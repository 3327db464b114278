-- What the nodes of a turn do to memory and streams.
use Rattle.std.proofs.Common.{◌≡◌, ℕ, zero, suc, ◌+◌, ◌-◌, ◌*◌, ◌<◌, ◌≤◌, List, [], ◌++◌, map, false, eqb, refl, sym, ap, ◌∙◌, subst, arith, append-nil}
use Rattle.std.specs.Prelude.{◌&&◌}
use Rattle.std.proofs.lemmas.Bool.{cond-false, and_left}
use Rattle.cg_word.specs.declared.op.Op.{Op}
use Rattle.cg_word.specs.declared.op.Op.TheVariants.{Store, StoreIf}
use Rattle.cg_word.specs.Word.{is_access, is_store, is_output}
use Rattle.cg_model.specs.Work.{Image, Work, stored, sent, acts}
use Rattle.cg_model.specs.declared.kernel.Operand.{Operand}
use Rattle.cg_model.specs.Kernel.{IsWired, node, size}
use Rattle.cg_model.specs.Turns.{Progress, operand, before, after, work, val}
use Rattle.cg_overlap.proofs.Sequence.{work_is}
use Rattle.cg_c_turn.specs.Leads.{Outcome}
use Rattle.cg_c_nodes.specs.Placed.{Is, IsQuiet, Placing}

-- the outcome is that of a progress
pub record Same (m : Outcome) (p : Progress) : Type 0 where
  pub memory : m.memory ≡ p.memory
  pub outputs : (port : ℕ) → m.outputs port ≡ p.streams port

-- operations that don't write
no_store : (op : Op) → is_access op ≡ false → is_store op ≡ false
no_store Store h = absurd (cc)
no_store StoreIf h = absurd (cc)
no_store _ h = refl

stored_none : (memory : List ℕ) (w : Work) → is_store w.op ≡ false → stored memory w ≡ memory
unfolding stored
stored_none memory w h = cond-false (is_store w.op && acts w.op w.args) _ memory (and_left _ _ h)

pub sent_none : (port : ℕ) (w : Work) → is_output w.op ≡ false → sent port w ≡ []
unfolding sent
sent_none port w h = cond-false (is_output w.op && (acts w.op w.args && eqb w.port port)) _ [] (and_left _ _ h)

-- the outcome after a step
pub same_after : (image : Image) (w : Work) (m n : Outcome) (p : Progress) → Same m p → n.memory ≡ stored m.memory w → ((port : ℕ) → n.outputs port ≡ m.outputs port ++ sent port w) → Same n (after image w p)
same_after image w m n p s h k =
    record {
      memory = h ∙ ap (λ z. stored z w) s.memory;
      outputs = λ port. k port ∙ ap (λ z. z ++ sent port w) (s.outputs port);
    }

pub same_still : (image : Image) (w : Work) (m : Outcome) (p : Progress) → is_store w.op ≡ false → is_output w.op ≡ false → Same m p → Same m (after image w p)
same_still image w m p h k s =
    same_after image w m m p s (sym (stored_none m.memory w h)) (λ port. sym (append-nil (m.outputs port)) ∙ ap (λ z. m.outputs port ++ z) (sym (sent_none port w k)))

module _ (P : Placing) (image : Image) (good : IsWired P.kernel) (t : ℕ) where
  -- before node `at` of the turn
  abbrev pub at_node : ℕ → Progress
  at_node at = before P.kernel image (t * size P.kernel + at)

  abbrev pub work_here : ℕ → Work
  work_here at = work P.kernel image (t * size P.kernel + at)

  abbrev pub operand_here : Operand → ℕ
  operand_here o = operand (val P.kernel image) t o

  -- what a node does
  pub node_work : (m : ℕ) (op : Op) (port : ℕ) (os : List Operand) → Is P m op port os → work_here m ≡ record { op = op; port = port; turn = t; args = map operand_here os }
  node_work m op port os is =
      work_is P.kernel image good t m is.within
      ∙ ap (λ z. record { op = z; port = (node P.kernel m).port; turn = t; args = map operand_here (node P.kernel m).operands }) is.op_is
      ∙ ap (λ z. record { op = op; port = z; turn = t; args = map operand_here (node P.kernel m).operands }) is.port_is
      ∙ ap (λ (z : List Operand). record { op = op; port = port; turn = t; args = map operand_here z }) is.operands_are

  pub next_node : (m : ℕ) → at_node (suc m) ≡ after image (work_here m) (at_node m)
  unfolding before
  next_node m = ap (before P.kernel image) (let e : t * size P.kernel + suc m ≡ suc (t * size P.kernel + m) = omega arith in e)

  quiet_step : (m : ℕ) (o : Outcome) → m < size P.kernel → IsQuiet P m → Same o (at_node m) → Same o (at_node (suc m))
  quiet_step m o l q s =
      let is = work_is P.kernel image good t m l in
      let op = ap (λ (w : Work). w.op) is in
      subst (Same o) (sym (next_node m))
      (same_still image (work_here m) o (at_node m)
      (ap is_store op ∙ no_store (node P.kernel m).op q.no_access)
      (ap is_output op ∙ q.no_output) s)

  -- nodes that neither access memory nor send
  quiet_nodes : (n from : ℕ) (o : Outcome) → from + n ≤ size P.kernel → ((m : ℕ) → from ≤ m → m < from + n → IsQuiet P m) → Same o (at_node from) → Same o (at_node (from + n))
  quiet_nodes zero from o l q s = subst (λ z. Same o (at_node z)) (let e : from ≡ from + zero = omega arith in e) s
  quiet_nodes (suc n) from o l q s =
      subst (λ z. Same o (at_node z)) (let e : suc (from + n) ≡ from + suc n = omega arith in e)
      (quiet_step (from + n) o (omega arith) (q (from + n) (omega arith) (omega arith))
      (quiet_nodes n from o (omega arith) (λ m a b. q m a (omega arith)) s))

  pub quiet_between : (from to : ℕ) (o : Outcome) → from ≤ to → to ≤ size P.kernel → ((m : ℕ) → from ≤ m → m < to → IsQuiet P m) → Same o (at_node from) → Same o (at_node to)
  quiet_between from to o h l q s =
      let e : from + (to - from) ≡ to = omega arith in
      subst (λ z. Same o (at_node z)) e (quiet_nodes (to - from) from o (omega (arith, e)) (λ m a b. q m a (omega (arith, e))) s)

  -- a node among quiet ones
  pub one_between : (from m to : ℕ) (o n : Outcome) → from ≤ m → m < to → to ≤ size P.kernel → ((k : ℕ) → from ≤ k → k < to → (m ≡ k → ⊥) → IsQuiet P k) →
      (Same o (at_node m) → Same n (at_node (suc m))) → Same o (at_node from) → Same n (at_node to)
  one_between from m to o n a b l q step s =
      quiet_between (suc m) to n (omega arith) l (λ k c e. q k (omega arith) e (λ h. absurd (omega (arith, h))))
      (step (quiet_between from m o a (omega arith) (λ k c e. q k c (omega arith) (λ h. absurd (omega (arith, h)))) s))
