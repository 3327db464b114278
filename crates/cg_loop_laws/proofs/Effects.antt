-- What one step of a turn does.
use Rattle.std.proofs.Common.{◌≡◌, ℕ, suc, ◌+◌, ◌-◌, ◌*◌, ◌<◌, List, [], ◌∷◌, ◌++◌, length, true, false, eqb, ltb, leb, refl, sym, ap, ◌∙◌, subst, arith, append-nil}
use Rattle.std.specs.Prelude.{◌&&◌, slice_index, map}
use Rattle.std.proofs.lemmas.Bool.{cond-false, le-ltb, lt-leb, and_left, and_right}
use Rattle.cg_word.specs.declared.op.Op.{Op}
use Rattle.cg_word.specs.declared.op.Op.TheVariants.{Load, Store, LoadIf, StoreIf, Output, OutputIf, Iter, Input}
use Rattle.cg_word.specs.Word.{apply_of, is_access, is_store, is_output}
use Rattle.cg_model.specs.Work.{Image, Work, value, value_by, stored, sent, missed, acts, address, last_operand}
use Rattle.cg_model.specs.declared.kernel.Operand.{Operand}
use Rattle.cg_model.specs.declared.kernel.Node.{Node}
use Rattle.cg_model.specs.Kernel.{Kernel, IsWired, node, size}
use Rattle.cg_model.specs.Turns.{Progress, operand, work_of, before, after, val}
use Rattle.cg_overlap.proofs.Sequence.{work_is}
use Rattle.cg_loop_laws.specs.Translate.{here}
use Rattle.cg_loop_laws.proofs.Sound.{is_word}

-- nothing but a value
pub record IsQuiet (p q : Progress) : Type 0 where
  pub memory : q.memory ≡ p.memory
  pub streams : (port : ℕ) → q.streams port ≡ p.streams port
  pub outside : q.outside ≡ p.outside

pub quiet_refl : (p : Progress) → IsQuiet p p
quiet_refl p = record { memory = refl; streams = λ port. refl; outside = refl }

pub quiet_trans : (p q r : Progress) → IsQuiet p q → IsQuiet q r → IsQuiet p r
quiet_trans p q r h k = record { memory = k.memory ∙ h.memory; streams = λ port. k.streams port ∙ h.streams port; outside = k.outside ∙ h.outside }

-- operations that only give a value
no_store : (op : Op) → is_access op ≡ false → is_store op ≡ false
no_store Store h = absurd (cc)
no_store StoreIf h = absurd (cc)
no_store _ h = refl

pub word_quiet : (op : Op) → is_word op ≡ true → (is_access op ≡ false) × (is_output op ≡ false)
word_quiet Load h = absurd (cc)
word_quiet Store h = absurd (cc)
word_quiet LoadIf h = absurd (cc)
word_quiet StoreIf h = absurd (cc)
word_quiet Output h = absurd (cc)
word_quiet OutputIf h = absurd (cc)
word_quiet _ h = (refl, refl)

pub word_value : (image : Image) (memory : List ℕ) (port turn : ℕ) (args : List ℕ) (op : Op) → is_word op ≡ true →
    value_by image memory port turn args op ≡ apply_of op (slice_index args 0) (slice_index args 1) (slice_index args 2)
unfolding value_by
word_value image memory port turn args Iter h = absurd (cc)
word_value image memory port turn args Input h = absurd (cc)
word_value image memory port turn args Load h = absurd (cc)
word_value image memory port turn args LoadIf h = absurd (cc)
word_value image memory port turn args _ h = refl

-- a step that writes nothing, sends nothing and stays inside
pub quiet_after : (image : Image) (w : Work) (p : Progress) → is_store w.op ≡ false → is_output w.op ≡ false → missed (length p.memory) w ≡ 0 → IsQuiet p (after image w p)
unfolding stored sent
quiet_after image w p h k m =
    record {
      memory = cond-false (is_store w.op && acts w.op w.args) _ p.memory (and_left _ _ h);
      streams = λ port. ap (λ xs. p.streams port ++ xs) (cond-false (is_output w.op && (acts w.op w.args && eqb w.port port)) (last_operand w.op w.args ∷ []) [] (and_left _ _ k)) ∙ append-nil (p.streams port);
      outside = omega arith;
    }

pub missed_none : (n : ℕ) (w : Work) → is_access w.op ≡ false → missed n w ≡ 0
unfolding missed
missed_none n w h = cond-false (is_access w.op && (acts w.op w.args && leb n (address w.op w.args))) 1 0 (and_left _ _ h)

-- a guarded access
pub missed_inside : (n : ℕ) (w : Work) → address w.op w.args < n → missed n w ≡ 0
unfolding missed
missed_inside n w h = cond-false (is_access w.op && (acts w.op w.args && leb n (address w.op w.args))) 1 0 (and_right _ _ (and_right _ _ (lt-leb n (address w.op w.args) h)))

pub missed_idle : (n : ℕ) (w : Work) → acts w.op w.args ≡ false → missed n w ≡ 0
unfolding missed
missed_idle n w h = cond-false (is_access w.op && (acts w.op w.args && leb n (address w.op w.args))) 1 0 (and_right _ _ (and_left _ _ h))

-- a guarded step that doesn't act
pub idle_after : (image : Image) (w : Work) (p : Progress) → acts w.op w.args ≡ false → IsQuiet p (after image w p)
unfolding stored sent
idle_after image w p h =
    record {
      memory = cond-false (is_store w.op && acts w.op w.args) _ p.memory (and_right _ _ h);
      streams = λ port. ap (λ xs. p.streams port ++ xs) (cond-false (is_output w.op && (acts w.op w.args && eqb w.port port)) (last_operand w.op w.args ∷ []) [] (and_right _ _ (and_left _ _ h))) ∙ append-nil (p.streams port);
      outside = let m = missed_idle (length p.memory) w h in omega arith;
    }

module _ (K : Kernel) (image : Image) (good : IsWired K) (i : ℕ) where
  -- before node `at` of this turn
  abbrev pub now : ℕ → Progress
  now at = before K image (i * size K + at)

  -- the word of an operand, and the work of a node
  abbrev pub word : Operand → ℕ
  word o = operand (val K image) i o

  abbrev pub at_work : Node → Work
  at_work n = work_of n i (val K image)

  pub word_here : (u : ℕ) → word (here u) ≡ val K image u i
  word_here u = cond-false (ltb i 0) (slice_index [] i) (val K image u (i - 0)) (le-ltb i 0 (omega arith)) ∙ ap (val K image u) (let e : i - 0 ≡ i = omega arith in e)

  pub step : (at : ℕ) (n : Node) → at < size K → node K at ≡ n → now (at + 1) ≡ after image (at_work n) (now at)
  unfolding before
  step at n l e =
      ap (before K image) (let f : i * size K + (at + 1) ≡ suc (i * size K + at) = omega arith in f)
      ∙ ap (λ w. after image w (now at)) (work_is K image good i at l ∙ ap at_work e)

  pub gives : (at : ℕ) (n : Node) → at < size K → node K at ≡ n → val K image at i ≡ value image (now at).memory (at_work n)
  gives at n l e = ap (value image (now at).memory) (work_is K image good i at l ∙ ap at_work e)

  pub quiet_step : (at : ℕ) (n : Node) → at < size K → node K at ≡ n → is_store n.op ≡ false → is_output n.op ≡ false → missed (length (now at).memory) (at_work n) ≡ 0 → IsQuiet (now at) (now (at + 1))
  quiet_step at n l e h k m = subst (IsQuiet (now at)) (sym (step at n l e)) (quiet_after image (at_work n) (now at) h k m)

  -- a node that only gives a value
  pub plain_step : (at : ℕ) (n : Node) → at < size K → node K at ≡ n → is_access n.op ≡ false → is_output n.op ≡ false → IsQuiet (now at) (now (at + 1))
  plain_step at n l e h k = quiet_step at n l e (no_store n.op h) k (missed_none (length (now at).memory) (at_work n) h)

  -- an operation on words
  pub word_gives : (at : ℕ) (n : Node) → at < size K → node K at ≡ n → is_word n.op ≡ true →
      val K image at i ≡ apply_of n.op (slice_index (map word n.operands) 0) (slice_index (map word n.operands) 1) (slice_index (map word n.operands) 2)
  word_gives at n l e h = gives at n l e ∙ word_value image (now at).memory n.port i (map word n.operands) n.op h

  pub word_step : (at : ℕ) (n : Node) → at < size K → node K at ≡ n → is_word n.op ≡ true → IsQuiet (now at) (now (at + 1))
  word_step at n l e h = let q = word_quiet n.op h in plain_step at n l e q.0 q.1

  pub quiet_to : (p : Progress) (x y : ℕ) → x ≡ y → IsQuiet p (now x) → IsQuiet p (now y)
  quiet_to p x y e h = subst (λ z. IsQuiet p (now z)) e h
