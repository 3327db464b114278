-- A kernel that follows another one: two nodes are left out, a guarded load whose guard is always 1 becomes a load, and
-- a guarded store whose guard is always 0 becomes a constant.
use Rattle.std.proofs.Common.{◌≡◌, ℕ, zero, suc, ◌+◌, ◌-◌, ◌*◌, ◌<◌, List, [], ◌∷◌, refl, sym, ap, ◌∙◌, arith, ltb, eqb, inl, inr}
use Rattle.std.specs.Prelude.{◌&&◌, codes, slice_index}
use Rattle.std.proofs.lemmas.Bool.{cond-false, le-ltb, true≢false}
use Rattle.cg_word.specs.declared.op.Op.TheVariants.{Const, Iter, Load, LoadIf, Output, StoreIf}
use Rattle.cg_word.specs.Word.{is_store, is_output, apply_of}
use Rattle.cg_model.specs.declared.kernel.Operand.TheVariants.{Const as Constant, Edge}
use Rattle.cg_model.specs.Kernel.{Kernel, IsKernel, node}
use Rattle.cg_model.specs.Work.{Image, Work, acts, value, value_by, stored, sent, missed}
use Rattle.cg_model.specs.Turns.{before, operand, work, work_of, val, turns_left}
use Rattle.cg_overlap.proofs.Tests.{all_true, every, all_below}
use Rattle.cg_overlap.proofs.KernelTest.{kernel_by}
use Rattle.cg_overlap.proofs.Sequence.{step_node, work_is}
use Rattle.cg_simplify_draft.specs.Follows.{HasEffect, StandsFor, Follows}
use Rattle.cg_simplify_draft.proofs.Stands.{same_stands, alike_stands, Alike}
use Rattle.cg_simplify_draft.proofs.Turns.{runs_alike}

abbrev guarded : Kernel
guarded = record {
  nodes =
      record { name = codes "one"; op = Const; port = 0; operands = Constant 1 ∷ [] }
      ∷ record { name = codes "zero"; op = Const; port = 0; operands = Constant 0 ∷ [] }
      ∷ record { name = codes "i"; op = Iter; port = 0; operands = [] }
      ∷ record { name = codes "l"; op = LoadIf; port = 0; operands = Edge 0 0 [] ∷ Edge 2 0 [] ∷ [] }
      ∷ record { name = codes "s"; op = StoreIf; port = 0; operands = Edge 1 0 [] ∷ Edge 2 0 [] ∷ Edge 3 0 [] ∷ [] }
      ∷ record { name = codes "o"; op = Output; port = 0; operands = Edge 3 0 [] ∷ [] }
      ∷ [];
  order = [];
}

abbrev rewritten : Kernel
rewritten = record {
  nodes =
      record { name = codes "i"; op = Iter; port = 0; operands = [] }
      ∷ record { name = codes "l"; op = Load; port = 0; operands = Edge 0 0 [] ∷ [] }
      ∷ record { name = codes "s"; op = Const; port = 0; operands = Constant 0 ∷ [] }
      ∷ record { name = codes "o"; op = Output; port = 0; operands = Edge 1 0 [] ∷ [] }
      ∷ [];
  order = [];
}

guarded_is : IsKernel guarded
unfolding all_true every all_below
guarded_is = kernel_by guarded refl

rewritten_is : IsKernel rewritten
unfolding all_true every all_below
rewritten_is = kernel_by rewritten refl

-- guarded operations with a known guard
load_alike : (image : Image) (port turn x : ℕ) → Alike image (record { op = Load; port = port; turn = turn; args = x ∷ [] }) (record { op = LoadIf; port = port; turn = turn; args = 1 ∷ x ∷ [] })
unfolding value_by stored sent missed
load_alike image port turn x = record { gives = λ memory. refl; writes = λ memory. refl; appends = λ port. refl; misses = λ room. refl }

idle_alike : (image : Image) (port turn x y : ℕ) → Alike image (record { op = Const; port = port; turn = turn; args = 0 ∷ [] }) (record { op = StoreIf; port = port; turn = turn; args = 0 ∷ x ∷ y ∷ [] })
unfolding value_by stored sent missed apply_of
idle_alike image port turn x y = record { gives = λ memory. refl; writes = λ memory. refl; appends = λ port. refl; misses = λ room. refl }

const_value : (image : Image) (memory : List ℕ) (port turn c : ℕ) → value image memory (record { op = Const; port = port; turn = turn; args = c ∷ [] }) ≡ c
unfolding value_by apply_of
const_value image memory port turn c = refl

module _ (image : Image) where
  abbrev words : ℕ → ℕ → ℕ
  words v i = val guarded image (v + 2) i

  one_is : (i : ℕ) → val guarded image 0 i ≡ 1
  one_is i = ap (value image (before guarded image (i * 6 + 0)).memory) (work_is guarded image guarded_is.wired i 0 (omega arith)) ∙ const_value image (before guarded image (i * 6 + 0)).memory 0 i 1

  zero_is : (i : ℕ) → val guarded image 1 i ≡ 0
  zero_is i = ap (value image (before guarded image (i * 6 + 1)).memory) (work_is guarded image guarded_is.wired i 1 (omega arith)) ∙ const_value image (before guarded image (i * 6 + 1)).memory 0 i 0

  -- an operand of this turn
  here : (u c i : ℕ) → ((j : ℕ) → val guarded image u j ≡ c) → operand (val guarded image) i (Edge u 0 []) ≡ c
  here u c i e = cond-false (ltb i 0) (slice_index [] i) (val guarded image u (i - 0)) (le-ltb i 0 (omega arith)) ∙ e (i - 0)

  does : (v i : ℕ) → v < 4 → StandsFor guarded image (i * 6 + (v + 2)) (work_of (node rewritten v) i words) (words v i)
  does zero i l = same_stands guarded image (i * 6 + 2) (work_of (node rewritten 0) i words) (sym (work_is guarded image guarded_is.wired i 2 (omega arith)))
  does (suc zero) i l =
      alike_stands guarded image (i * 6 + 3) (work_of (node rewritten 1) i words)
      (record { op = LoadIf; port = 0; turn = i; args = 1 ∷ operand (val guarded image) i (Edge 2 0 []) ∷ [] })
      (work_is guarded image guarded_is.wired i 3 (omega arith) ∙ ap (λ z. record { op = LoadIf; port = 0; turn = i; args = z ∷ operand (val guarded image) i (Edge 2 0 []) ∷ [] }) (here 0 1 i one_is))
      (load_alike image 0 i (operand (val guarded image) i (Edge 2 0 [])))
  does (suc (suc zero)) i l =
      alike_stands guarded image (i * 6 + 4) (work_of (node rewritten 2) i words)
      (record { op = StoreIf; port = 0; turn = i; args = 0 ∷ operand (val guarded image) i (Edge 2 0 []) ∷ operand (val guarded image) i (Edge 3 0 []) ∷ [] })
      (work_is guarded image guarded_is.wired i 4 (omega arith) ∙ ap (λ z. record { op = StoreIf; port = 0; turn = i; args = z ∷ operand (val guarded image) i (Edge 2 0 []) ∷ operand (val guarded image) i (Edge 3 0 []) ∷ [] }) (here 1 0 i zero_is))
      (idle_alike image 0 i (operand (val guarded image) i (Edge 2 0 [])) (operand (val guarded image) i (Edge 3 0 [])))
  does (suc (suc (suc zero))) i l = same_stands guarded image (i * 6 + 5) (work_of (node rewritten 3) i words) (sym (work_is guarded image guarded_is.wired i 5 (omega arith)))
  does (suc (suc (suc (suc v)))) i l = absurd (omega arith)

  no_effect : (w : Work) → w.op ≡ Const → HasEffect w → ⊥
  no_effect w e (inl t) = true≢false (sym t ∙ ap (λ op. is_store op && acts op w.args) e)
  no_effect w e (inr t) = true≢false (sym t.1 ∙ ap (λ op. is_output op && (acts op w.args && eqb w.port t.0)) e)

  op_of : (u i : ℕ) → u < 6 → (work guarded image (i * 6 + u)).op ≡ (node guarded u).op
  op_of u i l = ap (λ v. (node guarded v).op) (step_node i 6 u l)

  effects : (u i : ℕ) → u < 6 → HasEffect (work guarded image (i * 6 + u)) → (v : ℕ) × (v < 4) × (v + 2 ≡ u)
  effects zero i l has = absurd (no_effect (work guarded image (i * 6 + 0)) (op_of 0 i l) has)
  effects (suc zero) i l has = absurd (no_effect (work guarded image (i * 6 + 1)) (op_of 1 i l) has)
  effects (suc (suc u)) i l has = (u, omega arith, omega arith)

  follows : (n : ℕ) → Follows guarded rewritten image n (λ v. v + 2) words
  follows n =
      record {
        inside = λ v l. let z : v + 2 < 6 = let b : v < 4 = l in omega arith in z;
        apart = λ v w l b e. omega arith;
        effects = λ u i l b has. effects u i l has;
        ordered = λ v w b l a c st. omega arith;
        does = λ v i l b. does v i l;
      }

  pub leaves_the_same : (n : ℕ) → (turns_left rewritten n image).image ≡ (turns_left guarded n image).image
  leaves_the_same n = (runs_alike guarded rewritten image n (λ v. v + 2) words guarded_is rewritten_is.wired (follows n)).left
