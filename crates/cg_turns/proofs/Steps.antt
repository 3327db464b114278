-- A step of the code is a step of the turns.
use Rattle.std.proofs.Common.{◌≡◌, ℕ, suc, ◌+◌, ◌-◌, ◌*◌, ◌%◌, ◌<◌, ◌≤◌, ◌⊎◌, inl, inr, List, [], ◌∷◌, ◌++◌, length, refl, sym, ap, ◌∙◌, subst, arith, ⊎_elim, set}
use Rattle.std.specs.Prelude.{slice_index, slice_index_or, replicate}
use Rattle.std.proofs.lemmas.Bool.{cases_lt, le-ltb, lt-ltb}
use Rattle.std.proofs.lemmas.List.{length_push, get_or-replicate}
use Rattle.std.proofs.lemmas.List.FromFn.{fill_by_all}
use Rattle.std.proofs.lemmas.Nat.{div-mul-add, mod-mul-add}
use Rattle.cg_model.specs.declared.kernel.Operand.{Operand}
use Rattle.cg_model.specs.declared.kernel.Operand.TheVariants.{Const as Constant, Edge}
use Rattle.cg_model.specs.Kernel.{Kernel, IsKernel, HasOperand, size, node}
use Rattle.cg_model.specs.Work.{Image, Work, value, stored, sent, missed}
use Rattle.cg_model.specs.Turns.{operand, before, after, work, turns, turns_left}
use Rattle.cg_model.proofs.Elements.{map_same}
use Rattle.cg_turns.specs.Window.{IsWindow, operand_in, row_before}
use Rattle.cg_turns.specs.Done.{left_by}
use Rattle.cg_turns.specs.Step.{Steps, DoesWork, work_in}
use Rattle.cg_turns.specs.Frame.{IsProgress, IsAt}
use Rattle.cg_turns.specs.declared.frame.Frame.{Frame}
use Rattle.cg_turns.proofs.Rows.{row_before_is, window_step, window_turn}

module _ (K : Kernel) (image : Image) (good : IsKernel K) (i v : ℕ) (f : Frame) (l : v < size K) (at : IsAt K image i v f) where
  operand_right : (p : ℕ) (o : Operand) → HasOperand K v p o →
      operand_in f.window.items (i % 5) (size K) i o ≡ operand (λ u j. slice_index (before K image (i * size K + v)).values (j * size K + u)) i o
  operand_right p (Constant w) h = refl
  operand_right p (Edge u d init) h =
      ⊎_elim (λ a. rw (lt-ltb i d a) refl)
      (λ a.
      let e : i ≡ i - d + d = omega arith in
      let short : d ≤ 4 = good.near v p u d init l h in
      let r : row_before (i % 5) d ≡ (i - d) % 5 = subst (λ z. row_before (z % 5) d ≡ (i - d) % 5) (sym e) (row_before_is (i - d) d short) in
      let first : (i - d < i) ⊎ (u < v) = ⊎_elim (λ z. inl (omega arith)) (λ z. let none : d ≡ 0 = omega arith in inr (good.wired.forward v p u init l (subst (λ y. HasOperand K v p (Edge u y init)) none h))) (cases_lt 0 d) in
      let within : u < size K = good.wired.sources v p u d init l h in
      let k : i - d ≤ i = omega arith in
      let b : i ≤ i - d + 4 = omega arith in
      let there : slice_index f.window.items ((i - d) % 5 * size K + u) ≡ slice_index (before K image (i * size K + v)).values ((i - d) * size K + u) = at.window.holds u (i - d) within k b first in
      rw (le-ltb i d a, r) there)
      (cases_lt i d)

  pub work_right : work_in K v i (i % 5) f ≡ work K image (i * size K + v)
  work_right =
      rw (mod-mul-add i (size K) v l, div-mul-add i (size K) v l)
      (ap (λ args. record { op = (node K v).op; port = (node K v).port; turn = i; args = args })
      (map_same _ _ (node K v).operands operand_right))

  progressed : (g : Frame) (w : Work) → w ≡ work K image (i * size K + v) → DoesWork image (i % 5 * size K + v) w f g →
      IsProgress (size K) i (suc v) (after image w (before K image (i * size K + v))) g
  progressed g w e s =
      let p = before K image (i * size K + v) in
      let x : value image f.memory w ≡ value image p.memory w = ap (λ m. value image m w) at.memory in
      record {
        memory = s.memory ∙ ap (λ m. stored m w) at.memory;
        ports = s.ports ∙ at.ports;
        streams = λ port h. s.streams port ∙ ap (λ z. z ++ sent port w) (at.streams port h);
        outside = s.outside ∙ ap (λ z. z + missed (length f.memory) w) at.outside ∙ ap (λ m. p.outside + missed (length m) w) at.memory;
        window = subst (λ z. IsWindow (size K) i (suc v) z (p.values ++ value image p.memory w ∷ [])) (sym (s.window ∙ ap (λ z. set f.window.items (i % 5 * size K + v) z) x)) (window_step (size K) i v f.window.items p.values (value image p.memory w) l at.steps at.window);
        steps = length_push p.values _ ∙ ap (λ z. z + 1) at.steps ∙ omega arith;
      }

  stepped_suc : (g : Frame) → Steps K image v i (i % 5) f g → IsProgress (size K) i (suc v) (before K image (suc (i * size K + v))) g
  unfolding before
  stepped_suc g s = subst (λ w. IsProgress (size K) i (suc v) (after image w (before K image (i * size K + v))) g) work_right (progressed g (work_in K v i (i % 5) f) work_right s)

  pub stepped : (g : Frame) → Steps K image v i (i % 5) f g → IsAt K image i (v + 1) g
  stepped g s =
      let e : suc v ≡ v + 1 = omega arith in
      let k : suc (i * size K + v) ≡ i * size K + (v + 1) = omega arith in
      subst (λ z. IsProgress (size K) i z (before K image (i * size K + (v + 1))) g) e (subst (λ z. IsProgress (size K) i (suc v) (before K image z) g) k (stepped_suc g s))

pub turned : (K : Kernel) (image : Image) (i : ℕ) (f : Frame) → IsAt K image i (size K) f → IsAt K image (i + 1) 0 f
turned K image i f at =
    let k : i * size K + size K ≡ (i + 1) * size K + 0 = omega arith in
    let at' : IsProgress (size K) i (size K) (before K image ((i + 1) * size K + 0)) f = subst (λ z. IsProgress (size K) i (size K) (before K image z) f) k at in
    record {
      memory = at'.memory;
      ports = at'.ports;
      streams = at'.streams;
      outside = at'.outside;
      window = window_turn (size K) i f.window.items _ at'.window;
      steps = at'.steps ∙ k;
    }

-- the frame of the start
pub started : (K : Kernel) (image : Image) (f : Frame) → f.memory ≡ image.memory → f.streams.items ≡ replicate 16 [] → f.outside ≡ 0 → length f.window.items ≡ 5 * size K → IsAt K image 0 0 f
unfolding before
started K image f m s o w =
    let z : 0 * size K + 0 ≡ 0 = omega arith in
    subst (λ k. IsProgress (size K) 0 0 (before K image k) f) (sym z)
    (record {
      memory = m;
      ports = ap length s;
      streams = λ port h. ap (λ (xs : List (List ℕ)). slice_index_or xs port []) s ∙ get_or-replicate 16 port [] [] h;
      outside = o;
      window = record { length_is = w; holds = λ u j k a b h. absurd (⊎_elim {C = ⊥} (λ q. omega arith) (λ q. omega arith) h) };
      steps = sym z;
    })

-- after n turns the frame has what n turns leave
pub finished : (K : Kernel) (n : ℕ) (image : Image) (f : Frame) → IsAt K image n 0 f → left_by f.memory f.streams.items f.outside ≡ turns_left K n image
finished K n image f at =
    let k : n * size K + 0 ≡ n * size K = omega arith in
    let is : IsProgress (size K) n 0 (turns K n image) f = subst (λ z. IsProgress (size K) n 0 (before K image z) f) k at in
    rw (is.memory, is.outside, fill_by_all (turns K n image).streams f.streams.items 16 [] is.ports is.streams) refl
