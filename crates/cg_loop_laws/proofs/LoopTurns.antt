-- The kernel's turns are the loop's.
use Rattle.std.proofs.Common.{List, ◌≡◌, ℕ, zero, suc, ◌+◌, ◌-◌, ◌*◌, [], ◌∷◌, Option, Some, None, ltb, drop, refl, sym, ap, ◌∙◌, subst, arith}
use Rattle.std.specs.Prelude.{slice_index}
use Rattle.std.specs.List.{range_with_len}
use Rattle.std.proofs.lemmas.Bool.{cond-false, cond-true, le-ltb, lt-ltb}
use Rattle.std.proofs.lemmas.List.{get_or-take, get_or-drop, length-take, length-drop}
use Rattle.cg_model.specs.Work.{Image}
use Rattle.cg_model.specs.Kernel.{Kernel, size}
use Rattle.cg_model.specs.Turns.{Progress, operand, before, val, turns}
use Rattle.cg_model.specs.Limits.{port_count}
use Rattle.cg_model.proofs.Elements.{map_same}
use Rattle.cg_loop_syntax.specs.Loop.{Body, extent, carry}
use Rattle.cg_loop_laws.specs.Meaning.{State, start, next_turn, loop_left, exec_all, word_or_zero, if_some}
use Rattle.cg_loop_laws.specs.Translate.{Env, ends, carried, first_env, body_cost, body_env, body_code, loop_kernel_of}
use Rattle.cg_loop_laws.specs.Laws.{HasRoom, LeavesLoop}
use Rattle.cg_loop_laws.proofs.Sound.{IsBody}
use Rattle.cg_loop_laws.proofs.Stands.{stands_from}
use Rattle.cg_loop_laws.proofs.Wired.{wired, ends_set, size-loop_kernel}
use Rattle.cg_loop_laws.proofs.Effects.{word_here}
use Rattle.cg_loop_laws.proofs.Expressions.{Agrees}
use Rattle.cg_loop_laws.proofs.Statements.{body_gives}

module _ (P : Body) (image : Image) (good : IsBody P) (fits : HasRoom P image) where
  abbrev K : Kernel
  K = loop_kernel_of P

  abbrev Agree : ℕ → Env → State → Progress → Type 0
  Agree i = Agrees (loop_kernel_of P) image (wired P good) (extent P.decls) good.low fits i

  -- what a carry's operand is at the start of a run, and of a later turn
  first_word : (u : ℕ) (o : Option ℕ) → word_or_zero o ≡ operand (val K image) 0 (carried u o)
  first_word u None = refl
  first_word u (Some w) = sym (cond-true (ltb 0 1) w (val K image u (0 - 1)) (lt-ltb 0 1 (omega arith)))

  later_word : (i w : ℕ) (x : List ℕ) (V : Env) (o : Option ℕ) → carry P.decls x ≡ o → w ≡ operand (val K image) i (body_env V 0 P.stmts x) → if_some o w ≡ operand (val K image) (suc i) (carried (ends P.stmts x) o)
  later_word i w x V None c e = refl
  later_word i w x V (Some v) c e =
      let a = good.assigned x v c in
      e ∙ ap (operand (val K image) i) ((ends_set P.stmts x a.0 a.1 a.2).1 V) ∙ word_here K image (wired P good) i (ends P.stmts x)
      ∙ sym (cond-false (ltb (suc i) 1) (slice_index (v ∷ []) (suc i)) (val K image (ends P.stmts x) (suc i - 1)) (le-ltb (suc i) 1 (omega arith)) ∙ ap (val K image (ends P.stmts x)) (let z : suc i - 1 ≡ i = omega arith in z))

  begins : Agree 0 (first_env P) (start P image) (before K image 0)
  unfolding before
  begins =
      record {
        scalars = λ x. first_word (ends P.stmts x) (carry P.decls x);
        lengths = λ a. length-take (extent P.decls a).len (drop (extent P.decls a).at image.memory) ∙ (let h = fits a in let e = length-drop (extent P.decls a).at image.memory in omega arith);
        size = refl;
        arrays = λ a e l. sym (get_or-take (extent P.decls a).len (drop (extent P.decls a).at image.memory) e 0 l ∙ get_or-drop (extent P.decls a).at image.memory e 0);
        elsewhere = λ x h. refl;
        outputs = λ port. refl;
        outside = refl;
      }

  next : (i : ℕ) (V : Env) (s : State) (p : Progress) → Agree i (body_env V 0 P.stmts) s p → Agree (suc i) (first_env P) (next_turn P s) p
  next i V s p g =
      record {
        scalars = λ x. later_word i (s.scalars x) x V (carry P.decls x) refl (g.scalars x);
        lengths = g.lengths;
        size = g.size;
        arrays = g.arrays;
        elsewhere = g.elsewhere;
        outputs = g.outputs;
        outside = g.outside;
      }

  pub agrees : (n : ℕ) → Agree n (first_env P) (loop_left P n image) (turns K n image)
  unfolding loop_left
  agrees zero = subst (λ k. Agree 0 (first_env P) (start P image) (before K image k)) (let z : 0 ≡ 0 * size K = omega arith in z) begins
  agrees (suc n) =
      next n (first_env P) (exec_all image n (loop_left P n image) P.stmts) (turns K (suc n) image)
      (subst (λ k. Agree n (body_env (first_env P) 0 P.stmts) (exec_all image n (loop_left P n image) P.stmts) (before K image k)) (let z : n * size K + (0 + body_cost P.stmts) ≡ suc n * size K = omega (arith, size-loop_kernel P) in z)
      (body_gives K image (wired P good) (extent P.decls) good.low fits good.apart n (first_env P) (loop_left P n image) 0 P.stmts good.stmts (stands_from K [] (body_code (extent P.decls) (first_env P) 0 P.stmts) refl)
      (subst (λ k. Agree n (first_env P) (loop_left P n image) (before K image k)) (let z : n * size K ≡ n * size K + 0 = omega arith in z) (agrees n))))

pub leaves_the_same : (P : Body) (n : ℕ) (image : Image) → IsBody P → HasRoom P image → LeavesLoop P n image
leaves_the_same P n image good fits =
    let g = agrees P image good fits n in
    record { size = g.size; lengths = g.lengths; arrays = g.arrays; elsewhere = g.elsewhere; outputs = map_same (turns (loop_kernel_of P) n image).streams (loop_left P n image).outs (range_with_len 0 port_count) (λ k port e. g.outputs port); outside = g.outside }
